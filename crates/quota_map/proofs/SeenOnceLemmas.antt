-- A file is seen as one value at most.
use Rattle.std.proofs.Common.{◌≡◌, ℕ, Bool, true, false, List, Option, None, Some, Ok, sym, ◌∙◌}
use Rattle.std.specs.Prelude.{MatchBool}
use Rattle.std.specs.Cmp.{nat_cmp_total}
use Rattle.std.specs.FinMap.{nat_cmp-IsAntisymmetric, same_map}
use Rattle.quota_types.specs.declared.file_kind.Kind.{Kind}
use Rattle.quota_types.specs.Format.{is_flat}
use Rattle.quota_types.specs.declared.file_kind.Format.{Format}
use Rattle.quota_value.specs.QuotaValue.{QuotaValue}
use Rattle.quota_v1.specs.FlatFile.{FlatStandsFor}
use Rattle.quota_v1.specs.View.{IsFlatView}
use Rattle.quota_map.specs.Asked.{AnyTree, Asked, InFormat}
use Rattle.quota_map.specs.View.{IsView, most_blocks}
use Rattle.byte_order.specs.declared.order.Order.{Order}
use Rattle.byte_order.specs.declared.order.Order.TheVariants.{Little}
use Rattle.tree_meaning.proofs.MeaningLemmas.{one_meaning}
use Rattle.tree_file.specs.View.{IsTreeView, IsTreeViewIn}

-- a flat file stands for one value of a kind at most
flat_meaning : (layout : Format) (file : List ℕ) (value other : QuotaValue) → FlatStandsFor layout file value
    → FlatStandsFor layout file other → value.kind ≡ other.kind → value ≡ other
flat_meaning layout file value other stands stands' kind =
    let format : value.format ≡ other.format = stands.format ∙ sym stands'.format in
    let grace : value.grace ≡ other.grace = stands.grace ∙ sym stands'.grace in
    let flags : value.flags ≡ other.flags = stands.flags ∙ sym stands'.flags in
    let records : value.records ≡ other.records =
    same_map nat_cmp_total nat_cmp-IsAntisymmetric value.records other.records
    (λ id. stands.records id ∙ sym (stands'.records id)) in
    λ i. record { kind = kind i; format = format i; grace = grace i; flags = flags i; records = records i }

flat_once : (format : Format) (named : Option (List ℕ)) (kind : Kind) (value other : QuotaValue)
    → IsFlatView format named kind (Ok value) → IsFlatView format named kind (Ok other) → value ≡ other
flat_once format None kind value other seen also = absurd seen.0
flat_once format (Some file) kind value other seen also =
    flat_meaning format file value other seen.0.1 also.0.1 (seen.1 ∙ sym also.1)

tree_once : (order : Order) (named : Option (List ℕ)) (kind : Kind) (asked : Option Format) (value other : QuotaValue)
    → IsTreeViewIn order named kind asked most_blocks (Ok value)
    → IsTreeViewIn order named kind asked most_blocks (Ok other) → value ≡ other
tree_once order None kind asked value other seen also = absurd seen.0
tree_once order (Some file) kind asked value other seen also = one_meaning order file value other seen.0.1 also.0.1

pub seen_once : (named : Option (List ℕ)) (kind : Kind) (asked : Asked) (value other : QuotaValue)
    → IsView named kind asked (Ok value) → IsView named kind asked (Ok other) → value ≡ other
seen_once named kind AnyTree value other seen also = tree_once Little named kind None value other seen also
seen_once named kind (InFormat format) value other seen also =
    once_if (is_flat format) format named kind value other seen also
  where
    once_if : (flat : Bool) (format : Format) (named : Option (List ℕ)) (kind : Kind) (value other : QuotaValue)
        → MatchBool flat (IsFlatView format named kind (Ok value))
        (IsTreeView named kind (Some format) most_blocks (Ok value))
        → MatchBool flat (IsFlatView format named kind (Ok other))
        (IsTreeView named kind (Some format) most_blocks (Ok other)) → value ≡ other
    once_if true format named kind value other seen also = flat_once format named kind value other seen also
    once_if false format named kind value other seen also =
        tree_once Little named kind (Some format) value other seen also
