-- Whoever sees a value of a file sees another one of the same kind and format too, once the file stands for that.
use Rattle.std.proofs.Common.{◌≡◌, ℕ, Bool, true, false, List, Option, None, Some, Ok, if◌then◌else◌, sym, ap, subst}
use Rattle.std.proofs.Common.{◌∙◌}
use Rattle.std.specs.Prelude.{MatchBool}
use Rattle.std.proofs.lemmas.Option.{none-some, same_Some}
use Rattle.quota_types.specs.Format.{IsTreeFormat, is_flat}
use Rattle.quota_types.specs.declared.file_kind.Format.{Format}
use Rattle.quota_types.specs.declared.file_kind.Format.TheVariants.{V2R0, V2R1}
use Rattle.quota_types.specs.declared.file_kind.Kind.{Kind}
use Rattle.quota_value.specs.QuotaValue.{QuotaValue}
use Rattle.quota_map.specs.Asked.{AnyTree, Asked, InFormat}
use Rattle.quota_map.specs.View.{IsOpenedAs, IsView, most_blocks}
use Rattle.quota_v1.specs.View.{IsFlatView}
use Rattle.tree_file.specs.View.{IsTreeView}

-- the version of a tree file is that of a tree format
version_if : (zero one : Bool) (format : Format)
    → (if zero then Some V2R0 else if one then Some V2R1 else None) ≡ Some format → IsTreeFormat format
version_if true one format is = ap is_flat (sym (same_Some V2R0 format is))
version_if false true format is = ap is_flat (sym (same_Some V2R1 format is))
version_if false false format is = absurd (none-some format is)

-- a file that is seen in the format that was asked for, or as a tree file, is one of the kind and of such a format
tree_as_asked : (named : Option (List ℕ)) (kind : Kind) (value : QuotaValue)
    → IsTreeView named kind None most_blocks (Ok value) → IsTreeFormat value.format
tree_as_asked None kind value view = absurd view.0
tree_as_asked (Some file) kind value view = version_if _ _ value.format view.0.1.version

flat_as_asked : (format : Format) (named : Option (List ℕ)) (kind : Kind) (value : QuotaValue)
    → IsFlatView format named kind (Ok value) → value.format ≡ format
flat_as_asked format None kind value view = absurd view.0
flat_as_asked format (Some file) kind value view = view.0.1.format

as_asked : (kind : Kind) (asked : Asked) (named : Option (List ℕ)) (value : QuotaValue)
    → IsView named kind asked (Ok value) → (value.kind ≡ kind) × IsOpenedAs asked value.format
as_asked kind AnyTree named value view = (view.1, tree_as_asked named kind value view)
as_asked kind (InFormat format) named value view = asked_if (is_flat format) format named kind value view
  where
    asked_if : (flat : Bool) (format : Format) (named : Option (List ℕ)) (kind : Kind) (value : QuotaValue)
        → MatchBool flat (IsFlatView format named kind (Ok value))
        (IsTreeView named kind (Some format) most_blocks (Ok value)) → (value.kind ≡ kind) × (value.format ≡ format)
    asked_if true format named kind value view = (view.1, flat_as_asked format named kind value view)
    asked_if false format named kind value view = (view.1, sym view.2)

seen_as : (kind : Kind) (asked : Asked) (named : Option (List ℕ)) (value : QuotaValue) (format : Format)
    → value.kind ≡ kind → IsOpenedAs asked format → IsView named value.kind (InFormat format) (Ok value)
    → IsView named kind asked (Ok value)
seen_as kind AnyTree named value format same opened view =
    let tree = subst
    (λ (b : Bool). MatchBool b (IsFlatView format named value.kind (Ok value))
    (IsTreeView named value.kind (Some format) most_blocks (Ok value))) opened view in
    (tree.0, same, tt)
seen_as kind (InFormat asked) named value format same opened view =
    subst (λ (f : Format). IsView named kind (InFormat f) (Ok value)) opened
    (subst (λ (k : Kind). IsView named k (InFormat format) (Ok value)) same view)

-- whoever sees a value of a file sees another one of its kind and format too, once the file stands for that
pub seen_again : (kind : Kind) (asked : Asked) (named other : Option (List ℕ)) (value new : QuotaValue)
    → IsView named kind asked (Ok value) → new.kind ≡ value.kind → new.format ≡ value.format
    → IsView other new.kind (InFormat new.format) (Ok new) → IsView other kind asked (Ok new)
seen_again kind asked named other value new view kinds formats again =
    let is = as_asked kind asked named value view in
    seen_as kind asked other new new.format (kinds ∙ is.0)
    (subst (λ (f : Format). IsOpenedAs asked f) (sym formats) is.1) again
