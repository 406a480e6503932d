-- What is seen of a file as one of its format is what is seen of it.
use Rattle.std.proofs.Common.{◌≡◌, ℕ, Bool, true, false, if◌then◌else◌, List, Option, Some, None, Result, Ok, sym}
use Rattle.std.proofs.Common.{subst, ◌+◌, ◌*◌, ◌≤◌, inl, inr, [], ◌∷◌, length, refl, arith}
use Rattle.std.specs.Prelude.{MatchBool}
use Rattle.quota_types.specs.Format.{is_flat}
use Rattle.quota_types.specs.declared.file_kind.Format.{Format}
use Rattle.quota_types.specs.declared.file_kind.Kind.{Kind}
use Rattle.quota_value.specs.QuotaValue.{QuotaValue}
use Rattle.opened_file.specs.declared.quota_file.OpenFault.{OpenFault}
use Rattle.tree_file.specs.View.{IsTreeView}
use Rattle.quota_v1.specs.View.{IsFlatView}
use Rattle.quota_map.specs.Asked.{AnyTree, Asked, InFormat, asked_of}
use Rattle.quota_map.specs.View.{IsView, asks_flat, most_blocks, opening_reads}
use Rattle.std.proofs.lemmas.Bool.{cases_lt}
use Rattle.quota_types.specs.Bytes.{number_at}
use Rattle.quota_types.specs.declared.file_kind.Kind.TheVariants.{User, Group, Project}
use Rattle.entry_codec.specs.Header.{header_of, magic_of}
use Rattle.tree_meaning.specs.TreeFile.{TreeStandsFor}
use Rattle.opened_file.specs.Replace.{pieces_of}

pub seen_flat : (named : Option (List ℕ)) (kind : Kind) (format : Format) (result : Result QuotaValue OpenFault)
    → is_flat format ≡ true → IsFlatView format named kind result
    → IsView named kind (InFormat format) result
seen_flat named kind format result flat seen =
    subst (λ (b : Bool). MatchBool b (IsFlatView format named kind result)
    (IsTreeView named kind (Some format) most_blocks result)) (sym flat) seen

pub flat_seen : (named : Option (List ℕ)) (kind : Kind) (format : Format) (result : Result QuotaValue OpenFault)
    → is_flat format ≡ true → IsView named kind (InFormat format) result
    → IsFlatView format named kind result
flat_seen named kind format result flat seen =
    subst (λ (b : Bool). MatchBool b (IsFlatView format named kind result)
    (IsTreeView named kind (Some format) most_blocks result)) flat seen

pub seen_tree : (named : Option (List ℕ)) (kind : Kind) (asked : Option Format) (result : Result QuotaValue OpenFault)
    → asks_flat (asked_of asked) ≡ false → IsTreeView named kind asked most_blocks result
    → IsView named kind (asked_of asked) result
seen_tree named kind None result other seen = seen
seen_tree named kind (Some format) result other seen =
    subst (λ (b : Bool). MatchBool b (IsFlatView format named kind result)
    (IsTreeView named kind (Some format) most_blocks result)) (sym other) seen

pub tree_seen : (named : Option (List ℕ)) (kind : Kind) (asked : Option Format) (result : Result QuotaValue OpenFault)
    → asks_flat (asked_of asked) ≡ false → IsView named kind (asked_of asked) result
    → IsTreeView named kind asked most_blocks result
tree_seen named kind None result other seen = seen
tree_seen named kind (Some format) result other seen =
    subst (λ (b : Bool). MatchBool b (IsFlatView format named kind result)
    (IsTreeView named kind (Some format) most_blocks result)) other seen

empty_number : number_at 4 [] 0 ≡ 0
unfolding number_at
empty_number = refl

-- a file with a header has bytes
has_bytes : (kind : Kind) (file : List ℕ) → (header_of file).magic ≡ magic_of kind → 1 ≤ length file
has_bytes kind (byte ∷ bytes) magic = omega arith
has_bytes User [] magic = absurd (omega (arith, magic, empty_number))
has_bytes Group [] magic = absurd (omega (arith, magic, empty_number))
has_bytes Project [] magic = absurd (omega (arith, magic, empty_number))

tree_opening : (file : List ℕ) (value : QuotaValue) → TreeStandsFor file value
    → 1 + 2 * (header_of file).blocks ≤ 4 + 3 * pieces_of (length file)
tree_opening file value stands =
    let some = has_bytes value.kind file stands.magic in
    elim (cases_lt 2 (header_of file).blocks) [
      | inl more ↦ let long = stands.sound.long more in omega (arith, some, long)
      | inr few ↦ omega (arith, some, few)
    ]

-- the opening of a file that is accepted makes few calls of `read`
pub opening_few : (kind : Kind) (asked : Asked) (file : List ℕ) (value : QuotaValue)
    → IsView (Some file) kind asked (Ok value) → opening_reads asked file ≤ 4 + 3 * pieces_of (length file)
opening_few kind AnyTree file value view = tree_opening file value view.0.1
opening_few kind (InFormat format) file value view = few_if (is_flat format) format kind file value view
  where
    few_if : (flat : Bool) (format : Format) (kind : Kind) (file : List ℕ) (value : QuotaValue)
        → MatchBool flat (IsFlatView format (Some file) kind (Ok value))
        (IsTreeView (Some file) kind (Some format) most_blocks (Ok value))
        → (if flat then 1 else 1 + 2 * (header_of file).blocks) ≤ 4 + 3 * pieces_of (length file)
    few_if true format kind file value view = omega arith
    few_if false format kind file value view = tree_opening file value view.0.1
