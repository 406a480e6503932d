-- What a change of an opened file that failed left of it, as the file is seen by whoever opens it.
use Rattle.std.proofs.Common.{◌⊎◌, inl, inr, ◌≡◌, ◌≤◌, ℕ, Bool, List, length, Option, None, Some, Ok, refl, sym, subst}
use Rattle.std.proofs.Common.{ap, ◌∙◌}
use Rattle.std.specs.Prelude.{IsSomeAnd, MatchBool, true, false, if◌then◌else◌}
use Rattle.std.proofs.lemmas.Bool.{cases_Bool, false≢true}
use Rattle.quota_types.specs.Format.{IsTreeFormat, is_flat}
use Rattle.quota_types.specs.declared.file_kind.Format.{Format}
use Rattle.quota_types.specs.declared.file_kind.Kind.{Kind}
use Rattle.opened_file.specs.FileChange.{FileChange}
use Rattle.opened_file.specs.ValueEdits.{IsLeft}
use Rattle.quota_value.specs.QuotaValue.{QuotaValue}
use Rattle.outside.specs.World.{World}
use Rattle.entry_codec.specs.Header.{HeaderNumbers, header_of}
use Rattle.file_blocks.specs.Block.{block_of}
use Rattle.tree_meaning.specs.TreeFile.{TreeStandsFor}
use Rattle.tree_meaning.proofs.HeaderLemmas.{header_in_block}
use Rattle.tree_meaning.proofs.MeaningLemmas.{header_format}
use Rattle.tree_file.proofs.FewMadeLemmas.{few_made}
use Rattle.tree_file.specs.TreeChange.{TreeLeaves, TreeMakes}
use Rattle.quota_v1.specs.Change.{FitsFlat, FlatChanged, FlatLeaves, FlatMakes}
use Rattle.quota_v1.specs.FlatFile.{FlatStandsFor}
use Rattle.quota_v1.specs.Place.{flat_limit}
use Rattle.quota_v1.specs.View.{IsFlatView}
use Rattle.tree_file.specs.View.{IsTreeView}
use Rattle.quota_map.specs.Asked.{InFormat}
use Rattle.quota_map.specs.AnyFile.{HoldsAny, any_seen}
use Rattle.quota_map.specs.AnyChange.{AnyLeaves, AnyMakes}
use Rattle.quota_map.specs.StandsFor.{StandsForAs}
use Rattle.quota_map.specs.View.{IsView, fresh_seen, most_blocks}
use Rattle.quota_map.specs.declared.any_file.AnyFile.{AnyFile}
use Rattle.quota_map.specs.declared.any_file.AnyFile.TheVariants.{V1 as FlatFile, Tree as TreeFile}

-- an opened file has the format of each value that it holds
pub held_format : (tells : Bool) (files : World) (file : AnyFile) (value : QuotaValue) → HoldsAny tells files file value
    → value.format ≡ (any_seen file).format
held_format tells files (FlatFile file) value held = held.stands.format
held_format tells files (TreeFile file) value held =
    sym (header_format held.file file.header value held.same held.stands)

-- a file of few blocks that stands for a value
both : (limit : ℕ) (file : Option (List ℕ)) (value : QuotaValue)
    → IsSomeAnd file (λ bytes. (header_of bytes).blocks ≤ limit) → IsSomeAnd file (λ bytes. TreeStandsFor bytes value)
    → IsSomeAnd file (λ bytes. ((header_of bytes).blocks ≤ limit) × TreeStandsFor bytes value)
both limit (Some bytes) value few stands = (few, stands)
both limit None value few stands = absurd few

-- a tree file that a change made, and that stands for a value, is seen as that value
made_seen : (format : Format) (change : FileChange) (name : List ℕ) (old new : World) (value : QuotaValue)
    → value.format ≡ format → IsTreeFormat format
    → TreeMakes most_blocks change name old new → IsSomeAnd (new name) (λ bytes. TreeStandsFor bytes value)
    → IsView (new name) value.kind (InFormat format) (Ok value)
made_seen format change name old new value is other makes stands =
    subst (λ (b : Bool). MatchBool b (IsFlatView format (new name) value.kind (Ok value))
    (IsTreeView (new name) value.kind (Some format) most_blocks (Ok value))) (sym other)
    (both most_blocks (new name) value (few_made most_blocks change name old new makes) stands, refl, sym is)

-- and a flat file too
flat_made_seen : (format : Format) (change : FileChange) (name : List ℕ) (old new : World) (value : QuotaValue)
    → is_flat format ≡ true → FlatMakes format change name old new
    → IsSomeAnd (new name) (λ bytes. FlatStandsFor format bytes value)
    → IsView (new name) value.kind (InFormat format) (Ok value)
flat_made_seen format change name old new value flat makes stands =
    subst (λ (b : Bool). MatchBool b (IsFlatView format (new name) value.kind (Ok value))
    (IsTreeView (new name) value.kind (Some format) most_blocks (Ok value))) (sym flat)
    (few_and (old name) (new name) value makes.named stands, refl)
  where
    few_and : (before after : Option (List ℕ)) (value : QuotaValue)
        → IsSomeAnd before (λ b. IsSomeAnd after (FitsFlat format (FlatChanged format change) b))
        → IsSomeAnd after (λ bytes. FlatStandsFor format bytes value)
        → IsSomeAnd after (λ bytes. (length bytes ≤ flat_limit format) × FlatStandsFor format bytes value)
    few_and None after value made stands = absurd made
    few_and (Some before) None value made stands = absurd stands
    few_and (Some before) (Some after) value made stands = (made.1, stands)

-- What a change left that failed is what was there, or lies between that and a file that is seen as the changed value.
pub left_seen : (format : Format) (change : FileChange) (name : List ℕ) (old new : World) (value : QuotaValue)
    → value.format ≡ format
    → IsLeft (AnyMakes (fresh_seen name format) change name) (λ bytes. StandsForAs format bytes value)
    (AnyLeaves format) name old new
    → (new name ≡ old name)
    ⊎ ((after : Option (List ℕ)) × IsView after value.kind (InFormat value.format) (Ok value)
    × AnyLeaves value.format (old name) after (new name))
left_seen format change name old new value is left =
    let P : Bool → (bytes : List ℕ) → Type 0 =
    λ b bytes. MatchBool b (FlatStandsFor format bytes value) (TreeStandsFor bytes value) in
    let view : IsView (left.after name) value.kind (InFormat format) (Ok value) = elim (cases_Bool (is_flat format)) [
      | inl flat ↦ flat_made_seen format change name old left.after value flat (left.made.flat flat)
          (subst (λ (b : Bool). IsSomeAnd (left.after name) (P b)) flat left.stands)
      | inr tree ↦ made_seen format change name old left.after value is tree
          (subst (λ (b : Bool). TreeMakes (if b then 0 else most_blocks) change name old left.after) tree
          (left.made.tree tree)) (subst (λ (b : Bool). IsSomeAnd (left.after name) (P b)) tree left.stands)
    ] in
    inr (subst (λ (f : Format). (after : Option (List ℕ)) × IsView after value.kind (InFormat f) (Ok value)
    × AnyLeaves f (old name) after (new name)) (sym is)
    (left.after name, view, left.left))

-- What is left as it was, or between that and a changed file, is no larger than a file may be.

-- a file of this format has no more bytes, or no more blocks, than it may have
abbrev IsFewIf : (flat : Bool) → Format → Option (List ℕ) → Type 0
IsFewIf true format file = IsSomeAnd file (λ bytes. length bytes ≤ flat_limit format)
IsFewIf false format file = IsSomeAnd file (λ bytes. (header_of bytes).blocks ≤ most_blocks)

abbrev IsFew : Format → Option (List ℕ) → Type 0
IsFew format file = IsFewIf (is_flat format) format file

-- the first of two facts of a file
former : (file : Option (List ℕ)) (P Q : List ℕ → Type 0) → IsSomeAnd file (λ bytes. P bytes × Q bytes)
    → IsSomeAnd file P
former (Some bytes) P Q two = two.0
former None P Q two = two

view_few : (format : Format) (named : Option (List ℕ)) (kind : Kind) (value : QuotaValue)
    → IsView named kind (InFormat format) (Ok value) → IsFew format named
view_few format named kind value view = few_if (is_flat format) format named kind value view
  where
    few_if : (flat : Bool) (format : Format) (named : Option (List ℕ)) (kind : Kind) (value : QuotaValue)
        → MatchBool flat (IsFlatView format named kind (Ok value))
        (IsTreeView named kind (Some format) most_blocks (Ok value)) → IsFewIf flat format named
    few_if true format named kind value view = former named _ _ view.0
    few_if false format named kind value view = former named _ _ view.0

-- a file with the first block of another one has as many blocks
first_few : (one other : List ℕ) → block_of other 0 ≡ block_of one 0 → (header_of one).blocks ≤ most_blocks
    → (header_of other).blocks ≤ most_blocks
first_few one other same few =
    let header : header_of other ≡ header_of one =
    sym (header_in_block other) ∙ ap header_of same ∙ header_in_block one in
    subst (λ (h : HeaderNumbers). h.blocks ≤ most_blocks) (sym header) few

tree_left_few : (old after left : Option (List ℕ)) → IsSomeAnd old (λ bytes. (header_of bytes).blocks ≤ most_blocks)
    → IsSomeAnd after (λ bytes. (header_of bytes).blocks ≤ most_blocks)
    → TreeLeaves old after left → IsSomeAnd left (λ bytes. (header_of bytes).blocks ≤ most_blocks)
tree_left_few old after left few made (inl same) =
    subst (λ (f : Option (List ℕ)). IsSomeAnd f (λ bytes. (header_of bytes).blocks ≤ most_blocks)) (sym same) few
tree_left_few None after left few made (inr torn) = absurd few
tree_left_few (Some old) None left few made (inr torn) = absurd made
tree_left_few (Some old) (Some after) None few made (inr torn) = absurd (false≢true torn.0)
tree_left_few (Some old) (Some after) (Some left) few made (inr torn) =
    elim (torn.1.each 0) [
      | inl same ↦ first_few old left same few
      | inr same ↦ first_few after left same made
    ]

left_few : (format : Format) (old after left : Option (List ℕ)) → IsFew format old → IsFew format after
    → AnyLeaves format old after left → IsFew format left
left_few format old after left few made leaves = left_if (is_flat format) format old after left few made leaves
  where
    left_if : (flat : Bool) (format : Format) (old after left : Option (List ℕ)) → IsFewIf flat format old
        → IsFewIf flat format after
        → MatchBool flat (FlatLeaves old after left) (TreeLeaves old after left) → IsFewIf flat format left
    left_if true format old after left few made (inl same) =
        subst (λ (f : Option (List ℕ)). IsFewIf true format f) (sym same) few
    left_if true format old after left few made (inr same) =
        subst (λ (f : Option (List ℕ)). IsFewIf true format f) (sym same) made
    left_if false format old after left few made leaves = tree_left_few old after left few made leaves

-- a file that is no larger than it may be, and that stands for a value, is seen as that
few_seen : (format : Format) (named : Option (List ℕ)) (value : QuotaValue) → value.format ≡ format → IsFew format named
    → IsSomeAnd named (λ bytes. StandsForAs format bytes value)
    → IsView named value.kind (InFormat format) (Ok value)
few_seen format named value is few stands = seen_if (is_flat format) format named value is few stands
  where
    seen_if : (flat : Bool) (format : Format) (named : Option (List ℕ)) (value : QuotaValue) → value.format ≡ format
        → IsFewIf flat format named
        → IsSomeAnd named (λ bytes. MatchBool flat (FlatStandsFor format bytes value) (TreeStandsFor bytes value))
        → MatchBool flat (IsFlatView format named value.kind (Ok value))
        (IsTreeView named value.kind (Some format) most_blocks (Ok value))
    seen_if true format None value is few stands = absurd stands
    seen_if false format None value is few stands = absurd stands
    seen_if true format (Some bytes) value is few stands = ((few, stands), refl)
    seen_if false format (Some bytes) value is few stands = ((few, stands), refl, sym is)

-- What a change left that failed is seen as the changed value where it stands for that.
pub left_stands : (format : Format) (old left : Option (List ℕ)) (held value : QuotaValue) → value.format ≡ format
    → IsView old held.kind (InFormat format) (Ok held)
    → (left ≡ old) ⊎ ((after : Option (List ℕ)) × IsView after value.kind (InFormat value.format) (Ok value)
    × AnyLeaves value.format old after left)
    → IsSomeAnd left (λ bytes. StandsForAs format bytes value)
    → IsView left value.kind (InFormat value.format) (Ok value)
left_stands format old left held value is view (inl same) stands =
    subst (λ (f : Format). IsView left value.kind (InFormat f) (Ok value)) (sym is)
    (few_seen format left value is
    (subst (λ (file : Option (List ℕ)). IsFew format file) (sym same) (view_few format old held.kind held view)) stands)
left_stands format old left held value is view (inr between) stands =
    let P : Format → Type 0 =
    λ f. IsView between.0 value.kind (InFormat f) (Ok value) × AnyLeaves f old between.0 left in
    let made : P format = subst P is (between.1, between.2) in
    subst (λ (f : Format). IsView left value.kind (InFormat f) (Ok value)) (sym is)
    (few_seen format left value is
    (left_few format old between.0 left (view_few format old held.kind held view)
    (view_few format between.0 value.kind value made.0) made.1) stands)
