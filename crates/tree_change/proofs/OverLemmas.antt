-- A record that is overwritten where the leaf of its identifier leads.
use Rattle.std.proofs.Common.{◌≡◌, ℕ, ◌^◌, ◌<◌, ◌≤◌, ◌==◌, Bool, if◌then◌else◌, cond, find, List, [], ◌∷◌, ◌++◌, Some}
use Rattle.std.proofs.Common.{None, refl, inl, inr, sym, ap, subst, ◌∙◌, arith}
use Rattle.std.specs.List.{AllByRecursion}
use Rattle.std.proofs.lemmas.Bool.{cases_Bool, le-leb}
use Rattle.std.specs.FinMap.{insert}
use Rattle.quota_types.specs.declared.file_kind.Format.{Format}
use Rattle.quota_types.specs.declared.record.Rec.{Rec}
use Rattle.quota_types.specs.Times.{StandsIn, times}
use Rattle.quota_types.proofs.TimesLemmas.{only_one, stands_right, times-cons-same}
use Rattle.file_blocks.specs.Block.{block_of}
use Rattle.quota_value.specs.QuotaValue.{Records}
use Rattle.quota_radix.specs.Descent.{leaf_block}
use Rattle.quota_radix.specs.Tree.{blocks_of, ids_at, leaves}
use Rattle.quota_radix.specs.declared.tree_path.TreePath.{TreePath}
use Rattle.quota_radix.proofs.LeafLemmas.{leaf_of_block}
use Rattle.quota_radix.proofs.PathLemmas.{leaves_lead}
use Rattle.free_chains.specs.declared.heads.Heads.{Heads}
use Rattle.tree_meaning.specs.Loose.{loose_of}
use Rattle.tree_meaning.specs.Roles.{data_with}
use Rattle.tree_meaning.specs.TreeFile.{record_in}
use Rattle.tree_meaning.proofs.MovedLemmas.{times-data_with}
use Rattle.tree_meaning.proofs.ValueLemmas.{found_used}
use Rattle.block_changes.specs.EntryChanges.{RewritesEntry}
use Rattle.tree_change.specs.declared.change_fault.ChangeFault.{ChangeFault}
use Rattle.tree_change.specs.ChangeFault.{IsStepFault}
use Rattle.tree_change.specs.Overwrites.{OverwritesRecord}
use Rattle.tree_change.specs.Shows.{IsNoCompleteTree, IsWholeTree}
use Rattle.tree_change.proofs.ChangeFaultLemmas.{of_later}
use Rattle.tree_change.proofs.StaysLemmas.{counted_stays, data_stays, header_stays}
use Rattle.tree_change.proofs.StepLemmas.{overwritten_whole}

-- what holds of each path holds of one that is found
found_among : (P : TreePath → Type 0) (test : TreePath → Bool) (ps : List TreePath) (leaf : TreePath)
    → find test ps ≡ Some leaf → AllByRecursion P ps → P leaf
found_among P test [] leaf found all = absurd cc
found_among P test (p ∷ ps) leaf found all = elim (cases_Bool (test p)) [
  | inl passes ↦
      let some : Some p ≡ Some leaf = sym (ap (λ (b : Bool). cond b (Some p) (find test ps)) passes) ∙ found in
      let same : p ≡ leaf = cc in
      subst P same all.0
  | inr fails ↦ found_among P test ps leaf (sym (ap (λ (b : Bool). cond b (Some p) (find test ps)) fails) ∙ found) all.1
]

-- each path's block is one of theirs
each_named : (ps : List TreePath) → AllByRecursion (λ (leaf : TreePath). StandsIn (blocks_of ps) leaf.block) ps
each_named ps = among ps (λ leaf stands. stands)
  where
    among : (some : List TreePath) → ((block : ℕ) → StandsIn (blocks_of some) block → StandsIn (blocks_of ps) block)
        → AllByRecursion (λ (leaf : TreePath). StandsIn (blocks_of ps) leaf.block) some
    among [] all = tt
    among (p ∷ rest) all = (
      all p.block (omega (arith, times-cons-same p.block (blocks_of rest))),
      among rest (λ block stands. all block (stands_right (p.block ∷ []) (blocks_of rest) block stands)),
    )

-- the block is data
pub led_data : (held : List ℕ) (format : Format) (old : List ℕ) (heads : Heads) (records : Records) (block id : ℕ)
    → id < 2 ^ 32 → leaf_block old heads.blocks id ≡ Some block
    → IsWholeTree (loose_of held None None) format old heads records
    → StandsIn (data_with (loose_of held None None) old heads.blocks) block
led_data held format old heads records block id small led tree =
    let found : find (λ (leaf : TreePath). leaf.number == id) (leaves old heads.blocks)
    ≡ Some (record { number = id; block = block }) = leaf_of_block old heads.blocks id block small (sym led) in
    let named : 1 ≤ times (blocks_of (leaves old heads.blocks)) block =
    found_among (λ (leaf : TreePath). StandsIn (blocks_of (leaves old heads.blocks)) leaf.block)
    (λ (leaf : TreePath). leaf.number == id) (leaves old heads.blocks) (record { number = id; block = block }) found
    (each_named (leaves old heads.blocks)) in
    omega (
      arith,
      times-data_with (loose_of held None None) old heads.blocks block tree.awaited,
      ap {B = ℕ} (λ (b : Bool). if b then 1 else 0)
          (le-leb 1 (times (blocks_of (leaves old heads.blocks)) block) named),
    )

pub overwrites : (held : List ℕ) (format : Format) (old new : List ℕ) (heads : Heads) (records : Records)
    (block place id : ℕ) (rec : Rec)
    → id < 2 ^ 32 → leaf_block old heads.blocks id ≡ Some block
    → RewritesEntry format block place (record { id = id; rec = rec }) old new
    → IsWholeTree (loose_of held None None) format old heads records
    → OverwritesRecord id rec held format old new heads records
overwrites held format old new heads records block place id rec small led rewrites tree =
    let is_data : StandsIn (data_with (loose_of held None None) old heads.blocks) block =
    led_data held format old heads records block id small led tree in
    let aside : (number : ℕ) → StandsIn (block ∷ []) number
    → StandsIn (held ++ data_with (loose_of held None None) old heads.blocks) number = λ number stands.
    stands_right held (data_with (loose_of held None None) old heads.blocks) number
    (subst (StandsIn (data_with (loose_of held None None) old heads.blocks)) (only_one block number stands) is_data) in
    let whole : IsWholeTree (loose_of held None None) format new heads (insert records id rec) =
    overwritten_whole held format old new heads records block place id rec
    (leaf_of_block old heads.blocks id block small (sym led)) rewrites tree in
    record {
      tree = whole;
      counted = counted_stays (loose_of held None None) format old new heads records (block ∷ []) tree rewrites.keeps
          aside heads refl refl;
      same_data = data_stays (loose_of held None None) format old new heads records (block ∷ []) tree rewrites.keeps
          aside (loose_of held None None) heads.first (insert records id rec) whole (λ number. refl);
      header =
          header_stays (loose_of held None None) format old new heads records (block ∷ []) tree rewrites.keeps aside;
    }

-- Where the block to which a leaf leads has no entry of the identifier, the file is no tree.
pub missing_no_tree : (format : Format) (file : List ℕ) (heads : Heads) (block id : ℕ) → id < 2 ^ 32
    → leaf_block file heads.blocks id ≡ Some block
    → record_in format (block_of file block) id ≡ None → IsNoCompleteTree format file heads
missing_no_tree format file heads block id small led none = λ held records tree.
    let there : StandsIn (ids_at (leaves file heads.blocks) block) id =
    found_among (λ (leaf : TreePath). StandsIn (ids_at (leaves file heads.blocks) leaf.block) leaf.number)
    (λ (leaf : TreePath). leaf.number == id) (leaves file heads.blocks)
    (record { number = id; block = block }) (leaf_of_block file heads.blocks id block small (sym led))
    (leaves_lead file heads.blocks) in
    let used = found_used format (block_of file block) id (omega (arith, tree.filled.one_entry block id there)) in
    let both : None ≡ Some used.0 = sym none ∙ used.1 in
    cc

pub overwriting_refused : (before now : ℕ) (known : Type 0) (format : Format) (file : List ℕ) (block id : ℕ)
    (fault : ChangeFault) → id < 2 ^ 32
    → IsStepFault before now (known → record_in format (block_of file block) id ≡ None) fault
    → IsStepFault before now
    (known → (heads : Heads) → leaf_block file heads.blocks id ≡ Some block → IsNoCompleteTree format file heads) fault
overwriting_refused before now known format file block id fault small h =
    of_later before before now (known → record_in format (block_of file block) id ≡ None)
    (known → (heads : Heads) → leaf_block file heads.blocks id ≡ Some block → IsNoCompleteTree format file heads)
    (λ blocks limit. ⊥) (λ blocks limit. ⊥) fault (omega arith)
    (λ none is heads led. missing_no_tree format file heads block id small led (none is)) (λ blocks limit is. is) h
