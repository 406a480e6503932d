-- The blocks of a level, one after another.
use Rattle.std.proofs.Common.{◌≡◌, ℕ, ◌+◌, ◌<◌, IsTrue, List, [], ◌∷◌, ◌++◌, length, get_or, take, sym, ap}
use Rattle.std.proofs.Common.{subst, ◌∙◌}
use Rattle.std.proofs.lemmas.List.{append-nil, take_more}
use Rattle.std.proofs.lemmas.List.Concat.{flat_map-append}
use Rattle.std.specs.List.{flat_map}
use Rattle.quota_types.specs.declared.damage.Damage.{Damage}
use Rattle.file_blocks.specs.declared.check_fault.CheckFault.{CheckFault}
use Rattle.file_blocks.specs.declared.check_fault.CheckFault.TheVariants.{Store, Damage as Damaged, Memory}
use Rattle.std.specs.Prelude.{Bool}
use Rattle.quota_radix.specs.declared.tree_path.TreePath.{TreePath}
use Rattle.file_blocks.specs.CheckFault.{IsCheckFault, IsStepFault}
use Rattle.file_blocks.specs.Block.{block_of}
use Rattle.byte_order.specs.declared.order.Order.{Order}
use Rattle.byte_order.specs.Words.{words_of}
use Rattle.outside.specs.World.{World}
use Rattle.quota_types.specs.Times.{StandsIn}
use Rattle.quota_radix.specs.Levels.{IsLevelDefect}
use Rattle.quota_radix.specs.Tree.{blocks_of, steps}
use Rattle.file_blocks.proofs.MarkedLemmas.{stands_mapped}
use Rattle.quota_types.proofs.TimesLemmas.{only_one}

-- a damage of one block of a level is one of the level
pub defect_in_level : (file : List ℕ) (blocks : ℕ) (paths : List TreePath) (i : ℕ) (d : TreePath) → i < length paths
    → (damage : Damage)
    → IsLevelDefect file blocks ((get_or paths i d).block ∷ []) damage
    → IsLevelDefect file blocks (blocks_of paths) damage
defect_in_level file blocks paths i d low damage one = record {
  stands = subst (λ (n : ℕ). StandsIn (blocks_of paths) n) (only_one (get_or paths i d).block damage.block one.stands)
      (stands_mapped (λ (path : TreePath). path.block) paths i d low);
  defect = one.defect;
  no_id = one.no_id;
}

-- a refusal at one block of a level is one of the level
pub level_refused : (before now blocks : ℕ) (tells : Bool) (file block : List ℕ) (paths : List TreePath) (i : ℕ)
    (d : TreePath) → i < length paths
    → (IsTrue tells → block ≡ block_of file (get_or paths i d).block) → (fault : CheckFault)
    → IsStepFault (λ damage. (other : List ℕ) → block ≡ block_of other (get_or paths i d).block
    → IsLevelDefect other blocks ((get_or paths i d).block ∷ []) damage) fault
    → IsCheckFault before now (λ damage. IsTrue tells → IsLevelDefect file blocks (blocks_of paths) damage) fault
level_refused before now blocks tells file block paths i d low is Store refused = absurd refused
level_refused before now blocks tells file block paths i d low is (Damaged damage) refused =
    (refused.0, λ told. defect_in_level file blocks paths i d low damage (refused.1 file (is told)))
level_refused before now blocks tells file block paths i d low is Memory refused = tt

-- what is read of a store whose files stay
pub read_of_same : (order : Order) (name : List ℕ) (files now : World) (number : ℕ) (block : List ℕ) → now ≡ files
    → block ≡ block_of (words_of order now name) number → block ≡ block_of (words_of order files name) number
read_of_same order name files now number block same is =
    is ∙ ap (λ (fs : World). block_of (words_of order fs name) number) same

-- the paths that go on from one more of a level
pub paths_more : (file : List ℕ) (blocks : ℕ) (paths next now : List TreePath) (i : ℕ) (d : TreePath) → i < length paths
    → next ≡ flat_map (steps file blocks) (take i paths) → now ≡ next ++ steps file blocks (get_or paths i d)
    → now ≡ flat_map (steps file blocks) (take (i + 1) paths)
paths_more file blocks paths next now i d low before added =
    let f : TreePath → List TreePath = steps file blocks in
    added ∙ ap (λ (ps : List TreePath). ps ++ f (get_or paths i d)) before
    ∙ ap (λ (ps : List TreePath). flat_map f (take i paths) ++ ps) (sym (append-nil (f (get_or paths i d))))
    ∙ sym (flat_map-append f (take i paths) (get_or paths i d ∷ []))
    ∙ ap (λ (ps : List TreePath). flat_map f ps) (sym (take_more paths i d low))
