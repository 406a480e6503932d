-- How many blocks of the tree are read.
use Rattle.std.proofs.Common.{ℕ, ◌+◌, ◌≤◌, Bool, List, [], ◌++◌, length, sym, subst, arith, Result, Ok, Err}
use Rattle.std.proofs.Common.{append_assoc, append-nil, length-append}
use Rattle.std.specs.Prelude.{OnOk}
use Rattle.std.proofs.lemmas.List.{length-map}
use Rattle.file_blocks.specs.declared.check_fault.CheckFault.{CheckFault}
use Rattle.quota_radix.specs.declared.tree_path.TreePath.{TreePath}
use Rattle.file_blocks.specs.BlockSet.{AreFlagsOf}
use Rattle.quota_radix.specs.Tree.{blocks_of}
use Rattle.quota_radix.specs.Reads.{AreMarkedReads}
use Rattle.file_blocks.proofs.MarkedLemmas.{marked_fit}

-- nor with those of a level
pub level_fits : (blocks : ℕ) (flags : List Bool) (numbers : List ℕ) (level : List TreePath)
    → AreFlagsOf blocks flags (numbers ++ blocks_of level)
    → length numbers + length level ≤ blocks
level_fits blocks flags numbers level are =
    omega (
      arith,
      marked_fit blocks flags (numbers ++ blocks_of level) are,
      length-append numbers (blocks_of level),
      length-map level (λ (path : TreePath). path.block),
    )

-- where nothing was read yet
pub marked_start : (blocks : ℕ) (flags : List Bool) (numbers : List ℕ) (reads : ℕ) → AreFlagsOf blocks flags numbers
    → AreMarkedReads blocks flags numbers reads reads
marked_start blocks flags numbers reads are = record {
  more = [];
  marked = subst (λ (all : List ℕ). AreFlagsOf blocks flags all) (sym (append-nil numbers)) are;
  few = omega arith;
}

-- after one more level, whose blocks were marked before they were read
pub marked_level : (blocks : ℕ) (flags next : List Bool) (numbers : List ℕ) (level : List TreePath)
    (before between now : ℕ) → AreMarkedReads blocks flags numbers before between
    → ((others : List ℕ) → AreFlagsOf blocks flags others → AreFlagsOf blocks next (others ++ blocks_of level))
    → now ≤ between + length level
    → AreMarkedReads blocks next numbers before now
marked_level blocks flags next numbers level before between now so_far marks few = record {
  more = so_far.more ++ blocks_of level;
  marked = subst (λ (all : List ℕ). AreFlagsOf blocks next all) (append_assoc numbers so_far.more (blocks_of level))
      (marks (numbers ++ so_far.more) so_far.marked);
  few = omega (
    arith,
    so_far.few,
    few,
    length-append so_far.more (blocks_of level),
    length-map level (λ (path : TreePath). path.block),
  );
}

-- no more blocks were read than are not marked before
pub marked_few : (blocks : ℕ) (flags : List Bool) (numbers : List ℕ) (before between now : ℕ)
    → AreMarkedReads blocks flags numbers before between
    → ((others : List ℕ) → AreFlagsOf blocks flags others → now + length others ≤ between + blocks)
    → now + length numbers ≤ before + blocks
marked_few blocks flags numbers before between now so_far few =
    omega (arith, so_far.few, few (numbers ++ so_far.more) so_far.marked, length-append numbers so_far.more)

-- after the last level, by what a call answers
pub marked_end : {T : Type 0} (blocks : ℕ) (start flags next : List Bool) (level : List TreePath)
    (before between now : ℕ)
    → ((numbers : List ℕ) → AreFlagsOf blocks start numbers → AreMarkedReads blocks flags numbers before between)
    → (result : Result T CheckFault)
    → OnOk result
    ((others : List ℕ) → AreFlagsOf blocks flags others → AreFlagsOf blocks next (others ++ blocks_of level))
    → now ≤ between + length level
    → OnOk result ((numbers : List ℕ) → AreFlagsOf blocks start numbers → AreMarkedReads blocks next numbers before now)
marked_end blocks start flags next level before between now so_far (Ok found) marks few = λ numbers are.
    marked_level blocks flags next numbers level before between now (so_far numbers are) marks few
marked_end blocks start flags next level before between now so_far (Err fault) marks few = tt
