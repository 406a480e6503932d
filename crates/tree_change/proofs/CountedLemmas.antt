-- Blocks that are taken from the list of free blocks, and behind the last one, step by step.
use Rattle.std.proofs.Common.{◌≡◌, ℕ, ◌+◌, ◌<◌, List, length, sym, ap, subst, arith}
use Rattle.quota_types.specs.Times.{StandsIn, times}
use Rattle.quota_pages.specs.KeptBlocks.{KeepsBlocksBut}
use Rattle.free_chains.specs.Chain.{IsChain}
use Rattle.free_chains.specs.declared.heads.Heads.{Heads}
use Rattle.free_chains.proofs.ChainLemmas.{one_chain}
use Rattle.free_chains.proofs.SpliceLemmas.{chain-stays}
use Rattle.tree_change.specs.Putting.{TakesCounted}
use Rattle.tree_change.specs.Room.{FileHasRoom}
use Rattle.tree_change.proofs.BehindLemmas.{behind_of, behind_then}

-- No block was taken where the blocks of the list, and its head, stayed.
pub counted_none : (numbers old new : List ℕ) (heads now : Heads) (free : List ℕ) → KeepsBlocksBut numbers old new
    → now.blocks ≡ heads.blocks → now.free ≡ heads.free
    → IsChain old heads.blocks heads.free free 0 → ((number : ℕ) → StandsIn free number → times numbers number ≡ 0)
    → ((number : ℕ) → StandsIn numbers number → number < heads.blocks)
    → TakesCounted 0 old new heads now
counted_none numbers old new heads now free keeps blocks_are free_is is_free apart inside =
    let still : IsChain new heads.blocks heads.free free 0 =
    chain-stays numbers old new heads.blocks heads.free free 0 keeps apart is_free in
    let stays : IsChain new now.blocks now.free free 0 = subst (λ (n : ℕ). IsChain new n now.free free 0)
    (sym blocks_are) (subst (λ (n : ℕ). IsChain new heads.blocks n free 0) (sym free_is) still) in
    record {
      sum = λ other is_other. omega (arith, blocks_are);
      rest = λ other is_other. (
        free,
        stays,
        omega (arith, ap {B = ℕ} length (one_chain old heads.blocks heads.free free 0 other 0 is_free is_other).0),
      );
      behind = behind_of numbers heads.blocks now.blocks old new (omega (arith, blocks_are))
          (λ number stands. omega (arith, blocks_are, inside number stands)) keeps;
    }

-- Two steps take what both of them take.
pub counted_then : (first second : ℕ) (old between new : List ℕ) (heads middle now : Heads)
    → TakesCounted first old between heads middle → TakesCounted second between new middle now
    → TakesCounted (first + second) old new heads now
counted_then first second old between new heads middle now takes more = record {
  sum = λ free is_free.
      let left = takes.rest free is_free in
      omega (arith, takes.sum free is_free, left.2, more.sum left.0 left.1);
  rest = λ free is_free.
      let left = takes.rest free is_free in
      let last = more.rest left.0 left.1 in
      (last.0, last.1, omega (arith, left.2, last.2));
  behind = behind_then heads.blocks middle.blocks now.blocks old between new takes.behind more.behind;
}

-- Where there was room for `taken + more` blocks, there is room for `more` once `taken` were taken.
pub room_after : (taken more limit : ℕ) (old new : List ℕ) (heads now : Heads) → TakesCounted taken old new heads now
    → FileHasRoom old heads limit (taken + more) → FileHasRoom new now limit more
room_after taken more limit old new heads now takes room =
    let left = takes.rest room.free room.is_free in
    record {
      free = left.0;
      is_free = left.1;
      room = omega (arith, room.room, takes.sum room.free room.is_free, left.2);
    }
