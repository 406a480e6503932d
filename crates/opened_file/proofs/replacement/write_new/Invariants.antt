use Rattle.std.proofs.Common.{◌≡◌, ◌⊎◌, ◌+◌, ◌-◌, ◌%◌, ◌≤◌, ℕ, List, [], length, take, true, Some, IsTrue}
use Rattle.outside.specs.Frame.{ChangesOne}
use Rattle.opened_file.specs.Replace.{pieces_of}
use Rattle.outside.specs.Replacement.{replacement_name}
use Rattle.outside.specs.Unsynced.{with_name}
use Rattle.outside.specs.World.{with_file}
use Rattle.opened_file.proofs.replacement.write_new.Given as goal

abbrev pub decreases-loop-at : goal.decreases-loop-at
decreases-loop-at g l = length l.bytes - l.at

abbrev pub invariant-loop-at : goal.invariant-loop-at
invariant-loop-at g l =
    let S = g.S.Store in
    record {
      written : IsTrue S.tells
          → (S.seen l.store).files ≡ with_file (S.seen l.fn.store).files l.name (Some (take l.at l.bytes));
      unsynced : IsTrue S.tells → (S.seen l.store).unsynced ≡ with_name (S.seen l.fn.store).unsynced l.name true;
      within : l.at ≤ length l.bytes;
      whole : (l.at % 1024 ≡ 0) ⊎ (l.at ≡ length l.bytes);
      writes : (S.seen l.store).writes ≤ (S.seen l.fn.store).writes + pieces_of l.at;
      leaves : ChangesOne l.name (S.seen l.fn.store) (S.seen l.store);
      commits : (base : List ℕ) → l.name ≡ replacement_name base → S.commits [] l.fn.store l.store;
    }
