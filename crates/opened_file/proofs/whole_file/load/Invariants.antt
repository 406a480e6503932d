use Rattle.std.proofs.Common.{◌≡◌, ◌⊎◌, ◌+◌, ◌-◌, ◌%◌, ◌≤◌, [], true, vec_len, IsTrue}
use Rattle.outside.specs.Frame.{OnlyReads}
use Rattle.opened_file.specs.Replace.{pieces_of}
use Rattle.opened_file.proofs.LoadLemmas.{IsBegun}
use Rattle.opened_file.proofs.whole_file.load.Given as goal

abbrev pub decreases-loop-bytes : goal.decreases-loop-bytes
decreases-loop-bytes g l = l.len - vec_len l.bytes

abbrev pub invariant-loop-bytes : goal.invariant-loop-bytes
invariant-loop-bytes g l =
    let S = g.S.Store in
    record {
      begun : IsTrue S.tells → IsBegun ((S.seen l.fn.store).files l.name) l.len l.bytes.items;
      within : vec_len l.bytes ≤ l.len;
      whole : IsTrue S.tells → (vec_len l.bytes % 1024 ≡ 0) ⊎ (vec_len l.bytes ≡ l.len);
      reads : IsTrue S.tells → (S.seen l.store).reads ≤ (S.seen l.fn.store).reads + pieces_of (vec_len l.bytes);
      leaves : OnlyReads true l.name (S.seen l.fn.store) (S.seen l.store);
      commits : S.commits [] l.fn.store l.store;
    }
