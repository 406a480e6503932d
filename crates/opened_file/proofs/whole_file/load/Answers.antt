use Rattle.std.proofs.Common.{◌≡◌, ◌+◌, ◌-◌, ◌<◌, ◌≤◌, [], ◌∙◌, ap, sym, subst, min, vec_len, IsTrue, List, ℕ, Option}
use Rattle.std.proofs.Common.{arith}
use Rattle.opened_file.specs.Replace.{pieces_of}
use Rattle.outside.proofs.FrameLemmas.{only_reads-then}
use Rattle.opened_file.proofs.ReplaceLemmas.{piece-counted, piece-whole}
use Rattle.opened_file.proofs.LoadLemmas.{begun_ends, begun_step}
use Rattle.opened_file.proofs.whole_file.load.Goals as goal

pub loop-bytes-preserved : goal.loop-bytes-preserved
loop-bytes-preserved g c =
    let kept = c.loop-bytes.invariant in
    let appends = c.in_ok-append_block.ensures in
    let size = c.in-Some.size in
    let at = vec_len c.loop-bytes.bytes in
    let below : at < size = omega (arith, c.loop-bytes-test.true, c.len-in-loop-bytes.ensures) in
    let ends : IsTrue g.S.Store.tells → vec_len c.append_block.new.bytes ≡ min size (at + 1024) =
    λ told. c.append_block.new.bytes.ok.0
    ∙ begun_ends _ _ _ _ _ _ _ (kept.begun told)
    (ap (λ (files : List ℕ → Option (List ℕ)). files c.args.name.now) kept.leaves.files) c.loop-bytes.bytes.ok.0
    (appends.appended told) (ap (λ (n : ℕ). min (size - n) 1024) c.len-in-loop-bytes.ensures) kept.within in
    record {
      begun =
          λ told. begun_step _ _ _ _ _ _ _ (kept.begun told)
          (ap (λ (files : List ℕ → Option (List ℕ)). files c.args.name.now) kept.leaves.files) c.loop-bytes.bytes.ok.0
          (appends.appended told);
      within = omega (arith, appends.count, appends.within, c.len-in-loop-bytes.ensures);
      whole = λ told. piece-whole at _ size below (ends told) (kept.whole told);
      reads = λ told.
          subst (λ (r : ℕ). r ≤ (g.S.Store.seen c.args.store.now).reads + pieces_of (vec_len c.append_block.new.bytes))
          (sym appends.reads)
          (piece-counted at _ size _ _ below (ends told) (kept.whole told) (kept.reads told));
      leaves = only_reads-then _ _ _ _ kept.leaves appends.leaves;
      commits = g.S.Store.commits_on [] [] _ _ _ kept.commits appends.commits;
    }
