use Rattle.std.proofs.Common.{◌+◌, ◌≤◌, ℕ, [], length, IsTrue, sym, subst, ◌∙◌, arith}
use Rattle.opened_file.specs.Replace.{pieces_of}
use Rattle.outside.proofs.FrameLemmas.{changes_one-then}
use Rattle.opened_file.proofs.ReplaceLemmas.{piece-counted, piece-whole, with_bytes-piece}
use Rattle.outside.proofs.UnsyncedLemmas.{synced_on_ok, with_name-more}
use Rattle.opened_file.proofs.replacement.write_new.Goals as goal

pub loop-at-preserved : goal.loop-at-preserved
loop-at-preserved g c =
    let kept = c.loop-at.invariant in
    let wrote = c.in_ok-write.ensures in
    record {
      written = λ told. wrote.ok told
          ∙ with_bytes-piece _ _ c.args.name.now c.args.bytes.now c.loop-at.at c.min-end.result (omega arith)
          (omega arith) (kept.written told);
      unsynced = λ told. with_name-more _ _ _ _ (kept.unsynced told) (wrote.unsynced told);
      within = omega arith;
      whole =
          piece-whole c.loop-at.at c.min-end.result (length c.args.bytes.now) (omega arith) (omega arith) kept.whole;
      writes =
          subst (λ (w : ℕ). w ≤ (g.S.Store.seen c.args.store.now).writes + pieces_of c.min-end.result)
          (sym wrote.writes)
          (piece-counted c.loop-at.at c.min-end.result (length c.args.bytes.now) _ _ (omega arith) (omega arith)
          kept.whole kept.writes);
      leaves = changes_one-then _ _ _ _ kept.leaves wrote.leaves;
      commits = λ base new. g.S.Store.commits_on [] [] _ _ _ (kept.commits base new) wrote.commits;
    }

pub returns-clause-synced : goal.returns-clause-synced
returns-clause-synced g c =
    synced_on_ok c.sync.result (IsTrue g.S.Store.tells) _ _ _ _ c.loop-at.invariant.unsynced c.sync.ensures.unsynced
