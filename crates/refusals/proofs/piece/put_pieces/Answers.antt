use Rattle.std.proofs.Common.{arith}
use Rattle.std.proofs.lemmas.Result.{err_from_is_err_and}
use Rattle.refusals.proofs.PieceLemmas.{gathered_more, gathered_all, gathered_none, prefix_more}
use Rattle.refusals.proofs.piece.put_pieces.Goals as goal

pub loop-piece-init : goal.loop-piece-init
loop-piece-init g c =
    record { gathered = λ told start before gathered. gathered_none _ _ _ _ gathered; later = omega arith }

pub loop-piece-preserved : goal.loop-piece-preserved
loop-piece-preserved g c =
    let kept = c.loop-piece.invariant in
    record {
      gathered =
          λ told start before gathered.
          gathered_more start before _ _ c.args.pieces.now c.loop-piece.piece-index _ c.loop-piece-test.true
          (c.in_ok-put_piece.ensures.ok told start _ (kept.gathered told start before gathered));
      later = omega (arith, c.in_ok-put_piece.ensures.later, kept.later);
    }

pub returns-in_err-put_piece-clause-fault : goal.returns-in_err-put_piece-clause-fault
returns-in_err-put_piece-clause-fault g c =
    let p = err_from_is_err_and c.from_residual.result c.from_residual.ensures.1 in
    let kept = c.loop-piece.invariant in
    rw p.1 (λ told start before gathered.
    prefix_more start before _ c.args.pieces.now c.loop-piece.piece-index _ c.loop-piece-test.true
    (c.in_err-put_piece.ensures.fault told start _ (kept.gathered told start before gathered)))

pub returns-clause-ok : goal.returns-clause-ok
returns-clause-ok g c = λ told start before gathered.
    gathered_all start before _ _ c.args.pieces.now c.loop-piece.piece-index (omega arith)
    (c.loop-piece.invariant.gathered told start before gathered)
