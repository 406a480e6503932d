use Rattle.std.proofs.Common.{List, ℕ, Bor}
use Rattle.std.proofs.lemmas.Result.{err_from_is_err_and}
use Rattle.set_edit.proofs.FormLemmas.{pieces-prefix}
use Rattle.set_edit.proofs.form.write_pieces.Goals as goal

pub returns-in_err-put-clause-fault : goal.returns-in_err-put-clause-fault
returns-in_err-put-clause-fault g c =
    let p = err_from_is_err_and c.from_residual.result c.from_residual.ensures.1 in
    rw p.1 (λ told. let h = c.in_err-put.ensures.fault told _ _ (c.loop-piece.invariant.gathered told) in
    pieces-prefix (λ (piece : Bor (List ℕ)). piece.now) c.args.pieces.now c.loop-piece.piece-index _ _ _
    c.loop-piece-test.true h)
