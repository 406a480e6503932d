use Rattle.std.proofs.Common.{[]}
use Rattle.std.specs.Prelude.{codes}
use Rattle.refusals.specs.Line.{front_of}
use Rattle.refusals.specs.Piece.{joined}
use Rattle.std.proofs.lemmas.Result.{err_from_is_err_and, on_ok_weaker, on_err_weaker}
use Rattle.outside.proofs.TextLemmas.{appends_more}
use Rattle.refusals.proofs.PieceLemmas.{gathered_flushed, gathered_start, prefix_flushed}
use Rattle.refusals.proofs.piece.write_line.Goals as goal

pub returns-in_err-put-clause-fault : goal.returns-in_err-put-clause-fault
returns-in_err-put-clause-fault g c =
    let p = err_from_is_err_and c.from_residual.result c.from_residual.ensures.1 in
    rw p.1 (λ told. appends_more _ _ _ (codes "\n")
    (appends_more _ _ _ (joined c.args.pieces.now) (appends_more _ _ _ (front_of c.args.place)
    (c.in_err-put.ensures.fault told _ [] (gathered_start _ _ c.new-text.ensures)))))

pub returns-in_err-put_place-clause-fault : goal.returns-in_err-put_place-clause-fault
returns-in_err-put_place-clause-fault g c =
    let p = err_from_is_err_and c.from_residual-in_err-put_place.result c.from_residual-in_err-put_place.ensures.1 in
    rw p.1 (λ told. appends_more _ _ _ (codes "\n")
    (appends_more _ _ _ (joined c.args.pieces.now) (c.in_err-put_place.ensures.fault told _ _
    (c.in_ok-put.ensures.ok told _ [] (gathered_start _ _ c.new-text.ensures)))))

pub returns-in_err-put_pieces-clause-fault : goal.returns-in_err-put_pieces-clause-fault
returns-in_err-put_pieces-clause-fault g c =
    let p = err_from_is_err_and c.from_residual-in_err-put_pieces.result c.from_residual-in_err-put_pieces.ensures.1 in
    rw p.1 (λ told. appends_more _ _ _ _ (c.in_err-put_pieces.ensures.fault told _ _
    (c.in_ok-put_place.ensures.ok told _ _ (c.in_ok-put.ensures.ok told _ [] (gathered_start _ _ c.new-text.ensures)))))

pub returns-in_err-put-2-clause-fault : goal.returns-in_err-put-2-clause-fault
returns-in_err-put-2-clause-fault g c =
    let p = err_from_is_err_and c.from_residual-in_err-put-2.result c.from_residual-in_err-put-2.ensures.1 in
    rw p.1 (λ told. c.in_err-put-2.ensures.fault told _ _ (c.in_ok-put_pieces.ensures.ok told _ _
    (c.in_ok-put_place.ensures.ok told _ _ (c.in_ok-put.ensures.ok told _ [] (gathered_start _ _ c.new-text.ensures)))))

pub returns-clause-ok : goal.returns-clause-ok
returns-clause-ok g c =
    on_ok_weaker c.flush.result
    (λ written told. gathered_flushed _ _ _ _ _
    (c.in_ok-put-2.ensures.ok told _ _ (c.in_ok-put_pieces.ensures.ok told _ _ (c.in_ok-put_place.ensures.ok told _ _
    (c.in_ok-put.ensures.ok told _ [] (gathered_start _ _ c.new-text.ensures)))))
    (written told))
    c.flush.ensures.ok

pub returns-clause-fault : goal.returns-clause-fault
returns-clause-fault g c =
    on_err_weaker c.flush.result
    (λ written told. prefix_flushed _ _ _ _ _
    (c.in_ok-put-2.ensures.ok told _ _ (c.in_ok-put_pieces.ensures.ok told _ _ (c.in_ok-put_place.ensures.ok told _ _
    (c.in_ok-put.ensures.ok told _ [] (gathered_start _ _ c.new-text.ensures)))))
    (written told))
    c.flush.ensures.fault
