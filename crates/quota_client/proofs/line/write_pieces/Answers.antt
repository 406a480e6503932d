use Rattle.std.proofs.Common.{[]}
use Rattle.std.proofs.lemmas.Result.{err_from_is_err_and}
use Rattle.refusals.specs.Piece.{joined}
use Rattle.refusals.proofs.PieceLemmas.{gathered_start}
use Rattle.quota_client.proofs.LineLemmas.{flushed}
use Rattle.quota_client.proofs.line.write_pieces.Goals as goal

pub returns-in_err-put_pieces : goal.returns-in_err-put_pieces
returns-in_err-put_pieces g c =
    let p = err_from_is_err_and c.from_residual.result c.from_residual.ensures.1 in
    rw p.1 (record {
      part = λ told. c.in_err-put_pieces.ensures.fault told _ [] (gathered_start _ _ c.new-text.ensures);
      failed = c.in_err-put_pieces.ensures.cause;
      later = c.in_err-put_pieces.ensures.later;
    })

pub returns : goal.returns
returns g c =
    let O = g.O.Sink in
    flushed O.tells (joined c.args.pieces.now) (O.seen c.args.out.now) (O.seen c.put_pieces.new.sink)
    (O.seen c.flush.new.sink) c.put_pieces.new.text c.flush.result c.put_pieces.ensures.later
    (λ told. c.in_ok-put_pieces.ensures.ok told _ [] (gathered_start _ _ c.new-text.ensures)) c.flush.ensures.ok
    c.flush.ensures.fault c.flush.ensures.cause c.flush.ensures.later
