use Rattle.std.proofs.lemmas.Result.{err_from_is_err_and}
use Rattle.outside.proofs.TextLemmas.{appends_at_flush}
use Rattle.report_text.proofs.page.Page.make_room.Goals as goal

pub returns-in_err-flush-clause-fault : goal.returns-in_err-flush-clause-fault
returns-in_err-flush-clause-fault g c =
    let p = err_from_is_err_and c.from_residual.result c.from_residual.ensures.1 in
    rw p.1
    (λ told start before gathered. appends_at_flush start before _ _ _ _ gathered (c.in_err-flush.ensures.fault told))
