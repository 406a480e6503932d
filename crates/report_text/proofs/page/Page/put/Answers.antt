use Rattle.std.proofs.Common.{refl}
use Rattle.std.proofs.lemmas.Result.{err_from_is_err_and, on_err_weaker}
use Rattle.outside.proofs.TextLemmas.{appends_at_write}
use Rattle.report_text.proofs.GatherLemmas.{writes_more}
use Rattle.report_text.proofs.page.Page.put.Goals as goal

pub returns-then-text-gt-CAPACITY-clause-fault : goal.returns-then-text-gt-CAPACITY-clause-fault
returns-then-text-gt-CAPACITY-clause-fault g c =
    on_err_weaker c.write.result
    (λ fault told start before gathered.
    appends_at_write start before _ _ _ _ _ gathered (c.in_ok-flush.ensures.ok told)
    (fault told))
    c.write.ensures.fault

pub returns-in_err-make_room-clause-fault : goal.returns-in_err-make_room-clause-fault
returns-in_err-make_room-clause-fault g c =
    let p = err_from_is_err_and c.from_residual-in_err-make_room.result c.from_residual-in_err-make_room.ensures.1 in
    rw p.1 (writes_more _ _ _ _ _ _ _ c.in_err-make_room.ensures.fault refl)
