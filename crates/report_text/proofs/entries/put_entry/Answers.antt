use Rattle.std.proofs.Common.{refl, arith}
use Rattle.std.proofs.lemmas.Result.{err_from_is_err_and}
use Rattle.report_text.proofs.GatherLemmas.{gathers_push, writes_more}
use Rattle.report_text.proofs.entries.put_entry.Goals as goal

pub returns-in_err-make_room-clause-fault : goal.returns-in_err-make_room-clause-fault
returns-in_err-make_room-clause-fault g c =
    let p = err_from_is_err_and c.from_residual.result c.from_residual.ensures.1 in
    rw p.1 (writes_more _ _ _ _ _ _ _ c.in_err-make_room.ensures.fault refl)

pub returns-clause-ok : goal.returns-clause-ok
returns-clause-ok g c = gathers_push _ _ _ _ _ _ _ c.in_ok-make_room.ensures.ok (grind arith)
