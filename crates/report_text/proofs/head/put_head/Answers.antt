use Rattle.std.proofs.Common.{◌++◌, refl, append_assoc, arith}
use Rattle.std.proofs.lemmas.Result.{err_from_is_err_and}
use Rattle.report_text.specs.Report.{grace_line, heading_line, hyphen_line, head_of}
use Rattle.report_text.proofs.GatherLemmas.{gathers_push, gathers_then, writes_more, writes_then}
use Rattle.report_text.proofs.head.put_head.Goals as goal

pub returns-in_err-put_title-clause-fault : goal.returns-in_err-put_title-clause-fault
unfolding head_of
returns-in_err-put_title-clause-fault g c =
    let p = err_from_is_err_and c.from_residual.result c.from_residual.ensures.1 in
    rw p.1 (writes_more _ _ _ _ _ (grace_line c.args.grace ++ heading_line c.args.kind ++ hyphen_line) _
    c.in_err-put_title.ensures.fault (grind (arith, append_assoc)))

pub returns-in_err-make_room-clause-fault : goal.returns-in_err-make_room-clause-fault
unfolding head_of
returns-in_err-make_room-clause-fault g c =
    let p = err_from_is_err_and c.from_residual-in_err-make_room.result c.from_residual-in_err-make_room.ensures.1 in
    rw p.1 (writes_then _ _ _ _ _ _ _ (grace_line c.args.grace ++ heading_line c.args.kind ++ hyphen_line) _
    c.in_ok-put_title.ensures.ok
    (writes_more _ _ _ _ _ _ _ c.in_err-make_room.ensures.fault refl) (grind (arith, append_assoc)))

pub returns-clause-ok : goal.returns-clause-ok
unfolding head_of
returns-clause-ok g c =
    gathers_then _ _ _ _ _ _ _ _ _ _ c.in_ok-put_title.ensures.ok
    (gathers_push _ _ _ _ _ _ _ c.in_ok-make_room.ensures.ok c.push_below.ensures) (grind (arith, append_assoc))
