use Rattle.std.proofs.Common.{true}
use Rattle.run_steps.proofs.MeaningLemmas.{looks_same, passed_sure, sure_ends, unrefused_sure}
use Rattle.run_steps.proofs.laws.steps_are_sure_where_no_end_has_a_refusal.Goals as goal

pub returns-clause-sure : goal.returns-clause-sure
returns-clause-sure c steps old never = unrefused_sure steps old never

pub returns-clause-passes : goal.returns-clause-passes
returns-clause-passes c steps old new acts refusal sure ends = sure_ends steps old acts new refusal sure ends

pub returns-clause-one : goal.returns-clause-one
returns-clause-one c steps old new acts first ends =
    passed_sure true true steps old old acts new first (looks_same true true old) ends
