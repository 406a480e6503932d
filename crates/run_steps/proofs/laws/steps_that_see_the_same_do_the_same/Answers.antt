use Rattle.run_steps.proofs.SameViewLemmas.{both_end_so, other_ends_so}
use Rattle.run_steps.proofs.laws.steps_that_see_the_same_do_the_same.Goals as goal

pub returns-clause-acts : goal.returns-clause-acts
returns-clause-acts c rooms steps one other new to acts more refusal stop first same ends also =
    both_end_so rooms steps one other new to acts more refusal stop first same ends also

pub returns-clause-other : goal.returns-clause-other
returns-clause-other c rooms steps one other new acts refusal first same ends =
    other_ends_so rooms steps one other new acts refusal first same ends
