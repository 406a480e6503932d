use Rattle.std.proofs.Common.{true}
use Rattle.run_steps.proofs.MeaningLemmas.{first_part, looks_same}
use Rattle.run_steps.proofs.PartLemmas.{part_of_end}
use Rattle.run_steps.proofs.laws.what_has_begun_is_a_first_part_of_every_end.Goals as goal

pub returns-clause-acts : goal.returns-clause-acts
returns-clause-acts c rooms steps old now new done hand acts refusal first begun ends =
    first_part rooms true true steps old old done hand acts now new refusal first (looks_same true true old) begun ends

pub returns-clause-seen : goal.returns-clause-seen
returns-clause-seen c rooms steps tells why old new to acts refusal first part ends =
    part_of_end rooms steps tells old new acts to refusal first part ends
