use Rattle.run_steps.proofs.MeaningLemmas.{ended_begun}
use Rattle.run_steps.proofs.laws.what_has_ended_has_begun.Goals as goal

pub returns : goal.returns
returns c steps old new acts refusal ends = ended_begun steps old acts new refusal ends
