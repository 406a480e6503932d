use Rattle.run_steps.proofs.MeaningLemmas.{begun_follow, ends_follow}
use Rattle.run_steps.proofs.laws.files_follow_the_acts.Goals as goal

pub returns-clause-ended : goal.returns-clause-ended
returns-clause-ended c steps old new acts refusal ends = ends_follow steps old acts new refusal ends

pub returns-clause-begun : goal.returns-clause-begun
returns-clause-begun c steps old now done hand begun = begun_follow steps old done hand now begun
