use Rattle.run_steps.proofs.TakenLemmas.{to_end}
use Rattle.run_steps.proofs.laws.an_input_is_read_to_its_end.Goals as goal

pub returns : goal.returns
returns c steps old new acts reads ends = to_end steps old acts new reads ends
