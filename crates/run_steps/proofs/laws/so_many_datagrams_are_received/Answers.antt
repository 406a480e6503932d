use Rattle.run_steps.proofs.TakenLemmas.{received}
use Rattle.run_steps.proofs.laws.so_many_datagrams_are_received.Goals as goal

pub returns : goal.returns
returns c count steps old new acts receives ends = received count steps old acts new receives ends
