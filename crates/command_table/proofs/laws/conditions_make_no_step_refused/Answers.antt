use Rattle.command_table.proofs.SoundLemmas.{sound}
use Rattle.command_table.proofs.laws.conditions_make_no_step_refused.Goals as goal

pub returns : goal.returns
returns c command invocation old can = (sound command).sure invocation old can
