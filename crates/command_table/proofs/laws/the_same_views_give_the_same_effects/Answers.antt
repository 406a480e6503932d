use Rattle.command_table.proofs.LookLemmas.{effects_same, other_effect}
use Rattle.command_table.proofs.SoundLemmas.{sound}
use Rattle.command_table.proofs.laws.the_same_views_give_the_same_effects.Goals as goal

pub returns-clause-acts : goal.returns-clause-acts
returns-clause-acts c command invocation one other new to acts more status code alike effect also =
    effects_same command invocation one other new to acts more status code alike effect also

pub returns-clause-other : goal.returns-clause-other
returns-clause-other c command invocation one other new acts status alike effect =
    other_effect command invocation one other new acts status alike effect

pub returns-clause-opens : goal.returns-clause-opens
returns-clause-opens c command invocation old file opens = (sound command).opens invocation old file opens
