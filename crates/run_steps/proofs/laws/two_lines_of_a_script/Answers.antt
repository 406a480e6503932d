use Rattle.run_steps.proofs.InARowLemmas.{lines_both, lines_stopped, lines_sure}
use Rattle.run_steps.proofs.laws.two_lines_of_a_script.Goals as goal

pub returns-clause-both : goal.returns-clause-both
returns-clause-both c one other line next old middle new first rest refusal ends others =
    lines_both one other line next old middle new first rest refusal ends others

pub returns-clause-stopped : goal.returns-clause-stopped
returns-clause-stopped c one other line next old new acts refusal ends =
    lines_stopped one other line next old new acts refusal ends

pub returns-clause-sure : goal.returns-clause-sure
returns-clause-sure c one other line next old sure later = lines_sure one other line next old sure later
