use Rattle.command_table.proofs.AskedLemmas.{spares_input, uses_no_input}
use Rattle.command_table.proofs.laws.words_in_a_script_use_no_input.Goals as goal

pub returns-clause-uses : goal.returns-clause-uses
returns-clause-uses c words = uses_no_input words

pub returns-clause-may : goal.returns-clause-may
returns-clause-may c words name may = spares_input words name may
