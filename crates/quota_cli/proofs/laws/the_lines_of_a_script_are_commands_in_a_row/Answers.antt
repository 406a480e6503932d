use Rattle.quota_cli.proofs.RowLemmas.{lines_in_a_row}
use Rattle.quota_cli.proofs.laws.the_lines_of_a_script_are_commands_in_a_row.Goals as goal

pub returns : goal.returns
returns c now lines = lines_in_a_row now lines
