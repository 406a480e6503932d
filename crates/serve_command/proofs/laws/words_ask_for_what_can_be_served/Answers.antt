use Rattle.serve_command.proofs.WordLemmas.{asked_serves}
use Rattle.serve_command.proofs.laws.words_ask_for_what_can_be_served.Goals as goal

pub returns : goal.returns
returns c in_script words command is = asked_serves in_script words command is
