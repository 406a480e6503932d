use Rattle.command_words.specs.Asked.{command_of}
use Rattle.command_table.specs.Table.{described}
use Rattle.command_table.proofs.AskedLemmas.{asked_known, read_known}
use Rattle.command_table.proofs.laws.words_ask_for_what_is_known.Goals as goal

pub returns : goal.returns
returns c in_script words = asked_known described (command_of in_script words) (read_known in_script words)
