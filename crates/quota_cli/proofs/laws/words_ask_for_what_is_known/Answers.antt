use Rattle.quota_cli.proofs.AskedLemmas.{setting_known}
use Rattle.quota_cli.proofs.laws.words_ask_for_what_is_known.Goals as goal

pub returns : goal.returns
returns c typed = setting_known typed
