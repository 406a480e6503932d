use Rattle.quota_cli.proofs.AskedLemmas.{setting_sure}
use Rattle.quota_cli.proofs.laws.conditions_of_words_make_no_step_refused.Goals as goal

pub returns : goal.returns
returns c typed old can = setting_sure typed old can
