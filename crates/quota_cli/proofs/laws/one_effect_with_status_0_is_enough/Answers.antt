use Rattle.quota_cli.proofs.AskedLemmas.{setting_looks_first}
use Rattle.quota_cli.proofs.EffectLemmas.{sure_of_effect}
use Rattle.quota_cli.proofs.laws.one_effect_with_status_0_is_enough.Goals as goal

pub returns : goal.returns
returns c typed old to acts one none effect =
    sure_of_effect typed old acts to (setting_looks_first typed one none) effect
