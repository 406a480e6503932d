use Rattle.run_steps.proofs.PartLemmas.{part_of_end}
use Rattle.quota_cli.specs.Headline.{steps_asked, uses_asked}
use Rattle.quota_cli.proofs.EffectLemmas.{part_of_effect}
use Rattle.quota_cli.proofs.AskedLemmas.{setting_looks}
use Rattle.quota_cli.proofs.laws.a_run_does_a_first_part_of_every_effect.Goals as goal

pub returns-clause-steps : goal.returns-clause-steps
returns-clause-steps c typed tells why old new acts to refusal one part ends =
    part_of_end (uses_asked typed).reads_edits (steps_asked typed) tells old new acts to refusal
    (setting_looks typed one) part ends

pub returns-clause-effect : goal.returns-clause-effect
returns-clause-effect c typed tells why old new acts to status one part effect =
    part_of_effect (uses_asked typed).reads_edits typed tells old new acts to status
    (setting_looks typed one) part effect
