use Rattle.std.proofs.Common.{◌≡◌, ℕ, Bool, false, List, Ok, Result, sym, ap, subst, ◌∙◌}
use Rattle.refusals.specs.declared.reason.Refusal.{Refusal}
use Rattle.command_words.specs.Asked.{command_of}
use Rattle.command_words.specs.declared.command.Command.{Command}
use Rattle.run_steps.specs.Act.{Act}
use Rattle.run_steps.specs.Done.{Outside}
use Rattle.run_steps.specs.Meaning.{HasEffectOf}
use Rattle.run_steps.specs.OneCommand.{UnlessFull}
use Rattle.run_steps.specs.Steps.{Steps}
use Rattle.command_table.specs.Table.{asked_by, described}
use Rattle.command_table.specs.Views.{SameUnlessFull, edits_records}
use Rattle.command_table.proofs.LookLemmas.{effects_same, other_effect}
use Rattle.quota_cli.specs.Headline.{CommandLine, steps_asked}
use Rattle.quota_cli.specs.Script.{commanded, is_script, script_or}
use Rattle.quota_cli.proofs.laws.the_same_views_give_the_same_effects.Goals as goal

-- the steps of words that ask for one command are the command's
steps_of_one : (typed : CommandLine) (command : Command) → command_of false typed.words ≡ Ok command
    → is_script command ≡ false
    → (described command).steps typed.invocation ≡ steps_asked typed
steps_of_one typed command is one = sym (
    ap (λ (asks : Result Command Refusal). (asked_by commanded asks).steps typed.invocation) is
    ∙ ap (λ (script : Bool). (script_or script (described command)).steps typed.invocation) one)

pub returns-clause-acts : goal.returns-clause-acts
returns-clause-acts c typed command one other new to acts more status code is single alike =
    subst (λ (steps : Steps). (effect : HasEffectOf steps one acts new status)
    (also : HasEffectOf steps other more to code)
    → SameUnlessFull command effect.refusal also.refusal ((acts ≡ more) × (status ≡ code)))
    (steps_of_one typed command is single)
    (effects_same command typed.invocation one other new to acts more status code alike)

pub returns-clause-other : goal.returns-clause-other
returns-clause-other c typed command one other new acts status is single alike =
    subst (λ (steps : Steps). (effect : HasEffectOf steps one acts new status)
    → UnlessFull (edits_records command) effect.refusal
    ((more : List Act) × (to : Outside) × (code : ℕ) × (also : HasEffectOf steps other more to code)
    × SameUnlessFull command effect.refusal also.refusal ((acts ≡ more) × (status ≡ code))))
    (steps_of_one typed command is single) (other_effect command typed.invocation one other new acts status alike)
