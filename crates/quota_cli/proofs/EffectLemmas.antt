-- What holds of every effect of words that ask for one command.
use Rattle.std.proofs.Common.{◌≡◌, ℕ, Bool, true, List, Option, None, Some, sym, subst}
use Rattle.refusals.specs.declared.cause.Cause.{Cause}
use Rattle.refusals.specs.declared.reason.Refusal.{Refusal}
use Rattle.refusals.specs.Status.{end_status, group_of}
use Rattle.refusals.proofs.GroupLemmas.{status_in-some}
use Rattle.run_steps.specs.Act.{Act}
use Rattle.run_steps.specs.Done.{Outside, RunSeen, RunTells, outside_of}
use Rattle.run_steps.specs.Carrying.{AreDoneInPart}
use Rattle.run_steps.specs.Meaning.{EndsBy, IsSure, closing}
use Rattle.run_steps.specs.OneCommand.{LooksFirst, LooksFirstBy, UnlessFull}
use Rattle.run_steps.specs.Run.{IsDoneInPart}
use Rattle.quota_cli.specs.Headline.{Effect, CommandLine, steps_asked}
use Rattle.run_steps.proofs.ActLemmas.{part_of_more}
use Rattle.run_steps.proofs.MeaningLemmas.{looks_same, passed_sure}
use Rattle.run_steps.proofs.PartLemmas.{part_of_end}
use Rattle.run_steps.proofs.RoomLemmas.{unless_full}

-- what was done in part is a first part of the acts of every effect, except for a refusal for lack of room
pub part_of_effect : {why : Option Cause} (rooms : Bool) (typed : CommandLine) (tells : RunTells) (old new : RunSeen)
    (acts : List Act) (to : Outside) (ended : ℕ) → LooksFirstBy rooms true true (steps_asked typed)
    → IsDoneInPart (steps_asked typed) tells why old new → (effect : Effect typed (outside_of old) acts to ended)
    → UnlessFull rooms effect.refusal (AreDoneInPart tells acts old new)
part_of_effect rooms typed tells old new acts to ended looks part effect =
    unless_full rooms effect.refusal effect.refusal (λ full. full)
    (λ (own : AreDoneInPart tells effect.own old new).
    subst (λ (a : List Act). AreDoneInPart tells a old new) (sym effect.acts_all)
    (part_of_more tells effect.own (closing effect.refusal) old new own))
    (part_of_end rooms (steps_asked typed) tells old new effect.own to effect.refusal looks part effect.by_steps)

sure_of_end : (typed : CommandLine) (old : Outside) (acts : List Act) (to : Outside) (refusal : Option Refusal)
    → LooksFirst true true (steps_asked typed) → EndsBy (steps_asked typed) old acts to refusal
    → end_status refusal ≡ 0 → IsSure (steps_asked typed) old
sure_of_end typed old acts to None looks ends zero =
    passed_sure true true (steps_asked typed) old old acts to looks (looks_same true true old) ends
sure_of_end typed old acts to (Some refusal) looks ends zero = absurd (status_in-some (group_of refusal.cause) zero)

-- where one effect has status 0 no step is refused
pub sure_of_effect : (typed : CommandLine) (old : Outside) (acts : List Act) (to : Outside)
    → LooksFirst true true (steps_asked typed) → Effect typed old acts to 0 → IsSure (steps_asked typed) old
sure_of_effect typed old acts to looks effect =
    sure_of_end typed old effect.own to effect.refusal looks effect.by_steps (sym effect.ended)
