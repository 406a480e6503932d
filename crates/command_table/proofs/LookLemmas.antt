-- That commands do the same in worlds that are alike for them.
use Rattle.std.proofs.Common.{◌≡◌, ℕ, List, ◌++◌, true, Option, inl, inr, refl, sym, ap, ◌∙◌}
use Rattle.refusals.specs.declared.reason.Refusal.{Refusal}
use Rattle.refusals.specs.Status.{end_status}
use Rattle.command_words.specs.declared.command.Command.{Command}
use Rattle.run_steps.specs.Act.{Act}
use Rattle.run_steps.specs.Done.{Outside}
use Rattle.run_steps.specs.Meaning.{HasEffectOf, closing}
use Rattle.run_steps.specs.OneCommand.{LooksFirstBy, UnlessFull}
use Rattle.run_steps.specs.SameViews.{EndsAlso, MeetsSame}
use Rattle.run_steps.specs.Steps.{Steps}
use Rattle.run_steps.specs.declared.invocation.Invocation.{Invocation}
use Rattle.run_steps.proofs.MeaningLemmas.{looks_wider}
use Rattle.run_steps.proofs.RoomLemmas.{unless_one_full}
use Rattle.run_steps.proofs.SameViewLemmas.{both_end_so, other_ends_so}
use Rattle.command_table.specs.Table.{described}
use Rattle.command_table.specs.Views.{AreAlike, SameUnlessFull, edits_records}
use Rattle.command_table.proofs.SoundLemmas.{sound}

-- one that edits no records looks for no room behind a change
looks_for_room : (command : Command) (invocation : Invocation)
    → LooksFirstBy (edits_records command) true true ((described command).steps invocation)
looks_for_room command invocation =
    looks_wider (described command).uses.reads_edits (edits_records command) true true
    ((described command).steps invocation) (sound command).rooms ((sound command).looks_first invocation)

meets_same : (command : Command) (invocation : Invocation) (one other : Outside) → AreAlike command invocation one other
    → MeetsSame (edits_records command) ((described command).steps invocation) one other
meets_same command invocation one other alike = record {
  looks = (sound command).sees_alike one.files other.files invocation
      (record { names = alike.names; input = alike.input_file; target = alike.target });
  opened = alike.opened;
  input = alike.input;
  datagrams = alike.datagrams;
}

-- acts and a status of the same ends
effect_same : (steps : Steps) (one other new to : Outside) (acts more : List Act) (status code : ℕ)
    (effect : HasEffectOf steps one acts new status) (also : HasEffectOf steps other more to code)
    → (effect.own ≡ also.own) × (effect.refusal ≡ also.refusal) → (acts ≡ more) × (status ≡ code)
effect_same steps one other new to acts more status code effect also same = (
  effect.acts_all ∙ ap (λ (a : List Act). a ++ closing effect.refusal) same.0
      ∙ ap (λ (r : Option Refusal). also.own ++ closing r) same.1 ∙ sym also.acts_all,
  effect.ended ∙ ap end_status same.1 ∙ sym also.ended,
)

-- so they are, unless there is not enough room for the one or the other
effects_unless : (command : Command) (invocation : Invocation) (one other new to : Outside) (acts more : List Act)
    (status code : ℕ)
    (effect : HasEffectOf ((described command).steps invocation) one acts new status)
    (also : HasEffectOf ((described command).steps invocation) other more to code)
    → SameUnlessFull command effect.refusal also.refusal ((effect.own ≡ also.own) × (effect.refusal ≡ also.refusal))
    → SameUnlessFull command effect.refusal also.refusal ((acts ≡ more) × (status ≡ code))
effects_unless command invocation one other new to acts more status code effect also same =
    unless_one_full (edits_records command) effect.refusal also.refusal effect.refusal also.refusal
    (λ full. full) (λ full. full)
    (λ (both : (effect.own ≡ also.own) × (effect.refusal ≡ also.refusal)).
    effect_same ((described command).steps invocation) one other new to acts more status code effect also both) same

pub effects_same : (command : Command) (invocation : Invocation) (one other new to : Outside) (acts more : List Act)
    (status code : ℕ) → AreAlike command invocation one other
    → (effect : HasEffectOf ((described command).steps invocation) one acts new status)
    → (also : HasEffectOf ((described command).steps invocation) other more to code)
    → SameUnlessFull command effect.refusal also.refusal ((acts ≡ more) × (status ≡ code))
effects_same command invocation one other new to acts more status code alike effect also =
    effects_unless command invocation one other new to acts more status code effect also
    (both_end_so (edits_records command) ((described command).steps invocation) one other new to effect.own also.own
    effect.refusal also.refusal (looks_for_room command invocation)
    (meets_same command invocation one other alike) effect.by_steps also.by_steps)

-- as its steps end in one of them, so they may end in the other
abbrev pub OtherEffect : (command : Command) (invocation : Invocation) (one other new : Outside) (acts : List Act)
    (status : ℕ) → HasEffectOf ((described command).steps invocation) one acts new status → Type 0
OtherEffect command invocation one other new acts status effect =
    UnlessFull (edits_records command) effect.refusal
    ((more : List Act) × (to : Outside) × (code : ℕ)
    × (also : HasEffectOf ((described command).steps invocation) other more to code)
    × SameUnlessFull command effect.refusal also.refusal ((acts ≡ more) × (status ≡ code)))

also_effect : (command : Command) (invocation : Invocation) (one other new : Outside) (acts : List Act) (status : ℕ)
    (effect : HasEffectOf ((described command).steps invocation) one acts new status)
    → EndsAlso (edits_records command) ((described command).steps invocation) other effect.own effect.refusal
    → OtherEffect command invocation one other new acts status effect
also_effect command invocation one other new acts status effect (inl full) = inr full
also_effect command invocation one other new acts status effect (inr (own, to, stop, ends, same)) =
    let also : HasEffectOf ((described command).steps invocation) other (own ++ closing stop) to (end_status stop) =
    record { own = own; refusal = stop; by_steps = ends; acts_all = refl; ended = refl } in
    inl (
      own ++ closing stop,
      to,
      end_status stop,
      also,
      effects_unless command invocation one other new to acts (own ++ closing stop) status (end_status stop)
          effect also same,
    )

pub other_effect : (command : Command) (invocation : Invocation) (one other new : Outside) (acts : List Act)
    (status : ℕ) → AreAlike command invocation one other
    → (effect : HasEffectOf ((described command).steps invocation) one acts new status)
    → OtherEffect command invocation one other new acts status effect
other_effect command invocation one other new acts status alike effect =
    also_effect command invocation one other new acts status effect
    (other_ends_so (edits_records command) ((described command).steps invocation) one other new effect.own
    effect.refusal (looks_for_room command invocation) (meets_same command invocation one other alike) effect.by_steps)
