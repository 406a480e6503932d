-- What is shown of every command by its description.
use Rattle.std.specs.Prelude.{◌≡◌, ℕ, true, false, IsTrue, List, Some, Contains}
use Rattle.outside.specs.World.{World}
use Rattle.refusals.specs.declared.cause.Cause.{Cause}
use Rattle.refusals.specs.declared.cause.Cause.TheVariants.{Full, SourceFault, Usage}
use Rattle.refusals.specs.declared.reason.Refusal.{Refusal}
use Rattle.run_steps.specs.Act.{Act}
use Rattle.run_steps.specs.Done.{Outside}
use Rattle.run_steps.specs.Meaning.{EndsBy, IsSure}
use Rattle.run_steps.specs.OneCommand.{LooksFirstBy, ReadsToEnd}
use Rattle.run_steps.specs.Run.{Uses}
use Rattle.run_steps.specs.SameViews.{FileAsked, IsSameFile, IsThereAlike, LooksAlikeBy, Opens}
use Rattle.run_steps.specs.declared.invocation.Invocation.{Invocation}
use Rattle.descriptions.specs.Description.{Description, Looks}

-- the files that a command reads whole are the same in two worlds, and there is a file of the target's name in both or
-- in none
pub record ReadsAlike (looks : Looks) (one other : World) : Type 0 where
  pub names : IsSameFile one other looks.names
  pub input : IsSameFile one other looks.input
  pub target : IsThereAlike one other looks.target

-- a command that is refused since a file is full leaves what its description says
abbrev pub IsFullSo : Description → Invocation → Type 0
IsFullSo command invocation =
    (old : Outside) (acts : List Act) (new : Outside) (refusal : Refusal) (blocks limit : ℕ)
    → EndsBy (command.steps invocation) old acts new (Some refusal) → refusal.cause ≡ Full blocks limit
    → command.full invocation old new.files refusal blocks limit

-- a cause for which no command of these uses is refused: one of its words, unless it reads commands, since its own were
-- read; and a fault of the standard input, unless it uses that
abbrev pub IsBarred : Uses → Cause → Type 0
IsBarred uses (Usage kind word) = uses.reads_commands ≡ false
IsBarred uses SourceFault = uses.input ≡ false
IsBarred uses _ = ⊥

-- none of these causes is one of those
abbrev pub Spares : Uses → (Cause → List ℕ → Type 0) → Type 0
Spares uses may = (cause : Cause) (name : List ℕ) → IsBarred uses cause → may cause name → ⊥

-- A description is sound: its steps keep to what it says of them.
pub record IsSound (command : Description) : Type 0 where
  -- it looks at files before it changes one; one that reads edits, but for looks that find whether there is room for
  -- further ones
  pub looks_first : (invocation : Invocation)
      → LooksFirstBy command.uses.reads_edits true true (command.steps invocation)
  -- one that reads edits edits records
  pub rooms : IsTrue command.uses.reads_edits → IsTrue command.needs_room
  -- it reads the standard input to its end, where it uses it
  pub reads_to_end : (invocation : Invocation) → IsTrue command.uses.input → ReadsToEnd (command.steps invocation)
  -- it does the same in two worlds where the files are alike that it reads whole, as far as it does not open them
  pub sees_alike : (one other : World) (invocation : Invocation) → ReadsAlike command.looks one other
      → LooksAlikeBy command.needs_room one other (command.steps invocation)
  -- it opens no files but these
  pub opens : (invocation : Invocation) (old : Outside) (file : FileAsked) → Opens (command.steps invocation) old file
      → Contains command.looks.opens file
  -- where it is refused since a file is full, it leaves what it says
  pub full : (invocation : Invocation) → IsFullSo command invocation
  -- its conditions make no step of it refused
  pub sure : (invocation : Invocation) (old : Outside) → command.suffices invocation old
      → IsSure (command.steps invocation) old
  -- it is refused for none of these causes
  pub spares : Spares command.uses command.may
