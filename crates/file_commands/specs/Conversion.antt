-- `convertquota`. Source: the manual page of convertquota; that both files are named, that neither is in use, and that
-- no file is written over is this project's own.
use Rattle.std.specs.Prelude.{◌≡◌, ◌≢◌, ℕ, false, nat_lt, if◌then◌else◌, IfSome, List, Option, Some, None, Result, Ok}
use Rattle.std.specs.Prelude.{Err, ⊤, ◌≤◌, [], ◌∷◌}
use Rattle.std.specs.FinMap.{get}
use Rattle.std.specs.Str.{bytes_eq}
use Rattle.quota_types.specs.Kept.{IsKept}
use Rattle.quota_types.specs.Range.{grace_unfit}
use Rattle.quota_types.specs.declared.field.NoRoom.{NoRoom as NoRoomFor}
use Rattle.quota_types.specs.declared.file_kind.Format.{Format}
use Rattle.quota_types.specs.declared.file_kind.Kind.{Kind}
use Rattle.quota_value.specs.QuotaValue.{QuotaValue}
use Rattle.outside.specs.World.{World}
use Rattle.quota_map.specs.Asked.{InFormat}
use Rattle.quota_map.specs.View.{most_blocks, IsView}
use Rattle.convert.specs.Conversion.{converted}
use Rattle.convert.specs.declared.convert_fault.ConvertFault.TheVariants.{Replace}
use Rattle.refusals.specs.declared.cause.Cause.{Cause}
use Rattle.refusals.specs.declared.cause.Cause.TheVariants.{StoreFault, Memory, Full, NoRoom, TargetExists, SameName}
use Rattle.refusals.specs.Outcome.{Outcome, Passed, Refused, and_then}
use Rattle.refusals.specs.Refusals.{refusal_of}
use Rattle.run_steps.specs.Act.{Act, Replace}
use Rattle.run_steps.specs.Changing.{if_room, edit_uses}
use Rattle.quota_map.specs.Size.{blocks_of}
use Rattle.run_steps.specs.Opening.{MayRefuseOpening}
use Rattle.run_steps.specs.Steps.{DoingAll, Finish, Looking, Opening, Steps, Then}
use Rattle.run_steps.specs.declared.invocation.Invocation.{Invocation}
use Rattle.file_commands.specs.WritingRefused.{WritingMayRefuse}
use Rattle.outside.specs.Replacement.{replacement_name}
use Rattle.run_steps.specs.Done.{Outside}
use Rattle.descriptions.specs.Description.{Description, row}

-- The steps.

-- the step that the names are two
abbrev pub apart : (source target : List ℕ) → Outcome (Unit {0})
apart source target = if bytes_eq source target then Refused (refusal_of SameName source) else Passed tt

-- the step that there is no file of the new one's name
abbrev pub absent : (target : List ℕ) → Option (List ℕ) → Outcome (Unit {0})
absent target None = Passed tt
absent target (Some file) = Refused (refusal_of TargetExists target)

-- the steps before a file is opened: the names are two, and there is no file of the second one
abbrev pub targeted : (source target : List ℕ) → World → Outcome (Unit {0})
targeted source target files = and_then (apart source target) (λ (_ : Unit {0}). absent target (files target))

-- the names are looked at, and then come the next steps
abbrev pub Targeting : (source target : List ℕ) → Steps → Steps
Targeting source target next = Looking (λ (files : World). Then (targeted source target files) (λ (_ : Unit {0}). next))

-- A file of the new name stands for the converted value from then on, where it has room for it. A value for which the
-- new format has no room is said to be one of the file that is converted.
abbrev pub made : (source target : List ℕ) → Result QuotaValue NoRoomFor → Outcome (List Act)
made source target (Ok new) = if_room target (blocks_of new) (nat_lt most_blocks (blocks_of new)) (Replace target new)
made source target (Err out) = Refused (refusal_of (NoRoom out) source)

-- the new file is made
abbrev pub MakingSteps : (source target : List ℕ) → Result QuotaValue NoRoomFor → Steps
MakingSteps source target new = Then (made source target new) (λ (acts : List Act). DoingAll acts Finish)

-- the names are looked at, the file is opened, and one of its value in the other format is made
abbrev pub ConvertSteps : Kind → (old new : Format) → (source target : List ℕ) → Invocation → Steps
ConvertSteps kind old new source target invocation =
    Targeting source target
    (Opening kind (InFormat old) source (λ (value : QuotaValue).
    MakingSteps source target (converted new value)))

-- What is said.

-- a file of this kind and format may stand for the value: it has room for the grace periods and for each record, and
-- keeps it as it is
pub record MayStand (kind : Kind) (format : Format) (value : QuotaValue) : Type 0 where
  pub kind_is : value.kind ≡ kind
  pub format_is : value.format ≡ format
  pub grace : grace_unfit format value.grace ≡ None
  pub kept : (id : ℕ) → IfSome (get value.records id) (IsKept format id)

-- another format has no room for this, first of all of what a file of this kind and format may stand for
abbrev pub MayLack : Kind → (old new : Format) → NoRoomFor → Type 0
MayLack kind old new out = (value : QuotaValue) × MayStand kind old value × (converted new value ≡ Err out)

-- The causes for which a file may not be converted, whatever is told, with the name that is said: that of the new file
-- where there is one already, which is another than that of the file that is converted, or where it would need too many
-- blocks, and otherwise that of the file that is converted.
abbrev pub ConvertMayRefuse : Kind → (old new : Format) → (source target : List ℕ) → Cause → List ℕ → Type 0
ConvertMayRefuse kind old new source target StoreFault name = ⊤
ConvertMayRefuse kind old new source target Memory name = ⊤
ConvertMayRefuse kind old new source target SameName name = (source ≡ target) × (name ≡ source)
ConvertMayRefuse kind old new source target TargetExists name = (source ≢ target) × (name ≡ target)
ConvertMayRefuse kind old new source target (NoRoom out) name = MayLack kind old new out × (name ≡ source)
ConvertMayRefuse kind old new source target (Full blocks limit) name =
    WritingMayRefuse new target (Full blocks limit) name
ConvertMayRefuse kind old new source target cause name = MayRefuseOpening (InFormat old) source cause name

-- The description.

-- a conversion: the target is not the source and is not there, the source is accepted, and its value fits and has room
abbrev pub CanConvert : Kind → (before after : Format) → (source target : List ℕ) → Outside → Type 0
CanConvert kind before after source target old =
    (value : QuotaValue) × (new : QuotaValue) × (source ≢ target) × (old.files target ≡ None)
    × IsView (old.files source) kind (InFormat before) (Ok value) × (converted after value ≡ Ok new)
    × (blocks_of new ≤ most_blocks)

-- A file in another format. The file that is read is not the one that the new one is written under first: no words ask
-- for such a command, since no name of a file ends so.
abbrev pub converting : Kind → (old new : Format) → (source target : List ℕ) → Description
converting kind old new source target =
    record (row (ConvertSteps kind old new source target) (edit_uses false)
    (ConvertMayRefuse kind old new source target)) {
      replaces = Some target;
      anew = Some target;
      looks = record {
        opens = record { kind = kind; asked = InFormat old; name = source } ∷ [];
        names = None;
        input = None;
        target = Some target;
      };
      known = source ≢ replacement_name target;
      suffices = λ (invocation : Invocation). CanConvert kind old new source target;
    }
