-- Two worlds in which the steps of one command see the same: the files that they open are seen as the same values, or
-- are refused for the same causes, and from looks at the files as they are the same steps come.
use Rattle.std.specs.Prelude.{◌≡◌, ◌⊎◌, ℕ, Bool, false, IsTrue, List, ◌∷◌, Option, IfSome, is_some, Result, Ok, ⊤}
use Rattle.quota_types.specs.declared.file_kind.Kind.{Kind}
use Rattle.quota_value.specs.QuotaValue.{QuotaValue}
use Rattle.outside.specs.Seen.{Datagram}
use Rattle.outside.specs.World.{World}
use Rattle.opened_file.specs.declared.quota_file.OpenFault.{OpenFault}
use Rattle.quota_map.specs.Asked.{Asked}
use Rattle.quota_map.specs.View.{IsView, IsNoDamage}
use Rattle.refusals.specs.declared.reason.Refusal.{Refusal}
use Rattle.run_steps.specs.Act.{Act}
use Rattle.run_steps.specs.Done.{Outside}
use Rattle.run_steps.specs.Meaning.{EndsBy}
use Rattle.run_steps.specs.OneCommand.{AreSameSteps, IsFull, UnlessOneFull}
use Rattle.run_steps.specs.Steps.{Steps, Ending, Doing, Looking, Opening, Reading, Starting, Receiving, Before, InLine}

-- Two files, of which either may be absent, are seen alike by whoever opens them for a kind, in the format that is
-- asked for: as the same value, or as refused for the same cause, which is no damage.
pub record IsSeenAlike (kind : Kind) (asked : Asked) (one other : Option (List ℕ)) : Type 0 where
  pub view : Result QuotaValue OpenFault
  pub undamaged : IsNoDamage view
  pub in_one : IsView one kind asked view
  pub in_other : IsView other kind asked view

-- a quota file that is opened: its name, whose usage it limits, and the format that is asked for
pub record FileAsked : Type 0 where
  pub kind : Kind
  pub asked : Asked
  pub name : List ℕ

-- such a file is seen alike in two worlds
abbrev pub IsFileAlike : (one other : World) → FileAsked → Type 0
IsFileAlike one other file = IsSeenAlike file.kind file.asked (one file.name) (other file.name)

-- a file that is read whole, where its name is given, is the same in two worlds: it has the same bytes, or is in
-- neither
abbrev pub IsSameFile : (one other : World) → Option (List ℕ) → Type 0
IsSameFile one other named = IfSome named (λ (name : List ℕ). one name ≡ other name)

-- a file of a name, where one is given, is in both worlds or in neither
abbrev pub IsThereAlike : (one other : World) → Option (List ℕ) → Type 0
IsThereAlike one other named = IfSome named (λ (name : List ℕ). is_some (one name) ≡ is_some (other name))

-- Steps of one command come to open a file, from what is outside at their start: its opening is met behind the values
-- that are seen of the files before it, behind the input and behind the datagrams. The files are those at the start,
-- since steps of one command look first. Commands one after another are none.
abbrev pub Opens : Steps → Outside → FileAsked → Type 0
Opens (Ending stated) old file = ⊥
Opens (Doing act next) old file = Opens next old file
Opens (Looking next) old file = Opens (next old.files) old file
Opens (Opening kind asked name next) old file =
    (file ≡ record { kind = kind; asked = asked; name = name })
    ⊎ ((value : QuotaValue) × IsView (old.files name) kind asked (Ok value) × Opens (next value) old file)
Opens (Reading whole next) old file = Opens (next old.input) old file
Opens (Starting port next) old file = Opens next old file
Opens (Receiving next) old file =
    (datagram : Datagram) × (left : List Datagram) × (old.datagrams ≡ datagram ∷ left)
    × Opens (next datagram) (record old { datagrams = left }) file
Opens (Before first others) old file = ⊥
Opens (InLine line steps) old file = Opens steps old file

-- From each look of one command at the files as they are the same steps come in two worlds, except for lack of room
-- where they may rest on that, whatever is seen of files that are opened, of the input and of the datagrams. Commands
-- one after another are none.
abbrev pub LooksAlikeBy : (rooms : Bool) → (one other : World) → Steps → Type 0
LooksAlikeBy rooms one other (Ending stated) = ⊤
LooksAlikeBy rooms one other (Doing act next) = LooksAlikeBy rooms one other next
LooksAlikeBy rooms one other (Looking next) =
    AreSameSteps rooms (next one) (next other) × LooksAlikeBy rooms one other (next one)
LooksAlikeBy rooms one other (Opening kind asked name next) =
    (value : QuotaValue) → LooksAlikeBy rooms one other (next value)
LooksAlikeBy rooms one other (Reading whole next) = (bytes : List ℕ) → LooksAlikeBy rooms one other (next bytes)
LooksAlikeBy rooms one other (Starting port next) = LooksAlikeBy rooms one other next
LooksAlikeBy rooms one other (Receiving next) = (datagram : Datagram) → LooksAlikeBy rooms one other (next datagram)
LooksAlikeBy rooms one other (Before first others) = ⊥
LooksAlikeBy rooms one other (InLine line steps) = LooksAlikeBy rooms one other steps

-- from each look of one command the same steps come in two worlds
abbrev pub LooksAlike : (one other : World) → Steps → Type 0
LooksAlike = LooksAlikeBy false

-- Steps of one command meet the same outside, from the one and from the other: the same steps come from their looks at
-- the files, except for lack of room where they may rest on that; each file that they come to open is seen alike; and
-- the standard input and the datagrams are the same.
pub record MeetsSame (rooms : Bool) (steps : Steps) (one other : Outside) : Type 0 where
  pub looks : LooksAlikeBy rooms one.files other.files steps
  pub opened : (file : FileAsked) → Opens steps one file → IsFileAlike one.files other.files file
  pub input : other.input ≡ one.input
  pub datagrams : other.datagrams ≡ one.datagrams

-- Steps end so from here too, with these acts and this refusal; but where they may rest on room, they may end for lack
-- of it in the other place, or this refusal is one for lack of it.
abbrev pub EndsAlso : (rooms : Bool) → Steps → Outside → List Act → Option Refusal → Type 0
EndsAlso rooms steps here acts refusal =
    (IsTrue rooms × IsFull refusal)
    ⊎ ((more : List Act) × (to : Outside) × (stop : Option Refusal) × EndsBy steps here more to stop
    × UnlessOneFull rooms refusal stop ((acts ≡ more) × (refusal ≡ stop)))
