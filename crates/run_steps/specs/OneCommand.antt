-- Steps of single commands, as far as they are alike: that they may rest on room, that they look at files before they
-- change one, and that they read the input to its end.
use Rattle.std.specs.Prelude.{◌≡◌, ◌⊎◌, ℕ, Bool, true, false, ◌&&◌, IsTrue, List, [], ◌++◌, take, Option, Some, None, ⊤}
use Rattle.quota_value.specs.QuotaValue.{QuotaValue}
use Rattle.outside.specs.Seen.{Datagram}
use Rattle.outside.specs.World.{World}
use Rattle.refusals.specs.declared.cause.Cause.{Cause}
use Rattle.refusals.specs.declared.cause.Cause.TheVariants.{Full}
use Rattle.refusals.specs.declared.reason.Refusal.{Refusal}
use Rattle.run_steps.specs.Act.{Act, Change, Replace}
use Rattle.run_steps.specs.Steps.{Steps, Ending, Doing, Looking, Opening, Reading, Starting, Receiving, Before, InLine}

-- an act leaves the files
abbrev pub leaves_files : Act → Bool
leaves_files (Change way name value) = false
leaves_files (Replace name value) = false
leaves_files _ = true

-- Steps that rest on room.

-- a cause is lack of room in the blocks of a file
abbrev pub IsFullCause : Cause → Type 0
IsFullCause (Full blocks limit) = ⊤
IsFullCause _ = ⊥

-- such a refusal
abbrev pub IsFull : Option Refusal → Type 0
IsFull None = ⊥
IsFull (Some refusal) = IsFullCause refusal.cause

-- steps end at once with such a refusal
abbrev pub EndsFull : Steps → Type 0
EndsFull (Ending stated) = IsFull stated
EndsFull _ = ⊥

-- Steps are the same, or, where they may rest on room, the one or the other ends at once for lack of it.
abbrev pub AreSameSteps : (rooms : Bool) → (one other : Steps) → Type 0
AreSameSteps rooms one other = (one ≡ other) ⊎ (IsTrue rooms × (EndsFull one ⊎ EndsFull other))

-- a fact, or, where steps may rest on room, an end for lack of it
abbrev pub UnlessFull : (rooms : Bool) → Option Refusal → Type 0 → Type 0
UnlessFull rooms refusal fact = fact ⊎ (IsTrue rooms × IsFull refusal)

-- a fact of two ends, or, where steps may rest on room, the one or the other is an end for lack of it
abbrev pub UnlessOneFull : (rooms : Bool) → (one other : Option Refusal) → Type 0 → Type 0
UnlessOneFull rooms one other fact = fact ⊎ (IsTrue rooms × (IsFull one ⊎ IsFull other))

-- Steps that look first.

-- what comes of a look at the files is the same whatever files are seen, except for lack of room where steps may rest
-- on that
abbrev pub RestsOnNone : (rooms : Bool) → (World → Steps) → Type 0
RestsOnNone rooms next = (one other : World) → AreSameSteps rooms (next one) (next other)

-- No file is looked at once one was changed, but by looks of which the same comes whatever they see, and the standard
-- input is taken once at most: whether such a look may find too little room, whether a file may still be looked at, and
-- whether the input may still be taken. Such steps have the same acts whatever bytes are chosen for a changed file, as
-- far as room does not count, and commands after one another are none.
abbrev pub LooksFirstBy : (rooms looks takes : Bool) → Steps → Type 0
LooksFirstBy rooms looks takes (Ending stated) = ⊤
LooksFirstBy rooms looks takes (Doing act next) = LooksFirstBy rooms (looks && leaves_files act) takes next
LooksFirstBy rooms looks takes (Looking next) =
    (IsTrue looks ⊎ RestsOnNone rooms next) × ((files : World) → LooksFirstBy rooms looks takes (next files))
LooksFirstBy rooms looks takes (Opening kind asked name next) =
    IsTrue looks × ((value : QuotaValue) → LooksFirstBy rooms looks takes (next value))
LooksFirstBy rooms looks takes (Reading whole next) =
    IsTrue takes × ((bytes : List ℕ) → LooksFirstBy rooms looks false (next bytes))
LooksFirstBy rooms looks takes (Starting port next) = LooksFirstBy rooms looks takes next
LooksFirstBy rooms looks takes (Receiving next) = (datagram : Datagram) → LooksFirstBy rooms looks takes (next datagram)
LooksFirstBy rooms looks takes (Before one others) = ⊥
LooksFirstBy rooms looks takes (InLine line steps) = LooksFirstBy rooms looks takes steps

-- no file is looked at once one was changed, but by looks of which the same comes whatever they see
abbrev pub LooksFirst : (looks takes : Bool) → Steps → Type 0
LooksFirst = LooksFirstBy false

-- What is read and received.

-- Where these steps pass, the whole of the standard input was read.
abbrev pub ReadsToEnd : Steps → Type 0
ReadsToEnd (Ending None) = ⊥
ReadsToEnd (Ending (Some refusal)) = ⊤
ReadsToEnd (Doing act next) = ReadsToEnd next
ReadsToEnd (Looking next) = (files : World) → ReadsToEnd (next files)
ReadsToEnd (Opening kind asked name next) = (value : QuotaValue) → ReadsToEnd (next value)
ReadsToEnd (Reading whole next) = (bytes : List ℕ) → IsTrue (whole bytes) ⊎ ReadsToEnd (next bytes)
ReadsToEnd (Starting port next) = ReadsToEnd next
ReadsToEnd (Receiving next) = (datagram : Datagram) → ReadsToEnd (next datagram)
ReadsToEnd (Before one others) = ReadsToEnd one ⊎ ReadsToEnd others
ReadsToEnd (InLine line steps) = ReadsToEnd steps

-- acts that were done, and the one at hand, are the first of all acts
pub record IsFirstPart (done hand acts : List Act) : Type 0 where
  pub rest : List Act
  pub whole : acts ≡ done ++ rest
  pub next : (hand ≡ []) ⊎ (hand ≡ take 1 rest)
