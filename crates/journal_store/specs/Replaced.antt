-- What a stop of the machine leaves of a file in whose place another one comes.
use Rattle.std.specs.Prelude.{◌≢◌, ℕ, List, [], unwrap_or}
use Rattle.outside.specs.World.{World}
use Rattle.disk.specs.DiskSeen.{DiskSeen, EachImage}
use Rattle.disk.specs.DiskCalls.{IsRenamed, MayBeRenamed}
use Rattle.quota_types.specs.Bytes.{byte_at}
use Rattle.edit_journal.specs.Recovered.{RecoversSame}
use Rattle.edit_journal.specs.UndoName.{und_name, undo_name}

-- the gate of the undo file of a name is closed in each image, so that a recovery leaves its file as it is
abbrev pub HasClosedGate : List ℕ → DiskSeen → Type 0
HasClosedGate name disk = EachImage (λ image. byte_at (unwrap_or (image (undo_name name)) []) 0 ≢ 1) disk

-- a recovery makes of one file what it made of it before, and then another one gets its name, or does not
abbrev pub MayReplaceRecovered : (from to : List ℕ) → World → World → Type 0
MayReplaceRecovered from to old new =
    (between : World) × RecoversSame to (undo_name to) (und_name to) old between × MayBeRenamed from to between new

-- a recovery makes of one file what it made of it before, and then another one gets its name
abbrev pub ReplacesRecovered : (from to : List ℕ) → World → World → Type 0
ReplacesRecovered from to old new =
    (between : World) × RecoversSame to (undo_name to) (und_name to) old between × IsRenamed from to between new
