-- What is told of files in memory with a record of the calls that made them.
use Rattle.std.specs.Prelude.{ℕ, List, length, reverse}
use Rattle.outside.specs.Unsynced.{UnsyncedNames}
use Rattle.outside.specs.World.{World}
use Rattle.memory_objects.specs.MemStore.{file_named}
use Rattle.memory_objects.specs.NameSet.{names_in}
use Rattle.disk_in_memory.specs.Calls.{LeftAfter, LeftSince}
use Rattle.disk.specs.DiskSeen.{DiskSeen}
use Rattle.disk_in_memory.specs.Recorded.{first_named}
use Rattle.disk_in_memory.specs.Unsynced.{unsynced_after}
use Rattle.disk_in_memory.specs.declared.disk_call.DiskCall.{DiskCall}
use Rattle.disk_in_memory.specs.declared.recorded.RecordedFiles.{RecordedFiles}

-- the first files of a record
abbrev pub first_of : RecordedFiles → World
first_of recorded = first_named recorded.first recorded.files.entries.items

-- the calls of a record, the newest first
abbrev pub calls_of : RecordedFiles → List DiskCall
calls_of recorded = reverse recorded.calls.items

-- the files of a record as they are read
abbrev pub present_of : RecordedFiles → World
present_of recorded = file_named recorded.files.entries.items

-- the unsynced names of a record
abbrev pub names_of : RecordedFiles → UnsyncedNames
names_of recorded = names_in recorded.unsynced.names.items

-- the names that the calls of a record leave unsynced
abbrev pub left_unsynced : RecordedFiles → UnsyncedNames
left_unsynced recorded = unsynced_after (first_of recorded) (calls_of recorded)

-- what is told of a disk of these first files, calls on them, present files, unsynced names and faults
abbrev pub told : World → List DiskCall → World → UnsyncedNames → ℕ → DiskSeen
told first calls present names failed = record {
  files = present;
  images = LeftAfter first calls;
  moment = length calls;
  since = LeftSince first calls;
  unsynced = names;
  faults = failed;
}

-- what is told of a record with these unsynced names, after this many faults
abbrev pub told_with : RecordedFiles → UnsyncedNames → ℕ → DiskSeen
told_with recorded names failed = told (first_of recorded) (calls_of recorded) (present_of recorded) names failed

-- what is told of a record after this many faults
abbrev pub told_of : RecordedFiles → ℕ → DiskSeen
told_of recorded failed = told_with recorded (names_of recorded) failed
