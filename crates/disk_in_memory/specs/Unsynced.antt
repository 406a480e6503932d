-- Which names the calls on a disk in memory leave unsynced.
use Rattle.std.specs.Prelude.{Bool, true, false, List, [], ◌∷◌, ℕ, is_some, if◌then◌else◌}
use Rattle.std.specs.String.{string_bytes}
use Rattle.outside.specs.Unsynced.{UnsyncedNames, with_handed, with_name}
use Rattle.outside.specs.World.{World}
use Rattle.disk_in_memory.specs.Calls.{read_after}
use Rattle.disk_in_memory.specs.declared.disk_call.DiskCall.{DiskCall}
use Rattle.disk_in_memory.specs.declared.disk_call.DiskCall.TheVariants.{Write, Create, Cut, Sync, Rename}

-- the names once a file of one name was given another one, where there was such a file
abbrev pub handed_where : Bool → UnsyncedNames → (from to : List ℕ) → UnsyncedNames
handed_where there names from to = if there then with_handed names from to else names

-- the unsynced names once a call was done where these files were read
abbrev pub unsynced_by : DiskCall → World → UnsyncedNames → UnsyncedNames
unsynced_by (Write writing) read names = with_name names (string_bytes writing.name) true
unsynced_by (Create name) read names = with_name names (string_bytes name) true
unsynced_by (Cut name len) read names = with_name names (string_bytes name) true
unsynced_by (Sync name) read names = with_name names (string_bytes name) false
unsynced_by (Rename renaming) read names =
    handed_where (is_some (read (string_bytes renaming.from))) names (string_bytes renaming.from)
    (string_bytes renaming.to)

-- the names that are unsynced after calls, of which the newest stands first, on the first files
abbrev pub unsynced_after : World → List DiskCall → UnsyncedNames
unsynced_after first [] = λ name. false
unsynced_after first (call ∷ earlier) = unsynced_by call (read_after first earlier) (unsynced_after first earlier)
