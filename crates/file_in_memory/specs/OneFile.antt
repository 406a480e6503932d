-- What is seen of a store of one file in memory.
use Rattle.std.specs.Prelude.{ℕ, Bool, false, List, None, Some, vec_capacity}
use Rattle.std.specs.String.{string_bytes}
use Rattle.file_in_memory.specs.declared.one_file.OneFile.{OneFile}
use Rattle.outside.specs.Seen.{StoreSeen}
use Rattle.outside.specs.Unsynced.{UnsyncedNames, with_name}
use Rattle.outside.specs.World.{World, with_file}

-- a file of this name and these bytes, and no other one
abbrev pub only_file : (name bytes : List ℕ) → World
only_file name bytes = with_file (λ _. None) name (Some bytes)

-- this name may be unsynced, and no other one is
abbrev pub only_name : (name : List ℕ) → Bool → UnsyncedNames
only_name name is = with_name (λ _. false) name is

-- the name of its file
abbrev pub one_file_name : OneFile → List ℕ
one_file_name store = string_bytes store.name

-- how many bytes its file may have before it has to take more memory
abbrev pub one_file_room : OneFile → ℕ
one_file_room store = vec_capacity store.bytes

-- what is seen of it: the one file
abbrev pub one_file_seen : OneFile → StoreSeen
one_file_seen store = record {
  files = only_file (one_file_name store) store.bytes.items;
  unsynced = only_name (one_file_name store) store.unsynced;
  faults = store.faults;
  reads = store.reads;
  writes = store.writes;
}
