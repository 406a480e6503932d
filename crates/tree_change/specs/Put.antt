-- An entry that is put in a data block.
use Rattle.std.specs.Prelude.{◌≡◌, ℕ, List, length, Some}
use Rattle.quota_types.specs.Bytes.{number_at}
use Rattle.quota_types.specs.KeptBytes.{KeepsOutside}
use Rattle.quota_types.specs.declared.file_kind.Format.{Format}
use Rattle.quota_types.specs.declared.record.Entry.{Entry}
use Rattle.tree_meaning.specs.Entries.{entry_bytes, entry_of, used_ids}
use Rattle.tree_meaning.specs.EntryPlaces.{KeepsOtherEntries}

-- An entry stands now at a place of a block, whatever stood there: all other entries are as before, the block states
-- how many it uses, and its links stay.
pub record PutsCounted (format : Format) (place : ℕ) (entry : Entry) (old new : List ℕ) : Type 0 where
  pub others : KeepsOtherEntries format place old new
  pub is : entry_of format (entry_bytes format new place) ≡ Some entry
  pub stated : number_at 2 new 8 ≡ length (used_ids format new)
  pub links : KeepsOutside 8 1024 old new

-- The same of an entry that is put over another one: all bytes before the entries stay.
pub record PutsOver (format : Format) (place : ℕ) (entry : Entry) (old new : List ℕ) : Type 0 where
  pub others : KeepsOtherEntries format place old new
  pub is : entry_of format (entry_bytes format new place) ≡ Some entry
  pub head : KeepsOutside 16 1024 old new
