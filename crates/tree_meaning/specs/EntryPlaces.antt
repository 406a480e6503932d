-- What a change of one entry of a data block leaves of the block.
use Rattle.std.specs.Prelude.{◌≡◌, ◌≢◌, ℕ, ◌+◌, ◌*◌, ◌<◌, true, IsSome, List, ◌∷◌, ◌++◌, Some}
use Rattle.quota_types.specs.KeptBytes.{KeepsOutside}
use Rattle.quota_types.specs.Format.{record_size}
use Rattle.quota_types.specs.declared.file_kind.Format.{Format}
use Rattle.quota_types.specs.declared.record.Entry.{Entry}
use Rattle.entry_codec.specs.Entry.{entries_per_block, is_unused}
use Rattle.tree_meaning.specs.Entries.{entry_bytes, entry_of}
use Rattle.tree_meaning.specs.EntryRecords.{record_by}

-- every byte of a block outside of its entry at a place is as before
abbrev pub KeepsOutsideEntry : Format → ℕ → List ℕ → List ℕ → Type 0
KeepsOutsideEntry format place old new =
    KeepsOutside (16 + record_size format * place) (16 + record_size format * place + record_size format) old new

-- each entry of a block is as before
abbrev pub HasSameEntries : Format → List ℕ → List ℕ → Type 0
HasSameEntries format old new =
    (at : ℕ) → at < entries_per_block format → entry_bytes format new at ≡ entry_bytes format old at

-- each entry of a block but the one at a place is as before
pub record KeepsOtherEntries (format : Format) (place : ℕ) (old new : List ℕ) : Type 0 where
  pub low : place < entries_per_block format
  pub others : (at : ℕ) → at < entries_per_block format → at ≢ place
      → entry_bytes format new at ≡ entry_bytes format old at

-- an entry stands now at a place of a block that was unused, and all others are as before
pub record PutsEntry (format : Format) (place : ℕ) (entry : Entry) (old new : List ℕ) : Type 0 where
  pub others : KeepsOtherEntries format place old new
  pub was : is_unused (entry_bytes format old place) ≡ true
  pub is : entry_of format (entry_bytes format new place) ≡ Some entry

-- an entry stands now at a place of a block that its identifier used before, and all others are as before
pub record OverwritesEntry (format : Format) (place : ℕ) (entry : Entry) (old new : List ℕ) : Type 0 where
  pub others : KeepsOtherEntries format place old new
  pub was : IsSome (record_by format old entry.id place)
  pub is : entry_of format (entry_bytes format new place) ≡ Some entry

-- a place of a block that an identifier used before is unused now, and all others are as before
pub record ClearsEntry (format : Format) (place id : ℕ) (old new : List ℕ) : Type 0 where
  pub others : KeepsOtherEntries format place old new
  pub was : IsSome (record_by format old id place)
  pub is : is_unused (entry_bytes format new place) ≡ true

-- a list has one entry more than another one, at some place
pub record HasOneMore (entry : Entry) (old new : List Entry) : Type 0 where
  pub before : List Entry
  pub behind : List Entry
  pub was : old ≡ before ++ behind
  pub is : new ≡ before ++ entry ∷ behind
