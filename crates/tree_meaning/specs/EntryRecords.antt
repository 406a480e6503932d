-- The record that an entry of a data block has for an identifier.
use Rattle.std.specs.Prelude.{◌≡◌, ℕ, ◌<◌, ◌==◌, if◌then◌else◌, List, Option, Some, None}
use Rattle.std.specs.Option.{option_and_then}
use Rattle.quota_types.specs.declared.file_kind.Format.{Format}
use Rattle.quota_types.specs.declared.record.Entry.{Entry}
use Rattle.quota_types.specs.declared.record.Rec.{Rec}
use Rattle.entry_codec.specs.Entry.{entries_per_block}
use Rattle.tree_meaning.specs.Entries.{entry_bytes, entry_of}

-- the record of an entry that an identifier uses, or none
abbrev pub used_by : ℕ → Entry → Option Rec
used_by id entry = if entry.id == id then Some entry.rec else None

-- the record of a block's entry at a place, where this identifier uses it
abbrev pub record_by : Format → List ℕ → ℕ → ℕ → Option Rec
record_by format block id place = option_and_then (used_by id) (entry_of format (entry_bytes format block place))

-- a record is that of some entry of a block, which this identifier uses
pub record IsRecordIn (format : Format) (block : List ℕ) (id : ℕ) (rec : Rec) : Type 0 where
  pub place : ℕ
  pub low : place < entries_per_block format
  pub is : record_by format block id place ≡ Some rec
