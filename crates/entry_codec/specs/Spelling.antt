-- Which bytes spell an entry, and which numbers a header.
use Rattle.std.specs.Prelude.{◌≡◌, ℕ, ◌<◌, false, List, length, Some}
use Rattle.quota_types.specs.Bytes.{byte_at, number_at}
use Rattle.quota_types.specs.Format.{record_size}
use Rattle.quota_types.specs.Kept.{without_marker}
use Rattle.byte_order.specs.declared.order.Order.{Order}
use Rattle.byte_order.specs.declared.order.Order.TheVariants.{Little}
use Rattle.quota_types.specs.declared.file_kind.Format.{Format}
use Rattle.quota_types.specs.declared.file_kind.Format.TheVariants.{V1, V1R32, V2R0, V2R1}
use Rattle.quota_types.specs.declared.record.Rec.{Rec}
use Rattle.entry_codec.specs.Entry.{is_unused, stored_id_in, stored_v2r0_in, stored_v2r1_in}
use Rattle.entry_codec.specs.declared.header.Header.{Header}
use Rattle.entry_codec.specs.Header.{HeaderNumbers, magic_of, format_of}

-- the bytes between the identifier and the record, which have any value
abbrev pub padding_of : Format → List ℕ → ℕ
padding_of V1 bytes = 0
padding_of V1R32 bytes = 0
padding_of V2R0 bytes = 0
padding_of V2R1 bytes = number_at 4 bytes 4

-- An entry with this stored identifier and record is used, by this identifier and this record. The record is the stored
-- one, but that the marker of identifier 0, an itime of 1 and otherwise zeros, is its record of zeros.
pub record IsUsedBy (bytes : List ℕ) (stored_id : ℕ) (stored : Rec) (id : ℕ) (rec : Rec) : Type 0 where
  pub used : is_unused bytes ≡ false
  pub id_is : id ≡ stored_id
  pub rec_is : rec ≡ without_marker stored_id stored

-- the bytes of an entry of a file that is read in an order are used by this identifier with this record
abbrev pub IsEntryIn : Order → Format → List ℕ → ℕ → Rec → Type 0
IsEntryIn order V1 bytes id rec = ⊥
IsEntryIn order V1R32 bytes id rec = ⊥
IsEntryIn order V2R0 bytes id rec = IsUsedBy bytes (stored_id_in order bytes) (stored_v2r0_in order bytes) id rec
IsEntryIn order V2R1 bytes id rec = IsUsedBy bytes (stored_id_in order bytes) (stored_v2r1_in order bytes) id rec

-- the same of a little-endian file
abbrev pub IsEntry : Format → List ℕ → ℕ → Rec → Type 0
IsEntry format bytes id rec = IsEntryIn Little format bytes id rec

-- each number of the list is that of a byte
abbrev pub AreBytes : List ℕ → Type 0
AreBytes bytes = (at : ℕ) → byte_at bytes at < 256

-- the bytes are a whole entry of this identifier and record, and its padding is 0
pub record IsSpelling (format : Format) (bytes : List ℕ) (id : ℕ) (rec : Rec) : Type 0 where
  pub are_bytes : AreBytes bytes
  pub size : length bytes ≡ record_size format
  pub entry : IsEntry format bytes id rec
  pub padding : padding_of format bytes ≡ 0

-- the numbers are those of this header
pub record AreOf (header : Header) (numbers : HeaderNumbers) : Type 0 where
  pub magic : numbers.magic ≡ magic_of header.kind
  pub version : format_of numbers.version ≡ Some header.format
  pub block_grace : numbers.block_grace ≡ header.grace.block
  pub inode_grace : numbers.inode_grace ≡ header.grace.inode
  pub flags : numbers.flags ≡ header.flags
  pub blocks : numbers.blocks ≡ header.blocks
  pub free : numbers.free ≡ header.free
  pub first : numbers.first ≡ header.first
