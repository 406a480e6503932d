-- The entries of a tree file, each of as many bytes as a record of the format has. Source: `struct v2r0_disk_dqblk` and
-- `struct v2r1_disk_dqblk` of the quota tools.
use Rattle.std.specs.Prelude.{ℕ, Bool, ◌==◌, List}
use Rattle.std.specs.List.{list_all}
use Rattle.byte_order.specs.declared.order.Order.{Order}
use Rattle.byte_order.specs.declared.order.Order.TheVariants.{Little}
use Rattle.byte_order.specs.Number.{number_in}
use Rattle.quota_types.specs.declared.file_kind.Format.{Format}
use Rattle.quota_types.specs.declared.file_kind.Format.TheVariants.{V1, V1R32, V2R0, V2R1}
use Rattle.quota_types.specs.declared.record.Rec.{Rec}

-- the entries of a data block, which fill it behind its first 16 bytes
abbrev pub entries_per_block : Format → ℕ
entries_per_block V1 = 0
entries_per_block V1R32 = 0
entries_per_block V2R0 = 21
entries_per_block V2R1 = 14

-- all bytes of an entry are 0
abbrev pub is_unused : List ℕ → Bool
is_unused bytes = list_all (λ byte. byte == 0) bytes

-- the identifier of an entry of a file that is read in an order, as it is stored in both formats
abbrev pub stored_id_in : Order → List ℕ → ℕ
stored_id_in order bytes = number_in order 4 bytes 0

-- the record of an entry of vfsv0 that is read in an order, as it is stored
abbrev pub stored_v2r0_in : Order → List ℕ → Rec
stored_v2r0_in order bytes = record {
  ihard = number_in order 4 bytes 4;
  isoft = number_in order 4 bytes 8;
  inodes = number_in order 4 bytes 12;
  bhard = number_in order 4 bytes 16;
  bsoft = number_in order 4 bytes 20;
  space = number_in order 8 bytes 24;
  btime = number_in order 8 bytes 32;
  itime = number_in order 8 bytes 40;
}

-- the record of an entry of vfsv1 that is read in an order, as it is stored
abbrev pub stored_v2r1_in : Order → List ℕ → Rec
stored_v2r1_in order bytes = record {
  ihard = number_in order 8 bytes 8;
  isoft = number_in order 8 bytes 16;
  inodes = number_in order 8 bytes 24;
  bhard = number_in order 8 bytes 32;
  bsoft = number_in order 8 bytes 40;
  space = number_in order 8 bytes 48;
  btime = number_in order 8 bytes 56;
  itime = number_in order 8 bytes 64;
}

-- the same of a little-endian file
abbrev pub stored_id : List ℕ → ℕ
stored_id bytes = stored_id_in Little bytes

abbrev pub stored_v2r0 : List ℕ → Rec
stored_v2r0 bytes = stored_v2r0_in Little bytes

abbrev pub stored_v2r1 : List ℕ → Rec
stored_v2r1 bytes = stored_v2r1_in Little bytes
