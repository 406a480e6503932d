-- Which values a format has room for. Source: the widths of the fields on disk, `struct v1_disk_dqblk` and
-- `struct v2r0_disk_dqblk` and `struct v2r1_disk_dqblk` of the quota tools.
use Rattle.std.specs.Prelude.{ℕ, ◌^◌, Bool, true, ◌&&◌, nat_lt, nat_le, if◌then◌else◌, List, [], ◌∷◌, Option, Some}
use Rattle.std.specs.Prelude.{None}
use Rattle.quota_types.specs.Rec.{kib_of}
use Rattle.quota_types.specs.declared.file_kind.Format.{Format}
use Rattle.quota_types.specs.declared.file_kind.Format.TheVariants.{V1, V1R32, V2R0, V2R1}
use Rattle.quota_types.specs.declared.field.Field.{Field}
use Rattle.quota_types.specs.declared.field.Field.TheVariants.{BlockGrace, InodeGrace, Id, Ihard, Isoft, Inodes, Bhard}
use Rattle.quota_types.specs.declared.field.Field.TheVariants.{Bsoft, Space, Btime, Itime}
use Rattle.quota_types.specs.declared.record.Grace.{Grace}
use Rattle.quota_types.specs.declared.record.Rec.{Rec}

-- a field, its value, and whether the format has room for it
pub record Ranged : Type 0 where
  pub field : Field
  pub value : ℕ
  pub fits : Bool

-- the first field that is outside its range, with its value
abbrev pub first_unfit : List Ranged → Option (Field × ℕ)
first_unfit [] = None
first_unfit (r ∷ rs) = if r.fits then first_unfit rs else Some (r.field, r.value)

-- the format has room for this grace period, in seconds; a flat file reads 0 as a week
abbrev pub is_grace : Format → ℕ → Bool
is_grace V1 seconds = nat_lt 0 seconds && nat_lt seconds (2 ^ 64)
is_grace V1R32 seconds = nat_lt 0 seconds && nat_lt seconds (2 ^ 32)
is_grace V2R0 seconds = nat_lt seconds (2 ^ 32)
is_grace V2R1 seconds = nat_lt seconds (2 ^ 32)

-- the first grace period that is outside its range: the one for blocks, then the one for inodes
abbrev pub grace_unfit : Format → Grace → Option (Field × ℕ)
grace_unfit format grace = first_unfit (
    record { field = BlockGrace; value = grace.block; fits = is_grace format grace.block }
    ∷ record { field = InodeGrace; value = grace.inode; fits = is_grace format grace.inode }
    ∷ [])

-- the format has room for this identifier: a flat file for those up to 1,048,575, a tree file for any
abbrev pub is_id : Format → ℕ → Bool
is_id V1 id = nat_le id 1048575
is_id V1R32 id = nat_le id 1048575
is_id V2R0 id = true
is_id V2R1 id = true

-- the format has room for this limit, or number of inodes in use
abbrev pub is_number : Format → ℕ → Bool
is_number V1 number = nat_lt number (2 ^ 32)
is_number V1R32 number = nat_lt number (2 ^ 32)
is_number V2R0 number = nat_lt number (2 ^ 32)
is_number V2R1 number = nat_lt number (2 ^ 64)

-- the format has room for this space in bytes; a flat file keeps it in KiB
abbrev pub is_space : Format → ℕ → Bool
is_space V1 space = nat_lt (kib_of space) (2 ^ 32)
is_space V1R32 space = nat_lt (kib_of space) (2 ^ 32)
is_space V2R0 space = nat_lt space (2 ^ 64)
is_space V2R1 space = nat_lt space (2 ^ 64)

-- the format has room for this timer, in seconds since 1970
abbrev pub is_time : Format → ℕ → Bool
is_time V1 seconds = nat_lt seconds (2 ^ 64)
is_time V1R32 seconds = nat_lt seconds (2 ^ 32)
is_time V2R0 seconds = nat_lt seconds (2 ^ 64)
is_time V2R1 seconds = nat_lt seconds (2 ^ 64)

-- the first field of an identifier's record that is outside its range, with its value; that of the space is in bytes
abbrev pub unfit : Format → ℕ → Rec → Option (Field × ℕ)
unfit format id rec = first_unfit (
    record { field = Id; value = id; fits = is_id format id }
    ∷ record { field = Ihard; value = rec.ihard; fits = is_number format rec.ihard }
    ∷ record { field = Isoft; value = rec.isoft; fits = is_number format rec.isoft }
    ∷ record { field = Inodes; value = rec.inodes; fits = is_number format rec.inodes }
    ∷ record { field = Bhard; value = rec.bhard; fits = is_number format rec.bhard }
    ∷ record { field = Bsoft; value = rec.bsoft; fits = is_number format rec.bsoft }
    ∷ record { field = Space; value = rec.space; fits = is_space format rec.space }
    ∷ record { field = Btime; value = rec.btime; fits = is_time format rec.btime }
    ∷ record { field = Itime; value = rec.itime; fits = is_time format rec.itime }
    ∷ [])
