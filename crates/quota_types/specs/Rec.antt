-- Records. Source: the kernel's `struct if_dqblk`, whose limits of 0 mean "no limit".
use Rattle.std.specs.Prelude.{ℕ, ◌+◌, ◌/◌, Bool, ◌&&◌, ◌==◌, IsTrue}
use Rattle.quota_types.specs.declared.record.Rec.{Rec}

-- a space in bytes as KiB, rounded up
abbrev pub kib_of : ℕ → ℕ
kib_of space = (space + 1023) / 1024

-- the record limits nothing and counts nothing; its timers may be anything
abbrev pub is_null_of : Rec → Bool
is_null_of rec =
    rec.ihard == 0 && rec.isoft == 0 && rec.inodes == 0 && rec.bhard == 0 && rec.bsoft == 0 && rec.space == 0

-- the record is such a one
abbrev pub IsNull : Rec → Type 0
IsNull rec = IsTrue (is_null_of rec)

-- all eight values are 0
abbrev pub is_zeros : Rec → Bool
is_zeros rec = is_null_of rec && rec.btime == 0 && rec.itime == 0

-- the record that limits nothing, counts nothing and has no timers
abbrev pub zero_record : Rec
zero_record = record { ihard = 0; isoft = 0; inodes = 0; bhard = 0; bsoft = 0; space = 0; btime = 0; itime = 0 }
