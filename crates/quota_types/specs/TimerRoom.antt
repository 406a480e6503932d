-- Timers whose end does not fit 64 bits.
use Rattle.std.specs.Prelude.{ℕ, ◌+◌, ◌^◌, Bool, ◌&&◌, nat_le, if◌then◌else◌, Option, Some, None}
use Rattle.quota_types.specs.Rec.{kib_of}
use Rattle.quota_types.specs.declared.field.Field.{Field}
use Rattle.quota_types.specs.declared.field.Field.TheVariants.{Btime, Itime}
use Rattle.quota_types.specs.declared.record.Grace.{Grace}
use Rattle.quota_types.specs.declared.record.Rec.{Rec}
use Rattle.quota_types.specs.Timers.{starts}

-- a timer starts, and its end does not fit 64 bits
abbrev pub starts_past_64_bits : ℕ → ℕ → ℕ → ℕ → ℕ → Bool
starts_past_64_bits soft used timer grace now = starts soft used timer && nat_le (2 ^ 64) (now + grace)

-- the first timer that starts and whose end does not fit 64 bits: the one for blocks, then the one for inodes
abbrev pub timer_past_64_bits : Rec → Grace → ℕ → Option Field
timer_past_64_bits rec grace now =
    if starts_past_64_bits rec.bsoft (kib_of rec.space) rec.btime grace.block now then Some Btime
    else if starts_past_64_bits rec.isoft rec.inodes rec.itime grace.inode now then Some Itime
    else None
