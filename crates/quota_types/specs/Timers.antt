-- Timers of exceeded soft limits, over numbers without a bound. Source: quotactl(2), and `update_grace_times` of the
-- quota tools.
use Rattle.std.specs.Prelude.{ℕ, ◌+◌, Bool, ◌&&◌, ◌==◌, nat_lt, if◌then◌else◌}
use Rattle.quota_types.specs.Rec.{kib_of}
use Rattle.quota_types.specs.declared.record.Grace.{Grace}
use Rattle.quota_types.specs.declared.record.Rec.{Rec}

-- there is a limit, and the usage exceeds it
abbrev pub is_exceeded : ℕ → ℕ → Bool
is_exceeded limit used = nat_lt 0 limit && nat_lt limit used

-- a timer starts: its soft limit is exceeded, and it does not run yet
abbrev pub starts : ℕ → ℕ → ℕ → Bool
starts soft used timer = is_exceeded soft used && timer == 0

-- a timer as it is to be: one that starts ends a grace period from now, one that runs stays, and where the soft limit
-- is not exceeded there is none
abbrev pub timer_of : ℕ → ℕ → ℕ → ℕ → ℕ → ℕ
timer_of soft used timer grace now =
    if starts soft used timer then now + grace else if is_exceeded soft used then timer else 0

-- a record with both timers as they are to be
abbrev pub timers_of : Rec → Grace → ℕ → Rec
timers_of rec grace now = record rec {
  btime = timer_of rec.bsoft (kib_of rec.space) rec.btime grace.block now;
  itime = timer_of rec.isoft rec.inodes rec.itime grace.inode now;
}
