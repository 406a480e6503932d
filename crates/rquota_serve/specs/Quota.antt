-- The limits and the usage of an identifier as they are sent: ten numbers of 32 bits (`struct rquota` of `rquota.x` of
-- the quota tools). Which size of a block is chosen, and what is sent of a number that does not fit, is this project's
-- own.
use Rattle.std.specs.Prelude.{ℕ, ◌-◌, ◌^◌, Bool, ◌&&◌, nat_lt, nat_le, min, if◌then◌else◌, List, find, unwrap_or}
use Rattle.std.specs.Int.{div_ceil}
use Rattle.std.specs.List.{range_with_len}
use Rattle.quota_types.specs.declared.record.Rec.{Rec}
use Rattle.rquota_xdr.specs.declared.reply.Quota.{Quota}

-- the number, or the greatest one of 32 bits where it does not fit
abbrev pub narrowed : ℕ → ℕ
narrowed number = min number (2 ^ 32 - 1)

-- a limit in KiB as blocks of 2 ^ `power` bytes, rounded up
abbrev pub limit_blocks : (power : ℕ) → ℕ → ℕ
limit_blocks power kib = div_ceil kib (2 ^ (power - 10))

-- a space in bytes as blocks of 2 ^ `power` bytes, rounded up
abbrev pub space_blocks : (power : ℕ) → ℕ → ℕ
space_blocks power space = div_ceil space (2 ^ power)

-- the three numbers of blocks fit 32 bits
abbrev pub fit_blocks : Rec → (power : ℕ) → Bool
fit_blocks rec power =
    nat_lt (limit_blocks power rec.bhard) (2 ^ 32)
    && nat_lt (limit_blocks power rec.bsoft) (2 ^ 32)
    && nat_lt (space_blocks power rec.space) (2 ^ 32)

-- a block has 2 ^ 10 to 2 ^ 30 bytes
abbrev pub block_powers : List ℕ
block_powers = range_with_len 10 21

-- the least power of two for a block by which the numbers of blocks fit, or the greatest where none does
unfoldable pub block_power : Rec → ℕ
block_power rec = unwrap_or (find (fit_blocks rec) block_powers) 30

-- the seconds from a moment to a timer: 0 where the timer is not after it
abbrev pub seconds_left : (timer now : ℕ) → ℕ
seconds_left timer now = if nat_le timer now then 0 else narrowed (timer - now)

-- The ten numbers of a record at a moment. Limits are always told as enforced, and the time left rests on the timer
-- alone.
abbrev pub quota_of_record : Rec → (now : ℕ) → Quota
quota_of_record rec now = record {
  bsize = 2 ^ block_power rec;
  active = 1;
  bhard = narrowed (limit_blocks (block_power rec) rec.bhard);
  bsoft = narrowed (limit_blocks (block_power rec) rec.bsoft);
  curblocks = narrowed (space_blocks (block_power rec) rec.space);
  fhard = narrowed rec.ihard;
  fsoft = narrowed rec.isoft;
  curfiles = narrowed rec.inodes;
  btimeleft = seconds_left rec.btime now;
  ftimeleft = seconds_left rec.itime now;
}
