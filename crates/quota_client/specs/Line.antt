-- What a client prints of a path. Source: this project's own; what a grace period and its texts are is as repquota(8)
-- has them.
use Rattle.std.specs.Prelude.{ℕ, ◌-◌, ◌*◌, ◌/◌, Bool, true, false, ◌==◌, if◌then◌else◌, List, [], ◌∷◌, ◌++◌, Option}
use Rattle.std.specs.Prelude.{Some, None, codes, decimal}
use Rattle.std.specs.List.{concat}
use Rattle.quota_types.specs.Timers.{is_exceeded}
use Rattle.report_text.specs.Period.{period_of}
use Rattle.rquota_xdr.specs.declared.reply.Quota.{Quota}
use Rattle.rquota_xdr.specs.declared.reply.Reply.{Reply}
use Rattle.rquota_xdr.specs.declared.reply.Reply.TheVariants as reply
use Rattle.quota_client.specs.declared.mode.Mode.{Mode}
use Rattle.quota_client.specs.declared.mode.Mode.TheVariants as mode
use Rattle.quota_client.specs.declared.usage.Usage.{Usage}

-- the KiB of so many blocks of a size in bytes, rounded down
abbrev pub kib_in : (blocks size : ℕ) → ℕ
kib_in blocks size = blocks * size / 1024

-- What a quota says of blocks, in KiB. Whether the soft limit is exceeded is told by the numbers as they were sent.
abbrev pub blocks_of : Quota → Usage
blocks_of quota = record {
  used = kib_in quota.curblocks quota.bsize;
  soft = kib_in quota.bsoft quota.bsize;
  hard = kib_in quota.bhard quota.bsize;
  exceeded = is_exceeded quota.bsoft quota.curblocks;
  left = quota.btimeleft;
}

-- what it says of files
abbrev pub files_of : Quota → Usage
files_of quota = record {
  used = quota.curfiles;
  soft = quota.fsoft;
  hard = quota.fhard;
  exceeded = is_exceeded quota.fsoft quota.curfiles;
  left = quota.ftimeleft;
}

-- the grace period: `-` where the soft limit is not exceeded, else what is left of it, or `none` where nothing is
unfoldable pub grace_of : Usage → List ℕ
grace_of usage =
    if usage.exceeded
    then (if usage.left == 0 then codes "none" else period_of usage.left)
    else codes "-"

-- the line with all numbers
abbrev pub quota_line : List ℕ → (blocks files : Usage) → List ℕ
quota_line path blocks files = concat (
    path ∷ codes ": " ∷ decimal blocks.used ∷ codes " KiB, soft " ∷ decimal blocks.soft ∷ codes ", hard "
    ∷ decimal blocks.hard
    ∷ codes ", grace " ∷ grace_of blocks
    ∷ codes ", files " ∷ decimal files.used ∷ codes ", soft " ∷ decimal files.soft ∷ codes ", hard "
    ∷ decimal files.hard
    ∷ codes ", grace " ∷ grace_of files ∷ codes "\n" ∷ [])

-- the line on blocks where their soft limit is exceeded
abbrev pub block_warning : List ℕ → Usage → List ℕ
block_warning path blocks =
    if blocks.exceeded
    then concat (path ∷ codes ": over block limit by " ∷ decimal (blocks.used - blocks.soft) ∷ codes " KiB, grace "
    ∷ grace_of blocks ∷ codes "\n" ∷ [])
    else []

-- the line on files where their soft limit is exceeded
abbrev pub file_warning : List ℕ → Usage → List ℕ
file_warning path files =
    if files.exceeded
    then concat (path ∷ codes ": over file limit by " ∷ decimal (files.used - files.soft) ∷ codes ", grace "
    ∷ grace_of files ∷ codes "\n" ∷ [])
    else []

-- what is printed of a quota
abbrev pub quota_lines : Mode → List ℕ → Quota → List ℕ
quota_lines mode.Quota path quota = quota_line path (blocks_of quota) (files_of quota)
quota_lines mode.Warn path quota = block_warning path (blocks_of quota) ++ file_warning path (files_of quota)

-- what is printed where there is no quota
abbrev pub none_lines : Mode → List ℕ → List ℕ
none_lines mode.Quota path = concat (path ∷ codes ": none\n" ∷ [])
none_lines mode.Warn path = []

-- what is printed of a path by its reply, or by that there was none: whole lines, each ended by a newline
abbrev pub lines_of : Mode → List ℕ → Option Reply → List ℕ
lines_of mode path None = concat (path ∷ codes ": no reply\n" ∷ [])
lines_of mode path (Some (reply.Quota xid quota)) = quota_lines mode path quota
lines_of mode path (Some (reply.NoQuota xid)) = none_lines mode path
lines_of mode path (Some (reply.Denied xid)) = concat (path ∷ codes ": denied\n" ∷ [])
lines_of mode path (Some _) = concat (path ∷ codes ": refused\n" ∷ [])

-- a path is answered by its quota, or by that it has none
abbrev pub is_answered : Option Reply → Bool
is_answered (Some (reply.Quota xid quota)) = true
is_answered (Some (reply.NoQuota xid)) = true
is_answered _ = false
