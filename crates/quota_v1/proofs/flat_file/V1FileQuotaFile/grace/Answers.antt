use Rattle.std.proofs.Common.{sym}
use Rattle.quota_v1.proofs.flat_file.V1FileQuotaFile.grace.Goals as goal

pub returns-clause-value : goal.returns-clause-value
returns-clause-value g c = λ store value held.
    rw (c.or_week.ensures, c.or_week-2.ensures)
    (rw (sym held.agrees.block_time, sym held.agrees.inode_time) (sym held.stands.grace))
