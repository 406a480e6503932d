use Rattle.std.proofs.Common.{List, ℕ, ap}
use Rattle.outside.specs.Seen.{SourceSeen}
use Rattle.inode_scan.specs.GeneratedLeft.{generated_left}
use Rattle.inode_scan.proofs.GeneratingLemmas.{left_first}
use Rattle.inode_scan.proofs.generated.Generated.new.Goals as goal

pub returns : goal.returns
unfolding generated_left
returns c = ap seen (left_first c.args.seed c.args.count c.new.result.items c.new.ensures)
  where
    seen : List ℕ → SourceSeen
    seen left = record { left = left; faults = 0 }
