use Rattle.std.proofs.Common.{rules}
use Rattle.std.specs.BTreeMap as tree
use Rattle.std.specs.Ordering.{nat_cmp}
use Rattle.inode_scan.proofs.SumsLemmas.{ordered}
use Rattle.inode_scan.proofs.usage.Usage.of_entries.Goals as goal

pub returns : goal.returns
returns c =
    let made : tree.IsFromIterResult nat_cmp c.args.used.entries c.in_ok-used.used = search rules in
    ordered c.args.used.entries c.in_ok-used.used c.into_iter.ensures.into_iter_gives.4 made
