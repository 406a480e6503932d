-- The usage of identifiers.
use Rattle.std.specs.FinMap.{FinMap}
use Rattle.std.specs.Ordering.{nat_cmp}
use Rattle.inode_scan.specs.declared.used.Used.{Used}

-- usages by their identifiers
abbrev pub UsageMap : Type 0
UsageMap = FinMap nat_cmp Used
