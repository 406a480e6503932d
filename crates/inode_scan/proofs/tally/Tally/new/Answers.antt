use Rattle.inode_scan.proofs.SumLemmas.{bounded_none}
use Rattle.inode_scan.proofs.TallyLemmas.{of_none}
use Rattle.inode_scan.proofs.tally.Tally.new.Goals as goal

pub returns-clause-none : goal.returns-clause-none
returns-clause-none c = of_none _ c.none.ensures c.none-2.ensures

pub returns-clause-bounded : goal.returns-clause-bounded
returns-clause-bounded c = bounded_none c.none-2.result c.none-2.ensures
