use Rattle.tree_change.proofs.AbsentLemmas.{absent_by_way, there_by_way}
use Rattle.tree_change.proofs.laws.an_absent_identifier_has_a_short_way.Goals as goal

pub returns-clause-absent : goal.returns-clause-absent
returns-clause-absent c = absent_by_way

pub returns-clause-there : goal.returns-clause-there
returns-clause-there c = there_by_way
