use Rattle.free_chains.proofs.SpliceLemmas.{chain-stays, names-stay}
use Rattle.free_chains.proofs.laws.a_list_stays_where_its_blocks_do.Goals as goal

pub returns-clause-chain : goal.returns-clause-chain
returns-clause-chain c = chain-stays

pub returns-clause-previous : goal.returns-clause-previous
returns-clause-previous c = names-stay
