use Rattle.free_chains.proofs.ChainLemmas.{one_chain, some_chain}
use Rattle.free_chains.proofs.laws.a_head_has_one_list.Goals as goal

pub returns-clause-some : goal.returns-clause-some
returns-clause-some c = some_chain

pub returns-clause-chain : goal.returns-clause-chain
returns-clause-chain c =
    λ file blocks head chain end chain' end' first second.
    (one_chain file blocks head chain end chain' end' first second).0

pub returns-clause-end : goal.returns-clause-end
returns-clause-end c =
    λ file blocks head chain end chain' end' first second.
    (one_chain file blocks head chain end chain' end' first second).1
