use Rattle.free_chains.proofs.ChainLemmas.{chain_is_met, few_of_chain}
use Rattle.free_chains.proofs.laws.a_list_that_ends_is_met_from_its_head.Goals as goal

pub returns-clause-all : goal.returns-clause-all
returns-clause-all c =
    λ file blocks head chain is_chain.
    chain_is_met file blocks head blocks chain is_chain (few_of_chain file blocks head chain 0 is_chain)

pub returns-clause-some : goal.returns-clause-some
returns-clause-some c = chain_is_met

pub returns-clause-few : goal.returns-clause-few
returns-clause-few c = few_of_chain
