use Rattle.free_chains.proofs.SpliceLemmas.{chain-more, head_leads, links_lead}
use Rattle.free_chains.proofs.laws.a_list_that_ends_leads_to_blocks.Goals as goal

pub returns-clause-head : goal.returns-clause-head
returns-clause-head c = head_leads

pub returns-clause-links : goal.returns-clause-links
returns-clause-links c = links_lead

pub returns-clause-more : goal.returns-clause-more
returns-clause-more c = chain-more
