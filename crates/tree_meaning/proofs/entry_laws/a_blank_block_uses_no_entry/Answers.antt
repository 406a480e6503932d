use Rattle.tree_meaning.proofs.BlankLemmas.{blank_ids, blank_unused}
use Rattle.tree_meaning.proofs.entry_laws.a_blank_block_uses_no_entry.Goals as goal

pub returns : goal.returns
returns c = record { unused = blank_unused; ids = blank_ids }
