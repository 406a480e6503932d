use Rattle.quota_pages.proofs.BufferLemmas.{block_left}
use Rattle.quota_pages.proofs.laws.a_block_is_the_old_or_the_new_one.Goals as goal

pub returns : goal.returns
returns c = λ buffer old new number partly. block_left buffer old new number partly
