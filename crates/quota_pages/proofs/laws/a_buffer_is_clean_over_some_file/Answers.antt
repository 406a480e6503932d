use Rattle.quota_pages.specs.Pages.{pages_of}
use Rattle.quota_pages.proofs.PageLemmas.{IsClean-some}
use Rattle.quota_pages.proofs.laws.a_buffer_is_clean_over_some_file.Goals as goal

pub returns : goal.returns
unfolding pages_of
returns c = λ buffer long. IsClean-some (pages_of buffer) buffer.distinct long
