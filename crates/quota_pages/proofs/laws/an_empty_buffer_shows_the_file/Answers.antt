use Rattle.quota_pages.proofs.PageLemmas.{IsClean-nil, shown-nil}
use Rattle.quota_pages.proofs.laws.an_empty_buffer_shows_the_file.Goals as goal

pub returns-clause-shown : goal.returns-clause-shown
returns-clause-shown c = shown-nil

pub returns-clause-clean : goal.returns-clause-clean
returns-clause-clean c = IsClean-nil
