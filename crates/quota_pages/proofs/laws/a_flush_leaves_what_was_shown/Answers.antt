use Rattle.std.proofs.Common.{arith}
use Rattle.quota_pages.specs.Page.{lent_count}
use Rattle.quota_pages.specs.Pages.{pages_of}
use Rattle.quota_pages.proofs.BufferLemmas.{few_pages}
use Rattle.quota_pages.proofs.FlushLemmas.{bytes_flushed, counted_by-most}
use Rattle.quota_pages.proofs.LentLemmas.{byte_flushed, few_lent, keeps_flushed}
use Rattle.quota_pages.proofs.laws.a_flush_leaves_what_was_shown.Goals as goal

pub returns-clause-file : goal.returns-clause-file
returns-clause-file c = bytes_flushed

pub returns-clause-blocks : goal.returns-clause-blocks
returns-clause-blocks c = keeps_flushed

pub returns-clause-bytes : goal.returns-clause-bytes
returns-clause-bytes c = byte_flushed

pub returns-clause-writes : goal.returns-clause-writes
returns-clause-writes c = λ pages before. counted_by-most before _

pub returns-clause-few : goal.returns-clause-few
returns-clause-few c =
    λ buffer before.
    omega (arith, counted_by-most before (lent_count (pages_of buffer)), few_lent (pages_of buffer), few_pages buffer)
