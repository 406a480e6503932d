use Rattle.std.proofs.Common.{arith}
use Rattle.quota_pages.proofs.BufferLemmas.{page_count}
use Rattle.quota_pages.proofs.page_buffer.Pages.spare.Goals as goal

pub returns : goal.returns
returns c = omega (arith, page_count c.args.self.now)
