use Rattle.std.proofs.Common.{sym}
use Rattle.quota_pages.specs.Used.{file_under}
use Rattle.quota_pages.proofs.BufferLemmas.{has_at, has_buffered, looked_at, looks_at-none}
use Rattle.quota_pages.proofs.page_buffer.Pages.buffered.Goals as goal

pub returns-clause-there : goal.returns-clause-there
returns-clause-there c =
    let buffer = c.args.self.now in
    sym (has_buffered buffer c.in_ok-place.place c.args.n
    (has_at buffer c.in_ok-place.place c.args.n _ c.in_ok-place.ensures.0 c.in_ok-place.ensures.1))

pub returns-clause-block : goal.returns-clause-block
returns-clause-block c = λ tells seen known.
    let buffer = c.args.self.now in
    let has = has_at buffer c.in_ok-place.place c.args.n _ c.in_ok-place.ensures.0 c.in_ok-place.ensures.1 in
    looked_at tells (file_under seen buffer) c.args.n c.in_ok-place.place c.block.result.now buffer buffer
    (looks_at-none tells (file_under seen buffer) c.args.n buffer
    (has_buffered buffer c.in_ok-place.place c.args.n has)) has
    c.block.ensures.value c.block.ensures.whole known.told known.clean
