use Rattle.std.proofs.Common.{sym, ◌∙◌}
use Rattle.std.proofs.lemmas.Bool.{cond-true, cond-false}
use Rattle.quota_pages.specs.Pages.{pages_of}
use Rattle.quota_pages.proofs.BufferLemmas.{has_at, has_buffered, looks_at-none}
use Rattle.quota_pages.proofs.page_buffer.Pages.bring.Goals as goal

pub read_in-requires-clause-room : goal.read_in-requires-clause-room
unfolding pages_of
read_in-requires-clause-room g c = c.requires c.in-None.ensures

pub read_in-requires-clause-absent : goal.read_in-requires-clause-absent
unfolding pages_of
read_in-requires-clause-absent g c = c.in-None.ensures

pub returns-in-Some-clause-looked : goal.returns-in-Some-clause-looked
returns-in-Some-clause-looked g c =
    looks_at-none _ _ _ _
    (has_buffered _ c.in-Some.place c.args.number
    (has_at c.args.self.now c.in-Some.place c.args.number _ c.in-Some.ensures.0 c.in-Some.ensures.1))

pub returns-in-Some-clause-reads : goal.returns-in-Some-clause-reads
returns-in-Some-clause-reads g c =
    sym (cond-true _ _ _
    (has_buffered c.args.self.now c.in-Some.place c.args.number
    (has_at c.args.self.now c.in-Some.place c.args.number _ c.in-Some.ensures.0 c.in-Some.ensures.1)))

pub returns-in-None-clause-reads : goal.returns-in-None-clause-reads
unfolding pages_of
returns-in-None-clause-reads g c = c.read_in.ensures.reads ∙ sym (cond-false _ _ _ c.in-None.ensures)
