use Rattle.std.proofs.Common.{List, ℕ, length, Option, option_map, ap, ◌∙◌}
use Rattle.edit_journal.specs.ByteRanges.{ranges_of}
use Rattle.journal_store.proofs.HeldLemmas.{stands, told-beside, told-held}
use Rattle.journal_store.proofs.KindLemmas.{is_new_name}
use Rattle.journal_store.proofs.MomentLemmas.{nothing-looked, nothing-still}
use Rattle.journal_store.proofs.journal.Journal.size.Goals as goal

pub returns-in_default-clause-moments : goal.returns-in_default-clause-moments
returns-in_default-clause-moments g c told =
    nothing-looked c.args.name.now _ _ _ (c.in_ok-plain.ensures.moments told) c.laid_size.ensures.looks.passes

pub returns-then-plain-clause-found : goal.returns-then-plain-clause-found
returns-then-plain-clause-found g c told =
    let self = c.enter.new.self in
    let it = stands (g.D.Disk.seen self.disk) _ _ (c.in_ok-plain.ensures.held c.if-plain.true).0 self.plain
    (g.met.D.Disk.read_is_image self.disk) (self.settled told (c.in_ok-plain.ensures.held c.if-plain.true).1) in
    let shown = told-held (g.D.Disk.seen self.disk) self.name.bytes c.args.name.now (ranges_of self.ranges.items) _ _ it
    (ap ranges_of c.as_slice.ensures.value) (c.in_ok-plain.ensures.leaves told).files in
    c.in-Ok.ensures.found told ∙ ap (λ (f : Option (List ℕ)). option_map length f) shown

pub returns-then-plain-clause-moments : goal.returns-then-plain-clause-moments
returns-then-plain-clause-moments g c told =
    nothing-looked c.args.name.now _ _ _ (c.in_ok-plain.ensures.moments told) c.laid_size.ensures.looks.passes

pub returns-in_default-size-clause-moments : goal.returns-in_default-size-clause-moments
returns-in_default-size-clause-moments g c told =
    nothing-still c.args.name.now _ _ _ (c.in_ok-plain.ensures.moments told) c.size.ensures.leaves

pub returns-clause-found : goal.returns-clause-found
returns-clause-found g c told =
    let self = c.enter.new.self in
    let shown = told-beside (g.D.Disk.seen self.disk) self.name.bytes c.args.name.now (ranges_of self.ranges.items) _
    (is_new_name c.args.name.now (c.in_ok-plain.ensures.new c.if-plain.false))
    (c.in_ok-plain.ensures.leaves told).files in
    c.in-Ok-size.ensures.found told ∙ ap (λ (f : Option (List ℕ)). option_map length f) shown

pub returns-clause-moments : goal.returns-clause-moments
returns-clause-moments g c told =
    nothing-still c.args.name.now _ _ _ (c.in_ok-plain.ensures.moments told) c.size.ensures.leaves
