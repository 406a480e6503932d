use Rattle.std.proofs.Common.{List, ℕ, length, Option, ap, ◌∙◌}
use Rattle.edit_journal.specs.ByteRanges.{ranges_of}
use Rattle.journal_store.proofs.HeldLemmas.{stands, told-beside, told-held}
use Rattle.journal_store.proofs.KindLemmas.{is_new_name}
use Rattle.journal_store.proofs.MomentLemmas.{nothing-looked, nothing-still}
use Rattle.journal_store.proofs.journal.Journal.read.Goals as goal
use Rattle.outside.specs.World.{bytes_from}

pub returns-in_default-clause-moments : goal.returns-in_default-clause-moments
returns-in_default-clause-moments g c told =
    nothing-looked c.args.name.now _ _ _ (c.in_ok-plain.ensures.moments told) c.laid_read.ensures.looks.passes

pub returns-then-plain-clause-count : goal.returns-then-plain-clause-count
returns-then-plain-clause-count g c told =
    let self = c.enter.new.self in
    let it = stands (g.D.Disk.seen self.disk) _ _ (c.in_ok-plain.ensures.held c.if-plain.true).0 self.plain
    (g.met.D.Disk.read_is_image self.disk) (self.settled told (c.in_ok-plain.ensures.held c.if-plain.true).1) in
    let shown = told-held (g.D.Disk.seen self.disk) self.name.bytes c.args.name.now (ranges_of self.ranges.items) _ _ it
    (ap ranges_of c.as_slice.ensures.value) (c.in_ok-plain.ensures.leaves told).files in
    c.in-Ok.ensures.count told
    ∙ ap (λ (f : Option (List ℕ)). length (bytes_from f c.args.at (length c.args.buf.now))) shown

pub returns-then-plain-clause-bytes : goal.returns-then-plain-clause-bytes
returns-then-plain-clause-bytes g c told =
    let self = c.enter.new.self in
    let it = stands (g.D.Disk.seen self.disk) _ _ (c.in_ok-plain.ensures.held c.if-plain.true).0 self.plain
    (g.met.D.Disk.read_is_image self.disk) (self.settled told (c.in_ok-plain.ensures.held c.if-plain.true).1) in
    let shown = told-held (g.D.Disk.seen self.disk) self.name.bytes c.args.name.now (ranges_of self.ranges.items) _ _ it
    (ap ranges_of c.as_slice.ensures.value) (c.in_ok-plain.ensures.leaves told).files in
    c.in-Ok.ensures.bytes told ∙ ap (λ (f : Option (List ℕ)). bytes_from f c.args.at (length c.args.buf.now)) shown

pub returns-then-plain-clause-moments : goal.returns-then-plain-clause-moments
returns-then-plain-clause-moments g c told =
    nothing-looked c.args.name.now _ _ _ (c.in_ok-plain.ensures.moments told) c.laid_read.ensures.looks.passes

pub returns-in_default-read-clause-moments : goal.returns-in_default-read-clause-moments
returns-in_default-read-clause-moments g c told =
    nothing-still c.args.name.now _ _ _ (c.in_ok-plain.ensures.moments told) c.read.ensures.leaves

pub returns-clause-count : goal.returns-clause-count
returns-clause-count g c told =
    let self = c.enter.new.self in
    let shown = told-beside (g.D.Disk.seen self.disk) self.name.bytes c.args.name.now (ranges_of self.ranges.items) _
    (is_new_name c.args.name.now (c.in_ok-plain.ensures.new c.if-plain.false))
    (c.in_ok-plain.ensures.leaves told).files in
    c.in-Ok-read.ensures.count told
    ∙ ap (λ (f : Option (List ℕ)). length (bytes_from f c.args.at (length c.args.buf.now))) shown

pub returns-clause-bytes : goal.returns-clause-bytes
returns-clause-bytes g c told =
    let self = c.enter.new.self in
    let shown = told-beside (g.D.Disk.seen self.disk) self.name.bytes c.args.name.now (ranges_of self.ranges.items) _
    (is_new_name c.args.name.now (c.in_ok-plain.ensures.new c.if-plain.false))
    (c.in_ok-plain.ensures.leaves told).files in
    c.in-Ok-read.ensures.bytes told ∙ ap (λ (f : Option (List ℕ)). bytes_from f c.args.at (length c.args.buf.now)) shown

pub returns-clause-moments : goal.returns-clause-moments
returns-clause-moments g c told =
    nothing-still c.args.name.now _ _ _ (c.in_ok-plain.ensures.moments told) c.read.ensures.leaves
