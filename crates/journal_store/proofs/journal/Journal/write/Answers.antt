use Rattle.std.proofs.Common.{inl, inr, ⊎_elim, List, ℕ, Option, IsSome, length, rules, true, refl, sym, ap, ◌∙◌, subst}
use Rattle.outside.specs.World.{World, with_bytes}
use Rattle.disk.specs.DiskCalls.{IsOutside, Torn}
use Rattle.edit_journal.specs.ByteRanges.{ranges_of}
use Rattle.journal_store.proofs.HeldLemmas.{found-there, held-beside, kept-at, kept-names-at, names-beside}
use Rattle.journal_store.proofs.HeldLemmas.{ranges-pushed, recovered-beside, recovered-still, same_told, stands}
use Rattle.journal_store.proofs.HeldLemmas.{there-still, told-held, told-there, written-beside}
use Rattle.journal_store.proofs.KindLemmas.{is_new_name, is_plain}
use Rattle.journal_store.proofs.MomentLemmas.{nothing-changed, nothing-still}
use Rattle.journal_store.proofs.NamesLemmas.{with_name-keeps}
use Rattle.journal_store.proofs.journal.Journal.write.Goals as goal

pub invariant_of-self : goal.invariant_of-self
invariant_of-self g c =
    let self = c.enter.new.self in
    let plain = is_plain self.name.bytes self.plain in
    let new = is_new_name c.args.name.now (c.in_ok-plain.ensures.new c.if-not-plain.true) in
    record {
      plain = self.plain;
      settled = λ told is. recovered-beside (Torn (IsOutside c.args.at (length c.args.bytes.now))) self.name.bytes
          c.args.name.now (g.D.Disk.seen self.disk) (g.D.Disk.seen c.write.new.self) plain new
          c.write.ensures.leaves.follows (self.settled told is);
      there = λ told some. subst (λ (f : Option (List ℕ)). IsSome f)
          (sym (held-beside (Torn (IsOutside c.args.at (length c.args.bytes.now))) self.name.bytes c.args.name.now
          (g.D.Disk.seen self.disk).files (g.D.Disk.seen c.write.new.self).files plain new
          c.write.ensures.leaves.follows.read)) (self.there told some);
    }

pub returns-in_default-clause-fault : goal.returns-in_default-clause-fault
returns-in_default-clause-fault g c told =
    let self = c.enter.new.self in
    let new = is_new_name c.args.name.now (c.in_ok-plain.ensures.new c.if-not-plain.true) in
    ⊎_elim
    (λ stayed. inl
    (same_told self.name.bytes (ranges_of self.ranges.items) _ _ stayed ∙ (c.in_ok-plain.ensures.leaves told).files))
    (λ made. inr (written-beside (g.D.Disk.seen self.disk).files (g.D.Disk.seen c.write.new.self).files self.name.bytes
    c.args.name.now (ranges_of self.ranges.items) c.args.at c.args.bytes.now new made
    ∙ ap (λ (w : World). with_bytes w c.args.name.now c.args.at c.args.bytes.now)
    (c.in_ok-plain.ensures.leaves told).files))
    (c.in_default.ensures.fault told)

pub returns-in_default-clause-moments : goal.returns-in_default-clause-moments
returns-in_default-clause-moments g c told =
    nothing-changed c.args.name.now _ _ _ (c.in_ok-plain.ensures.moments told)
    (Torn (IsOutside c.args.at (length c.args.bytes.now))) (c.in_ok-plain.ensures.new c.if-not-plain.true)
    c.write.ensures.leaves

pub returns-then-not-plain-clause-ok : goal.returns-then-not-plain-clause-ok
returns-then-not-plain-clause-ok g c told =
    let self = c.enter.new.self in
    let new = is_new_name c.args.name.now (c.in_ok-plain.ensures.new c.if-not-plain.true) in
    written-beside (g.D.Disk.seen self.disk).files (g.D.Disk.seen c.write.new.self).files self.name.bytes
    c.args.name.now (ranges_of self.ranges.items) c.args.at c.args.bytes.now new (c.in-Ok.ensures.ok told)
    ∙ ap (λ (w : World). with_bytes w c.args.name.now c.args.at c.args.bytes.now)
    (c.in_ok-plain.ensures.leaves told).files

pub returns-then-not-plain-clause-unsynced : goal.returns-then-not-plain-clause-unsynced
returns-then-not-plain-clause-unsynced g c told =
    let self = c.enter.new.self in
    names-beside _ _ self.name.bytes c.args.name.now (ranges_of self.ranges.items) true
    (is_plain self.name.bytes self.plain) (is_new_name c.args.name.now (c.in_ok-plain.ensures.new c.if-not-plain.true))
    (c.in-Ok.ensures.unsynced told)
    ∙ with_name-keeps _ _ c.args.name.now true (c.in_ok-plain.ensures.leaves told).unsynced

pub returns-then-not-plain-clause-moments : goal.returns-then-not-plain-clause-moments
returns-then-not-plain-clause-moments g c told =
    nothing-changed c.args.name.now _ _ _ (c.in_ok-plain.ensures.moments told)
    (Torn (IsOutside c.args.at (length c.args.bytes.now))) (c.in_ok-plain.ensures.new c.if-not-plain.true)
    c.write.ensures.leaves

pub returns-in_default-size-clause-moments : goal.returns-in_default-size-clause-moments
returns-in_default-size-clause-moments g c told =
    nothing-still c.args.name.now _ _ _ (c.in_ok-plain.ensures.moments told) c.size.ensures.leaves

pub invariant_of-self-then-is_none : goal.invariant_of-self-then-is_none
invariant_of-self-then-is_none g c =
    let self = c.enter.new.self in
    record {
      plain = self.plain;
      settled = λ told is. recovered-still self.name.bytes _ _ c.size.ensures.leaves (self.settled told is);
      there = λ told some. there-still self.name.bytes _ _ c.size.ensures.leaves (self.there told some);
    }

pub returns-then-is_none-clause-moments : goal.returns-then-is_none-clause-moments
returns-then-is_none-clause-moments g c told =
    nothing-still c.args.name.now _ _ _ (c.in_ok-plain.ensures.moments told) c.size.ensures.leaves

pub invariant_of-self-2 : goal.invariant_of-self-2
invariant_of-self-2 g c =
    let self = c.enter.new.self in
    record {
      plain = self.plain;
      settled = λ told is. recovered-still self.name.bytes _ _ c.size.ensures.leaves (self.settled told is);
      there = λ told some. there-still self.name.bytes _ _ c.size.ensures.leaves
          (subst (λ (n : List ℕ). IsSome ((g.D.Disk.seen self.disk).files n))
          (sym (c.in_ok-plain.ensures.held c.if-not-plain.false).0)
          (found-there _ _ (c.in-Ok-size.ensures.found told) (search rules)));
    }

pub returns-clause-ok : goal.returns-clause-ok
returns-clause-ok g c told =
    let self = c.enter.new.self in
    let it = stands (g.D.Disk.seen self.disk) _ _ (c.in_ok-plain.ensures.held c.if-not-plain.false).0 self.plain
    (g.met.D.Disk.read_is_image self.disk) (self.settled told (c.in_ok-plain.ensures.held c.if-not-plain.false).1) in
    let there : IsSome ((g.D.Disk.seen self.disk).files c.args.name.now) =
    found-there _ _ (c.in-Ok-size.ensures.found told) (search rules) in
    kept-at (g.D.Disk.seen self.disk) (g.D.Disk.seen c.size.new.self) self.name.bytes c.args.name.now
    (ranges_of self.ranges.items) _ c.args.at c.args.bytes.now it c.size.ensures.leaves.files there c.requires.some
    (ranges-pushed self.ranges.items _ _ c.args.at c.args.bytes.now c.push.ensures.items c.new.ensures.at
    c.new.ensures.bytes)
    ∙ ap (λ (w : World). with_bytes w c.args.name.now c.args.at c.args.bytes.now)
    (c.in_ok-plain.ensures.leaves told).files

pub returns-clause-unsynced : goal.returns-clause-unsynced
returns-clause-unsynced g c told =
    let self = c.enter.new.self in
    let it = stands (g.D.Disk.seen self.disk) _ _ (c.in_ok-plain.ensures.held c.if-not-plain.false).0 self.plain
    (g.met.D.Disk.read_is_image self.disk) (self.settled told (c.in_ok-plain.ensures.held c.if-not-plain.false).1) in
    kept-names-at (g.D.Disk.seen self.disk) (g.D.Disk.seen c.size.new.self) self.name.bytes c.args.name.now
    (ranges_of self.ranges.items) _ _ it c.size.ensures.unsynced
    (ranges-pushed self.ranges.items _ _ c.args.at c.args.bytes.now c.push.ensures.items c.new.ensures.at
    c.new.ensures.bytes)
    ∙ with_name-keeps _ _ c.args.name.now true (c.in_ok-plain.ensures.leaves told).unsynced

pub returns-clause-absent : goal.returns-clause-absent
returns-clause-absent g c told plain =
    let self = c.enter.new.self in
    let it = stands (g.D.Disk.seen self.disk) _ _ (c.in_ok-plain.ensures.held c.if-not-plain.false).0 self.plain
    (g.met.D.Disk.read_is_image self.disk) (self.settled told (c.in_ok-plain.ensures.held c.if-not-plain.false).1) in
    let there : IsSome ((g.D.Disk.seen self.disk).files c.args.name.now) =
    found-there _ _ (c.in-Ok-size.ensures.found told) (search rules) in
    told-there _ _ (ranges_of self.ranges.items) there
    (told-held (g.D.Disk.seen self.disk) self.name.bytes c.args.name.now (ranges_of self.ranges.items) _ _ it refl
    (c.in_ok-plain.ensures.leaves told).files)

pub returns-clause-moments : goal.returns-clause-moments
returns-clause-moments g c told =
    nothing-still c.args.name.now _ _ _ (c.in_ok-plain.ensures.moments told) c.size.ensures.leaves
