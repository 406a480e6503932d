use Rattle.std.proofs.Common.{inl, inr, ⊎_elim, List, ℕ, [], Option, Some, IsSome, rules, true, refl, sym, ap, ◌∙◌}
use Rattle.std.proofs.Common.{subst}
use Rattle.std.proofs.lemmas.Bool.{eqb-true}
use Rattle.outside.specs.World.{World, with_file}
use Rattle.outside.proofs.FrameLemmas.{keeps_others-then}
use Rattle.disk.specs.DiskCalls.{CutShort}
use Rattle.edit_journal.specs.ByteRanges.{ranges_of}
use Rattle.journal_store.proofs.HeldLemmas.{fault-at, held-beside, names-beside, put-at, put-beside, put-names-at}
use Rattle.journal_store.proofs.HeldLemmas.{ranges-none, recovered-beside, same_told, stands}
use Rattle.journal_store.proofs.KindLemmas.{is_new_name, is_plain, new-plain}
use Rattle.journal_store.proofs.MomentLemmas.{makes-nothing, makes-plain, nothing-changed}
use Rattle.journal_store.proofs.NamesLemmas.{with_name-keeps}
use Rattle.journal_store.proofs.ReadyLemmas.{closed-made}
use Rattle.journal_store.proofs.ToldLemmas.{names-others}
use Rattle.journal_store.proofs.journal.Journal.create.Goals as goal

pub returns-in_err-plain-clause-moments : goal.returns-in_err-plain-clause-moments
returns-in_err-plain-clause-moments g c told =
    makes-nothing c.args.name.now _ _ _ (c.enter.ensures.moments told) (search rules)

pub invariant_of-self : goal.invariant_of-self
invariant_of-self g c =
    let self = c.enter.new.self in
    let plain = is_plain self.name.bytes self.plain in
    let new = is_new_name c.args.name.now (c.in_ok-plain.ensures.new c.if-not-plain.true) in
    record {
      plain = self.plain;
      settled = λ told is. recovered-beside (CutShort 0) self.name.bytes c.args.name.now (g.D.Disk.seen self.disk)
          (g.D.Disk.seen c.create.new.self) plain new c.create.ensures.leaves.follows (self.settled told is);
      there = λ told some. subst (λ (f : Option (List ℕ)). IsSome f)
          (sym (held-beside (CutShort 0) self.name.bytes c.args.name.now (g.D.Disk.seen self.disk).files
          (g.D.Disk.seen c.create.new.self).files plain new c.create.ensures.leaves.follows.read))
          (self.there told some);
    }

pub returns-in_default-clause-fault : goal.returns-in_default-clause-fault
returns-in_default-clause-fault g c told =
    let self = c.enter.new.self in
    let new = is_new_name c.args.name.now (c.in_ok-plain.ensures.new c.if-not-plain.true) in
    ⊎_elim
    (λ stayed. inl
    (same_told self.name.bytes (ranges_of self.ranges.items) _ _ stayed ∙ (c.in_ok-plain.ensures.leaves told).files))
    (λ made. inr (put-beside _ _ self.name.bytes c.args.name.now (ranges_of self.ranges.items) (Some []) new made
    ∙ ap (λ (w : World). with_file w c.args.name.now (Some [])) (c.in_ok-plain.ensures.leaves told).files))
    (c.in_default.ensures.fault told)

pub returns-in_default-clause-moments : goal.returns-in_default-clause-moments
returns-in_default-clause-moments g c told =
    makes-nothing c.args.name.now _ _ _
    (nothing-changed c.args.name.now _ _ _ (c.in_ok-plain.ensures.moments told) (CutShort 0)
    (c.in_ok-plain.ensures.new c.if-not-plain.true) c.create.ensures.leaves) tt

pub returns-then-not-plain-clause-ok : goal.returns-then-not-plain-clause-ok
returns-then-not-plain-clause-ok g c told =
    let self = c.enter.new.self in
    let new = is_new_name c.args.name.now (c.in_ok-plain.ensures.new c.if-not-plain.true) in
    put-beside _ _ self.name.bytes c.args.name.now (ranges_of self.ranges.items) (Some []) new (c.in-Ok.ensures.ok told)
    ∙ ap (λ (w : World). with_file w c.args.name.now (Some [])) (c.in_ok-plain.ensures.leaves told).files

pub returns-then-not-plain-clause-unsynced : goal.returns-then-not-plain-clause-unsynced
returns-then-not-plain-clause-unsynced g c told =
    let self = c.enter.new.self in
    names-beside _ _ self.name.bytes c.args.name.now (ranges_of self.ranges.items) true
    (is_plain self.name.bytes self.plain) (is_new_name c.args.name.now (c.in_ok-plain.ensures.new c.if-not-plain.true))
    (c.in-Ok.ensures.unsynced told)
    ∙ with_name-keeps _ _ c.args.name.now true (c.in_ok-plain.ensures.leaves told).unsynced

pub returns-then-not-plain-clause-moments : goal.returns-then-not-plain-clause-moments
returns-then-not-plain-clause-moments g c told =
    makes-nothing c.args.name.now _ _ _
    (nothing-changed c.args.name.now _ _ _ (c.in_ok-plain.ensures.moments told) (CutShort 0)
    (c.in_ok-plain.ensures.new c.if-not-plain.true) c.create.ensures.leaves)
    (λ plain. absurd (new-plain c.args.name.now (c.in_ok-plain.ensures.new c.if-not-plain.true) plain))

pub returns-then-not-is_empty-clause-moments : goal.returns-then-not-is_empty-clause-moments
returns-then-not-is_empty-clause-moments g c told =
    makes-nothing c.args.name.now _ _ _ (c.in_ok-plain.ensures.moments told) tt

pub returns-in_default-create-clause-fault : goal.returns-in_default-create-clause-fault
returns-in_default-create-clause-fault g c told =
    let self = c.enter.new.self in
    let it = stands (g.D.Disk.seen self.disk) _ _ (c.in_ok-plain.ensures.held c.if-not-plain.false).0 self.plain
    (g.met.D.Disk.read_is_image self.disk) (self.settled told (c.in_ok-plain.ensures.held c.if-not-plain.false).1) in
    ⊎_elim (λ same. inl (same ∙ (c.in_ok-plain.ensures.leaves told).files))
    (λ made.
    inr (made ∙ ap (λ (w : World). with_file w c.args.name.now (Some [])) (c.in_ok-plain.ensures.leaves told).files))
    (fault-at (g.D.Disk.seen self.disk) (g.D.Disk.seen c.create-2.new.self) self.name.bytes c.args.name.now
    (ranges_of self.ranges.items) (Some []) it
    (ranges-none self.ranges.items (eqb-true _ _ (sym c.is_empty.ensures ∙ c.if-not-is_empty.false)))
    (c.in_default-create.ensures.fault told))

pub returns-in_default-create-clause-names : goal.returns-in_default-create-clause-names
returns-in_default-create-clause-names g c told =
    let self = c.enter.new.self in
    keeps_others-then c.args.name.now _ _ _ (c.in_ok-plain.ensures.leaves told).unsynced
    (names-others (g.D.Disk.seen self.disk).unsynced (g.D.Disk.seen c.create-2.new.self).unsynced self.name.bytes
    self.name.bytes (ranges_of self.ranges.items) (ranges_of self.ranges.items) c.args.name.now
    (λ n one two three. c.create-2.ensures.others n one) (λ n differ. refl))

pub returns-in_default-create-clause-moments : goal.returns-in_default-create-clause-moments
returns-in_default-create-clause-moments g c told =
    makes-plain c.args.name.now _ _ _ (c.in_ok-plain.ensures.moments told) (CutShort 0) _
    (c.in_ok-plain.ensures.plain c.if-not-plain.false) c.create-2.ensures.leaves tt

pub returns-clause-ok : goal.returns-clause-ok
returns-clause-ok g c told =
    let self = c.enter.new.self in
    let it = stands (g.D.Disk.seen self.disk) _ _ (c.in_ok-plain.ensures.held c.if-not-plain.false).0 self.plain
    (g.met.D.Disk.read_is_image self.disk) (self.settled told (c.in_ok-plain.ensures.held c.if-not-plain.false).1) in
    put-at (g.D.Disk.seen self.disk) (g.D.Disk.seen c.create-2.new.self) self.name.bytes c.args.name.now
    (ranges_of self.ranges.items) (Some []) it
    (ranges-none self.ranges.items (eqb-true _ _ (sym c.is_empty.ensures ∙ c.if-not-is_empty.false)))
    (c.in-Ok-create.ensures.ok told)
    ∙ ap (λ (w : World). with_file w c.args.name.now (Some [])) (c.in_ok-plain.ensures.leaves told).files

pub returns-clause-unsynced : goal.returns-clause-unsynced
returns-clause-unsynced g c told =
    let self = c.enter.new.self in
    let it = stands (g.D.Disk.seen self.disk) _ _ (c.in_ok-plain.ensures.held c.if-not-plain.false).0 self.plain
    (g.met.D.Disk.read_is_image self.disk) (self.settled told (c.in_ok-plain.ensures.held c.if-not-plain.false).1) in
    put-names-at (g.D.Disk.seen self.disk) (g.D.Disk.seen c.create-2.new.self) self.name.bytes c.args.name.now
    (ranges_of self.ranges.items) true it.plain
    (ranges-none self.ranges.items (eqb-true _ _ (sym c.is_empty.ensures ∙ c.if-not-is_empty.false)))
    (c.in-Ok-create.ensures.unsynced told)
    ∙ with_name-keeps _ _ c.args.name.now true (c.in_ok-plain.ensures.leaves told).unsynced

pub returns-clause-moments : goal.returns-clause-moments
returns-clause-moments g c told =
    let self = c.enter.new.self in
    let it = stands (g.D.Disk.seen self.disk) _ _ (c.in_ok-plain.ensures.held c.if-not-plain.false).0 self.plain
    (g.met.D.Disk.read_is_image self.disk) (self.settled told (c.in_ok-plain.ensures.held c.if-not-plain.false).1) in
    makes-plain c.args.name.now _ _ _ (c.in_ok-plain.ensures.moments told) (CutShort 0) _
    (c.in_ok-plain.ensures.plain c.if-not-plain.false) c.create-2.ensures.leaves
    (λ plain. closed-made (CutShort 0) c.args.name.now (g.D.Disk.seen self.disk) (g.D.Disk.seen c.create-2.new.self)
    it.ready.closed c.create-2.ensures.leaves.follows)
