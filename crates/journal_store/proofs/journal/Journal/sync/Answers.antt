use Rattle.std.proofs.Common.{is_ok, rules, false, refl, sym, ◌∙◌}
use Rattle.std.proofs.lemmas.Bool.{eqb-true}
use Rattle.disk.proofs.StopLemmas.{passes-nothing}
use Rattle.edit_journal.specs.ByteRanges.{ranges_of}
use Rattle.edit_journal.specs.Recovery.{IsSame}
use Rattle.journal_store.proofs.HeldLemmas.{names-beside, put-names-at, ranges-none, recovered-still, recovered-synced}
use Rattle.journal_store.proofs.HeldLemmas.{stands, there-still}
use Rattle.journal_store.proofs.KindLemmas.{is_new_name, is_plain, new-plain}
use Rattle.journal_store.proofs.LookLemmas.{looks-less, looks-synced, looks-then}
use Rattle.journal_store.proofs.MomentLemmas.{nothing-still, syncs-commits, syncs-nothing}
use Rattle.journal_store.proofs.NamesLemmas.{with_name-keeps}
use Rattle.journal_store.proofs.journal.Journal.sync.Goals as goal

pub returns-in_err-plain-clause-moments : goal.returns-in_err-plain-clause-moments
returns-in_err-plain-clause-moments g c told =
    syncs-nothing c.args.name.now _ _ _ (c.enter.ensures.moments told) _
    (g.met.D.Disk.read_is_image c.args.self.now.disk)
    (λ image was. (g.met.D.Disk.present_is_now c.args.self.now.disk image).0 was) (λ plain. search rules)

pub returns-in_default-clause-moments : goal.returns-in_default-clause-moments
returns-in_default-clause-moments g c told =
    syncs-nothing c.args.name.now _ _ _
    (nothing-still c.args.name.now _ _ _ (c.in_ok-plain.ensures.moments told) c.sync.ensures.leaves) _
    (g.met.D.Disk.read_is_image c.args.self.now.disk)
    (λ image was. (g.met.D.Disk.present_is_now c.args.self.now.disk image).0 was) (λ plain. tt)

pub returns-then-not-plain-clause-unsynced : goal.returns-then-not-plain-clause-unsynced
returns-then-not-plain-clause-unsynced g c told =
    let self = c.enter.new.self in
    names-beside (g.D.Disk.seen self.disk).unsynced (g.D.Disk.seen c.sync.new.self).unsynced self.name.bytes
    c.args.name.now (ranges_of self.ranges.items) false (is_plain self.name.bytes self.plain)
    (is_new_name c.args.name.now (c.in_ok-plain.ensures.new c.if-not-plain.true)) (c.in-Ok.ensures.unsynced told)
    ∙ with_name-keeps _ _ c.args.name.now false (c.in_ok-plain.ensures.leaves told).unsynced

pub returns-then-not-plain-clause-moments : goal.returns-then-not-plain-clause-moments
returns-then-not-plain-clause-moments g c told =
    syncs-nothing c.args.name.now _ _ _
    (nothing-still c.args.name.now _ _ _ (c.in_ok-plain.ensures.moments told) c.sync.ensures.leaves) _
    (g.met.D.Disk.read_is_image c.args.self.now.disk)
    (λ image was. (g.met.D.Disk.present_is_now c.args.self.now.disk image).0 was)
    (λ plain. absurd (new-plain c.args.name.now (c.in_ok-plain.ensures.new c.if-not-plain.true) plain))

pub returns-in_default-sync-clause-moments : goal.returns-in_default-sync-clause-moments
returns-in_default-sync-clause-moments g c told =
    syncs-nothing c.args.name.now _ _ _
    (nothing-still c.args.name.now _ _ _ (c.in_ok-plain.ensures.moments told) c.sync-then-is_empty.ensures.leaves) _
    (g.met.D.Disk.read_is_image c.args.self.now.disk)
    (λ image was. (g.met.D.Disk.present_is_now c.args.self.now.disk image).0 was) (λ plain. tt)

pub invariant_of-self-then-is_empty : goal.invariant_of-self-then-is_empty
invariant_of-self-then-is_empty g c =
    let self = c.enter.new.self in
    record {
      plain = self.plain;
      settled =
          λ told is. recovered-still self.name.bytes _ _ c.sync-then-is_empty.ensures.leaves (self.settled told is);
      there = λ told some. there-still self.name.bytes _ _ c.sync-then-is_empty.ensures.leaves (self.there told some);
    }

pub returns-then-is_empty-clause-leaves : goal.returns-then-is_empty-clause-leaves
returns-then-is_empty-clause-leaves g c told =
    let self = c.enter.new.self in
    looks-synced c.args.name.now self.name.bytes (ranges_of self.ranges.items) _ (g.D.Disk.seen self.disk)
    (g.D.Disk.seen c.sync-then-is_empty.new.self) (c.in_ok-plain.ensures.leaves told)
    c.sync-then-is_empty.ensures.leaves.files c.sync-then-is_empty.ensures.others (λ is. c.in-Ok-sync.ensures.none)

pub returns-then-is_empty-clause-unsynced : goal.returns-then-is_empty-clause-unsynced
returns-then-is_empty-clause-unsynced g c told =
    let self = c.enter.new.self in
    let it = stands (g.D.Disk.seen self.disk) _ _ (c.in_ok-plain.ensures.held c.if-not-plain.false).0 self.plain
    (g.met.D.Disk.read_is_image self.disk) (self.settled told (c.in_ok-plain.ensures.held c.if-not-plain.false).1) in
    put-names-at (g.D.Disk.seen self.disk) (g.D.Disk.seen c.sync-then-is_empty.new.self) self.name.bytes c.args.name.now
    (ranges_of self.ranges.items) false it.plain
    (ranges-none self.ranges.items (eqb-true _ _ (sym c.is_empty.ensures ∙ c.if-is_empty.true)))
    (c.in-Ok-sync.ensures.unsynced told)
    ∙ with_name-keeps _ _ c.args.name.now false (c.in_ok-plain.ensures.leaves told).unsynced

pub returns-then-is_empty-clause-moments : goal.returns-then-is_empty-clause-moments
returns-then-is_empty-clause-moments g c told =
    let self = c.enter.new.self in
    let it = stands (g.D.Disk.seen self.disk) _ _ (c.in_ok-plain.ensures.held c.if-not-plain.false).0 self.plain
    (g.met.D.Disk.read_is_image self.disk) (self.settled told (c.in_ok-plain.ensures.held c.if-not-plain.false).1) in
    syncs-nothing c.args.name.now _ _ _
    (nothing-still c.args.name.now _ _ _ (c.in_ok-plain.ensures.moments told) c.sync-then-is_empty.ensures.leaves) _
    (g.met.D.Disk.read_is_image c.args.self.now.disk)
    (λ image was. (g.met.D.Disk.present_is_now c.args.self.now.disk image).0 was)
    (λ plain. recovered-synced (g.D.Disk.seen self.disk) (g.D.Disk.seen c.sync-then-is_empty.new.self) self.name.bytes
    c.args.name.now (ranges_of self.ranges.items) _ it
    (ranges-none self.ranges.items (eqb-true _ _ (sym c.is_empty.ensures ∙ c.if-is_empty.true)))
    (c.in_ok-plain.ensures.leaves told).files
    (passes-nothing IsSame _ _ (λ files. refl) c.sync-then-is_empty.ensures.leaves))

pub returns-in_err-held_commit-clause-leaves : goal.returns-in_err-held_commit-clause-leaves
returns-in_err-held_commit-clause-leaves g c told =
    looks-less (is_ok c.from_residual-in_err-held_commit.result) c.args.name.now _ _ (search rules)
    (looks-then c.args.name.now _ _ _ (c.in_ok-plain.ensures.leaves told) (c.held_commit.ensures.leaves told))

pub returns-in_err-held_commit-clause-moments : goal.returns-in_err-held_commit-clause-moments
returns-in_err-held_commit-clause-moments g c told =
    syncs-commits c.args.name.now _ _ _ (c.in_ok-plain.ensures.moments told) _
    (g.met.D.Disk.read_is_image c.args.self.now.disk)
    (λ image was. (g.met.D.Disk.present_is_now c.args.self.now.disk image).0 was) _ _ _
    (c.in_ok-plain.ensures.plain c.if-not-plain.false) (c.in_ok-plain.ensures.leaves told).files
    (c.held_commit.ensures.moments told) (search rules)

pub returns-clause-unsynced : goal.returns-clause-unsynced
returns-clause-unsynced g c told =
    c.in_ok-held_commit.ensures.unsynced told
    ∙ with_name-keeps _ _ c.args.name.now false (c.in_ok-plain.ensures.leaves told).unsynced

pub returns-clause-leaves : goal.returns-clause-leaves
returns-clause-leaves g c told =
    looks-then c.args.name.now _ _ _ (c.in_ok-plain.ensures.leaves told) (c.in_ok-held_commit.ensures.leaves told)

pub returns-clause-moments : goal.returns-clause-moments
returns-clause-moments g c told =
    syncs-commits c.args.name.now _ _ _ (c.in_ok-plain.ensures.moments told) _
    (g.met.D.Disk.read_is_image c.args.self.now.disk)
    (λ image was. (g.met.D.Disk.present_is_now c.args.self.now.disk image).0 was) _ _ _
    (c.in_ok-plain.ensures.plain c.if-not-plain.false) (c.in_ok-plain.ensures.leaves told).files
    (c.in_ok-held_commit.ensures.moments told) (c.in_ok-held_commit.ensures.moments told).done
