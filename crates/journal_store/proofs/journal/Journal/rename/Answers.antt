use Rattle.std.proofs.Common.{◌≡◌, List, ℕ, Option, IsSome, rules, [], refl, sym, ap, ◌∙◌, subst, arith}
use Rattle.std.proofs.lemmas.Grind.{common_steps}
use Rattle.outside.specs.World.{World, with_new_name}
use Rattle.outside.proofs.FrameLemmas.{adds_none-then}
use Rattle.edit_journal.specs.ByteRanges.{ranges_of}
use Rattle.journal_store.specs.Kinds.{kind_of}
use Rattle.journal_store.specs.declared.kinds.NameKind.TheVariants.{New}
use Rattle.journal_store.proofs.HeldLemmas.{handed-at, ranges-none, renamed-at, renames-held, stands, told-beside}
use Rattle.journal_store.proofs.KindLemmas.{is_new_name}
use Rattle.journal_store.proofs.MomentLemmas.{replaces-nothing, replaces-renamed, replaces-still}
use Rattle.journal_store.proofs.NamesLemmas.{adds_none-told, told-names-at, with_handed-keeps}
use Rattle.journal_store.proofs.ReadyLemmas.{closed-renamed}
use Rattle.journal_store.proofs.ToldLemmas.{told-new}
use Rattle.journal_store.proofs.journal.Journal.rename.Goals as goal

pub returns-then-ne-clause-moments : goal.returns-then-ne-clause-moments
returns-then-ne-clause-moments g c told =
    replaces-still _ c.args.from.now c.args.to.now _ _ _ tt tt

pub returns-then-not-is_empty-clause-moments : goal.returns-then-not-is_empty-clause-moments
returns-then-not-is_empty-clause-moments g c told =
    replaces-still _ c.args.from.now c.args.to.now _ _ _ tt tt

pub returns-in_err-hold-clause-moments : goal.returns-in_err-hold-clause-moments
returns-in_err-hold-clause-moments g c told =
    replaces-nothing _ c.args.from.now c.args.to.now _ _ _ _ (c.hold.ensures.moments told) (grind (arith, common_steps))
    (search rules) (search rules)

pub returns-in_default-clause-moments : goal.returns-in_default-clause-moments
returns-in_default-clause-moments g c told =
    let self = c.hold.new.self in
    let kind : kind_of c.args.from.now ≡ New = grind (arith, common_steps) in
    let new = is_new_name c.args.from.now kind in
    let it = stands (g.D.Disk.seen self.disk) _ _ c.in_ok-hold.ensures.held.0 self.plain
    (g.met.D.Disk.read_is_image self.disk) (self.settled told c.in_ok-hold.ensures.held.1) in
    replaces-renamed _ c.args.from.now c.args.to.now _ _ _ _ (c.hold.ensures.moments told) it.kind _
    c.rename.ensures.leaves tt tt
    (λ synced. renames-held (g.D.Disk.seen self.disk) (g.D.Disk.seen c.rename.new.self) self.name.bytes c.args.from.now
    c.args.to.now (ranges_of self.ranges.items) _ it new (c.in_ok-hold.ensures.leaves told).files
    (g.met.D.Disk.synced_is_kept self.disk c.args.from.now told) c.rename.ensures.leaves
    ((c.in_ok-hold.ensures.leaves told).unsynced c.args.from.now c.requires ∙ synced))

pub returns-clause-ok : goal.returns-clause-ok
returns-clause-ok g c told =
    let self = c.hold.new.self in
    let kind : kind_of c.args.from.now ≡ New = grind (arith, common_steps) in
    let new = is_new_name c.args.from.now kind in
    let it = stands (g.D.Disk.seen self.disk) _ _ c.in_ok-hold.ensures.held.0 self.plain
    (g.met.D.Disk.read_is_image self.disk) (self.settled told c.in_ok-hold.ensures.held.1) in
    let none : ranges_of self.ranges.items ≡ [] = ranges-none self.ranges.items (search rules) in
    renamed-at (g.D.Disk.seen self.disk) (g.D.Disk.seen c.rename.new.self) self.name.bytes c.args.from.now c.args.to.now
    (ranges_of self.ranges.items) it new none (c.in-Ok.ensures.ok told)
    ∙ ap (λ (w : World). with_new_name w c.args.from.now c.args.to.now) (c.in_ok-hold.ensures.leaves told).files

pub returns-clause-unsynced : goal.returns-clause-unsynced
returns-clause-unsynced g c told there =
    let self = c.hold.new.self in
    let kind : kind_of c.args.from.now ≡ New = grind (arith, common_steps) in
    let new = is_new_name c.args.from.now kind in
    let it = stands (g.D.Disk.seen self.disk) _ _ c.in_ok-hold.ensures.held.0 self.plain
    (g.met.D.Disk.read_is_image self.disk) (self.settled told c.in_ok-hold.ensures.held.1) in
    let none : ranges_of self.ranges.items ≡ [] = ranges-none self.ranges.items (search rules) in
    handed-at (g.D.Disk.seen self.disk) (g.D.Disk.seen c.rename.new.self) self.name.bytes c.args.from.now c.args.to.now
    (ranges_of self.ranges.items) it new none
    (c.in-Ok.ensures.unsynced told
    (subst (λ (f : Option (List ℕ)). IsSome f)
    (told-new (g.D.Disk.seen self.disk).files self.name.bytes (ranges_of self.ranges.items) c.args.from.now new.undo
    new.new) (subst (λ (w : World). IsSome (w c.args.from.now)) (sym (c.in_ok-hold.ensures.leaves told).files) there)))
    ∙ with_handed-keeps _ _ c.args.from.now c.args.to.now c.requires (c.in_ok-hold.ensures.leaves told).unsynced

pub returns-clause-absent : goal.returns-clause-absent
returns-clause-absent g c told absent =
    let self = c.hold.new.self in
    let kind : kind_of c.args.from.now ≡ New = grind (arith, common_steps) in
    let new = is_new_name c.args.from.now kind in
    adds_none-then _ _ _ ((c.in_ok-hold.ensures.leaves told).synced refl)
    (adds_none-told (g.D.Disk.seen self.disk).unsynced (g.D.Disk.seen c.rename.new.self).unsynced self.name.bytes
    (ranges_of self.ranges.items)
    (c.in-Ok.ensures.absent told
    (told-beside (g.D.Disk.seen self.disk) self.name.bytes c.args.from.now (ranges_of self.ranges.items) _ new
    (c.in_ok-hold.ensures.leaves told).files ∙ absent)))

pub returns-clause-names : goal.returns-clause-names
returns-clause-names g c told other one_differs two_differs =
    let self = c.hold.new.self in
    told-names-at (g.D.Disk.seen self.disk).unsynced (g.D.Disk.seen c.rename.new.self).unsynced self.name.bytes
    (ranges_of self.ranges.items) other (c.rename.ensures.others other one_differs two_differs)
    ∙ (c.in_ok-hold.ensures.leaves told).unsynced other two_differs

pub returns-clause-moments : goal.returns-clause-moments
returns-clause-moments g c told =
    let self = c.hold.new.self in
    let kind : kind_of c.args.from.now ≡ New = grind (arith, common_steps) in
    let new = is_new_name c.args.from.now kind in
    let it = stands (g.D.Disk.seen self.disk) _ _ c.in_ok-hold.ensures.held.0 self.plain
    (g.met.D.Disk.read_is_image self.disk) (self.settled told c.in_ok-hold.ensures.held.1) in
    replaces-renamed _ c.args.from.now c.args.to.now _ _ _ _ (c.hold.ensures.moments told) it.kind _
    c.rename.ensures.leaves (c.in-Ok.ensures.done told)
    (closed-renamed c.args.from.now c.args.to.now new it.plain (g.D.Disk.seen self.disk)
    (g.D.Disk.seen c.rename.new.self) it.ready.closed (c.in-Ok.ensures.done told))
    (λ synced. renames-held (g.D.Disk.seen self.disk) (g.D.Disk.seen c.rename.new.self) self.name.bytes c.args.from.now
    c.args.to.now (ranges_of self.ranges.items) _ it new (c.in_ok-hold.ensures.leaves told).files
    (g.met.D.Disk.synced_is_kept self.disk c.args.from.now told) c.rename.ensures.leaves
    ((c.in_ok-hold.ensures.leaves told).unsynced c.args.from.now c.requires ∙ synced))
