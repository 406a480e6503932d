use Rattle.disk.specs.DiskCalls.{CutShort, IsOutside, Torn}
use Rattle.edit_journal.proofs.MakeLemmas.{is_made, makes-call, makes-more, makes-named, makes-synced, named-kept}
use Rattle.edit_journal.proofs.MakeLemmas.{named-made}
use Rattle.edit_journal.proofs.new_undo.make_undo.Goals as goal

pub returns-in_err-create-clause-passes : goal.returns-in_err-create-clause-passes
returns-in_err-create-clause-passes g c told =
    makes-call c.args.und.now c.args.undo.now c.requires.apart (CutShort 0) _ _ c.create.ensures.leaves

pub returns-in_err-write-clause-passes : goal.returns-in_err-write-clause-passes
returns-in_err-write-clause-passes g c told =
    makes-more c.args.und.now c.args.undo.now c.requires.apart _ _ _
    (makes-call c.args.und.now c.args.undo.now c.requires.apart (CutShort 0) _ _ c.create.ensures.leaves)
    (makes-call c.args.und.now c.args.undo.now c.requires.apart (Torn (IsOutside 0 1024)) _ _ c.write.ensures.leaves)

pub returns-in_err-sync-clause-passes : goal.returns-in_err-sync-clause-passes
returns-in_err-sync-clause-passes g c told =
    makes-synced c.args.und.now c.args.undo.now c.requires.apart _ _ _ _ c.create.ensures.leaves c.write.ensures.leaves
    c.sync.ensures.leaves

pub returns-in_err-rename-clause-passes : goal.returns-in_err-rename-clause-passes
returns-in_err-rename-clause-passes g c told =
    let D = g.D.Disk in
    let is = is_made c.args.und.now c.args.undo.now c.requires.apart (D.seen c.args.disk.now) (D.seen c.create.new.self)
    (D.seen c.write.new.self) (D.seen c.sync.new.self) c.create.ensures.leaves c.write.ensures.leaves
    c.sync.ensures.leaves (c.in_ok-create.ensures.ok told) (c.in_ok-write.ensures.ok told) in
    makes-named c.args.und.now c.args.undo.now c.requires.apart _ _ _ _ c.create.ensures.leaves c.write.ensures.leaves
    c.sync.ensures.leaves _ (c.in_ok-sync.ensures.kept told) is c.rename.ensures.leaves

pub returns-clause-passes : goal.returns-clause-passes
returns-clause-passes g c told =
    let D = g.D.Disk in
    let is = is_made c.args.und.now c.args.undo.now c.requires.apart (D.seen c.args.disk.now) (D.seen c.create.new.self)
    (D.seen c.write.new.self) (D.seen c.sync.new.self) c.create.ensures.leaves c.write.ensures.leaves
    c.sync.ensures.leaves (c.in_ok-create.ensures.ok told) (c.in_ok-write.ensures.ok told) in
    makes-named c.args.und.now c.args.undo.now c.requires.apart _ _ _ _ c.create.ensures.leaves c.write.ensures.leaves
    c.sync.ensures.leaves _ (c.in_ok-sync.ensures.kept told) is c.rename.ensures.leaves

pub returns-clause-made : goal.returns-clause-made
returns-clause-made g c told =
    let D = g.D.Disk in
    let is = is_made c.args.und.now c.args.undo.now c.requires.apart (D.seen c.args.disk.now) (D.seen c.create.new.self)
    (D.seen c.write.new.self) (D.seen c.sync.new.self) c.create.ensures.leaves c.write.ensures.leaves
    c.sync.ensures.leaves (c.in_ok-create.ensures.ok told) (c.in_ok-write.ensures.ok told) in
    named-made c.args.und.now c.args.undo.now c.requires.apart (D.seen c.sync.new.self) (D.seen c.rename.new.self) is
    (c.in_ok-rename.ensures.ok told)

pub returns-clause-kept : goal.returns-clause-kept
returns-clause-kept g c told =
    let D = g.D.Disk in
    let is = is_made c.args.und.now c.args.undo.now c.requires.apart (D.seen c.args.disk.now) (D.seen c.create.new.self)
    (D.seen c.write.new.self) (D.seen c.sync.new.self) c.create.ensures.leaves c.write.ensures.leaves
    c.sync.ensures.leaves (c.in_ok-create.ensures.ok told) (c.in_ok-write.ensures.ok told) in
    named-kept c.args.und.now c.args.undo.now c.requires.apart (D.seen c.sync.new.self) (D.seen c.rename.new.self)
    (c.in_ok-sync.ensures.kept told) is (c.in_ok-rename.ensures.done told)
    (named-made c.args.und.now c.args.undo.now c.requires.apart (D.seen c.sync.new.self) (D.seen c.rename.new.self) is
    (c.in_ok-rename.ensures.ok told))
