use Rattle.std.proofs.Common.{rules, sym, ◌∙◌}
use Rattle.edit_journal.proofs.RecoveryCallLemmas.{in_place-restored, in_place-undone, recovers-closed}
use Rattle.edit_journal.proofs.RecoveryCallLemmas.{recovers-in_place, recovers-restores}
use Rattle.edit_journal.proofs.recovery.recover_kept.Goals as goal

pub returns-in_err-restore-clause-passes : goal.returns-in_err-restore-clause-passes
returns-in_err-restore-clause-passes g c told read =
    recovers-restores c.args.name.now c.args.undo.now c.args.und.now c.requires.apart c.requires.unmade _ _
    (c.restore.ensures.passes told read)

pub returns-in_err-restore-clause-in_place : goal.returns-in_err-restore-clause-in_place
returns-in_err-restore-clause-in_place g c told read holds =
    in_place-restored c.args.name.now c.args.undo.now c.args.und.now c.requires.apart c.requires.unmade _ _ _
    (c.restore.ensures.passes told read) (λ other differs two_differs. c.restore.ensures.keeps.names other differs)

pub returns-in_err-close_gate-clause-passes : goal.returns-in_err-close_gate-clause-passes
returns-in_err-close_gate-clause-passes g c told read =
    recovers-closed c.args.name.now c.args.undo.now c.args.und.now c.requires.apart c.requires.unmade _ _ _
    c.args.head.count (g.met.D.Disk.read_is_image c.args.disk.now) (g.met.D.Disk.read_is_image c.restore.new.disk)
    (c.in_ok-restore.ensures.kept told read.file) read.saved (c.in_ok-restore.ensures.restored told read.begins)
    (sym read.begins.gate_byte ∙ c.requires.open) read.begins.many (c.restore.ensures.passes told read)
    (c.close_gate.ensures.passes told)

pub returns-in_err-close_gate-clause-in_place : goal.returns-in_err-close_gate-clause-in_place
returns-in_err-close_gate-clause-in_place g c told read holds =
    in_place-undone _
    (recovers-in_place c.args.name.now c.args.undo.now c.args.und.now c.requires.apart c.requires.unmade _ _ _
    c.args.head.count (g.met.D.Disk.read_is_image c.args.disk.now) (g.met.D.Disk.read_is_image c.restore.new.disk)
    (c.in_ok-restore.ensures.kept told read.file) read.saved (c.in_ok-restore.ensures.restored told read.begins)
    (sym read.begins.gate_byte ∙ c.requires.open) read.begins.many (c.restore.ensures.passes told read)
    _ c.restore.ensures.keeps.names holds (c.close_gate.ensures.in_place told)) (search rules)

pub returns-clause-passes : goal.returns-clause-passes
returns-clause-passes g c told read =
    recovers-closed c.args.name.now c.args.undo.now c.args.und.now c.requires.apart c.requires.unmade _ _ _
    c.args.head.count (g.met.D.Disk.read_is_image c.args.disk.now) (g.met.D.Disk.read_is_image c.restore.new.disk)
    (c.in_ok-restore.ensures.kept told read.file) read.saved (c.in_ok-restore.ensures.restored told read.begins)
    (sym read.begins.gate_byte ∙ c.requires.open) read.begins.many (c.restore.ensures.passes told read)
    (c.close_gate.ensures.passes told)

pub returns-clause-in_place : goal.returns-clause-in_place
returns-clause-in_place g c told read holds =
    recovers-in_place c.args.name.now c.args.undo.now c.args.und.now c.requires.apart c.requires.unmade _ _ _
    c.args.head.count (g.met.D.Disk.read_is_image c.args.disk.now) (g.met.D.Disk.read_is_image c.restore.new.disk)
    (c.in_ok-restore.ensures.kept told read.file) read.saved (c.in_ok-restore.ensures.restored told read.begins)
    (sym read.begins.gate_byte ∙ c.requires.open) read.begins.many (c.restore.ensures.passes told read)
    _ c.restore.ensures.keeps.names holds (c.in_ok-close_gate.ensures.in_place told)
