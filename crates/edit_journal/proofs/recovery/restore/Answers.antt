use Rattle.edit_journal.proofs.RecoveryCallLemmas.{restores-checked}
use Rattle.edit_journal.proofs.recovery.restore.Goals as goal

pub returns-in_err-mend-clause-passes : goal.returns-in_err-mend-clause-passes
returns-in_err-mend-clause-passes g c told read =
    restores-checked c.args.name.now c.args.undo.now c.args.head.gate c.args.head.old_length c.args.head.count
    c.in_ok-usable.usable _ _ _ c.requires.apart (g.met.D.Disk.read_is_image c.can_mend.new.disk) read.file read.saved
    c.in_ok-usable.ensures.looks.passes (c.in_ok-usable.ensures.usable told read.begins) c.if-not-usable.false
    read.begins (c.mend.ensures.passes told)

pub returns-clause-passes : goal.returns-clause-passes
returns-clause-passes g c told read =
    restores-checked c.args.name.now c.args.undo.now c.args.head.gate c.args.head.old_length c.args.head.count
    c.in_ok-usable.usable _ _ _ c.requires.apart (g.met.D.Disk.read_is_image c.can_mend.new.disk) read.file read.saved
    c.in_ok-usable.ensures.looks.passes (c.in_ok-usable.ensures.usable told read.begins) c.if-not-usable.false
    read.begins (c.mend.ensures.passes told)
