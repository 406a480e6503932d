use Rattle.edit_journal.proofs.ReadLemmas.{looks-then}
use Rattle.edit_journal.proofs.RecoveryCallLemmas.{as_before, is_read, is_recovered-read, is_recovered-same}
use Rattle.edit_journal.proofs.RecoveryCallLemmas.{recovers-looks, recovers-restores, restores-looks}
use Rattle.edit_journal.proofs.recovery.recover_file.Goals as goal

pub returns-in_err-keep_both-clause-passes : goal.returns-in_err-keep_both-clause-passes
returns-in_err-keep_both-clause-passes g c told =
    recovers-restores c.args.name.now c.args.undo.now c.args.und.now c.requires.apart c.requires.unmade _ _
    (restores-looks c.args.name.now c.args.undo.now _ _ c.keep_both.ensures.looks)

pub returns-in_err-keep_both-clause-leaves : goal.returns-in_err-keep_both-clause-leaves
returns-in_err-keep_both-clause-leaves g c told =
    as_before c.args.name.now c.args.undo.now c.args.und.now _ _ (g.met.D.Disk.read_is_image c.args.disk.now)
    (λ image was. (g.met.D.Disk.present_is_now c.args.disk.now image).0 was)
    (returns-in_err-keep_both-clause-passes g c told)

pub returns-in_err-head-clause-passes : goal.returns-in_err-head-clause-passes
returns-in_err-head-clause-passes g c told =
    recovers-restores c.args.name.now c.args.undo.now c.args.und.now c.requires.apart c.requires.unmade _ _
    (restores-looks c.args.name.now c.args.undo.now _ _
    (looks-then _ _ _ c.keep_both.ensures.looks c.read_head.ensures.looks.passes))

pub returns-in_err-head-clause-leaves : goal.returns-in_err-head-clause-leaves
returns-in_err-head-clause-leaves g c told =
    as_before c.args.name.now c.args.undo.now c.args.und.now _ _ (g.met.D.Disk.read_is_image c.args.disk.now)
    (λ image was. (g.met.D.Disk.present_is_now c.args.disk.now image).0 was)
    (returns-in_err-head-clause-passes g c told)

pub returns-then-head-ne-OPEN-clause-passes : goal.returns-then-head-ne-OPEN-clause-passes
returns-then-head-ne-OPEN-clause-passes g c told =
    recovers-restores c.args.name.now c.args.undo.now c.args.und.now c.requires.apart c.requires.unmade _ _
    (restores-looks c.args.name.now c.args.undo.now _ _
    (looks-then _ _ _ c.keep_both.ensures.looks c.in_ok-head.ensures.looks.passes))

pub returns-then-head-ne-OPEN-clause-leaves : goal.returns-then-head-ne-OPEN-clause-leaves
returns-then-head-ne-OPEN-clause-leaves g c told =
    as_before c.args.name.now c.args.undo.now c.args.und.now _ _ (g.met.D.Disk.read_is_image c.args.disk.now)
    (λ image was. (g.met.D.Disk.present_is_now c.args.disk.now image).0 was)
    (returns-then-head-ne-OPEN-clause-passes g c told)

pub returns-in_err-recover_kept-clause-passes : goal.returns-in_err-recover_kept-clause-passes
returns-in_err-recover_kept-clause-passes g c told =
    recovers-looks c.args.name.now c.args.undo.now c.args.und.now c.requires.apart c.requires.unmade _ _ _
    (looks-then _ _ _ c.keep_both.ensures.looks c.in_ok-head.ensures.looks.passes)
    (c.recover_kept.ensures.passes told
    (is_read c.args.name.now c.args.undo.now _ _ _ _ _ (c.in_ok-keep_both.ensures.file told)
    (c.in_ok-keep_both.ensures.saved told) c.in_ok-head.ensures.looks.passes (c.in_ok-head.ensures.begins told)))

pub returns-in_err-recover_kept-clause-leaves : goal.returns-in_err-recover_kept-clause-leaves
returns-in_err-recover_kept-clause-leaves g c told =
    as_before c.args.name.now c.args.undo.now c.args.und.now _ _ (g.met.D.Disk.read_is_image c.args.disk.now)
    (λ image was. (g.met.D.Disk.present_is_now c.args.disk.now image).0 was)
    (returns-in_err-recover_kept-clause-passes g c told)

pub returns-clause-passes : goal.returns-clause-passes
returns-clause-passes g c told =
    recovers-looks c.args.name.now c.args.undo.now c.args.und.now c.requires.apart c.requires.unmade _ _ _
    (looks-then _ _ _ c.keep_both.ensures.looks c.in_ok-head.ensures.looks.passes)
    (c.recover_kept.ensures.passes told
    (is_read c.args.name.now c.args.undo.now _ _ _ _ _ (c.in_ok-keep_both.ensures.file told)
    (c.in_ok-keep_both.ensures.saved told) c.in_ok-head.ensures.looks.passes (c.in_ok-head.ensures.begins told)))

pub returns-clause-leaves : goal.returns-clause-leaves
returns-clause-leaves g c told =
    as_before c.args.name.now c.args.undo.now c.args.und.now _ _ (g.met.D.Disk.read_is_image c.args.disk.now)
    (λ image was. (g.met.D.Disk.present_is_now c.args.disk.now image).0 was) (returns-clause-passes g c told)

pub returns-then-head-ne-OPEN-clause-done : goal.returns-then-head-ne-OPEN-clause-done
returns-then-head-ne-OPEN-clause-done g c told =
    is_recovered-read c.args.name.now c.args.undo.now c.in_ok-head.head.gate _ _ _ c.keep_both.ensures.looks
    c.in_ok-head.ensures.looks.passes (c.in_ok-keep_both.ensures.file told) (c.in_ok-keep_both.ensures.saved told)
    (c.in_ok-head.ensures.begins told).gate_byte c.if-head-ne-OPEN.true

pub returns-clause-done : goal.returns-clause-done
returns-clause-done g c told =
    is_recovered-same c.args.name.now c.args.undo.now _ _ _
    (looks-then _ _ _ c.keep_both.ensures.looks c.in_ok-head.ensures.looks.passes)
    (c.in_ok-recover_kept.ensures.done told
    (is_read c.args.name.now c.args.undo.now _ _ _ _ _ (c.in_ok-keep_both.ensures.file told)
    (c.in_ok-keep_both.ensures.saved told) c.in_ok-head.ensures.looks.passes (c.in_ok-head.ensures.begins told)))
