use Rattle.edit_journal.proofs.MakeLemmas.{closes-made}
use Rattle.edit_journal.proofs.recovery.close_gate.Goals as goal

pub returns-in_err-make_undo-clause-passes : goal.returns-in_err-make_undo-clause-passes
returns-in_err-make_undo-clause-passes g c told many kept =
    closes-made c.args.und.now c.args.undo.now c.requires.apart _ _ _ c.in_ok-holds_ranges.ensures.looks.passes
    (c.make_undo.ensures.passes told)

pub returns-clause-passes : goal.returns-clause-passes
returns-clause-passes g c told many kept =
    closes-made c.args.und.now c.args.undo.now c.requires.apart _ _ _ c.in_ok-holds_ranges.ensures.looks.passes
    (c.make_undo.ensures.passes told)
