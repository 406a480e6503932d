use Rattle.edit_journal.specs.ByteRanges.{ranges_of}
use Rattle.edit_journal.proofs.CommitStopLemmas.{leaves-four, leaves-three, leaves-two, settled-four}
use Rattle.edit_journal.proofs.commit.commit_ranges.Goals as goal

pub returns-in_err-set_gate-clause-leaves : goal.returns-in_err-set_gate-clause-leaves
returns-in_err-set_gate-clause-leaves g c told old settled =
    leaves-two g.D.Disk.seen
    (λ disk. record {
      now = λ image was. (g.met.D.Disk.present_is_now disk image).0 was;
      is = g.met.D.Disk.read_is_image disk;
    }) c.args.name.now c.args.undo.now old (ranges_of c.args.ranges.now) c.requires.apart _ _ settled
    (record {
      passes = c.save_ranges.ensures.passes;
      kept = c.in_ok-save_ranges.ensures.kept told;
      saves = c.in_ok-save_ranges.ensures.saved told;
    }) _ c.set_gate.ensures.passes

pub returns-in_err-write_ranges-clause-leaves : goal.returns-in_err-write_ranges-clause-leaves
returns-in_err-write_ranges-clause-leaves g c told old settled =
    leaves-three g.D.Disk.seen
    (λ disk. record {
      now = λ image was. (g.met.D.Disk.present_is_now disk image).0 was;
      is = g.met.D.Disk.read_is_image disk;
    }) c.args.name.now c.args.undo.now old (ranges_of c.args.ranges.now) c.requires.apart _ _ settled
    (record {
      passes = c.save_ranges.ensures.passes;
      kept = c.in_ok-save_ranges.ensures.kept told;
      saves = c.in_ok-save_ranges.ensures.saved told;
    }) _
    (record {
      passes = c.set_gate.ensures.passes;
      kept = c.in_ok-set_gate.ensures.kept told;
      set = c.in_ok-set_gate.ensures.set told;
    }) _ c.write_ranges.ensures.passes

pub returns-in_err-set_gate-2-clause-leaves : goal.returns-in_err-set_gate-2-clause-leaves
returns-in_err-set_gate-2-clause-leaves g c told old settled =
    leaves-four g.D.Disk.seen
    (λ disk. record {
      now = λ image was. (g.met.D.Disk.present_is_now disk image).0 was;
      is = g.met.D.Disk.read_is_image disk;
    }) c.args.name.now c.args.undo.now old (ranges_of c.args.ranges.now) c.requires.apart _ _ settled
    (record {
      passes = c.save_ranges.ensures.passes;
      kept = c.in_ok-save_ranges.ensures.kept told;
      saves = c.in_ok-save_ranges.ensures.saved told;
    }) _
    (record {
      passes = c.set_gate.ensures.passes;
      kept = c.in_ok-set_gate.ensures.kept told;
      set = c.in_ok-set_gate.ensures.set told;
    }) _
    (record {
      passes = c.write_ranges.ensures.passes;
      kept = c.in_ok-write_ranges.ensures.kept told;
      written = c.in_ok-write_ranges.ensures.written told;
    }) _ c.set_gate-2.ensures.passes

pub returns-clause-leaves : goal.returns-clause-leaves
returns-clause-leaves g c told old settled =
    leaves-four g.D.Disk.seen
    (λ disk. record {
      now = λ image was. (g.met.D.Disk.present_is_now disk image).0 was;
      is = g.met.D.Disk.read_is_image disk;
    }) c.args.name.now c.args.undo.now old (ranges_of c.args.ranges.now) c.requires.apart _ _ settled
    (record {
      passes = c.save_ranges.ensures.passes;
      kept = c.in_ok-save_ranges.ensures.kept told;
      saves = c.in_ok-save_ranges.ensures.saved told;
    }) _
    (record {
      passes = c.set_gate.ensures.passes;
      kept = c.in_ok-set_gate.ensures.kept told;
      set = c.in_ok-set_gate.ensures.set told;
    }) _
    (record {
      passes = c.write_ranges.ensures.passes;
      kept = c.in_ok-write_ranges.ensures.kept told;
      written = c.in_ok-write_ranges.ensures.written told;
    }) _ c.set_gate-2.ensures.passes

pub returns-clause-settled : goal.returns-clause-settled
returns-clause-settled g c told old settled =
    settled-four g.D.Disk.seen
    (λ disk. record {
      now = λ image was. (g.met.D.Disk.present_is_now disk image).0 was;
      is = g.met.D.Disk.read_is_image disk;
    }) c.args.name.now c.args.undo.now old (ranges_of c.args.ranges.now) c.requires.apart _ _ settled
    (record {
      passes = c.save_ranges.ensures.passes;
      kept = c.in_ok-save_ranges.ensures.kept told;
      saves = c.in_ok-save_ranges.ensures.saved told;
    }) _
    (record {
      passes = c.set_gate.ensures.passes;
      kept = c.in_ok-set_gate.ensures.kept told;
      set = c.in_ok-set_gate.ensures.set told;
    }) _
    (record {
      passes = c.write_ranges.ensures.passes;
      kept = c.in_ok-write_ranges.ensures.kept told;
      written = c.in_ok-write_ranges.ensures.written told;
    }) _
    (record {
      passes = c.set_gate-2.ensures.passes;
      kept = c.in_ok-set_gate-2.ensures.kept told;
      set = c.in_ok-set_gate-2.ensures.set told;
    })
