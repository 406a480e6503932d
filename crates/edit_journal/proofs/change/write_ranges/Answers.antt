use Rattle.outside.proofs.FrameLemmas.{keeps_others-then}
use Rattle.std.proofs.Common.{arith}
use Rattle.edit_journal.specs.ByteRanges.{ranges_of}
use Rattle.edit_journal.specs.UndoSaves.{IsOutsideAll}
use Rattle.edit_journal.proofs.LoopLemmas.{laid-step, outside-item, tears-less, tears-then}
use Rattle.edit_journal.proofs.change.write_ranges.Goals as goal

pub returns-in_err-write_range-clause-passes : goal.returns-in_err-write_range-clause-passes
returns-in_err-write_range-clause-passes g c =
    let range = c.range-item.result in
    tears-then (IsOutsideAll (ranges_of c.args.ranges.now)) c.args.name.now _ _ _ c.loop-range.invariant.passes
    (tears-less _ _ c.args.name.now _ _
    (outside-item c.args.ranges.now c.loop-range.range-index range c.range-item.is (omega arith))
    c.write_range.ensures.passes)

pub loop-range-preserved : goal.loop-range-preserved
loop-range-preserved g c =
    let range = c.range-item.result in
    record {
      written = λ told old was. laid-step c.args.ranges.now c.loop-range.range-index range old _ _ c.range-item.is
          (omega arith) (c.loop-range.invariant.written told old was) (c.in_ok-write_range.ensures.written told);
      passes =
          tears-then (IsOutsideAll (ranges_of c.args.ranges.now)) c.args.name.now _ _ _ c.loop-range.invariant.passes
          (tears-less _ _ c.args.name.now _ _
          (outside-item c.args.ranges.now c.loop-range.range-index range c.range-item.is (omega arith))
          c.write_range.ensures.passes);
      names = keeps_others-then c.args.name.now _ _ _ c.loop-range.invariant.names c.write_range.ensures.keeps.names;
      counted = omega (arith, c.loop-range.invariant.counted, c.write_range.ensures.keeps.counts.counted);
    }
