use Rattle.std.proofs.Common.{ℕ, List, ap, length, take, arith}
use Rattle.edit_journal.specs.ByteRanges.{laid, ranges_of}
use Rattle.edit_journal.proofs.LoopLemmas.{laid-next}
use Rattle.journal_store.proofs.OverlayLemmas.{length-laid_one}
use Rattle.journal_store.proofs.overlay.laid_length.Goals as goal

pub loop-range-preserved : goal.loop-range-preserved
loop-range-preserved c = λ file long.
    let range = c.range-item.result in
    let so_far : List ℕ = laid (ranges_of (take c.loop-range.range-index c.args.ranges.now)) file in
    let more =
    ap length (laid-next c.args.ranges.now c.loop-range.range-index range file c.range-item.is (omega arith)) in
    let one = length-laid_one so_far range.at range.bytes.items range.some in
    omega (arith, more, one, c.loop-range.invariant file long, c.max-longest.ensures, c.end_of.ensures)
