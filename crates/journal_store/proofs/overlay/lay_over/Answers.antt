use Rattle.std.proofs.Common.{ℕ, List, ◌+◌, ◌∙◌, sym, ap, take, arith}
use Rattle.quota_types.specs.Bytes.{byte_at}
use Rattle.edit_journal.specs.ByteRanges.{ByteRange, laid, ranges_of}
use Rattle.edit_journal.proofs.LoopLemmas.{laid-next, ranges-all}
use Rattle.journal_store.proofs.overlay.lay_over.Goals as goal

pub loop-range-preserved : goal.loop-range-preserved
loop-range-preserved c = λ file same j below.
    let so_far : List ℕ = laid (ranges_of (take c.loop-range.range-index c.args.ranges.now)) file in
    c.lay_one.ensures so_far
    (λ i inside. c.loop-range.invariant file same i (omega (arith, inside, c.loop-range.auto.buf))) j
    (omega (arith, below, c.loop-range.auto.buf))
    ∙ ap (λ (f : List ℕ). byte_at f (c.args.at + j))
    (sym (laid-next c.args.ranges.now c.loop-range.range-index c.range-item.result file c.range-item.is (omega arith)))

pub returns : goal.returns
returns c = λ file same j below.
    c.loop-range.invariant file same j below
    ∙ ap (λ (s : List ByteRange). byte_at (laid s file) (c.args.at + j))
    (ranges-all c.args.ranges.now c.loop-range.range-index (omega arith))
