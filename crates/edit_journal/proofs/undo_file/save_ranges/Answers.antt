use Rattle.outside.proofs.FrameLemmas.{keeps_others-then}
use Rattle.std.proofs.Common.{◌≤◌, ◌∙◌, ap, sym, subst, List, ℕ, Option, [], length, unwrap_or, inl, arith}
use Rattle.std.proofs.lemmas.List.{length-map}
use Rattle.outside.specs.World.{World}
use Rattle.edit_journal.specs.ByteRanges.{ByteRange, range_of, ranges_of}
use Rattle.edit_journal.specs.UndoSaves.{SavesFrom}
use Rattle.edit_journal.proofs.LoopLemmas.{ranges-all, saves-step, tears-less, tears-then}
use Rattle.edit_journal.proofs.WrittenLemmas.{length-or_none, saves-written, written-bytes}
use Rattle.edit_journal.proofs.undo_file.save_ranges.Goals as goal

pub loop-index-preserved : goal.loop-index-preserved
loop-index-preserved g c =
    let D = g.D.Disk in
    let kept = c.loop-index.invariant in
    let one = c.in_ok-save_range.ensures in
    record {
      saved = λ told.
          saves-step _ _ c.args.ranges.now c.loop-index.index c.index-ranges-index.result _ _
          c.index-ranges-index.is (omega arith)
          (ap (λ (f : Option (List ℕ)). unwrap_or f []) (kept.passes.follows.read.1 c.args.name.now c.requires.apart))
          (kept.saved told) one.passes.follows.read.0 (one.saved told);
      passes = tears-then _ c.args.undo.now _ _ _ kept.passes
          (tears-less _ _ c.args.undo.now _ _ (λ place low. inl (omega (arith, low))) one.passes);
      names = keeps_others-then c.args.undo.now _ _ _ kept.names one.keeps.names;
      counted = omega (arith, kept.counted, one.keeps.counts.counted);
    }

pub returns-clause-saved : goal.returns-clause-saved
returns-clause-saved g c told long =
    let D = g.D.Disk in
    let kept = c.loop-index.invariant in
    let ranges = c.args.ranges.now in
    let old : List ℕ = unwrap_or ((D.seen c.args.disk.now).files c.args.name.now) [] in
    let mid : List ℕ = unwrap_or ((D.seen c.loop-index.disk).files c.args.undo.now) [] in
    let all : SavesFrom old 0 (ranges_of ranges) mid = subst (λ (s : List ByteRange). SavesFrom old 0 s mid)
    (ranges-all ranges c.loop-index.index (omega arith)) (kept.saved told) in
    let longer : 1024 ≤ length mid = omega (arith, long, kept.passes.follows.read.0.no_shorter) in
    saves-written old (ranges_of ranges) mid c.undo_head.result _ longer
    (omega (arith, length-map ranges range_of, c.requires.most))
    (c.undo_head.ensures.old_length ∙ c.unwrap_or-old_length.ensures
    ∙ length-or_none _ _ (c.in_ok-size.ensures.found told))
    (c.undo_head.ensures.count ∙ sym (length-map ranges range_of))
    c.undo_head.ensures.whole
    all
    (ap (λ (f : World). unwrap_or (f c.args.undo.now) []) c.in_ok-sync.ensures.leaves.files
    ∙ written-bytes (D.seen c.loop-index.disk).files (D.seen c.write.new.self).files c.args.undo.now 8
    c.undo_head.result (c.in_ok-write.ensures.ok told))
