use Rattle.outside.proofs.FrameLemmas.{keeps_others-then}
use Rattle.std.proofs.Common.{◌≡◌, [], List, ℕ, Option, unwrap_or, sym, ap, ◌∙◌, arith}
use Rattle.edit_journal.proofs.LayBackLemmas.{fit-here, ranges-laid, ranges-mended}
use Rattle.edit_journal.proofs.recovery.lay_spans.Goals as goal

pub returns-in_err-lay_span-clause-passes : goal.returns-in_err-lay_span-clause-passes
returns-in_err-lay_span-clause-passes g c told old_length fit counts =
    let D = g.D.Disk in
    let undo : List ℕ = unwrap_or ((D.seen c.args.disk.now).files c.args.undo.now) [] in
    let there : List ℕ = unwrap_or ((D.seen c.loop-k.disk).files c.args.undo.now) [] in
    let same : there ≡ undo =
    ap (λ (f : Option (List ℕ)). unwrap_or f []) (c.loop-k.invariant.same told old_length fit) in
    ranges-mended c.args.name.now undo there c.loop-k.k c.args.count _ _ _ same counts (omega arith)
    (c.loop-k.invariant.passes told old_length fit counts)
    (c.lay_span.ensures.passes told old_length
    (fit-here old_length undo there c.loop-k.k c.args.count same fit (omega arith)))

pub loop-k-preserved : goal.loop-k-preserved
loop-k-preserved g c =
    let D = g.D.Disk in
    let undo : List ℕ = unwrap_or ((D.seen c.args.disk.now).files c.args.undo.now) [] in
    let there : List ℕ = unwrap_or ((D.seen c.loop-k.disk).files c.args.undo.now) [] in
    record {
      same = λ told old_length fit.
          let same : there ≡ undo =
          ap (λ (f : Option (List ℕ)). unwrap_or f []) (c.loop-k.invariant.same told old_length fit) in
          let passes = c.lay_span.ensures.passes told old_length
          (fit-here old_length undo there c.loop-k.k c.args.count same fit (omega arith)) in
          passes.follows.read.1 c.args.undo.now (λ is. c.requires.apart (sym is))
          ∙ c.loop-k.invariant.same told old_length fit;
      laid = λ told old_length fit.
          let same : there ≡ undo =
          ap (λ (f : Option (List ℕ)). unwrap_or f []) (c.loop-k.invariant.same told old_length fit) in
          let fit_here = fit-here old_length undo there c.loop-k.k c.args.count same fit (omega arith) in
          ranges-laid undo there _ _ _ c.loop-k.k same (c.loop-k.invariant.laid told old_length fit)
          (c.in_ok-lay_span.ensures.laid told old_length fit_here);
      passes = λ told old_length fit counts.
          let same : there ≡ undo =
          ap (λ (f : Option (List ℕ)). unwrap_or f []) (c.loop-k.invariant.same told old_length fit) in
          ranges-mended c.args.name.now undo there c.loop-k.k c.args.count _ _ _ same counts (omega arith)
          (c.loop-k.invariant.passes told old_length fit counts)
          (c.lay_span.ensures.passes told old_length
          (fit-here old_length undo there c.loop-k.k c.args.count same fit (omega arith)));
      names = keeps_others-then c.args.name.now _ _ _ c.loop-k.invariant.names c.lay_span.ensures.keeps.names;
      counted = omega (arith, c.loop-k.invariant.counted, c.lay_span.ensures.keeps.counts.counted);
    }
