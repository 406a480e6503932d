use Rattle.std.proofs.Common.{◌≡◌, ℕ, ◌+◌, List, [], false, unwrap_or, below_more, sym, ap, ◌∙◌, arith}
use Rattle.std.proofs.lemmas.Bool.{false_from_ne_true, false≢true}
use Rattle.outside.specs.World.{World}
use Rattle.quota_types.specs.Bytes.{number_at}
use Rattle.edit_journal.specs.Undo.{range_at, saved_range, range_fits}
use Rattle.edit_journal.proofs.ReadLemmas.{fit-all, fit-each, fits-numbers, looks-then}
use Rattle.edit_journal.proofs.undo_reads.all_fit.Goals as goal

pub returns-then-not-fits-clause-fit : goal.returns-then-not-fits-clause-fit
returns-then-not-fits-clause-fit g c told =
    let D = g.D.Disk in
    let undo : List ℕ = unwrap_or ((D.seen c.args.disk.now).files c.args.undo.now) [] in
    let same = ap (λ (f : World). unwrap_or (f c.args.undo.now) []) c.loop-k.invariant.looks.follows.read in
    let one : range_fits c.args.old_length (saved_range undo c.loop-k.k) ≡ false =
    fits-numbers c.args.old_length c.in_ok-span.span.at c.in_ok-span.span.saved c.loop-k.k undo
    (c.in_ok-span.ensures.place told ∙ ap (λ (f : List ℕ). number_at 8 f (range_at c.loop-k.k)) same)
    (c.in_ok-span.ensures.number told ∙ ap (λ (f : List ℕ). number_at 2 f (range_at c.loop-k.k + 8)) same)
    ∙ sym c.fits.ensures ∙ c.if-not-fits.true in
    let here : c.loop-k.k ≡ 0 + c.loop-k.k = omega arith in
    sym (false_from_ne_true _ (λ all.
    false≢true (sym one ∙ ap (λ (n : ℕ). range_fits c.args.old_length (saved_range undo n)) here
    ∙ fit-each c.args.old_length undo 0 c.args.count all c.loop-k.k (omega arith))))

pub loop-k-preserved : goal.loop-k-preserved
loop-k-preserved g c =
    let D = g.D.Disk in
    let undo : List ℕ = unwrap_or ((D.seen c.args.disk.now).files c.args.undo.now) [] in
    let same = ap (λ (f : World). unwrap_or (f c.args.undo.now) []) c.loop-k.invariant.looks.follows.read in
    record {
      fit = λ told.
          below_more _ _ (c.loop-k.invariant.fit told)
          (fits-numbers c.args.old_length c.in_ok-span.span.at c.in_ok-span.span.saved c.loop-k.k undo
          (c.in_ok-span.ensures.place told ∙ ap (λ (f : List ℕ). number_at 8 f (range_at c.loop-k.k)) same)
          (c.in_ok-span.ensures.number told ∙ ap (λ (f : List ℕ). number_at 2 f (range_at c.loop-k.k + 8)) same)
          ∙ sym c.fits.ensures ∙ c.if-not-fits.false);
      names = c.in_ok-span.ensures.looks.names ∙ c.loop-k.invariant.names;
      counted = omega (arith, c.loop-k.invariant.counted, c.in_ok-span.ensures.looks.counts.counted);
      looks = looks-then _ _ _ c.loop-k.invariant.looks c.in_ok-span.ensures.looks.passes;
    }

pub returns-clause-fit : goal.returns-clause-fit
returns-clause-fit g c told =
    let undo : List ℕ = unwrap_or ((g.D.Disk.seen c.args.disk.now).files c.args.undo.now) [] in
    sym (fit-all c.args.old_length undo 0 c.args.count
    (λ i below.
    let here : 0 + i ≡ i = omega arith in
    ap (λ (n : ℕ). range_fits c.args.old_length (saved_range undo n)) here
    ∙ c.loop-k.invariant.fit told i (omega (arith, below, c.loop-k-test.false))))
