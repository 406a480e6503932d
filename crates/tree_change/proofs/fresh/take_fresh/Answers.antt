use Rattle.std.proofs.Common.{true, ◌≡◌, ℕ, ◌∷◌, [], ◌++◌, List, inl, inr, sym, ap, subst, ◌∙◌, arith}
use Rattle.std.specs.Prelude.{⊤}
use Rattle.std.proofs.lemmas.Result.{err_from_is_err_and}
use Rattle.quota_types.specs.Times.{StandsIn, times}
use Rattle.quota_types.proofs.TimesLemmas.{only_one, stands_either, times-append}
use Rattle.quota_pages.specs.Page.{is_buffered}
use Rattle.quota_pages.specs.Pages.{pages_of}
use Rattle.quota_pages.specs.Used.{shown_over}
use Rattle.quota_pages.proofs.UsedLemmas.{shown_over-lends}
use Rattle.quota_pages.proofs.UsesLemmas.{uses_of_lends, uses_then}
use Rattle.tree_change.specs.Fresh.{TakesFresh}
use Rattle.tree_change.proofs.FreshLemmas.{takes_one_more, taking_refused}
use Rattle.tree_change.proofs.WithinLemmas.{other_block, takes_then}
use Rattle.tree_change.proofs.FullLemmas.{tells_since}
use Rattle.tree_change.proofs.fresh.take_fresh.Goals as goal

pub returns-in_err-block-clause-refused : goal.returns-in_err-block-clause-refused
returns-in_err-block-clause-refused g c =
    let p = err_from_is_err_and c.from_residual.result c.from_residual.ensures.1 in
    let kept = c.loop.invariant in
    rw (p.1, p.2)
    (taking_refused _ _ _ _ _ c.loop.fresh.items c.args.limit c.args.count _ _ c.args.heads.now c.loop.now _
    kept.uses.leaves.later kept.uses.known kept.taken (omega (arith, kept.long)) c.in_err-block.ensures.refused)

pub loop-preserved : goal.loop-preserved
loop-preserved g c =
    let kept = c.loop.invariant in
    let took = c.in_ok-block.ensures in
    let fresh : List ℕ = c.loop.fresh.items in
    let block : ℕ = c.in_ok-block.block in
    let items : c.push.new.self.items ≡ fresh ++ block ∷ [] = c.push.ensures.items in
    record {
      long = omega (arith, c.push.ensures.len, kept.long);
      most = omega (arith, kept.most, took.most);
      takes = takes_then c.args.limit ⊤ ⊤ c.args.heads.now c.loop.now c.take_one.new.heads c.args.pages.now c.loop.pages
          c.take_one.new.pages (λ is. is) kept.takes took.takes;
      beside = λ some. subst (λ (xs : List ℕ). times xs 0 ≡ 0) (sym items)
          (omega (
            arith,
            kept.beside some,
            other_block block (took.beside (λ none. some (omega (arith, none, kept.takes.at_least)))),
            times-append fresh (block ∷ []) 0,
          ));
      first = took.first ∙ kept.first;
      same = kept.same;
      brought =
          subst (λ (xs : List ℕ).
          (number : ℕ) → StandsIn xs number → is_buffered (pages_of c.take_one.new.pages) number ≡ true) (sym items)
          (λ number stands. elim (stands_either fresh (block ∷ []) number stands) [
            | inl before ↦ took.lends.stay number (kept.brought number before)
            | inr it ↦ ap (is_buffered (pages_of c.take_one.new.pages)) (sym (only_one block number it)) ∙ took.brought
          ]);
      uses = uses_then kept.uses (uses_of_lends took.lends);
      taken =
          λ known. subst (λ (xs : List ℕ). TakesFresh xs (shown_over (g.S.Store.seen c.args.store.now) c.args.pages.now)
          (shown_over (g.S.Store.seen c.take_one.new.store) c.take_one.new.pages) c.args.heads.now c.take_one.new.heads)
          (sym items)
          (takes_one_more fresh _ _ _ c.args.heads.now c.loop.now c.take_one.new.heads block
          (shown_over-lends took.lends) (kept.taken known) (took.taken (kept.uses.known known)));
      commits = g.S.Store.commits_on [] [] _ _ _ c.loop.invariant.commits took.commits;
    }

pub returns-in_err-block-clause-full : goal.returns-in_err-block-clause-full
returns-in_err-block-clause-full g c =
    let p = err_from_is_err_and c.from_residual.result c.from_residual.ensures.1 in
    let kept = c.loop.invariant in
    rw (p.1, p.2)
    (tells_since c.args.heads.now c.loop.now c.args.limit _ kept.takes.at_least kept.most c.in_err-block.ensures.full)
