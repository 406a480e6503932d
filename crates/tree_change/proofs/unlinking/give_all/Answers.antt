use Rattle.std.proofs.Common.{ℕ, List, get_or, refl, ap, ◌∙◌, arith, true, [], ◌∷◌, inl, inr, subst}
use Rattle.std.proofs.lemmas.Result.{err_from_is_err_and}
use Rattle.quota_pages.specs.Pages.{pages_of}
use Rattle.quota_pages.proofs.UsedLemmas.{room-there, shown_over-lends, lends_more, lends_of_looks, lends_then}
use Rattle.quota_pages.proofs.UsedLemmas.{looks_none, missing-there}
use Rattle.quota_pages.proofs.UsesLemmas.{uses_none, uses_of_lends, uses_of_looks}
use Rattle.free_chains.specs.declared.heads.Heads.{Heads}
use Rattle.tree_change.proofs.GivenLemmas.{gives_all, gives_more, gives_none, still_there, uses_there}
use Rattle.quota_types.specs.Times.{StandsIn}
use Rattle.quota_types.proofs.TimesLemmas.{StandsIn-get_or, only_one, stands_either}
use Rattle.quota_pages.proofs.LentLemmas.{lends_among}
use Rattle.tree_change.proofs.unlinking.give_all.Goals as goal

pub loop-block-init : goal.loop-block-init
loop-block-init g c = record {
  same = refl;
  blocks = refl;
  first = refl;
  lends = lends_among c.args.given.now (λ number stands. absurd (omega (arith, stands)))
      (lends_of_looks (looks_none {ok = true} g.S.Store.tells _ _));
  uses = uses_none g.S.Store.tells _ _;
  gives = λ known. gives_none c.args.given.now _ c.args.heads.now;
  commits = g.S.Store.commits_nothing [] _;
}

pub give_block-requires : goal.give_block-requires
give_block-requires g c =
    let kept = c.loop-block.invariant in
    let given : List ℕ = c.args.given.now in
    let index : ℕ = c.loop-block.block-index in
    room-there (pages_of c.loop-block.pages) (get_or given index 0)
    (still_there c.args.pages.now c.loop-block.pages given index kept.uses c.requires.buffered c.loop-block-test.true)

pub loop-block-preserved : goal.loop-block-preserved
loop-block-preserved g c =
    let kept = c.loop-block.invariant in
    let gave = c.in_ok-give_block.ensures in
    let given : List ℕ = c.args.given.now in
    let index : ℕ = c.loop-block.block-index in
    record {
      same = kept.same;
      blocks = ap (λ (heads : Heads). heads.blocks) gave.head ∙ kept.blocks;
      first = ap (λ (heads : Heads). heads.first) gave.head ∙ kept.first;
      lends = lends_among given
          (λ number stands. elim (stands_either given (get_or given index 0 ∷ []) number stands) [
            | inl among ↦ among
            | inr one ↦ subst (λ (n : ℕ). StandsIn given n) (only_one (get_or given index 0) number one)
                (StandsIn-get_or given index c.loop-block-test.true)
          ])
          (lends_more 0 (omega (
            arith,
            missing-there (pages_of c.loop-block.pages) (get_or given index 0)
                (still_there c.args.pages.now c.loop-block.pages given index kept.uses c.requires.buffered
                c.loop-block-test.true),
          ))
          (lends_then kept.lends gave.lends));
      uses = uses_there (get_or given index 0)
          (still_there c.args.pages.now c.loop-block.pages given index kept.uses c.requires.buffered
          c.loop-block-test.true) kept.uses (uses_of_lends gave.lends);
      gives =
          λ known.
          gives_more given index _ _ _ c.args.heads.now c.loop-block.now c.give_block.new.heads c.loop-block-test.true
          (shown_over-lends gave.lends) (gave.given (kept.uses.known known)) gave.head (kept.gives known);
      commits = g.S.Store.commits_on [] [] _ _ _ c.loop-block.invariant.commits gave.commits;
    }

pub returns-clause-given : goal.returns-clause-given
returns-clause-given g c = λ known.
    gives_all c.args.given.now c.loop-block.block-index _ _ c.args.heads.now c.loop-block.now
    (omega (arith, c.loop-block-test.false)) (c.loop-block.invariant.gives known)

pub returns-in_err-give_block-clause-uses : goal.returns-in_err-give_block-clause-uses
returns-in_err-give_block-clause-uses g c =
    let kept = c.loop-block.invariant in
    let given : List ℕ = c.args.given.now in
    let index : ℕ = c.loop-block.block-index in
    let p = err_from_is_err_and c.from_residual.result c.from_residual.ensures.1 in
    rw p.1 (uses_there (get_or given index 0)
    (still_there c.args.pages.now c.loop-block.pages given index kept.uses c.requires.buffered c.loop-block-test.true)
    kept.uses (uses_of_looks c.in_err-give_block.ensures.kept))
