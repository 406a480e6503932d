use Rattle.std.proofs.Common.{◌≡◌, ℕ, ◌≤◌, List, [], ◌∷◌, ◌++◌, get_or, refl, ap, ◌∙◌, arith}
use Rattle.std.proofs.lemmas.Result.{err_from_is_err_and}
use Rattle.quota_types.specs.declared.damage.Damage.{Damage}
use Rattle.file_blocks.specs.Block.{word_at}
use Rattle.quota_radix.proofs.AlongLemmas.{IsAlong, along_all_inside, along_end_inside, along_leaf, along_more}
use Rattle.quota_radix.proofs.AlongLemmas.{along_no_leaf, along_out, along_out_at, along_start, nth}
use Rattle.quota_radix.proofs.WalkLemmas.{damaged_weaker, looks_within, pages_stay, since, walk_refused}
use Rattle.quota_pages.proofs.UsedLemmas.{held_since, looks_none, missing-few}
use Rattle.quota_pages.specs.Pages.{HoldsAsBuffered, pages_of}
use Rattle.quota_radix.specs.Way.{IsOutOnWay}
use Rattle.quota_pages.specs.Page.{is_buffered}
use Rattle.quota_pages.proofs.UsesLemmas.{there-missing}
use Rattle.quota_radix.proofs.WayRoomLemmas.{first_looked, way_room}
use Rattle.quota_radix.proofs.finding.leaf.Goals as goal

pub loop-digit-init : goal.loop-digit-init
loop-digit-init g c = record {
  within = omega arith;
  along = λ known. (1 ∷ [], along_start _ c.args.blocks c.args.id (1 ∷ []) refl);
  held = λ file clean. (1 ∷ [], along_start _ c.args.blocks c.args.id (1 ∷ []) refl);
  few = λ known. omega arith;
  looked = (looks_none _ _ _);
  commits = g.S.Store.commits_nothing [] _;
}

pub reference_in-requires : goal.reference_in-requires
reference_in-requires g c =
    let kept = c.loop-digit.invariant in
    way_room (pages_of c.args.pages.now) (pages_of c.loop-digit.pages) _ c.args.blocks c.args.id
    c.loop-digit.digit-index c.loop-digit.block c.loop-digit-test.true c.requires
    (kept.along) kept.looked.stay kept.looked.few kept.few

pub returns-in_err-block-clause-refused : goal.returns-in_err-block-clause-refused
returns-in_err-block-clause-refused g c =
    let p = err_from_is_err_and c.from_residual.result c.from_residual.ensures.1 in
    let kept = c.loop-digit.invariant in
    let index : ℕ = c.loop-digit.digit-index in
    let word : ℕ = get_or c.digits-digit-items.result index 0 in
    let digit_is = nth c.digits-digit-items.result c.args.id index c.digits-digit-items.ensures.digits in
    rw (p.1, p.2) (walk_refused _ _ _ _ _ kept.looked.leaves.later (λ damage out. (
      ap (λ (d : Damage). d.kind) out.0,
      ap (λ (d : Damage). is_buffered (pages_of c.reference_in.new.pages) d.block) out.0
          ∙ there-missing (pages_of c.reference_in.new.pages) c.loop-digit.block out.1,
      λ known. along_out _ c.args.blocks c.args.id index c.loop-digit.block word _ damage c.loop-digit-test.true
          digit_is (kept.along known).1 out.0
          (since (pages_stay kept.looked)
          (λ (file : List ℕ). c.args.blocks ≤ word_at file c.loop-digit.block word) out.2 known),
    )) _ c.in_err-block.ensures.refused)

pub returns-in_err-block-clause-named : goal.returns-in_err-block-clause-named
returns-in_err-block-clause-named g c =
    let p = err_from_is_err_and c.from_residual.result c.from_residual.ensures.1 in
    let kept = c.loop-digit.invariant in
    let index : ℕ = c.loop-digit.digit-index in
    let word : ℕ = get_or c.digits-digit-items.result index 0 in
    let digit_is = nth c.digits-digit-items.result c.args.id index c.digits-digit-items.ensures.digits in
    let says : Damage → Type 0 = λ damage.
    HoldsAsBuffered c.reference_in.new.pages (λ shown. IsOutOnWay shown c.args.blocks c.args.id damage.block) in
    rw (p.1, p.2) (damaged_weaker _ says (λ damage out file clean.
    along_out_at _ c.args.blocks c.args.id index c.loop-digit.block damage.block word _ c.loop-digit-test.true digit_is
    (held_since c.in_err-block.ensures.looked
    (λ (f : List ℕ). (found : List ℕ) × IsAlong f c.args.blocks c.args.id index c.loop-digit.block found)
    kept.held file clean).1
    out.0 (out.1 file clean)) _ c.in_err-block.ensures.named)

pub loop-digit-preserved : goal.loop-digit-preserved
loop-digit-preserved g c =
    let kept = c.loop-digit.invariant in
    let read = c.in_ok-block.ensures in
    let index : ℕ = c.loop-digit.digit-index in
    let word : ℕ = get_or c.digits-digit-items.result index 0 in
    let digit_is = nth c.digits-digit-items.result c.args.id index c.digits-digit-items.ensures.digits in
    record {
      within = omega (arith, c.loop-digit-test.true);
      along = λ known.
          let found = kept.along known in (
            found.0 ++ c.in_ok-block.block ∷ [],
            along_more _ c.args.blocks c.args.id index c.loop-digit.block c.in_ok-block.block word found.0 _
                c.loop-digit-test.true digit_is found.1
                (since (pages_stay kept.looked)
                (λ (file : List ℕ). c.in_ok-block.block ≡ word_at file c.loop-digit.block word) read.is known)
                read.inside c.if-block-eq0.false refl,
          );
      held = λ file clean.
          let found = held_since read.looked
          (λ (f : List ℕ). (found : List ℕ) × IsAlong f c.args.blocks c.args.id index c.loop-digit.block found)
          kept.held file clean in (
            found.0 ++ c.in_ok-block.block ∷ [],
            along_more _ c.args.blocks c.args.id index c.loop-digit.block c.in_ok-block.block word found.0 _
                c.loop-digit-test.true digit_is found.1
                (read.held file clean) read.inside c.if-block-eq0.false refl,
          );
      few =
          λ known. first_looked (pages_of c.args.pages.now) (pages_of c.loop-digit.pages)
          (pages_of c.reference_in.new.pages) _ c.args.blocks c.args.id index c.loop-digit.block (kept.along known).0
          (kept.along known).1
          kept.looked.stay (kept.few known) read.looked.few;
      looked = looks_within kept.looked read.looked
          (omega (arith, missing-few (pages_of c.loop-digit.pages) c.loop-digit.block));
      commits = g.S.Store.commits_on [] [] _ _ _ c.loop-digit.invariant.commits read.commits;
    }

pub returns-then-block-eq0-clause-found : goal.returns-then-block-eq0-clause-found
returns-then-block-eq0-clause-found g c = λ known.
    let kept = c.loop-digit.invariant in
    let word : ℕ = get_or c.digits-digit-items.result c.loop-digit.digit-index 0 in
    let digit_is =
    nth c.digits-digit-items.result c.args.id c.loop-digit.digit-index c.digits-digit-items.ensures.digits in
    along_no_leaf _ c.args.blocks c.args.id c.loop-digit.digit-index c.loop-digit.block c.in_ok-block.block word _
    c.loop-digit-test.true digit_is (kept.along known).1
    (since (pages_stay kept.looked) (λ (file : List ℕ). c.in_ok-block.block ≡ word_at file c.loop-digit.block word)
    c.in_ok-block.ensures.is known) c.if-block-eq0.true

pub returns-then-block-eq0-clause-held : goal.returns-then-block-eq0-clause-held
returns-then-block-eq0-clause-held g c = λ file clean.
    let kept = c.loop-digit.invariant in
    let index : ℕ = c.loop-digit.digit-index in
    let word : ℕ = get_or c.digits-digit-items.result index 0 in
    let digit_is = nth c.digits-digit-items.result c.args.id index c.digits-digit-items.ensures.digits in
    along_no_leaf _ c.args.blocks c.args.id index c.loop-digit.block c.in_ok-block.block word _
    c.loop-digit-test.true digit_is
    (held_since c.in_ok-block.ensures.looked
    (λ (f : List ℕ). (found : List ℕ) × IsAlong f c.args.blocks c.args.id index c.loop-digit.block found)
    kept.held file clean).1
    (c.in_ok-block.ensures.held file clean) c.if-block-eq0.true

pub returns-clause-held : goal.returns-clause-held
returns-clause-held g c = λ file clean.
    along_leaf _ c.args.blocks c.args.id c.loop-digit.digit-index c.loop-digit.block _ c.loop-digit-test.false
    (c.loop-digit.invariant.held file clean).1

pub returns-then-block-eq0-clause-inside : goal.returns-then-block-eq0-clause-inside
returns-then-block-eq0-clause-inside g c = λ known.
    let kept = c.loop-digit.invariant in
    let word : ℕ = get_or c.digits-digit-items.result c.loop-digit.digit-index 0 in
    let digit_is =
    nth c.digits-digit-items.result c.args.id c.loop-digit.digit-index c.digits-digit-items.ensures.digits in
    along_end_inside _ c.args.blocks c.args.id c.loop-digit.digit-index c.loop-digit.block c.in_ok-block.block word _
    c.loop-digit-test.true digit_is (kept.along known).1
    (since (pages_stay kept.looked) (λ (file : List ℕ). c.in_ok-block.block ≡ word_at file c.loop-digit.block word)
    c.in_ok-block.ensures.is known) c.in_ok-block.ensures.inside c.if-block-eq0.true

pub returns-clause-found : goal.returns-clause-found
returns-clause-found g c = λ known.
    along_leaf _ c.args.blocks c.args.id c.loop-digit.digit-index c.loop-digit.block _ c.loop-digit-test.false
    (c.loop-digit.invariant.along known).1

pub returns-clause-inside : goal.returns-clause-inside
returns-clause-inside g c = λ known.
    along_all_inside _ c.args.blocks c.args.id c.loop-digit.digit-index c.loop-digit.block _ c.loop-digit-test.false
    (c.loop-digit.invariant.along known).1
