use Rattle.std.proofs.Common.{false, ◌≡◌, ℕ, suc, ◌-◌, List, Some, sym, ◌∙◌, refl, arith}
use Rattle.std.proofs.lemmas.Result.{IfOk-weaker, err_from_is_err_and}
use Rattle.quota_radix.specs.Descent.{path_from, paths_below}
use Rattle.quota_radix.specs.Lookup.{IsBelowRoot, IsWayFault}
use Rattle.quota_radix.specs.Way.{IsInsideFrom}
use Rattle.quota_radix.specs.Walk.{GoesOnFrom}
use Rattle.quota_radix.proofs.InsideLemmas.{both_weaker, by_some, from_first, from_none}
use Rattle.quota_radix.proofs.PastLemmas.{below_onward, empty_way, least_all, least_found, least_onward, left_next}
use Rattle.quota_radix.proofs.PastLemmas.{left_small, out_read}
use Rattle.quota_radix.proofs.WalkLemmas.{looks_within, pages_stay, since, walk_refused, walk_refused_at}
use Rattle.quota_pages.proofs.UsedLemmas.{looks_none, missing-few}
use Rattle.quota_pages.specs.Pages.{pages_of}
use Rattle.quota_pages.specs.Used.{missing}
use Rattle.quota_radix.proofs.BufferedLemmas.{least_here, least_next}
use Rattle.quota_radix.proofs.following.+least_below.Goals as goal

more_to_go : (to_go : ℕ) → (to_go ≡ 0 → ⊥) → to_go ≡ suc (to_go - 1)
more_to_go to_go some = omega arith

pub first_step-requires-clause-small : goal.first_step-requires-clause-small
first_step-requires-clause-small g t c =
    left_small c.args.to_go (c.args.to_go - 1) c.args.path
    (more_to_go c.args.to_go c.if-to_go-eq0.false) c.requires.left

pub first_step-requires-clause-room : goal.first_step-requires-clause-room
first_step-requires-clause-room g t c =
    least_here (pages_of c.args.pages.now) _ c.args.blocks c.args.to_go (c.args.to_go - 1) c.args.path
    (more_to_go c.args.to_go c.if-to_go-eq0.false) c.requires.room

pub returns-in_err-next-clause-refused : goal.returns-in_err-next-clause-refused
returns-in_err-next-clause-refused g t c =
    let p = err_from_is_err_and c.from_residual.result c.from_residual.ensures.1 in
    let more : c.args.to_go ≡ suc (c.args.to_go - 1) = more_to_go c.args.to_go c.if-to_go-eq0.false in
    rw (p.1, p.2) (walk_refused _ _ _ _ _ (omega arith) (λ damage out.
    let read = out_read (λ (n : ℕ). missing (pages_of c.first_step.new.pages) n) _ _ c.args.blocks c.args.to_go
    (c.args.to_go - 1) c.args.path damage more out in
    (read.0, λ known below. read.1 known below.1)) _ c.in_err-next.ensures.refused)

pub returns-in_default-clause-refused : goal.returns-in_default-clause-refused
returns-in_default-clause-refused g t c =
    let more : c.args.to_go ≡ suc (c.args.to_go - 1) = more_to_go c.args.to_go c.if-to_go-eq0.false in
    let none = rw c.in_default.is at c.in_ok-next.ensures.none in
    rw c.damage_at.ensures (
      refl,
      (
        c.in_ok-next.ensures.brought,
        λ known below. empty_way _ c.args.blocks c.args.to_go (c.args.to_go - 1) c.args.path _ more below
            (λ digit low. none known digit (omega arith) low) refl,
      ),
    )

pub least_below-requires : goal.least_below-requires
least_below-requires g t c =
    let more : c.args.to_go ≡ suc (c.args.to_go - 1) = more_to_go c.args.to_go c.if-to_go-eq0.false in
    let goes : GoesOnFrom c.args.path 0 c.in-Some.next = rw c.in-Some.is at c.in_ok-next.ensures.onward in
    λ lives fits. (
      omega (arith, more),
      (
        fits,
        (
          least_next (pages_of c.args.pages.now) (pages_of c.first_step.new.pages) _ _ c.args.blocks c.args.to_go
              (c.args.to_go - 1) c.args.path c.in-Some.next more c.requires.room
              (pages_stay c.in_ok-next.ensures.looked) (λ known. sym (c.in_ok-next.ensures.found known) ∙ c.in-Some.is)
              c.in_ok-next.ensures.looked.stay c.in_ok-next.ensures.looked.few,
          left_next c.args.to_go (c.args.to_go - 1) c.args.path c.in-Some.next more c.requires.left goes.most,
        ),
      ),
    )

pub returns-clause-found : goal.returns-clause-found
returns-clause-found g t c =
    let more : c.args.to_go ≡ suc (c.args.to_go - 1) = more_to_go c.args.to_go c.if-to_go-eq0.false in
    IfOk-weaker c.least_below.result _ _ (λ leaf below known.
    least_found _ c.args.blocks c.args.to_go (c.args.to_go - 1) c.args.path c.in-Some.next leaf c.in_ok-next.field-0
    more (c.in_ok-next.ensures.found known) c.in-Some.is
    (since (pages_stay c.in_ok-next.ensures.looked)
    (λ (file : List ℕ). path_from 0 (paths_below file c.args.blocks (c.args.to_go - 1) c.in-Some.next) ≡ Some leaf)
    below known))
    c.least_below.ensures.found

pub returns-clause-least : goal.returns-clause-least
returns-clause-least g t c =
    let more : c.args.to_go ≡ suc (c.args.to_go - 1) = more_to_go c.args.to_go c.if-to_go-eq0.false in
    let goes : GoesOnFrom c.args.path 0 c.in-Some.next = rw c.in-Some.is at c.in_ok-next.ensures.onward in
    IfOk-weaker c.least_below.result _ _
    (λ leaf below. least_all c.args.to_go (c.args.to_go - 1) leaf.number c.args.path more
    (least_onward (c.args.to_go - 1) 0 leaf.number c.args.path c.in-Some.next goes.least below))
    c.least_below.ensures.least

pub returns-clause-refused : goal.returns-clause-refused
returns-clause-refused g t c =
    let more : c.args.to_go ≡ suc (c.args.to_go - 1) = more_to_go c.args.to_go c.if-to_go-eq0.false in
    walk_refused_at _ _ _ _ _ c.in_ok-next.ensures.looked.leaves.later (λ damage out. (
      out.0,
      λ known below.
          since (pages_stay c.in_ok-next.ensures.looked)
          (λ (file : List ℕ). IsBelowRoot file c.args.blocks (c.args.to_go - 1) c.in-Some.next
          → IsWayFault file c.args.blocks damage) out.1 known
          (below_onward _ c.args.blocks c.args.to_go (c.args.to_go - 1) 0 c.args.path c.in-Some.next more (omega arith)
          below (sym (c.in_ok-next.ensures.found known) ∙ c.in-Some.is)),
    )) c.least_below.result c.least_below.ensures.refused

pub returns-then-to_go-eq0-clause-between : goal.returns-then-to_go-eq0-clause-between
returns-then-to_go-eq0-clause-between g t c =
    λ known. from_none _ c.args.blocks c.args.to_go 0 c.args.path (Some c.args.path.number) c.if-to_go-eq0.true

pub returns-clause-between : goal.returns-clause-between
returns-clause-between g t c =
    let more : c.args.to_go ≡ suc (c.args.to_go - 1) = more_to_go c.args.to_go c.if-to_go-eq0.false in
    both_weaker c.least_below.result _ _ _ (λ leaf below inside known.
    from_first _ c.args.blocks c.args.to_go (c.args.to_go - 1) c.args.path (Some leaf.number) more
    (by_some _ c.args.blocks (c.args.to_go - 1) 0 c.args.path c.in-Some.next leaf c.in_ok-next.field-0
    (c.in_ok-next.ensures.found known) c.in-Some.is (c.in_ok-next.ensures.clear known)
    (since (pages_stay c.in_ok-next.ensures.looked)
    (λ (file : List ℕ). path_from 0 (paths_below file c.args.blocks (c.args.to_go - 1) c.in-Some.next) ≡ Some leaf)
    below known)
    (since (pages_stay c.in_ok-next.ensures.looked)
    (λ (file : List ℕ). IsInsideFrom file c.args.blocks (c.args.to_go - 1) c.in-Some.next 0 (Some leaf.number))
    inside known)))
    c.least_below.ensures.found c.least_below.ensures.between

pub returns-in_err-next-clause-looked : goal.returns-in_err-next-clause-looked
returns-in_err-next-clause-looked g t c =
    let p = err_from_is_err_and c.from_residual.result c.from_residual.ensures.1 in
    rw p.1 (looks_within c.in_err-next.ensures.looked (looks_none {ok = false} _ _ _) (omega (
      arith,
      c.if-to_go-eq0.false,
      missing-few (pages_of c.args.pages.now) c.args.path.block,
    )))

pub returns-in_default-clause-looked : goal.returns-in_default-clause-looked
returns-in_default-clause-looked g t c =
    looks_within c.in_ok-next.ensures.looked (looks_none {ok = false} _ _ _)
    (omega (arith, c.if-to_go-eq0.false, missing-few (pages_of c.args.pages.now) c.args.path.block))

pub returns-clause-looked : goal.returns-clause-looked
returns-clause-looked g t c =
    looks_within c.in_ok-next.ensures.looked c.least_below.ensures.looked
    (omega (arith, c.if-to_go-eq0.false, missing-few (pages_of c.args.pages.now) c.args.path.block))
