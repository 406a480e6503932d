use Rattle.std.proofs.Common.{false, ◌≡◌, ℕ, suc, ◌+◌, ◌*◌, ◌<◌, List, ◌∷◌, length, get_or, inl, inr, sym, ap, ◌∙◌}
use Rattle.std.proofs.Common.{arith}
use Rattle.std.specs.List.{flat_map}
use Rattle.std.proofs.lemmas.Result.{IfOk-weaker, err_from_is_err_and}
use Rattle.quota_radix.specs.Descent.{later_steps, path_from, paths_below, with_digits}
use Rattle.quota_radix.specs.Lookup.{IsOnWay, IsWayFault}
use Rattle.quota_radix.proofs.FirstLemmas.{here_next, past_next, past_none}
use Rattle.quota_radix.proofs.InsideLemmas.{inside_both, inside_here, inside_past}
use Rattle.quota_radix.proofs.PastLemmas.{least_past_digits, left_next, left_small, out_read, way_more}
use Rattle.quota_radix.proofs.WalkLemmas.{looks_within, none_weaker, pages_stay, since, some_weaker, walk_refused}
use Rattle.quota_radix.proofs.WayLemmas.{step_on_way}
use Rattle.quota_radix.specs.Way.{IsInsideBy, IsInsideFrom, number_in}
use Rattle.quota_pages.proofs.UsedLemmas.{looks_none, missing-few}
use Rattle.quota_pages.specs.Pages.{pages_of}
use Rattle.quota_pages.specs.Used.{missing}
use Rattle.quota_radix.proofs.BufferedLemmas.{from_here, from_next, from_past}
use Rattle.quota_radix.proofs.following.+first_below.Goals as goal

rest_long : (digits : List ℕ) (digit : ℕ) (rest : List ℕ) → digits ≡ digit ∷ rest → length digits ≡ suc (length rest)
rest_long digits digit rest is = ap (λ (ds : List ℕ). length ds) is

first_digit : (digits : List ℕ) (digit : ℕ) (rest : List ℕ) → digits ≡ digit ∷ rest
    → ((k : ℕ) → get_or digits k 0 < 256) → digit < 256
first_digit digits digit rest is bytes = omega (arith, bytes 0, ap (λ (ds : List ℕ). get_or ds 0 0) is)

pub step-requires-clause-small : goal.step-requires-clause-small
step-requires-clause-small g t c =
    let more = rest_long c.args.digits.now c.in-Some.digit.now c.in-Some.rest.now c.in-Some.ensures.cases.0 in
    left_small (length c.args.digits.now) (length c.in-Some.rest.now) c.args.path more c.requires.left

pub step-requires-clause-room : goal.step-requires-clause-room
step-requires-clause-room g t c =
    from_here (pages_of c.args.pages.now) _ c.args.blocks c.args.path c.args.digits.now c.in-Some.digit.now
    c.in-Some.rest.now c.in-Some.ensures.cases.0 c.requires.room

pub least_past-requires-clause-room : goal.least_past-requires-clause-room
least_past-requires-clause-room g t c =
    let looked = c.in_ok-next.ensures.looked in
    from_past (pages_of c.args.pages.now) (pages_of c.step.new.pages) _ _ c.args.blocks c.args.path c.args.digits.now
    c.in-Some.digit.now c.in-Some.rest.now c.in-Some.ensures.cases.0 c.requires.room
    (pages_stay looked) (λ known. inl (sym (c.in_ok-next.ensures.found known) ∙ c.in_default-2.is)) looked.stay
    (omega (arith, looked.few, missing-few (pages_of c.args.pages.now) c.args.path.block))

pub least_past-requires-in-None-clause-room : goal.least_past-requires-in-None-clause-room
least_past-requires-in-None-clause-room g t c =
    let looked = c.in_ok-next.ensures.looked in
    let none = rw c.in-None.is at c.in_ok-leaf.ensures.none in
    from_past (pages_of c.args.pages.now) (pages_of c.first_below.new.pages) _ _ c.args.blocks c.args.path
    c.args.digits.now c.in-Some.digit.now c.in-Some.rest.now c.in-Some.ensures.cases.0 c.requires.room
    (λ known. let one = pages_stay looked known in let two = pages_stay none one.0 in (two.0, two.1 ∙ one.1))
    (λ known. inr (
      c.in-Some-2.next,
      sym (c.in_ok-next.ensures.found known) ∙ c.in-Some-2.is,
      sym (since (pages_stay looked)
          (λ (file : List ℕ). c.in_ok-leaf.field-0
          ≡ path_from (with_digits c.in-Some-2.next.number c.in-Some.rest.now)
          (paths_below file c.args.blocks (length c.in-Some.rest.now) c.in-Some-2.next))
          c.in_ok-leaf.ensures.found known)
          ∙ c.in-None.is,
    ))
    (λ other there. none.stay other (looked.stay other there))
    (omega (arith, looked.few, none.few, missing-few (pages_of c.args.pages.now) c.args.path.block))

pub returns-in_err-next-clause-refused : goal.returns-in_err-next-clause-refused
returns-in_err-next-clause-refused g t c =
    let p = err_from_is_err_and c.from_residual.result c.from_residual.ensures.1 in
    let more = rest_long c.args.digits.now c.in-Some.digit.now c.in-Some.rest.now c.in-Some.ensures.cases.0 in
    let low = first_digit c.args.digits.now c.in-Some.digit.now c.in-Some.rest.now c.in-Some.ensures.cases.0
    (λ k. omega (arith, c.type_inv.digits k)) in
    rw (p.1, p.2) (walk_refused _ _ _ _ _ (omega arith)
    (λ damage out. out_read (λ (n : ℕ). missing (pages_of c.step.new.pages) n) _ _ c.args.blocks _
    (length c.in-Some.rest.now) c.args.path damage more
    (out.0, out.1, λ known. (c.in-Some.digit.now, low, out.2 known))) _ c.in_err-next.ensures.refused)

pub returns-in_default-2-clause-found : goal.returns-in_default-2-clause-found
returns-in_default-2-clause-found g t c =
    IfOk-weaker c.least_past.result _ _ (λ found past known.
    since (pages_stay c.in_ok-next.ensures.looked)
    (λ (file : List ℕ). found
    ≡ path_from 0 (flat_map (paths_below file c.args.blocks (length c.in-Some.rest.now))
    (later_steps file c.args.blocks c.args.path (c.in-Some.digit.now + 1)))) past known
    ∙ past_none _ c.args.blocks c.in-Some.digit.now c.args.digits.now c.in-Some.rest.now c.args.path
    c.in-Some.ensures.cases.0 (λ k. omega (arith, c.type_inv.digits k))
    c.in_ok-next.field-0 (c.in_ok-next.ensures.found known) c.in_default-2.is) c.least_past.ensures.found

pub returns-in_default-2-clause-least : goal.returns-in_default-2-clause-least
returns-in_default-2-clause-least g t c =
    some_weaker _ _ c.least_past.result
    (λ leaf. least_past_digits leaf.number c.in-Some.digit.now c.args.digits.now c.in-Some.rest.now c.args.path
    c.in-Some.ensures.cases.0 (λ k. omega (arith, c.type_inv.digits k)))
    c.least_past.ensures.least

pub first_below-requires : goal.first_below-requires
first_below-requires g t c =
    let more = rest_long c.args.digits.now c.in-Some.digit.now c.in-Some.rest.now c.in-Some.ensures.cases.0 in
    let low = first_digit c.args.digits.now c.in-Some.digit.now c.in-Some.rest.now c.in-Some.ensures.cases.0
    (λ k. omega (arith, c.type_inv.digits k)) in
    let number : c.in-Some-2.next.number ≡ 256 * c.args.path.number + c.in-Some.digit.now =
    rw c.in-Some-2.is at c.in_ok-next.ensures.number in
    λ lives fits. (
      omega (arith, c.decreases, more),
      (
        fits,
        (
          from_next (pages_of c.args.pages.now) (pages_of c.step.new.pages) _ _ c.args.blocks c.args.path
              c.in-Some-2.next c.args.digits.now c.in-Some.digit.now c.in-Some.rest.now c.in-Some.ensures.cases.0
              c.requires.room (pages_stay c.in_ok-next.ensures.looked)
              (λ known. sym (c.in_ok-next.ensures.found known) ∙ c.in-Some-2.is) c.in_ok-next.ensures.looked.stay
              c.in_ok-next.ensures.looked.few,
          left_next (length c.args.digits.now) (length c.in-Some.rest.now) c.args.path c.in-Some-2.next more
              c.requires.left (omega (arith, low, number)),
        ),
      ),
    )

pub returns-in_err-leaf-clause-refused : goal.returns-in_err-leaf-clause-refused
returns-in_err-leaf-clause-refused g t c =
    let p = err_from_is_err_and c.from_residual-in_err-leaf.result c.from_residual-in_err-leaf.ensures.1 in
    let more = rest_long c.args.digits.now c.in-Some.digit.now c.in-Some.rest.now c.in-Some.ensures.cases.0 in
    let low = first_digit c.args.digits.now c.in-Some.digit.now c.in-Some.rest.now c.in-Some.ensures.cases.0
    (λ k. omega (arith, c.type_inv.digits k)) in
    rw (p.1, p.2) (walk_refused _ _ _ _ _ c.in_ok-next.ensures.looked.leaves.later (λ damage out. (
      out.0,
      λ known way.
          since (pages_stay c.in_ok-next.ensures.looked)
          (λ (file : List ℕ). IsOnWay file c.args.blocks (length c.in-Some.rest.now) c.in-Some-2.next
          → IsWayFault file c.args.blocks damage) out.1 known
          (step_on_way _ c.args.blocks (length c.in-Some.rest.now) c.args.path c.in-Some-2.next c.in-Some.digit.now low
          (way_more _ c.args.blocks (length c.args.digits.now) (length c.in-Some.rest.now) c.args.path more way)
          (sym (c.in_ok-next.ensures.found known) ∙ c.in-Some-2.is)),
    )) _ c.in_err-leaf.ensures.refused)

pub returns-in-Some-3-clause-found : goal.returns-in-Some-3-clause-found
returns-in-Some-3-clause-found g t c = λ known.
    here_next _ c.args.blocks c.in-Some.digit.now c.args.digits.now c.in-Some.rest.now c.args.path
    c.in-Some.ensures.cases.0 (λ k. omega (arith, c.type_inv.digits k))
    c.in_ok-next.field-0 c.in_ok-leaf.field-0 c.in-Some-2.next c.in-Some-3.leaf
    (c.in_ok-next.ensures.found known) c.in-Some-2.is
    (since (pages_stay c.in_ok-next.ensures.looked)
    (λ (file : List ℕ). c.in_ok-leaf.field-0
    ≡ path_from (with_digits c.in-Some-2.next.number c.in-Some.rest.now)
    (paths_below file c.args.blocks (length c.in-Some.rest.now) c.in-Some-2.next)) c.in_ok-leaf.ensures.found known)
    c.in-Some-3.is

pub returns-in-None-clause-found : goal.returns-in-None-clause-found
returns-in-None-clause-found g t c =
    IfOk-weaker c.least_past-in-None.result _ _ (λ found past known.
    since (pages_stay c.in_ok-next.ensures.looked)
    (λ (file : List ℕ). found
    ≡ path_from 0 (flat_map (paths_below file c.args.blocks (length c.in-Some.rest.now))
    (later_steps file c.args.blocks c.args.path (c.in-Some.digit.now + 1))))
    (since (pages_stay c.in_ok-leaf.ensures.looked)
    (λ (file : List ℕ). found
    ≡ path_from 0 (flat_map (paths_below file c.args.blocks (length c.in-Some.rest.now))
    (later_steps file c.args.blocks c.args.path (c.in-Some.digit.now + 1)))) past) known
    ∙ past_next _ c.args.blocks c.in-Some.digit.now c.args.digits.now c.in-Some.rest.now c.args.path
    c.in-Some.ensures.cases.0 (λ k. omega (arith, c.type_inv.digits k))
    c.in_ok-next.field-0 c.in_ok-leaf.field-0 c.in-Some-2.next (c.in_ok-next.ensures.found known) c.in-Some-2.is
    (since (pages_stay c.in_ok-next.ensures.looked)
    (λ (file : List ℕ). c.in_ok-leaf.field-0
    ≡ path_from (with_digits c.in-Some-2.next.number c.in-Some.rest.now)
    (paths_below file c.args.blocks (length c.in-Some.rest.now) c.in-Some-2.next)) c.in_ok-leaf.ensures.found known)
    c.in-None.is) c.least_past-in-None.ensures.found

pub returns-in-None-clause-least : goal.returns-in-None-clause-least
returns-in-None-clause-least g t c =
    some_weaker _ _ c.least_past-in-None.result
    (λ leaf. least_past_digits leaf.number c.in-Some.digit.now c.args.digits.now c.in-Some.rest.now c.args.path
    c.in-Some.ensures.cases.0 (λ k. omega (arith, c.type_inv.digits k)))
    c.least_past-in-None.ensures.least

pub returns-in_default-2-clause-between : goal.returns-in_default-2-clause-between
returns-in_default-2-clause-between g t c = IfOk-weaker c.least_past.result _ _ (λ found past known.
    inside_past _ c.args.blocks c.in-Some.digit.now c.args.digits.now c.in-Some.rest.now c.args.path
    c.in-Some.ensures.cases.0 (c.in_ok-next.ensures.inside known)
    c.in_ok-next.field-0 (number_in found) (c.in_ok-next.ensures.found known) c.in_default-2.is
    (since (pages_stay c.in_ok-next.ensures.looked)
    (λ (file : List ℕ). IsInsideBy file c.args.blocks (length c.in-Some.rest.now) c.args.path (c.in-Some.digit.now + 1)
    (number_in found)) past known))
    c.least_past.ensures.between

pub returns-in-Some-3-clause-between : goal.returns-in-Some-3-clause-between
returns-in-Some-3-clause-between g t c = λ known.
    inside_here _ c.args.blocks c.in-Some.digit.now c.args.digits.now c.in-Some.rest.now c.args.path
    c.in-Some.ensures.cases.0 (c.in_ok-next.ensures.inside known)
    c.in_ok-next.field-0 c.in_ok-leaf.field-0 c.in-Some-2.next c.in-Some-3.leaf (c.in_ok-next.ensures.found known)
    c.in-Some-2.is c.in-Some-3.is
    (since (pages_stay c.in_ok-next.ensures.looked)
    (λ (file : List ℕ). c.in_ok-leaf.field-0
    ≡ path_from (with_digits c.in-Some-2.next.number c.in-Some.rest.now)
    (paths_below file c.args.blocks (length c.in-Some.rest.now) c.in-Some-2.next)) c.in_ok-leaf.ensures.found known)
    (since (pages_stay c.in_ok-next.ensures.looked)
    (λ (file : List ℕ). IsInsideFrom file c.args.blocks (length c.in-Some.rest.now) c.in-Some-2.next
    (with_digits c.in-Some-2.next.number c.in-Some.rest.now) (number_in c.in_ok-leaf.field-0))
    c.in_ok-leaf.ensures.between known)

pub returns-in-None-clause-between : goal.returns-in-None-clause-between
returns-in-None-clause-between g t c = IfOk-weaker c.least_past-in-None.result _ _ (λ found past known.
    inside_both _ c.args.blocks c.in-Some.digit.now c.args.digits.now c.in-Some.rest.now c.args.path
    c.in-Some.ensures.cases.0 (c.in_ok-next.ensures.inside known)
    c.in_ok-next.field-0 c.in_ok-leaf.field-0 c.in-Some-2.next (number_in found) (c.in_ok-next.ensures.found known)
    c.in-Some-2.is c.in-None.is
    (since (pages_stay c.in_ok-next.ensures.looked)
    (λ (file : List ℕ). IsInsideFrom file c.args.blocks (length c.in-Some.rest.now) c.in-Some-2.next
    (with_digits c.in-Some-2.next.number c.in-Some.rest.now) (number_in c.in_ok-leaf.field-0))
    c.in_ok-leaf.ensures.between known)
    (since (pages_stay c.in_ok-next.ensures.looked)
    (λ (file : List ℕ).
    IsInsideBy file c.args.blocks (length c.in-Some.rest.now) c.args.path (c.in-Some.digit.now + 1) (number_in found))
    (since (pages_stay c.in_ok-leaf.ensures.looked)
    (λ (file : List ℕ). IsInsideBy file c.args.blocks (length c.in-Some.rest.now) c.args.path (c.in-Some.digit.now + 1)
    (number_in found)) past) known))
    c.least_past-in-None.ensures.between

pub returns-in-None-clause-looked : goal.returns-in-None-clause-looked
returns-in-None-clause-looked g t c =
    let more = rest_long c.args.digits.now c.in-Some.digit.now c.in-Some.rest.now c.in-Some.ensures.cases.0 in
    let none = rw c.in-None.is at c.in_ok-leaf.ensures.none in
    looks_within (looks_within {both = length c.args.digits.now} c.in_ok-next.ensures.looked none (omega (
      arith,
      more,
      missing-few (pages_of c.args.pages.now) c.args.path.block,
    ))) c.least_past-in-None.ensures.looked (omega (arith, more))

pub returns-in-None-clause-none : goal.returns-in-None-clause-none
returns-in-None-clause-none g t c =
    let more = rest_long c.args.digits.now c.in-Some.digit.now c.in-Some.rest.now c.in-Some.ensures.cases.0 in
    let none = rw c.in-None.is at c.in_ok-leaf.ensures.none in
    none_weaker c.least_past-in-None.result
    (λ past. looks_within
    (looks_within {both = length c.args.digits.now} c.in_ok-next.ensures.looked none (omega (
      arith,
      more,
      missing-few (pages_of c.args.pages.now) c.args.path.block,
    ))) past (omega arith)) c.least_past-in-None.ensures.none

pub returns-in_err-next-clause-looked : goal.returns-in_err-next-clause-looked
returns-in_err-next-clause-looked g t c =
    let p = err_from_is_err_and c.from_residual.result c.from_residual.ensures.1 in
    let more = rest_long c.args.digits.now c.in-Some.digit.now c.in-Some.rest.now c.in-Some.ensures.cases.0 in
    rw p.1 (looks_within c.in_err-next.ensures.looked (looks_none {ok = false} _ _ _) (omega (
      arith,
      more,
      missing-few (pages_of c.args.pages.now) c.args.path.block,
    )))

pub returns-in_default-2-clause-looked : goal.returns-in_default-2-clause-looked
returns-in_default-2-clause-looked g t c =
    let more = rest_long c.args.digits.now c.in-Some.digit.now c.in-Some.rest.now c.in-Some.ensures.cases.0 in
    looks_within c.in_ok-next.ensures.looked c.least_past.ensures.looked
    (omega (arith, more, missing-few (pages_of c.args.pages.now) c.args.path.block))
