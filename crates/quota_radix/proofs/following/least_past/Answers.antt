use Rattle.std.proofs.Common.{false, ◌≡◌, ℕ, suc, ◌+◌, List, Option, Some, None, sym, ap, subst, ◌∙◌, refl, arith}
use Rattle.std.proofs.lemmas.Result.{err_from_is_err_and}
use Rattle.quota_radix.specs.declared.tree_path.TreePath.{TreePath}
use Rattle.quota_radix.specs.Descent.{path_from, paths_below}
use Rattle.quota_radix.specs.Lookup.{IsBelowRoot, IsWayFault}
use Rattle.quota_radix.specs.Way.{IsInsideBy, IsInsideFrom}
use Rattle.quota_radix.specs.Walk.{GoesOnFrom}
use Rattle.quota_radix.proofs.InsideLemmas.{by_none, by_some}
use Rattle.quota_radix.proofs.PastLemmas.{least_past_none, least_past_some, left_next, left_small, out_read}
use Rattle.quota_radix.proofs.PastLemmas.{past_onward}
use Rattle.quota_radix.proofs.WalkLemmas.{looks_within, pages_stay, since, walk_refused}
use Rattle.quota_pages.proofs.UsedLemmas.{looks_none}
use Rattle.quota_pages.specs.Pages.{pages_of}
use Rattle.quota_pages.specs.Used.{missing}
use Rattle.quota_radix.proofs.BufferedLemmas.{past_next}
use Rattle.quota_radix.proofs.following.least_past.Goals as goal

from_byte : (file : List ℕ) (blocks to_go byte digit : ℕ) (path : TreePath) (last : Option ℕ) → byte ≡ digit
    → IsInsideBy file blocks to_go path (byte + 1) last
    → IsInsideBy file blocks to_go path (digit + 1) last
from_byte file blocks to_go byte digit path last is inside =
    subst (λ (d : ℕ). IsInsideBy file blocks to_go path (d + 1) last) is inside

pub first_step-requires-clause-small : goal.first_step-requires-clause-small
first_step-requires-clause-small g c = left_small (suc c.args.to_go) c.args.to_go c.args.path refl c.requires.left

pub returns-in_err-next-clause-refused : goal.returns-in_err-next-clause-refused
returns-in_err-next-clause-refused g c =
    let p = err_from_is_err_and c.from_residual.result c.from_residual.ensures.1 in
    rw (p.1, p.2) (walk_refused _ _ _ _ _ (omega arith)
    (λ damage. out_read (λ (n : ℕ). missing (pages_of c.first_step.new.pages) n) _ _ c.args.blocks (suc c.args.to_go)
    c.args.to_go c.args.path damage refl) _ c.in_err-next.ensures.refused)

pub least_below-requires-clause-left : goal.least_below-requires-clause-left
least_below-requires-clause-left g c =
    let goes : GoesOnFrom c.args.path (c.from.result + 1) c.in-Some.next =
    rw c.in-Some.is at c.in_ok-next.ensures.onward in
    left_next (suc c.args.to_go) c.args.to_go c.args.path c.in-Some.next refl c.requires.left goes.most

pub least_below-requires-clause-room : goal.least_below-requires-clause-room
least_below-requires-clause-room g c =
    let looked = c.in_ok-next.ensures.looked in
    past_next (pages_of c.args.pages.now) (pages_of c.first_step.new.pages) _ _ c.args.blocks c.args.to_go
    (c.from.result + 1) (c.args.digit + 1) c.args.path c.in-Some.next
    (ap (λ (k : ℕ). k + 1) c.from.ensures) c.requires.room (pages_stay looked)
    (λ known. sym (c.in_ok-next.ensures.found known) ∙ c.in-Some.is) looked.stay looked.few c.requires.buffered

pub returns-in_err-least_below-in-Some-clause-refused : goal.returns-in_err-least_below-in-Some-clause-refused
returns-in_err-least_below-in-Some-clause-refused g c =
    let p = err_from_is_err_and c.from_residual-in_err-least_below-in-Some.result
    c.from_residual-in_err-least_below-in-Some.ensures.1 in
    rw (p.1, p.2) (walk_refused _ _ _ _ _ c.in_ok-next.ensures.looked.leaves.later (λ damage out. (
      out.0,
      λ known way.
          since (pages_stay c.in_ok-next.ensures.looked)
          (λ (file : List ℕ).
          IsBelowRoot file c.args.blocks c.args.to_go c.in-Some.next → IsWayFault file c.args.blocks damage) out.1 known
          (past_onward _ c.args.blocks c.args.to_go (c.from.result + 1) c.args.path c.in-Some.next (omega arith) way
          (sym (c.in_ok-next.ensures.found known) ∙ c.in-Some.is)),
    )) _ c.in_err-least_below-in-Some.ensures.refused)

pub returns-in_ok-least_below-in-Some-clause-found : goal.returns-in_ok-least_below-in-Some-clause-found
returns-in_ok-least_below-in-Some-clause-found g c = λ known.
    least_past_some _ c.args.blocks c.args.to_go c.args.digit c.from.result c.args.path c.in-Some.next
    c.in_ok-least_below-in-Some.field-0 c.in_ok-next.field-0 c.from.ensures
    (c.in_ok-next.ensures.found known) c.in-Some.is
    (since (pages_stay c.in_ok-next.ensures.looked)
    (λ (file : List ℕ).
    path_from 0 (paths_below file c.args.blocks c.args.to_go c.in-Some.next) ≡ Some c.in_ok-least_below-in-Some.field-0)
    c.in_ok-least_below-in-Some.ensures.found known)

pub returns-in-None-clause-found : goal.returns-in-None-clause-found
returns-in-None-clause-found g c = λ known.
    least_past_none _ c.args.blocks c.args.to_go c.args.digit c.from.result c.args.path c.in_ok-next.field-0
    c.from.ensures (c.in_ok-next.ensures.found known) c.in-None.is

pub returns-in_ok-least_below-in-Some-clause-between : goal.returns-in_ok-least_below-in-Some-clause-between
returns-in_ok-least_below-in-Some-clause-between g c = λ known.
    from_byte _ c.args.blocks c.args.to_go c.from.result c.args.digit c.args.path _ c.from.ensures
    (by_some _ c.args.blocks c.args.to_go (c.from.result + 1) c.args.path c.in-Some.next
    c.in_ok-least_below-in-Some.field-0 c.in_ok-next.field-0 (c.in_ok-next.ensures.found known) c.in-Some.is
    (c.in_ok-next.ensures.clear known)
    (since (pages_stay c.in_ok-next.ensures.looked)
    (λ (file : List ℕ).
    path_from 0 (paths_below file c.args.blocks c.args.to_go c.in-Some.next) ≡ Some c.in_ok-least_below-in-Some.field-0)
    c.in_ok-least_below-in-Some.ensures.found known)
    (since (pages_stay c.in_ok-next.ensures.looked)
    (λ (file : List ℕ).
    IsInsideFrom file c.args.blocks c.args.to_go c.in-Some.next 0 (Some c.in_ok-least_below-in-Some.field-0.number))
    c.in_ok-least_below-in-Some.ensures.between known))

pub returns-in-None-clause-between : goal.returns-in-None-clause-between
returns-in-None-clause-between g c = λ known.
    from_byte _ c.args.blocks c.args.to_go c.from.result c.args.digit c.args.path _ c.from.ensures
    (by_none _ c.args.blocks c.args.to_go (c.from.result + 1) c.args.path c.in_ok-next.field-0 None c.in-None.is
    (c.in_ok-next.ensures.clear known))

pub returns-in-None-clause-looked : goal.returns-in-None-clause-looked
returns-in-None-clause-looked g c =
    looks_within c.in_ok-next.ensures.looked (looks_none _ _ _) (omega (arith, c.requires.buffered))

pub returns-in_err-next-clause-looked : goal.returns-in_err-next-clause-looked
returns-in_err-next-clause-looked g c =
    let p = err_from_is_err_and c.from_residual.result c.from_residual.ensures.1 in
    rw p.1
    (looks_within c.in_err-next.ensures.looked (looks_none {ok = false} _ _ _) (omega (arith, c.requires.buffered)))
