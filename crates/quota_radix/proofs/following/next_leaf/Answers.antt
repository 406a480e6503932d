use Rattle.std.proofs.Common.{◌≡◌, ℕ, ◌+◌, ◌≤◌, ◌⊎◌, List, Option, Some, None, length, sym, ap, subst, ◌∙◌, arith}
use Rattle.std.specs.Option.{option_map}
use Rattle.std.proofs.lemmas.Result.{err_from_is_err_and}
use Rattle.quota_pages.proofs.UsesLemmas.{there-missing}
use Rattle.quota_radix.specs.declared.tree_path.TreePath.{TreePath}
use Rattle.quota_radix.specs.Descent.{leaf_from}
use Rattle.quota_radix.specs.Way.{IsInsideUpTo}
use Rattle.quota_radix.proofs.InsideLemmas.{none_up_to, way_up_to}
use Rattle.quota_radix.proofs.PastLemmas.{none_after_last}
use Rattle.quota_radix.proofs.WalkLemmas.{walk_refused}
use Rattle.quota_pages.specs.Pages.{pages_of}
use Rattle.quota_pages.specs.Used.{IsKnown, shown_over}
use Rattle.quota_radix.specs.Buffered.{IsThereFrom}
use Rattle.quota_radix.specs.Digits.{digits_of}
use Rattle.quota_radix.proofs.following.next_leaf.Goals as goal

pub first_leaf_from-requires : goal.first_leaf_from-requires
first_leaf_from-requires g c =
    let S = g.S.Store in
    let seen = S.seen c.args.store.now in
    let pages = c.args.pages.now in
    subst (λ (k : ℕ). (length (pages_of pages) + 7 ≤ 12)
    ⊎ (IsKnown S.tells seen pages
    × IsThereFrom (pages_of pages) (shown_over seen pages) c.args.blocks
    (record { number = 0; block = 1 }) (digits_of k)))
    (sym c.in-Some.ensures.first) (c.requires c.in-Some.ensures.small)

pub returns-in_default-clause-found : goal.returns-in_default-clause-found
returns-in_default-clause-found g c =
    λ known. sym (none_after_last _ c.args.blocks c.args.after c.in_default.ensures.last)

pub returns-in_default-clause-inside : goal.returns-in_default-clause-inside
returns-in_default-clause-inside g c = λ before known. absurd (omega (arith, before, c.in_default.ensures.last))

pub returns-in_default-clause-between : goal.returns-in_default-clause-between
returns-in_default-clause-between g c = λ known. none_up_to _ c.args.blocks _ None c.in_default.ensures.last

pub returns-in_err-leaf-clause-refused : goal.returns-in_err-leaf-clause-refused
returns-in_err-leaf-clause-refused g c =
    let p = err_from_is_err_and c.from_residual.result c.from_residual.ensures.1 in
    rw (p.1, p.2) (walk_refused _ _ _ _ _ (omega arith) (λ damage out. (there-missing _ damage.block out.0, out.1)) _
    c.in_err-leaf.ensures.refused)

pub returns-in-Some-2-clause-found : goal.returns-in-Some-2-clause-found
returns-in-Some-2-clause-found g c = λ known.
    ap (option_map (λ (leaf : TreePath). (leaf.number, leaf.block)))
    (sym c.in-Some-2.is ∙ c.in_ok-leaf.ensures.found known ∙ ap (leaf_from _ c.args.blocks) c.in-Some.ensures.first)

pub returns-in-None-clause-found : goal.returns-in-None-clause-found
returns-in-None-clause-found g c = λ known.
    ap (option_map (λ (leaf : TreePath). (leaf.number, leaf.block)))
    (sym c.in-None.is ∙ c.in_ok-leaf.ensures.found known ∙ ap (leaf_from _ c.args.blocks) c.in-Some.ensures.first)

upto : (file : List ℕ) (blocks from first : ℕ) (last : Option ℕ) → from ≡ first → IsInsideUpTo file blocks from last
    → IsInsideUpTo file blocks first last
upto file blocks from first last is inside = subst (λ (n : ℕ). IsInsideUpTo file blocks n last) is inside

pub returns-in-Some-2-clause-between : goal.returns-in-Some-2-clause-between
returns-in-Some-2-clause-between g c = λ known.
    upto _ c.args.blocks c.in-Some.from _ (Some c.in-Some-2.leaf.number) c.in-Some.ensures.first
    (rw c.in-Some-2.is at c.in_ok-leaf.ensures.between known)

pub returns-in-Some-2-clause-inside : goal.returns-in-Some-2-clause-inside
returns-in-Some-2-clause-inside g c = λ before known.
    let least = rw c.in-Some-2.is at c.in_ok-leaf.ensures.least in
    way_up_to _ c.args.blocks _ (Some c.in-Some-2.leaf.number) before (omega (arith, least, c.in-Some.ensures.first))
    (upto _ c.args.blocks c.in-Some.from _ (Some c.in-Some-2.leaf.number) c.in-Some.ensures.first
    (rw c.in-Some-2.is at c.in_ok-leaf.ensures.between known))

pub returns-in-None-clause-between : goal.returns-in-None-clause-between
returns-in-None-clause-between g c =
    λ known. upto _ c.args.blocks c.in-Some.from _ None c.in-Some.ensures.first
    (rw c.in-None.is at c.in_ok-leaf.ensures.between known)

pub returns-in-None-clause-inside : goal.returns-in-None-clause-inside
returns-in-None-clause-inside g c = λ before known.
    way_up_to _ c.args.blocks _ None before tt
    (upto _ c.args.blocks c.in-Some.from _ None c.in-Some.ensures.first
    (rw c.in-None.is at c.in_ok-leaf.ensures.between known))
