-- Usages in the tree that keeps them.
use Rattle.std.proofs.Common.{◌≡◌, ℕ, ◌<◌, false, cond, List, [], ◌∷◌, Option, Some, None, refl, sym, ap, ◌∙◌, subst}
use Rattle.std.proofs.Common.{arith}
use Rattle.std.specs.Prelude.{IfSome, IsSome, slice_get}
use Rattle.std.specs.BTreeMap as tree
use Rattle.std.specs.BTreeMap.{BTreeMap, is_at}
use Rattle.std.specs.BTreeMap.Range.{IsInRange, IsRangeOf}
use Rattle.std.specs.declared.ops.Bound.TheVariants.{Unbounded}
use Rattle.std.specs.Cmp.{nat_cmp_is, nat_cmp_total}
use Rattle.std.specs.FinMap.{find, from_entries, get, get-from_entries}
use Rattle.std.specs.Map.{lookup}
use Rattle.std.specs.Ordering.{eq_by_cmp, is_gt, nat_cmp}
use Rattle.std.specs.declared.cmp.Ordering.TheVariants.{Less, Greater}
use Rattle.std.proofs.lemmas.Bool.{true≢false}
use Rattle.std.proofs.lemmas.Bool.Decides.{nat_tests}
use Rattle.quota_types.specs.Ids.{IsAfter}
use Rattle.inode_scan.specs.declared.used.Used.{Used}
use Rattle.inode_scan.specs.UsageSums.{IsNextUser, bound_above}

found_entry : (es : List (ℕ × Used)) (id : ℕ) → find nat_cmp id es ≡ lookup (is_at (nat_cmp id)) es
found_entry [] id = refl
found_entry (e ∷ es) id = ap (cond (eq_by_cmp nat_cmp id e.0) (Some e.1)) (found_entry es id)

-- what the map of entries has for an identifier
pub get_entries : (es : List (ℕ × Used)) (id : ℕ)
    → get (from_entries {R = nat_cmp} es) id ≡ lookup (is_at (nat_cmp id)) es
get_entries es id = get-from_entries nat_cmp_total es id ∙ found_entry es id

-- The next identifier.

less_is : (a b : ℕ) → a < b → nat_cmp a b ≡ Less
less_is a b lt = sym (nat_cmp_is a b Less lt)

greater_is : (a b : ℕ) → b < a → nat_cmp a b ≡ Greater
greater_is a b lt = sym (nat_cmp_is a b Greater lt)

less_of : (a b : ℕ) → nat_cmp a b ≡ Less → a < b
less_of a b less = grind (arith, nat_tests)

from_after : (after : Option ℕ) (id : ℕ) → IsAfter after id → IsInRange nat_cmp (bound_above after) Unbounded id
from_after None id is = (tt, tt)
from_after (Some after) id is = (less_is after id is, tt)

after_from : (after : Option ℕ) (id : ℕ) → IsInRange nat_cmp (bound_above after) Unbounded id → IsAfter after id
after_from None id is = tt
after_from (Some after) id is = less_of after id is.0

none_unless : (found : Option Used) → (IsSome found → ⊥) → found ≡ None
none_unless None not = refl
none_unless (Some used) not = absurd (not refl)

pub some_is : (found : Option Used) (used : Used) → found ≡ Some used → IsSome found
some_is found used is = subst (λ (o : Option Used). IsSome o) (sym is) refl

pub next_found : (after : Option ℕ) (m : BTreeMap ℕ Used) (from : List (ℕ × Used)) (e : ℕ × Used)
    (rest : List (ℕ × Used)) → IsRangeOf nat_cmp (bound_above after) Unbounded m from → from ≡ e ∷ rest
    → IsNextUser after (from_entries m.entries) (Some e.0)
next_found after m from e rest range is =
    let front : slice_get from 0 ≡ Some e = ap (λ (es : List (ℕ × Used)). slice_get es 0) is in
    let here = subst
    (λ (o : Option (ℕ × Used)). IfSome o
    (λ e. IsInRange nat_cmp (bound_above after) Unbounded e.0 × (tree.get nat_cmp m e.0 ≡ Some e.1))) front range.1 in (
      after_from after e.0 here.0,
      some_is (get (from_entries m.entries) e.0) e.1 (get_entries m.entries e.0 ∙ here.1),
      λ id later less. get_entries m.entries id ∙ none_unless (tree.get nat_cmp m id) (λ some.
          let least : is_gt (nat_cmp e.0 id) ≡ false = subst
          (λ (o : Option (ℕ × Used)). IfSome o (λ e. is_gt (nat_cmp e.0 id) ≡ false)) front
          (range.2 id (from_after after id later) some) in
          true≢false (sym (ap is_gt (greater_is e.0 id less)) ∙ least)),
    )

pub next_none : (after : Option ℕ) (m : BTreeMap ℕ Used) (from : List (ℕ × Used))
    → IsRangeOf nat_cmp (bound_above after) Unbounded m from → from ≡ []
    → IsNextUser after (from_entries m.entries) None
next_none after m from range is = λ id later. get_entries m.entries id ∙ range.5 is id (from_after after id later)
