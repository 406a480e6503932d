-- Usages in the hash map that keeps them while they are added up.
use Rattle.std.proofs.Common.{◌≡◌, ℕ, nat_eq, cond, List, [], ◌∷◌, Some, refl, sym, ap, ◌∙◌}
use Rattle.std.specs.BTreeMap as tree
use Rattle.std.specs.Cmp.{eq_by_cmp_equiv, nat_cmp_total, nat_eq_equiv, unsigned_tied}
use Rattle.std.specs.FinMap.{find, from_entries, get, get-from_entries, get-insert, insert, nat_cmp-IsAntisymmetric}
use Rattle.std.specs.FinMap.{same_map}
use Rattle.std.specs.List.{IsDistinct}
use Rattle.std.specs.Map.{keys_of, lookup}
use Rattle.std.specs.Ordering.{eq_by_cmp, nat_cmp}
use Rattle.std.proofs.lemmas.Map.Made.{update_all_none}
use Rattle.inode_scan.specs.declared.used.Used.{Used}
use Rattle.inode_scan.proofs.UsageLemmas.{get_entries}

found_at : (es : List (ℕ × Used)) (id : ℕ) → find nat_cmp id es ≡ lookup (nat_eq id) es
found_at [] id = refl
found_at (e ∷ es) id =
    ap (cond (eq_by_cmp nat_cmp id e.0) (Some e.1)) (found_at es id)
    ∙ ap (λ b. cond b (Some e.1) (lookup (nat_eq id) es)) (unsigned_tied id e.0)

-- what the map of entries has for an identifier
pub get_sum : (es : List (ℕ × Used)) (id : ℕ) → get (from_entries {R = nat_cmp} es) id ≡ lookup (nat_eq id) es
get_sum es id = get-from_entries nat_cmp_total es id ∙ found_at es id

-- the map of entries of which one was put in
pub sum_put : (es now : List (ℕ × Used)) (id : ℕ) (used : Used)
    → ((other : ℕ) → lookup (nat_eq other) now ≡ cond (nat_eq id other) (Some used) (lookup (nat_eq other) es))
    → from_entries {R = nat_cmp} now ≡ insert (from_entries es) id used
sum_put es now id used put =
    same_map nat_cmp_total nat_cmp-IsAntisymmetric _ _ (λ other.
    get_sum now other ∙ put other
    ∙ ap (λ b. cond b (Some used) (lookup (nat_eq other) es))
    (sym (unsigned_tied id other) ∙ (eq_by_cmp_equiv nat_cmp_total).symm id other)
    ∙ sym (get-insert nat_cmp_total (from_entries es) id used other
    ∙ ap (cond (eq_by_cmp nat_cmp other id) (Some used)) (get_sum es other)))

-- the entries in order are the same map
pub ordered : (es : List (ℕ × Used)) (used : tree.BTreeMap ℕ Used) → IsDistinct nat_eq (keys_of es)
    → tree.IsFromIterResult nat_cmp es used
    → from_entries {R = nat_cmp} used.entries ≡ from_entries es
ordered es used distinct made =
    same_map nat_cmp_total nat_cmp-IsAntisymmetric _ _ (λ id.
    get_entries used.entries id ∙ made.0 id
    ∙ update_all_none nat_eq_equiv (eq_by_cmp nat_cmp) unsigned_tied es id distinct ∙ sym (get_sum es id))
