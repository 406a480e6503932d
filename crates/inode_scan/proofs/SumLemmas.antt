-- The usage that lines add up to, identifier by identifier, where one more line is the first of its inode.
use Rattle.std.proofs.Common.{◌≡◌, ℕ, ◌-◌, ◌*◌, ◌^◌, ◌<◌, ◌≤◌, Bool, true, false, cond, List, [], ◌∷◌, ◌++◌, map}
use Rattle.std.proofs.Common.{Option, Some, None, refl, sym, ap, ◌∙◌, subst, inl, inr, arith, length-append, append-nil}
use Rattle.std.proofs.Common.{eq-eqb, ne_eqb}
use Rattle.std.specs.Prelude.{◌==◌, if◌then◌else◌, is_some, IfSome}
use Rattle.std.specs.Cmp.{nat_cmp_total, unsigned_tied}
use Rattle.std.specs.FinMap.{empty, find, get, get-empty, get-from_entries, get-insert, insert, nat_cmp-IsAntisymmetric}
use Rattle.std.specs.FinMap.{same_map}
use Rattle.std.specs.Ordering.{eq_by_cmp, nat_cmp}
use Rattle.std.proofs.lemmas.Bool.Decides.{eqb_tells}
use Rattle.std.proofs.lemmas.List.Elements.{filter-append}
use Rattle.std.proofs.lemmas.List.Sums.{sum_by-append}
use Rattle.quota_types.specs.declared.file_kind.Kind.{Kind}
use Rattle.inode_scan.specs.declared.row.Row.{Row}
use Rattle.inode_scan.specs.declared.used.Used.{Used}
use Rattle.inode_scan.specs.Listing.{Counted, first_lines, first_of, owned, owner_of, usage_of, used_in}
use Rattle.inode_scan.specs.Tally.{AreBefore, IsBounded}
use Rattle.inode_scan.specs.Usage.{UsageMap}
use Rattle.inode_scan.specs.UsageSums.{with_inode}
use Rattle.inode_scan.proofs.FirstLemmas.{first_lines-push}

-- what lines use, where there are any
abbrev pub usage_in : List Counted → Option Used
usage_in [] = None
usage_in (line ∷ lines) = Some (used_in (line ∷ lines))

-- a usage, where there are any lines
abbrev if_any : List Counted → Used → Option Used
if_any [] used = None
if_any (line ∷ lines) used = Some used

if_any-own : (lines : List Counted) → if_any lines (used_in lines) ≡ usage_in lines
if_any-own [] = refl
if_any-own (line ∷ lines) = refl

-- an entry for each of some lines, made by its owner
abbrev entries_by : Kind → (ℕ → Used) → List Counted → List (ℕ × Used)
entries_by kind made lines = map (λ line. let id : ℕ = owner_of kind line.row in (id, made id)) lines

found_by : (kind : Kind) (made : ℕ → Used) (lines : List Counted) (id : ℕ)
    → find nat_cmp id (entries_by kind made lines) ≡ if_any (owned kind lines id) (made id)
found_by kind made [] id = refl
found_by kind made (line ∷ lines) id = elim (eqb_tells (owner_of kind line.row) id) [
  | inl own ↦
      ap (λ b. cond b (Some (made (owner_of kind line.row))) (find nat_cmp id (entries_by kind made lines)))
      (unsigned_tied id (owner_of kind line.row) ∙ eq-eqb id (owner_of kind line.row) (sym own.1))
      ∙ ap (λ n. Some (made n)) own.1
      ∙ ap (λ b. if_any (cond b (line ∷ owned kind lines id) (owned kind lines id)) (made id)) (sym own.0)
  | inr other ↦
      ap (λ b. cond b (Some (made (owner_of kind line.row))) (find nat_cmp id (entries_by kind made lines)))
      (unsigned_tied id (owner_of kind line.row) ∙ ne_eqb id (owner_of kind line.row) (λ same. other.1 (sym same)))
      ∙ found_by kind made lines id
      ∙ ap (λ b. if_any (cond b (line ∷ owned kind lines id) (owned kind lines id)) (made id)) (sym other.0)
]

-- the usage of an identifier is that of the first lines that it owns
pub usage_of-get : (kind : Kind) (lines : List Counted) (id : ℕ)
    → get (usage_of kind lines) id ≡ usage_in (owned kind (first_lines lines) id)
unfolding usage_of
usage_of-get kind lines id =
    let made : ℕ → Used = λ id. used_in (owned kind (first_lines lines) id) in
    get-from_entries nat_cmp_total (entries_by kind made (first_lines lines)) id
    ∙ found_by kind made (first_lines lines) id ∙ if_any-own (owned kind (first_lines lines) id)

-- two usages are one
same_used : (one other : Used) → one.space ≡ other.space → one.inodes ≡ other.inodes → one ≡ other
same_used one other space inodes = λ i. record { space = space i; inodes = inodes i }

used_more : (first : Counted) (lines : List Counted) (line : Counted)
    → used_in (first ∷ lines ++ line ∷ []) ≡ with_inode (Some (used_in (first ∷ lines))) line.row.blocks
used_more first lines line = same_used _ _
    (omega (arith, sum_by-append (λ (l : Counted). l.row.blocks) (first ∷ lines) (line ∷ [])))
    (omega (arith, length-append (first ∷ lines) (line ∷ [])))

-- one more line
used_push : (lines : List Counted) (line : Counted)
    → usage_in (lines ++ line ∷ []) ≡ Some (with_inode (usage_in lines) line.row.blocks)
used_push [] line =
    ap Some (same_used (used_in (line ∷ [])) (with_inode None line.row.blocks) (omega arith) (omega arith))
used_push (first ∷ lines) line = ap Some (used_more first lines line)

owned_push : (kind : Kind) (lines : List Counted) (line : Counted) (id : ℕ)
    → owned kind (lines ++ line ∷ []) id
    ≡ owned kind lines id ++ (if owner_of kind line.row == id then line ∷ [] else [])
owned_push kind lines line id = filter-append (λ (l : Counted). owner_of kind l.row == id) lines (line ∷ [])

-- the usage of lines and one more, which is the first of its inode
pub usage_of-push : (kind : Kind) (lines : List Counted) (line : Counted) → AreBefore line.number lines
    → first_of lines line.row ≡ None
    → insert (usage_of kind lines) (owner_of kind line.row)
    (with_inode (get (usage_of kind lines) (owner_of kind line.row)) line.row.blocks)
    ≡ usage_of kind (lines ++ line ∷ [])
usage_of-push kind lines line before none =
    same_map nat_cmp_total nat_cmp-IsAntisymmetric _ _ (λ id.
    get-insert nat_cmp_total (usage_of kind lines) (owner_of kind line.row) _ id ∙ at id
    ∙ sym (usage_of-get kind (lines ++ line ∷ []) id))
  where
    firsts : first_lines (lines ++ line ∷ []) ≡ first_lines lines ++ line ∷ []
    firsts =
        first_lines-push lines line before
        ∙ ap (λ (o : Option Counted). first_lines lines ++ (if is_some o then [] else line ∷ [])) none

    mine : (id : ℕ) → owned kind (first_lines (lines ++ line ∷ [])) id
        ≡ owned kind (first_lines lines) id ++ (if owner_of kind line.row == id then line ∷ [] else [])
    mine id = ap (λ ls. owned kind ls id) firsts ∙ owned_push kind (first_lines lines) line id

    at : (id : ℕ) → cond (eq_by_cmp nat_cmp id (owner_of kind line.row))
        (Some (with_inode (get (usage_of kind lines) (owner_of kind line.row)) line.row.blocks))
        (get (usage_of kind lines) id)
        ≡ usage_in (owned kind (first_lines (lines ++ line ∷ [])) id)
    at id = elim (eqb_tells (owner_of kind line.row) id) [
      | inl same ↦
          ap (λ b. cond b (Some (with_inode (get (usage_of kind lines) (owner_of kind line.row)) line.row.blocks))
          (get (usage_of kind lines) id))
          (unsigned_tied id (owner_of kind line.row) ∙ eq-eqb id (owner_of kind line.row) (sym same.1))
          ∙ ap (λ n. Some (with_inode (get (usage_of kind lines) n) line.row.blocks)) same.1
          ∙ ap (λ o. Some (with_inode o line.row.blocks)) (usage_of-get kind lines id)
          ∙ sym (used_push (owned kind (first_lines lines) id) line)
          ∙ ap (λ b. usage_in (owned kind (first_lines lines) id ++ (if b then line ∷ [] else []))) (sym same.0)
          ∙ ap usage_in (sym (mine id))
      | inr other ↦
          ap (λ b. cond b (Some (with_inode (get (usage_of kind lines) (owner_of kind line.row)) line.row.blocks))
          (get (usage_of kind lines) id))
          (unsigned_tied id (owner_of kind line.row) ∙ ne_eqb id (owner_of kind line.row) (λ same. other.1 (sym same)))
          ∙ usage_of-get kind lines id
          ∙ ap usage_in (sym (append-nil (owned kind (first_lines lines) id)))
          ∙ ap (λ b. usage_in (owned kind (first_lines lines) id ++ (if b then line ∷ [] else []))) (sym other.0)
          ∙ ap usage_in (sym (mine id))
    ]

-- no lines use nothing
pub usage_of-none : (kind : Kind) → usage_of kind [] ≡ empty
unfolding usage_of first_lines
usage_of-none kind = refl

-- Bounds.

bounded_at : (count blocks : ℕ) (used : Option Used) → 0 < count → blocks < 2 ^ 64
    → IfSome used (λ used. (used.inodes ≤ count - 1) × (used.space ≤ 2 ^ 73 * used.inodes))
    → ((with_inode used blocks).inodes ≤ count)
    × ((with_inode used blocks).space ≤ 2 ^ 73 * (with_inode used blocks).inodes)
bounded_at count blocks None some fits bounded = (omega arith, omega arith)
bounded_at count blocks (Some used) some fits bounded = (omega arith, omega arith)

weaker_at : (count : ℕ) (used : Option Used)
    → IfSome used (λ used. (used.inodes ≤ count - 1) × (used.space ≤ 2 ^ 73 * used.inodes))
    → IfSome used (λ used. (used.inodes ≤ count) × (used.space ≤ 2 ^ 73 * used.inodes))
weaker_at count None bounded = tt
weaker_at count (Some used) bounded = (omega arith, bounded.1)

bounded_push : (count id blocks : ℕ) (usage : UsageMap) → 0 < count → blocks < 2 ^ 64 → IsBounded (count - 1) usage
    → IsBounded count (insert usage id (with_inode (get usage id) blocks))
bounded_push count id blocks usage some fits bounded other =
    subst (λ o. IfSome o (λ used. (used.inodes ≤ count) × (used.space ≤ 2 ^ 73 * used.inodes)))
    (sym (get-insert nat_cmp_total usage id (with_inode (get usage id) blocks) other))
    (by (eq_by_cmp nat_cmp other id))
  where
    by : (b : Bool) → IfSome (cond b (Some (with_inode (get usage id) blocks)) (get usage other))
        (λ used. (used.inodes ≤ count) × (used.space ≤ 2 ^ 73 * used.inodes))
    by true = bounded_at count blocks (get usage id) some fits (bounded id)
    by false = weaker_at count (get usage other) (bounded other)

pub bounded_row : (count id : ℕ) (row : Row) (usage : UsageMap) → 0 < count → row.blocks < 2 ^ 64
    → IsBounded (count - 1) usage → IsBounded count (insert usage id (with_inode (get usage id) row.blocks))
bounded_row count id row usage some fits bounded = bounded_push count id row.blocks usage some fits bounded

pub bounded_none : (usage : UsageMap) → usage ≡ empty → IsBounded 0 usage
bounded_none usage none id =
    subst
    (λ (u : UsageMap). IfSome (get u id) (λ used. (used.inodes ≤ 0) × (used.space ≤ 2 ^ 73 * used.inodes))) (sym none)
    (subst (λ (o : Option Used). IfSome o (λ used. (used.inodes ≤ 0) × (used.space ≤ 2 ^ 73 * used.inodes)))
    (sym (get-empty nat_cmp id)) tt)
