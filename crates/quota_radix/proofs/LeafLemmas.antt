-- The leaf of an identifier, and the first leaf from one on.
use Rattle.std.proofs.Common.{◌≡◌, ℕ, ◌^◌, ◌<◌, Bool, true, cond, ◌==◌, List, [], ◌∷◌, find, Option, Some, None}
use Rattle.std.proofs.Common.{option_map, sym, ap, ◌∙◌, inl, inr}
use Rattle.std.proofs.lemmas.Bool.{cases_Bool, eqb-true}
use Rattle.quota_radix.specs.declared.tree_path.TreePath.{TreePath}
use Rattle.quota_radix.specs.Descent.{leaf_block}
use Rattle.quota_radix.specs.Tree.{leaves}
use Rattle.quota_radix.proofs.DescentLemmas.{leaf_led_to, not_some, option_cases, some_same}

find_passes : (test : TreePath → Bool) (ps : List TreePath) (p : TreePath) → find test ps ≡ Some p → test p ≡ true
find_passes test [] p found = absurd (not_some p (sym found))
find_passes test (q ∷ ps) p found = elim (cases_Bool (test q)) [
  | inl passes ↦
      ap test (sym (some_same q p (sym (ap (λ (b : Bool). cond b (Some q) (find test ps)) passes) ∙ found))) ∙ passes
  | inr fails ↦ find_passes test ps p (sym (ap (λ (b : Bool). cond b (Some q) (find test ps)) fails) ∙ found)
]

-- the leaf of an identifier is one of the file
abbrev pub IsLeaf : List ℕ → ℕ → TreePath → Type 0
IsLeaf file blocks leaf = find (λ (other : TreePath). other.number == leaf.number) (leaves file blocks) ≡ Some leaf

-- where the digits of an identifier lead is its leaf
pub leaf_of_block : (file : List ℕ) (blocks id block : ℕ) → id < 2 ^ 32 → Some block ≡ leaf_block file blocks id
    → IsLeaf file blocks (record { number = id; block = block })
leaf_of_block file blocks id block low is =
    let found : Option TreePath = find (λ (other : TreePath). other.number == id) (leaves file blocks) in
    let led : Some block ≡ option_map (λ (leaf : TreePath). leaf.block) found = is ∙ leaf_led_to file blocks id low in
    elim (option_cases found) [
      | inl none ↦
          absurd (let no : Some block ≡ None = led ∙ ap (option_map (λ (leaf : TreePath). leaf.block)) none in cc)
      | inr there ↦
          let leaf : TreePath = there.0 in
          let there_block : Some block ≡ Some leaf.block =
          led ∙ ap (option_map (λ (leaf : TreePath). leaf.block)) there.1 in
          let block_is : leaf.block ≡ block = cc in
          let number_is : leaf.number ≡ id = eqb-true leaf.number id
          (find_passes (λ (other : TreePath). other.number == id) (leaves file blocks) leaf there.1) in
          there.1 ∙ (λ i. Some (record { number = number_is i; block = block_is i }))
    ]

pub no_leaf_of_block : (file : List ℕ) (blocks id : ℕ) → id < 2 ^ 32 → None ≡ leaf_block file blocks id
    → find (λ (other : TreePath). other.number == id) (leaves file blocks) ≡ None
no_leaf_of_block file blocks id low is =
    let found : Option TreePath = find (λ (other : TreePath). other.number == id) (leaves file blocks) in
    let led : None ≡ option_map (λ (leaf : TreePath). leaf.block) found = is ∙ leaf_led_to file blocks id low in
    elim (option_cases found) [
      | inl none ↦ none
      | inr there ↦ absurd
          (let some : None ≡ Some there.0.block = led ∙ ap (option_map (λ (leaf : TreePath). leaf.block)) there.1 in cc)
    ]
