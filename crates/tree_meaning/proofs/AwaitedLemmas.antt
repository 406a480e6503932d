-- A leaf that was put in its place among others counts as it did while it was awaited.
use Rattle.std.proofs.Common.{◌≡◌, ℕ, suc, ◌<◌, ◌≤◌, Bool, cond, ◌==◌, nat_lt, List, [], ◌∷◌, ◌++◌, length, map, filter}
use Rattle.std.proofs.Common.{find, Some, refl, sym, ap, ◌∙◌, inl, inr, arith, eq-eqb, ne_eqb, lt-ltb, le-ltb}
use Rattle.std.proofs.lemmas.Bool.{cases_eq, cases_lt}
use Rattle.std.proofs.lemmas.List.{map-append}
use Rattle.std.proofs.lemmas.List.Elements.{filter-append}
use Rattle.quota_types.specs.Times.{times}
use Rattle.quota_types.proofs.TimesLemmas.{times-append, times-cons-other, times-cons-same}
use Rattle.quota_radix.specs.declared.tree_path.TreePath.{TreePath}
use Rattle.quota_radix.specs.Link.{with_path}
use Rattle.quota_radix.specs.Tree.{blocks_of, ids_at, numbers_of}
use Rattle.quota_radix.proofs.LinkLeafLemmas.{find-with_path-other, find-with_path-same}
use Rattle.quota_radix.proofs.PathLemmas.{Rises, length_ids}

ids_at-append : (ps qs : List TreePath) (block : ℕ) → ids_at (ps ++ qs) block ≡ ids_at ps block ++ ids_at qs block
ids_at-append ps qs block =
    let here : TreePath → Bool = λ path. path.block == block in
    ap (map (λ (path : TreePath). path.number)) (filter-append here ps qs)
    ∙ map-append (λ (path : TreePath). path.number) (filter here ps) (filter here qs)

-- all numbers from one on are above a lower one
all_above : (number low high : ℕ) (ps : List TreePath) → Rises low ps high → number < low
    → (filter (λ other. nat_lt other.number number) ps ≡ []) × (filter (λ other. nat_lt number other.number) ps ≡ ps)
all_above number low high [] rises below = (refl, refl)
all_above number low high (p ∷ ps) rises below =
    let from : low ≤ p.number = rises.0 in
    let rest = all_above number (suc p.number) high ps rises.1 (omega arith) in
    let less : TreePath → Bool = λ other. nat_lt other.number number in
    let more : TreePath → Bool = λ other. nat_lt number other.number in (
      ap (λ (b : Bool). cond b (p ∷ filter less ps) (filter less ps)) (le-ltb p.number number (omega arith)) ∙ rest.0,
      ap (λ (b : Bool). cond b (p ∷ filter more ps) (filter more ps)) (lt-ltb number p.number (omega arith))
          ∙ ap (λ (qs : List TreePath). p ∷ qs) rest.1,
    )

-- paths fall into those of lower numbers and those of greater ones, where none has the number itself
falls_apart : (number low high : ℕ) (ps : List TreePath) → Rises low ps high → times (numbers_of ps) number ≡ 0
    → ps ≡ filter (λ other. nat_lt other.number number) ps ++ filter (λ other. nat_lt number other.number) ps
falls_apart number low high [] rises absent = refl
falls_apart number low high (p ∷ ps) rises absent =
    let less : TreePath → Bool = λ other. nat_lt other.number number in
    let more : TreePath → Bool = λ other. nat_lt number other.number in
    elim (cases_lt p.number number) [
      | inl below ↦
          let rest = falls_apart number (suc p.number) high ps rises.1
          (sym (times-cons-other p.number (numbers_of ps) number (λ same. omega (arith, same, below))) ∙ absent) in
          ap (λ (qs : List TreePath). p ∷ qs) rest
          ∙ ap (λ (qs : List TreePath). p ∷ (filter less ps ++ qs))
          (sym (ap (λ (b : Bool). cond b (p ∷ filter more ps) (filter more ps)) (le-ltb number p.number (omega arith))))
          ∙ ap (λ (qs : List TreePath). qs ++ filter more (p ∷ ps))
          (sym (ap (λ (b : Bool). cond b (p ∷ filter less ps) (filter less ps)) (lt-ltb p.number number below)))
      | inr high_one ↦ elim (cases_eq number p.number) [
        | inl same ↦ absurd
            (omega (arith, absent, times-cons-same p.number (numbers_of ps), ap (times (numbers_of (p ∷ ps))) same))
        | inr other ↦
            let above = all_above number p.number high (p ∷ ps) (omega arith, rises.1) (omega arith) in
            sym (ap (λ (qs : List TreePath). qs ++ filter more (p ∷ ps)) above.0 ∙ above.1)
      ]
    ]

module _ (ps : List TreePath) (leaf : TreePath) (low high : ℕ) (rises : Rises low ps high)
    (absent : times (numbers_of ps) leaf.number ≡ 0) where
  lower : List TreePath
  lower = filter (λ other. nat_lt other.number leaf.number) ps

  greater : List TreePath
  greater = filter (λ other. nat_lt leaf.number other.number) ps

  -- each identifier leads to a block as often
  pub times-ids : (block id : ℕ) → times (ids_at (with_path ps leaf) block) id ≡ times (ids_at (leaf ∷ ps) block) id
  unfolding lower greater
  times-ids block id = omega (
    arith,
    ap (λ (ids : List ℕ). times ids id) (ids_at-append lower (leaf ∷ greater) block),
    ap (λ (ids : List ℕ). times ids id) (ids_at-append (leaf ∷ []) greater block),
    ap (λ (ids : List ℕ). times ids id) (ids_at-append (leaf ∷ []) ps block),
    ap (λ (qs : List TreePath). times (ids_at qs block) id) (falls_apart leaf.number low high ps rises absent),
    ap (λ (ids : List ℕ). times ids id) (ids_at-append lower greater block),
    times-append (ids_at lower block) (ids_at (leaf ∷ greater) block) id,
    times-append (ids_at (leaf ∷ []) block) (ids_at greater block) id,
    times-append (ids_at (leaf ∷ []) block) (ids_at ps block) id,
    times-append (ids_at lower block) (ids_at greater block) id,
  )

  -- as many leaves name a block
  pub times-blocks : (block : ℕ) → times (blocks_of (with_path ps leaf)) block ≡ times (blocks_of (leaf ∷ ps)) block
  unfolding lower greater
  times-blocks block = omega (
    arith,
    ap (λ (blocks : List ℕ). times blocks block) (map-append (λ (path : TreePath). path.block) lower (leaf ∷ greater)),
    ap (λ (qs : List TreePath). times (blocks_of qs) block) (falls_apart leaf.number low high ps rises absent),
    ap (λ (blocks : List ℕ). times blocks block) (map-append (λ (path : TreePath). path.block) lower greater),
    times-append (blocks_of lower) (leaf.block ∷ blocks_of greater) block,
    times-append (leaf.block ∷ []) (blocks_of greater) block,
    times-append (leaf.block ∷ []) (blocks_of ps) block,
    times-append (blocks_of lower) (blocks_of greater) block,
  )

  pub length-ids : (block : ℕ) → length (ids_at (with_path ps leaf) block) ≡ length (ids_at (leaf ∷ ps) block)
  length-ids block = length_ids (with_path ps leaf) block ∙ times-blocks block ∙ sym (length_ids (leaf ∷ ps) block)

-- and the same leaf is found of each identifier
pub find-awaited : (ps : List TreePath) (leaf : TreePath) (id : ℕ)
    → find (λ (other : TreePath). other.number == id) (with_path ps leaf)
    ≡ find (λ (other : TreePath). other.number == id) (leaf ∷ ps)
find-awaited ps leaf id =
    let first = λ (b : Bool). cond b (Some leaf) (find (λ (other : TreePath). other.number == id) ps) in
    elim (cases_eq leaf.number id) [
      | inl same ↦ ap (λ (n : ℕ). find (λ (other : TreePath). other.number == n) (with_path ps leaf)) (sym same)
          ∙ find-with_path-same ps leaf ∙ sym (ap first (eq-eqb leaf.number id same))
      | inr other ↦
          find-with_path-other ps leaf id (λ is. other (sym is)) ∙ sym (ap first (ne_eqb leaf.number id other))
    ]
