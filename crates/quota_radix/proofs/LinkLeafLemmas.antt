-- The leaves once one was added: its identifier has it, and every other one has what it had.
use Rattle.std.proofs.Common.{◌≡◌, ◌≢◌, ℕ, ◌<◌, ◌^◌, Bool, true, false, cond, ◌==◌, nat_lt, List, [], ◌∷◌, filter, find}
use Rattle.std.proofs.Common.{Some, None, option_map, refl, sym, ap, ◌∙◌, inl, inr, arith, ne_eqb, eq-eqb}
use Rattle.std.proofs.lemmas.Bool.{cases_Bool, cases_lt, eqb-true, lt-ltb, ltb-true}
use Rattle.quota_radix.specs.declared.tree_path.TreePath.{TreePath}
use Rattle.quota_radix.specs.Descent.{leaf_block}
use Rattle.quota_radix.specs.Link.{with_path}
use Rattle.quota_radix.specs.Tree.{leaves}
use Rattle.quota_radix.proofs.DescentLemmas.{leaf_led_to, option_cases}
use Rattle.quota_radix.proofs.FindLemmas.{find_first, find_later}

-- what is looked for is found among those that are kept, where each such one is kept, and not found where none is
find_kept : (test keep : TreePath → Bool) (ps : List TreePath) → ((p : TreePath) → test p ≡ true → keep p ≡ true)
    → find test (filter keep ps) ≡ find test ps
find_kept test keep [] all = refl
find_kept test keep (p ∷ ps) all =
    let rest : find test (filter keep ps) ≡ find test ps = find_kept test keep ps all in
    elim (cases_Bool (test p)) [
      | inl is ↦ ap (λ (b : Bool). find test (cond b (p ∷ filter keep ps) (filter keep ps))) (all p is)
          ∙ ap (λ (b : Bool). cond b (Some p) (find test (filter keep ps))) is
          ∙ sym (ap (λ (b : Bool). cond b (Some p) (find test ps)) is)
      | inr other ↦ elim (cases_Bool (keep p)) [
        | inl kept ↦ ap (λ (b : Bool). find test (cond b (p ∷ filter keep ps) (filter keep ps))) kept
            ∙ ap (λ (b : Bool). cond b (Some p) (find test (filter keep ps))) other ∙ rest
            ∙ sym (ap (λ (b : Bool). cond b (Some p) (find test ps)) other)
        | inr dropped ↦ ap (λ (b : Bool). find test (cond b (p ∷ filter keep ps) (filter keep ps))) dropped
            ∙ rest ∙ sym (ap (λ (b : Bool). cond b (Some p) (find test ps)) other)
      ]
    ]

find_dropped : (test keep : TreePath → Bool) (ps : List TreePath) → ((p : TreePath) → keep p ≡ true → test p ≡ false)
    → find test (filter keep ps) ≡ None
find_dropped test keep [] none = refl
find_dropped test keep (p ∷ ps) none =
    let rest : find test (filter keep ps) ≡ None = find_dropped test keep ps none in
    elim (cases_Bool (keep p)) [
      | inl kept ↦ ap (λ (b : Bool). find test (cond b (p ∷ filter keep ps) (filter keep ps))) kept
          ∙ ap (λ (b : Bool). cond b (Some p) (find test (filter keep ps))) (none p kept) ∙ rest
      | inr dropped ↦ ap (λ (b : Bool). find test (cond b (p ∷ filter keep ps) (filter keep ps))) dropped ∙ rest
    ]

-- the path that was added is found by its number
pub find-with_path-same : (ps : List TreePath) (path : TreePath)
    → find (λ (other : TreePath). other.number == path.number) (with_path ps path) ≡ Some path
find-with_path-same ps path =
    let is : TreePath → Bool = λ other. other.number == path.number in
    let less : TreePath → Bool = λ other. nat_lt other.number path.number in
    let more : TreePath → Bool = λ other. nat_lt path.number other.number in
    find_later is (filter less ps) (path ∷ filter more ps)
    (find_dropped is less ps
    (λ p kept. let below : p.number < path.number = ltb-true p.number path.number kept in
    ne_eqb p.number path.number (λ same. omega (arith, same, below))))
    ∙ ap (λ (b : Bool). cond b (Some path) (find is (filter more ps))) (eq-eqb path.number path.number refl)

-- and each other number finds what it found
pub find-with_path-other : (ps : List TreePath) (path : TreePath) (number : ℕ) → number ≢ path.number
    → find (λ (other : TreePath). other.number == number) (with_path ps path)
    ≡ find (λ (other : TreePath). other.number == number) ps
find-with_path-other ps path number ne =
    let is : TreePath → Bool = λ other. other.number == number in
    let less : TreePath → Bool = λ other. nat_lt other.number path.number in
    let more : TreePath → Bool = λ other. nat_lt path.number other.number in
    let behind : find is (path ∷ filter more ps) ≡ find is (filter more ps) =
    ap (λ (b : Bool). cond b (Some path) (find is (filter more ps)))
    (ne_eqb path.number number (λ same. ne (sym same))) in
    elim (cases_lt number path.number) [
      | inl low ↦
          let first : find is (filter less ps) ≡ find is ps =
          find_kept is less ps
          (λ p here. let same : p.number ≡ number = eqb-true p.number number here in
          lt-ltb p.number path.number (omega (arith, same, low))) in
          let none_behind : find is (filter more ps) ≡ None =
          find_dropped is more ps
          (λ p kept. let above : path.number < p.number = ltb-true path.number p.number kept in
          ne_eqb p.number number (λ same. omega (arith, same, above, low))) in
          elim (option_cases (find is (filter less ps))) [
            | inl none ↦
                find_later is (filter less ps) (path ∷ filter more ps) none ∙ behind ∙ none_behind ∙ sym none ∙ first
            | inr found ↦ find_first is (filter less ps) (path ∷ filter more ps) found.0 found.1 ∙ sym found.1 ∙ first
          ]
      | inr high ↦
          let above : path.number < number = omega arith in
          find_later is (filter less ps) (path ∷ filter more ps)
          (find_dropped is less ps
          (λ p kept. let below : p.number < path.number = ltb-true p.number path.number kept in
          ne_eqb p.number number (λ same. omega (arith, same, below, above))))
          ∙ behind
          ∙ find_kept is more ps
          (λ p here. let same : p.number ≡ number = eqb-true p.number number here in
          lt-ltb path.number p.number (omega (arith, same, above)))
    ]

-- and each other one to where it led
pub leaf_of_other : (old new : List ℕ) (blocks id block other : ℕ) → other < 2 ^ 32 → other ≢ id
    → leaves new blocks ≡ with_path (leaves old blocks) (record { number = id; block = block })
    → leaf_block new blocks other ≡ leaf_block old blocks other
leaf_of_other old new blocks id block other small ne added =
    let leaf : TreePath = record { number = id; block = block } in
    leaf_led_to new blocks other small
    ∙ ap (λ (ps : List TreePath).
    option_map (λ (path : TreePath). path.block) (find (λ (one : TreePath). one.number == other) ps)) added
    ∙ ap (option_map (λ (path : TreePath). path.block)) (find-with_path-other (leaves old blocks) leaf other ne)
    ∙ sym (leaf_led_to old blocks other small)
