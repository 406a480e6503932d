-- The leaf of an identifier is where its four digits lead, and the leaf from one on is found by going down.
use Rattle.std.proofs.Common.{◌≡◌, ◌≢◌, ℕ, zero, suc, ◌+◌, ◌*◌, ◌/◌, ◌%◌, ◌^◌, ◌<◌, ◌≤◌, Bool, true, false, cond, ◌==◌}
use Rattle.std.proofs.Common.{nat_le, List, [], ◌∷◌, ◌++◌, find, Option, Some, None, option_and_then, option_map, refl}
use Rattle.std.proofs.Common.{sym, ap, subst, ◌∙◌, ◌⊎◌, inl, inr, arith, pow-suc, ne_eqb, eq-eqb}
use Rattle.std.proofs.lemmas.Bool.{cases_Bool, cases_eq, cases_lt, le-leb, lt-leb}
use Rattle.std.proofs.lemmas.Bool.Decides.{eqb_tells}
use Rattle.std.proofs.lemmas.List.{append-nil}
use Rattle.std.proofs.lemmas.List.Concat.{flat_map-append}
use Rattle.std.specs.List.{cons_option, filter_map, flat_map, range_with_len}
use Rattle.std.specs.Option.{option_or}
use Rattle.quota_radix.specs.declared.tree_path.TreePath.{TreePath}
use Rattle.file_blocks.specs.Block.{word_at, leads}
use Rattle.quota_radix.specs.Descent.{leaf_block, leaf_from, path_from, paths_below}
use Rattle.quota_radix.specs.OnWay.{block_led_to, led_by}
use Rattle.quota_radix.specs.Tree.{leaves, paths, step, steps}
use Rattle.quota_radix.proofs.OrderLemmas.{rises_bound}
use Rattle.quota_radix.proofs.FindLemmas.{find_first, find_later}
use Rattle.quota_radix.proofs.PathLemmas.{Rises, Rises-flat_map, Rises-paths, Rises-steps, Rises_wider, rising_steps}

-- a path has a number
abbrev is_number : ℕ → TreePath → Bool
is_number number path = path.number == number

-- a number below those of paths is that of none
find_below : (low high number : ℕ) (ps : List TreePath) → Rises low ps high → number < low
    → find (is_number number) ps ≡ None
find_below low high number [] r under = refl
find_below low high number (p ∷ ps) r under =
    let from : low ≤ p.number = r.0 in
    ap (λ (b : Bool). cond b (Some p) (find (is_number number) ps))
    (ne_eqb p.number number (λ e. omega (arith, e, from, under)))
    ∙ find_below (suc p.number) high number ps r.1 (omega arith)

-- and so is one above them
pub find_above : (low high number : ℕ) (ps : List TreePath) → Rises low ps high → high ≤ number
    → find (is_number number) ps ≡ None
find_above low high number [] r over = refl
find_above low high number (p ∷ ps) r over =
    let to : suc p.number ≤ high = rises_bound (suc p.number) high ps r.1 in
    ap (λ (b : Bool). cond b (Some p) (find (is_number number) ps))
    (ne_eqb p.number number (λ e. omega (arith, e, to, over)))
    ∙ find_above (suc p.number) high number ps r.1 over

-- a step is there or not
pub step_there : (file : List ℕ) (blocks : ℕ) (path : TreePath) (digit : ℕ)
    → (step file blocks path digit ≡ Some (record {
      number = 256 * path.number + digit;
      block = word_at file path.block digit;
    })) ⊎ (step file blocks path digit ≡ None)
step_there file blocks path digit =
    let next : TreePath = record { number = 256 * path.number + digit; block = word_at file path.block digit } in
    elim (leads blocks (word_at file path.block digit)) as
    (λ (b : Bool). (cond b (Some next) None ≡ Some next) ⊎ (cond b (Some next) None ≡ None)) [
      | true ↦ inl refl
      | false ↦ inr refl
    ]

-- the step by one digit, among those by `count` digits
find_step : (file : List ℕ) (blocks : ℕ) (path : TreePath) (digit first count : ℕ) → first ≤ digit
    → digit < first + count
    → find (is_number (256 * path.number + digit)) (filter_map (step file blocks path) (range_with_len first count))
    ≡ step file blocks path digit
find_step file blocks path digit first zero from to = absurd (omega arith)
find_step file blocks path digit first (suc count) from to =
    let number : ℕ = 256 * path.number + digit in
    let rest : List TreePath = filter_map (step file blocks path) (range_with_len (first + 1) count) in
    let all : Option TreePath → Option TreePath = λ o. find (is_number number) (cons_option o rest) in
    elim (cases_eq first digit) [
      | inl same ↦
          let none : find (is_number number) rest ≡ None =
          find_below (256 * path.number + (first + 1)) (256 * path.number + (first + 1 + count)) number rest
          (rising_steps file blocks path (first + 1) count) (omega (arith, same)) in
          elim (step_there file blocks path digit) [
            | inl there ↦
                ap (λ (k : ℕ). all (step file blocks path k)) same ∙ ap all there
                ∙ ap (λ (b : Bool). cond b (Some (record { number = number; block = word_at file path.block digit }))
                (find (is_number number) rest)) (eq-eqb number number refl)
                ∙ sym there
            | inr not_there ↦
                ap (λ (k : ℕ). all (step file blocks path k)) same ∙ ap all not_there ∙ none ∙ sym not_there
          ]
      | inr other ↦
          let later = find_step file blocks path digit (first + 1) count (omega (arith, from, other)) (omega arith) in
          elim (step_there file blocks path first) [
            | inl there ↦ ap all there
                ∙ ap (λ (b : Bool). cond b
                (Some (record { number = 256 * path.number + first; block = word_at file path.block first }))
                (find (is_number number) rest))
                (ne_eqb (256 * path.number + first) number (λ e. omega (arith, e, other)))
                ∙ later
            | inr not_there ↦ ap all not_there ∙ later
          ]
    ]

pub find_in_steps : (file : List ℕ) (blocks : ℕ) (path : TreePath) (number : ℕ) → path.number ≡ number / 256
    → find (is_number number) (steps file blocks path) ≡ step file blocks path (number % 256)
unfolding steps
find_in_steps file blocks path number is =
    let parts : 256 * path.number + number % 256 ≡ number = omega arith in
    ap (λ (n : ℕ). find (is_number n) (filter_map (step file blocks path) (range_with_len 0 256))) (sym parts)
    ∙ find_step file blocks path (number % 256) 0 256 (omega arith) (omega arith)

pub option_cases : {X : Type 0} (o : Option X) → (o ≡ None) ⊎ ((x : X) × (o ≡ Some x))
option_cases None = inl refl
option_cases (Some x) = inr (x, refl)

-- a path of one digit more is a step from that of the digits before the last
find_onward : (file : List ℕ) (blocks low high number : ℕ) (ps : List TreePath) → Rises low ps high
    → find (is_number number) (flat_map (steps file blocks) ps)
    ≡ option_and_then (λ path. step file blocks path (number % 256)) (find (is_number (number / 256)) ps)
find_onward file blocks low high number [] r = refl
find_onward file blocks low high number (p ∷ ps) r =
    let rest : List TreePath = flat_map (steps file blocks) ps in
    let on : Bool → Option TreePath = λ b. option_and_then (λ path. step file blocks path (number % 256))
    (cond b (Some p) (find (is_number (number / 256)) ps)) in
    elim (eqb_tells p.number (number / 256)) [
      | inl same ↦
          let here = find_in_steps file blocks p number same.1 in
          elim (option_cases (find (is_number number) (steps file blocks p))) [
            | inl none ↦
                let is : p.number ≡ number / 256 = same.1 in
                find_later (is_number number) (steps file blocks p) rest none
                ∙ find_below (256 * suc p.number) (256 * high) number rest
                (Rises-flat_map file blocks (suc p.number) high ps r.1) (omega arith)
                ∙ sym (ap on same.0 ∙ sym here ∙ none)
            | inr found ↦ find_first (is_number number) (steps file blocks p) rest found.0 found.1 ∙ sym found.1 ∙ here
                ∙ sym (ap on same.0)
          ]
      | inr other ↦
          let ne : p.number ≢ number / 256 = other.1 in
          let none : find (is_number number) (steps file blocks p) ≡ None = elim (cases_lt number (256 * p.number)) [
            | inl under ↦ find_below (256 * p.number) (256 * suc p.number) number (steps file blocks p)
                (Rises-steps file blocks p) under
            | inr over ↦ find_above (256 * p.number) (256 * suc p.number) number (steps file blocks p)
                (Rises-steps file blocks p) (omega (arith, over, ne))
          ] in
          find_later (is_number number) (steps file blocks p) rest none
          ∙ find_onward file blocks (suc p.number) high number ps r.1 ∙ sym (ap on other.0)
    ]

-- the block of a step
led_to : (file : List ℕ) (blocks digit : ℕ) (found : Option TreePath)
    → option_map (λ (path : TreePath). path.block) (option_and_then (λ path. step file blocks path digit) found)
    ≡ option_and_then (led_by file blocks digit) (option_map (λ (path : TreePath). path.block) found)
led_to file blocks digit None = refl
led_to file blocks digit (Some p) =
    let next : TreePath = record { number = 256 * p.number + digit; block = word_at file p.block digit } in
    elim (leads blocks (word_at file p.block digit)) as
    (λ (b : Bool). option_map (λ (path : TreePath). path.block) (cond b (Some next) None)
    ≡ cond b (Some next.block) None) [ true ↦ refl | false ↦ refl ]

-- a path's block is where the digits of its number lead
pub path_led_to : (file : List ℕ) (blocks digits number : ℕ) → number < 256 ^ digits
    → block_led_to file blocks digits number
    ≡ option_map (λ (path : TreePath). path.block)
    (find (λ (path : TreePath). path.number == number) (paths file blocks digits))
path_led_to file blocks zero number low =
    let root : TreePath = record { number = 0; block = 1 } in
    sym (ap (λ (b : Bool). option_map (λ (path : TreePath). path.block) (cond b (Some root) None))
    (eq-eqb 0 number (omega arith)))
path_led_to file blocks (suc digits) number low =
    let fewer : number / 256 < 256 ^ digits = omega (arith, low, pow-suc 256 digits) in
    ap (option_and_then (led_by file blocks (number % 256))) (path_led_to file blocks digits (number / 256) fewer)
    ∙ sym (led_to file blocks (number % 256) (find (is_number (number / 256)) (paths file blocks digits)))
    ∙ sym (ap (option_map (λ (path : TreePath). path.block))
    (find_onward file blocks 0 (256 ^ digits) number (paths file blocks digits) (Rises-paths file blocks digits)))

-- an identifier's leaf is where its four digits lead
pub leaf_led_to : (file : List ℕ) (blocks id : ℕ) → id < 2 ^ 32
    → leaf_block file blocks id
    ≡ option_map (λ (leaf : TreePath). leaf.block) (find (λ (leaf : TreePath). leaf.number == id) (leaves file blocks))
leaf_led_to file blocks id low = path_led_to file blocks 4 id low

flat_map_singles : (ps : List TreePath) → flat_map (λ (p : TreePath). p ∷ []) ps ≡ ps
flat_map_singles [] = refl
flat_map_singles (p ∷ ps) = ap (λ (qs : List TreePath). p ∷ qs) (flat_map_singles ps)

flat_map_twice : (f g : TreePath → List TreePath) (ps : List TreePath)
    → flat_map g (flat_map f ps) ≡ flat_map (λ p. flat_map g (f p)) ps
flat_map_twice f g [] = refl
flat_map_twice f g (p ∷ ps) =
    flat_map-append g (f p) (flat_map f ps)
    ∙ ap (λ (qs : List TreePath). flat_map g (f p) ++ qs) (flat_map_twice f g ps)

below_paths : (file : List ℕ) (blocks upper digits : ℕ)
    → flat_map (paths_below file blocks digits) (paths file blocks upper) ≡ paths file blocks (upper + digits)
below_paths file blocks upper zero =
    let same : upper ≡ upper + 0 = omega arith in
    flat_map_singles (paths file blocks upper) ∙ ap (paths file blocks) same
below_paths file blocks upper (suc digits) =
    let same : suc upper + digits ≡ upper + suc digits = omega arith in
    sym (flat_map_twice (steps file blocks) (paths_below file blocks digits) (paths file blocks upper))
    ∙ below_paths file blocks (suc upper) digits ∙ ap (paths file blocks) same

-- the leaves are the paths that go on from the root by four digits
pub leaves_below : (file : List ℕ) (blocks : ℕ)
    → leaves file blocks ≡ paths_below file blocks 4 (record { number = 0; block = 1 })
leaves_below file blocks =
    sym (below_paths file blocks 0 4) ∙ append-nil (paths_below file blocks 4 (record { number = 0; block = 1 }))

pub Rises-below : (file : List ℕ) (blocks digits low high : ℕ) (ps : List TreePath) → Rises low ps high
    → Rises (256 ^ digits * low) (flat_map (paths_below file blocks digits) ps) (256 ^ digits * high)
Rises-below file blocks zero low high ps r =
    subst (λ (qs : List TreePath). Rises (256 ^ 0 * low) qs (256 ^ 0 * high)) (sym (flat_map_singles ps))
    (Rises_wider low (256 ^ 0 * low) ps high (256 ^ 0 * high) (omega arith) (omega arith) r)
Rises-below file blocks (suc digits) low high ps r =
    let lower : 256 ^ digits * (256 * low) ≡ 256 ^ suc digits * low =
    omega (arith, ap (λ (k : ℕ). k * low) (pow-suc 256 digits)) in
    let higher : 256 ^ digits * (256 * high) ≡ 256 ^ suc digits * high =
    omega (arith, ap (λ (k : ℕ). k * high) (pow-suc 256 digits)) in
    subst (λ (qs : List TreePath). Rises (256 ^ suc digits * low) qs (256 ^ suc digits * high))
    (flat_map_twice (steps file blocks) (paths_below file blocks digits) ps)
    (subst (λ (n : ℕ). Rises n (flat_map (paths_below file blocks digits) (flat_map (steps file blocks) ps))
    (256 ^ suc digits * high)) lower
    (subst (λ (n : ℕ). Rises (256 ^ digits * (256 * low))
    (flat_map (paths_below file blocks digits) (flat_map (steps file blocks) ps)) n) higher
    (Rises-below file blocks digits (256 * low) (256 * high) (flat_map (steps file blocks) ps)
    (Rises-flat_map file blocks low high ps r))))

-- the paths that go on from one have numbers that begin with its number
pub Rises-paths_below : (file : List ℕ) (blocks digits : ℕ) (path : TreePath)
    → Rises (256 ^ digits * path.number) (paths_below file blocks digits path) (256 ^ digits * suc path.number)
Rises-paths_below file blocks digits path =
    subst (λ (qs : List TreePath). Rises (256 ^ digits * path.number) qs (256 ^ digits * suc path.number))
    (append-nil (paths_below file blocks digits path))
    (Rises-below file blocks digits path.number (suc path.number) (path ∷ []) (omega arith, omega arith))

-- where all numbers are passed, there is none from there on
pub none_from : (low high from : ℕ) (ps : List TreePath) → Rises low ps high → high ≤ from → path_from from ps ≡ None
none_from low high from [] r over = refl
none_from low high from (p ∷ ps) r over =
    let to : suc p.number ≤ high = rises_bound (suc p.number) high ps r.1 in
    ap (λ (b : Bool). cond b (Some p) (path_from from ps)) (lt-leb from p.number (omega arith))
    ∙ none_from (suc p.number) high from ps r.1 over

-- where none is passed, the first one is the first of all
pub all_from : (low high from : ℕ) (ps : List TreePath) → Rises low ps high → from ≤ low
    → path_from from ps ≡ path_from 0 ps
all_from low high from [] r under = refl
all_from low high from (p ∷ ps) r under =
    let above : low ≤ p.number = r.0 in
    ap (λ (b : Bool). cond b (Some p) (path_from from ps)) (le-leb from p.number (omega arith))
    ∙ sym (ap (λ (b : Bool). cond b (Some p) (path_from 0 ps)) (le-leb 0 p.number (omega arith)))

pub from-append : (from : ℕ) (ps qs : List TreePath)
    → path_from from (ps ++ qs) ≡ option_or (path_from from ps) (path_from from qs)
from-append from [] qs = refl
from-append from (p ∷ ps) qs = elim (cases_Bool (nat_le from p.number)) [
  | inl here ↦ ap (λ (b : Bool). cond b (Some p) (path_from from (ps ++ qs))) here
      ∙ sym (ap (λ (b : Bool). option_or (cond b (Some p) (path_from from ps)) (path_from from qs)) here)
  | inr not_here ↦ ap (λ (b : Bool). cond b (Some p) (path_from from (ps ++ qs))) not_here ∙ from-append from ps qs
      ∙ sym (ap (λ (b : Bool). option_or (cond b (Some p) (path_from from ps)) (path_from from qs)) not_here)
]

pub some_same : (p q : TreePath) → Some p ≡ Some q → p ≡ q
some_same p q is = cc

pub not_some : (p : TreePath) → Some p ≢ None
not_some p is = cc

-- where there is no path from a number on, no such number has one
pub none_on : (from : ℕ) (ps : List TreePath) → path_from from ps ≡ None → (number : ℕ) → from ≤ number
    → find (λ (path : TreePath). path.number == number) ps ≡ None
none_on from [] is number above = refl
none_on from (p ∷ ps) is number above = elim (cases_lt p.number from) [
  | inl passed ↦
      ap (λ (b : Bool). cond b (Some p) (find (is_number number) ps))
      (ne_eqb p.number number (λ e. omega (arith, e, passed, above)))
      ∙ none_on from ps
      (sym (ap (λ (b : Bool). cond b (Some p) (path_from from ps)) (lt-leb from p.number passed)) ∙ is) number above
  | inr here ↦ absurd
      (not_some p (sym (ap (λ (b : Bool). cond b (Some p) (path_from from ps)) (le-leb from p.number here)) ∙ is))
]

-- the path from a number on: it is there, and no number between them has one
pub record IsPathFrom (from : ℕ) (ps : List TreePath) (path : TreePath) : Type 0 where
  pub above : from ≤ path.number
  pub there : find (λ (other : TreePath). other.number == path.number) ps ≡ Some path
  pub none_between : (number : ℕ) → from ≤ number → number < path.number
      → find (λ (other : TreePath). other.number == number) ps ≡ None

pub from_some : (low high from : ℕ) (ps : List TreePath) (path : TreePath) → Rises low ps high
    → path_from from ps ≡ Some path → IsPathFrom from ps path
from_some low high from [] path r is = absurd (not_some path (sym is))
from_some low high from (p ∷ ps) path r is = elim (cases_lt p.number from) [
  | inl passed ↦
      let rest : IsPathFrom from ps path =
      from_some (suc p.number) high from ps path r.1
      (sym (ap (λ (b : Bool). cond b (Some p) (path_from from ps)) (lt-leb from p.number passed)) ∙ is) in
      let above = rest.above in
      record {
        above = above;
        there = ap (λ (b : Bool). cond b (Some p) (find (is_number path.number) ps))
            (ne_eqb p.number path.number (λ e. omega (arith, e, passed, above))) ∙ rest.there;
        none_between = λ number over under.
            ap (λ (b : Bool). cond b (Some p) (find (is_number number) ps))
            (ne_eqb p.number number (λ e. omega (arith, e, passed, over))) ∙ rest.none_between number over under;
      }
  | inr here ↦
      let same : p ≡ path = some_same p path
      (sym (ap (λ (b : Bool). cond b (Some p) (path_from from ps)) (le-leb from p.number here)) ∙ is) in
      subst (IsPathFrom from (p ∷ ps)) same (record {
        above = here;
        there = ap (λ (b : Bool). cond b (Some p) (find (is_number p.number) ps)) (eq-eqb p.number p.number refl);
        none_between = λ number above below. find_below p.number high number (p ∷ ps) (omega arith, r.1) below;
      })
]

-- the leaf from an identifier on is that of the least one from there on that has a leaf
pub leaf_is_from : (file : List ℕ) (blocks from : ℕ) (leaf : TreePath) → leaf_from file blocks from ≡ Some leaf
    → IsPathFrom from (leaves file blocks) leaf
leaf_is_from file blocks from leaf is =
    from_some 0 (256 ^ 4) from (leaves file blocks) leaf (Rises-paths file blocks 4) is

pub no_leaf_from : (file : List ℕ) (blocks from : ℕ) → leaf_from file blocks from ≡ None → (id : ℕ) → from ≤ id
    → find (λ (leaf : TreePath). leaf.number == id) (leaves file blocks) ≡ None
no_leaf_from file blocks from is id above = none_on from (leaves file blocks) is id above
