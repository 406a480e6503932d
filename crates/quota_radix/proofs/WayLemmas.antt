-- The way down a tree, by the digits of a number: the blocks that it leads to stand in the tree, and the first leaf
-- from a number on is the first one that the way finds.
use Rattle.std.proofs.Common.{◌≡◌, ℕ, zero, suc, ◌+◌, ◌-◌, ◌*◌, ◌/◌, ◌%◌, ◌^◌, ◌<◌, ◌≤◌, Bool, true, cond, IsTrue, ◌==◌}
use Rattle.std.proofs.Common.{List, [], ◌∷◌, ◌++◌, map, find, Option, Some, None, refl, sym, ap, subst, ◌∙◌, inl, inr}
use Rattle.std.proofs.Common.{arith, pow-suc}
use Rattle.std.proofs.lemmas.Bool.{cases_Bool, le-leb}
use Rattle.std.proofs.lemmas.List.{map-append}
use Rattle.std.specs.List.{cons_option, filter_map, flat_map, range_with_len}
use Rattle.std.specs.Option.{option_or}
use Rattle.quota_types.specs.declared.damage.Damage.{Damage}
use Rattle.quota_types.specs.declared.damage.DamageKind.TheVariants.{RefOut, EmptyTree}
use Rattle.quota_radix.specs.declared.tree_path.TreePath.{TreePath}
use Rattle.file_blocks.specs.Block.{word_at, leads}
use Rattle.quota_types.specs.Times.{StandsIn, times}
use Rattle.quota_radix.specs.Descent.{later_steps, path_from}
use Rattle.quota_radix.specs.Lookup.{IsOnWay, IsWayFault}
use Rattle.quota_radix.specs.TreeDefect.{IsEmpty}
use Rattle.quota_radix.specs.Tree.{level, lower_blocks, paths, step, steps}
use Rattle.quota_types.proofs.TimesLemmas.{stands_cons, stands_left, stands_right, times-append, times-cons-same}
use Rattle.quota_radix.proofs.DescentLemmas.{find_in_steps, not_some, some_same, step_there}
use Rattle.quota_radix.proofs.DownLemmas.{times_above}

pub pow_small : (gone : ℕ) → gone < 4 → 256 ^ gone ≤ 2 ^ 24
pow_small zero few = omega arith
pow_small (suc zero) few = omega arith
pow_small (suc (suc zero)) few = omega arith
pow_small (suc (suc (suc zero))) few = omega arith
pow_small (suc (suc (suc (suc gone)))) few = absurd (omega arith)

-- a reference past the last block is a damage
pub out_fault : (file : List ℕ) (blocks gone block digit word : ℕ) (damage : Damage) → gone < 4
    → StandsIn (level file blocks gone) block → digit < 256
    → word ≡ word_at file block digit → blocks ≤ word → damage ≡ record { kind = RefOut; block = block; id = 0 }
    → IsWayFault file blocks damage
out_fault file blocks gone block digit word damage few stands low word_is out is =
    subst (IsWayFault file blocks) (sym is) (record {
      fault = record {
        tree = omega (arith, stands, times_above file blocks gone block few);
        digit = digit;
        is_digit = low;
        out = omega (arith, word_is, out);
      };
      no_id = refl;
    })

-- a level below the root is one of those below it
pub lower_level : (file : List ℕ) (blocks gone block : ℕ) → 1 ≤ gone → gone < 4
    → StandsIn (level file blocks gone) block → StandsIn (lower_blocks file blocks) block
lower_level file blocks gone block some few stands = go gone some few stands
  where
    total : times (lower_blocks file blocks) block
        ≡ times (level file blocks 1) block + times (level file blocks 2) block + times (level file blocks 3) block
    total =
        omega (
          arith,
          times-append (level file blocks 1 ++ level file blocks 2) (level file blocks 3) block,
          times-append (level file blocks 1) (level file blocks 2) block,
        )

    go : (k : ℕ) → 1 ≤ k → k < 4 → StandsIn (level file blocks k) block → StandsIn (lower_blocks file blocks) block
    go zero more low here = absurd (omega arith)
    go (suc zero) more low here = omega (arith, total, here)
    go (suc (suc zero)) more low here = omega (arith, total, here)
    go (suc (suc (suc zero))) more low here = omega (arith, total, here)
    go (suc (suc (suc (suc k)))) more low here = absurd (omega arith)

-- a block below the root without a reference is a damage
pub empty_fault : (file : List ℕ) (blocks to_go : ℕ) (path : TreePath) (damage : Damage) → to_go < 3
    → IsOnWay file blocks (suc to_go) path → IsEmpty file path.block
    → damage ≡ record { kind = EmptyTree; block = path.block; id = 0 } → IsWayFault file blocks damage
empty_fault file blocks to_go path damage few way empty is =
    subst (IsWayFault file blocks) (sym is) (record {
      fault = record {
        lower =
            lower_level file blocks way.gone path.block (omega (arith, way.four)) (omega (arith, way.four)) way.stands;
        empty = empty;
      };
      no_id = refl;
    })

-- a path that is found stands among them
pub found_stands : (test : TreePath → Bool) (ps : List TreePath) (p : TreePath) → find test ps ≡ Some p
    → StandsIn (map (λ (path : TreePath). path.block) ps) p.block
found_stands test [] p found = absurd (not_some p (sym found))
found_stands test (q ∷ ps) p found =
    let rest : List ℕ = map (λ (path : TreePath). path.block) ps in
    elim (cases_Bool (test q)) [
      | inl passes ↦
          let same : q ≡ p = some_same q p (sym (ap (λ (b : Bool). cond b (Some q) (find test ps)) passes) ∙ found) in
          omega (
            arith,
            subst (λ (x : TreePath). times (x.block ∷ rest) p.block ≡ suc (times rest p.block)) (sym same)
                (times-cons-same p.block rest),
          )
      | inr fails ↦
          let later : StandsIn rest p.block =
          found_stands test ps p (sym (ap (λ (b : Bool). cond b (Some q) (find test ps)) fails) ∙ found) in
          stands_right (q.block ∷ []) rest p.block later
    ]

-- where a digit leads from a block of a level is a block of the next one
stands_onward : (file : List ℕ) (blocks digit block word : ℕ) (ps : List TreePath) → digit < 256
    → word ≡ word_at file block digit → IsTrue (leads blocks word)
    → StandsIn (map (λ (path : TreePath). path.block) ps) block
    → StandsIn (map (λ (path : TreePath). path.block) (flat_map (steps file blocks) ps)) word
stands_onward file blocks digit block word [] low is leading stands = absurd (omega arith)
stands_onward file blocks digit block word (p ∷ ps) low is leading stands =
    let rest : List TreePath = flat_map (steps file blocks) ps in
    let split : map (λ (path : TreePath). path.block) (steps file blocks p ++ rest)
    ≡ map (λ (path : TreePath). path.block) (steps file blocks p) ++ map (λ (path : TreePath). path.block) rest =
    map-append (λ (path : TreePath). path.block) (steps file blocks p) rest in
    subst (λ (numbers : List ℕ). StandsIn numbers word) (sym split)
    (elim (stands_cons p.block (map (λ (path : TreePath). path.block) ps) block stands) [
      | inl same ↦
          let word_is : word ≡ word_at file p.block digit = is ∙ ap (λ (b : ℕ). word_at file b digit) (sym same) in
          let next : TreePath = record { number = 256 * p.number + digit; block = word_at file p.block digit } in
          let lead : leads blocks (word_at file p.block digit) ≡ true =
          subst (λ (w : ℕ). leads blocks w ≡ true) word_is leading in
          let there : step file blocks p digit ≡ Some next = ap (λ (b : Bool). cond b (Some next) None) lead in
          let number : ℕ = 256 * p.number + digit in
          let number_is : p.number ≡ number / 256 = omega arith in
          let digit_is : number % 256 ≡ digit = omega arith in
          let found : find (λ (path : TreePath). path.number == number) (steps file blocks p) ≡ Some next =
          find_in_steps file blocks p number number_is ∙ ap (step file blocks p) digit_is ∙ there in
          stands_left (map (λ (path : TreePath). path.block) (steps file blocks p))
          (map (λ (path : TreePath). path.block) rest) word
          (subst (λ (w : ℕ). StandsIn (map (λ (path : TreePath). path.block) (steps file blocks p)) w) (sym word_is)
          (found_stands (λ (path : TreePath). path.number == number) (steps file blocks p) next found))
      | inr later ↦ stands_right (map (λ (path : TreePath). path.block) (steps file blocks p))
          (map (λ (path : TreePath). path.block) rest) word
          (stands_onward file blocks digit block word ps low is leading later)
    ])

pub level_onward : (file : List ℕ) (blocks gone digit block word : ℕ) → digit < 256 → word ≡ word_at file block digit
    → IsTrue (leads blocks word)
    → StandsIn (level file blocks gone) block → StandsIn (level file blocks (suc gone)) word
level_onward file blocks gone digit block word low is leading stands =
    stands_onward file blocks digit block word (paths file blocks gone) low is leading stands

-- a step goes on by its digit to where it leads
pub step_is : (file : List ℕ) (blocks : ℕ) (path next : TreePath) (digit : ℕ) → step file blocks path digit ≡ Some next
    → IsTrue (leads blocks (word_at file path.block digit))
    × (next ≡ record { number = 256 * path.number + digit; block = word_at file path.block digit })
step_is file blocks path next digit is =
    let there : TreePath = record { number = 256 * path.number + digit; block = word_at file path.block digit } in
    elim (cases_Bool (leads blocks (word_at file path.block digit))) [
      | inl leading ↦ (leading, some_same next there (sym is ∙ ap (λ (b : Bool). cond b (Some there) None) leading))
      | inr other ↦ absurd (not_some next (sym is ∙ ap (λ (b : Bool). cond b (Some there) None) other))
    ]

-- a step from a path through the tree is one, with a digit fewer to go
pub step_on_way : (file : List ℕ) (blocks to_go : ℕ) (path next : TreePath) (digit : ℕ) → digit < 256
    → IsOnWay file blocks (suc to_go) path → step file blocks path digit ≡ Some next
    → IsOnWay file blocks to_go next
step_on_way file blocks to_go path next digit low way is =
    let step = step_is file blocks path next digit is in
    let small : 256 * path.number + digit < 256 ^ suc way.gone = omega (arith, low, way.small, pow-suc 256 way.gone) in
    subst (IsOnWay file blocks to_go) (sym step.1) (record {
      gone = suc way.gone;
      four = omega (arith, way.four);
      stands =
          level_onward file blocks way.gone digit path.block (word_at file path.block digit) low refl step.0 way.stands;
      small = small;
    })

-- the first of paths is the first from 0 on
pub first_here : (p : TreePath) (ps : List TreePath) → path_from 0 (p ∷ ps) ≡ Some p
first_here p ps = ap (λ (b : Bool). cond b (Some p) (path_from 0 ps)) (le-leb 0 p.number (omega arith))

-- the steps from a digit on are that by it and those behind it
pub later_here : (file : List ℕ) (blocks : ℕ) (path : TreePath) (digit : ℕ) → digit < 256
    → later_steps file blocks path digit
    ≡ cons_option (step file blocks path digit) (later_steps file blocks path (digit + 1))
later_here file blocks path digit low =
    let more : 256 - digit ≡ suc (256 - (digit + 1)) = omega arith in
    ap (λ (k : ℕ). filter_map (step file blocks path) (range_with_len digit k)) more

pub first_or_later : (o : Option TreePath) (ps : List TreePath)
    → path_from 0 (cons_option o ps) ≡ option_or o (path_from 0 ps)
first_or_later None ps = refl
first_or_later (Some p) ps = first_here p ps

-- the first of the steps from a digit on: that by it, or the first behind it
pub first_later : (file : List ℕ) (blocks : ℕ) (path : TreePath) (digit : ℕ) → digit < 256
    → path_from 0 (later_steps file blocks path digit)
    ≡ option_or (step file blocks path digit) (path_from 0 (later_steps file blocks path (digit + 1)))
first_later file blocks path digit low =
    ap (path_from 0) (later_here file blocks path digit low)
    ∙ first_or_later (step file blocks path digit) (later_steps file blocks path (digit + 1))

-- behind the last digit there is no step
pub none_later : (file : List ℕ) (blocks : ℕ) (path : TreePath) (digit : ℕ) → 256 ≤ digit
    → path_from 0 (later_steps file blocks path digit) ≡ None
none_later file blocks path digit over =
    let none : 256 - digit ≡ 0 = omega arith in
    ap (λ (k : ℕ). path_from 0 (filter_map (step file blocks path) (range_with_len digit k))) none

-- the first of some steps is one of them
pub first_is_step : (file : List ℕ) (blocks : ℕ) (path next : TreePath) (first count : ℕ)
    → path_from 0 (filter_map (step file blocks path) (range_with_len first count)) ≡ Some next
    → (digit : ℕ) × (digit < first + count) × (step file blocks path digit ≡ Some next)
first_is_step file blocks path next first zero is = absurd (not_some next (sym is))
first_is_step file blocks path next first (suc count) is =
    let rest : List TreePath = filter_map (step file blocks path) (range_with_len (first + 1) count) in
    let either : option_or (step file blocks path first) (path_from 0 rest) ≡ Some next =
    sym (first_or_later (step file blocks path first) rest) ∙ is in
    elim (step_there file blocks path first) [
      | inl there ↦ (
        first,
        omega arith,
        there ∙ sym (ap (λ (o : Option TreePath). option_or o (path_from 0 rest)) there) ∙ either,
      )
      | inr not_there ↦
          let later = first_is_step file blocks path next (first + 1) count
          (sym (ap (λ (o : Option TreePath). option_or o (path_from 0 rest)) not_there) ∙ either) in
          (later.0, omega (arith, later.1), later.2)
    ]

-- the first step from a digit on is one on the way
pub first_on_way : (file : List ℕ) (blocks to_go : ℕ) (path next : TreePath) (first : ℕ) → first ≤ 256
    → IsOnWay file blocks (suc to_go) path
    → path_from 0 (later_steps file blocks path first) ≡ Some next → IsOnWay file blocks to_go next
first_on_way file blocks to_go path next first low way is =
    let by = first_is_step file blocks path next first (256 - first) is in
    step_on_way file blocks to_go path next by.0 (omega (arith, by.1)) way by.2
