-- The tree of which a leaf was taken away: linking it again, by the blocks that were emptied, gives the tree that was.
use Rattle.std.proofs.Common.{◌≡◌, ◌≢◌, ℕ, zero, suc, ◌+◌, ◌*◌, ◌/◌, ◌^◌, ◌<◌, ◌≤◌, ◌⊎◌, Bool, cond, ◌==◌, IsTrue, List}
use Rattle.std.proofs.Common.{[], ◌∷◌, find, replicate, get_or, Some, None, option_and_then, sym, ap, subst, ◌∙◌, inl}
use Rattle.std.proofs.Common.{inr, arith}
use Rattle.std.proofs.lemmas.Bool.{cases_Bool, cases_eq, cases_lt}
use Rattle.std.proofs.lemmas.Option.{none-some, same_Some}
use Rattle.quota_types.specs.Times.{StandsIn, times}
use Rattle.quota_types.proofs.TimesLemmas.{times-cons-same}
use Rattle.file_blocks.specs.Block.{block_of, word_at, leads}
use Rattle.quota_pages.specs.Used.{HasWord}
use Rattle.quota_radix.specs.declared.tree_path.TreePath.{TreePath}
use Rattle.quota_radix.specs.OnWay.{block_led_to, led_by}
use Rattle.quota_radix.specs.Link.{path_along}
use Rattle.quota_radix.specs.Tree.{level, paths, tree_blocks}
use Rattle.quota_radix.proofs.DescentLemmas.{path_led_to}
use Rattle.quota_radix.proofs.DownLemmas.{times_in_tree}
use Rattle.quota_radix.proofs.WayLemmas.{found_stands}
use Rattle.quota_radix.proofs.StepLemmas.{path_by, word_in}
use Rattle.quota_radix.proofs.LinkPathLemmas.{IsLinked, digit_behind, front_next, front_of, front_small, path_same}
use Rattle.quota_radix.proofs.LinkPathLemmas.{path_to, two_levels, word_kept}
use Rattle.quota_radix.proofs.LinkStepLemmas.{SplitsAt, found_splits}
use Rattle.quota_radix.proofs.UnlinkLevelLemmas.{IsClearedFile, further_loses, level_less, next_loses, times_weighed}
use Rattle.quota_radix.proofs.UnlinkLevelLemmas.{weigh}

-- the path that is found by the number that the first digits of an identifier make
pub led_path : (file : List ℕ) (blocks id digits block : ℕ) → id < 2 ^ 32 → digits < 4
    → block_led_to file blocks digits (front_of id digits) ≡ Some block
    → (path : TreePath)
    × (find (λ (other : TreePath). other.number == front_of id digits) (paths file blocks digits) ≡ Some path)
    × (path.block ≡ block)
led_path file blocks id digits block small few led =
    path_to (find (λ (other : TreePath). other.number == front_of id digits) (paths file blocks digits)) block
    (sym led ∙ path_led_to file blocks digits (front_of id digits) (front_small id digits small few))

-- so its block stands in the level
pub led_stands : (file : List ℕ) (blocks id digits block : ℕ) → id < 2 ^ 32 → digits < 4
    → block_led_to file blocks digits (front_of id digits) ≡ Some block
    → StandsIn (level file blocks digits) block
led_stands file blocks id digits block small few led =
    let there = led_path file blocks id digits block small few led in
    subst (λ (n : ℕ). StandsIn (level file blocks digits) n) there.2
    (found_stands (λ (other : TreePath). other.number == front_of id digits) (paths file blocks digits) there.0 there.1)

-- What taking a leaf away clears: along the way of its identifier, from one block on, the reference to the next, and
-- nothing else changes. The blocks behind that one are blank then.
pub record IsCleared (way : List ℕ) (gone id blocks : ℕ) (old new : List ℕ) : Type 0 where
  pub few : gone < 4
  pub small : id < 2 ^ 32
  pub once : (block : ℕ) → times (tree_blocks old blocks) block ≤ 1
  pub led : (digits : ℕ) → digits ≤ 4 → block_led_to old blocks digits (front_of id digits) ≡ Some (get_or way digits 0)
  pub words : (digits : ℕ) → gone ≤ digits → digits < 4
      → HasWord (get_or way digits 0) (4 * digit_behind id digits) 0 old new
  pub others : (block : ℕ) → ((digits : ℕ) → gone ≤ digits → digits < 4 → get_or way digits 0 ≢ block)
      → block_of new block ≡ block_of old block
  pub blank : (digits : ℕ) → gone < digits → digits < 4 → block_of new (get_or way digits 0) ≡ replicate 1024 0

-- of numbers that are no more than others, one of them less
sum_less : (f g : ℕ → ℕ) (digits : ℕ) → digits < 4 → ((k : ℕ) → f k ≤ g k) → f digits + 1 ≤ g digits
    → f 0 + (f 1 + f 2 + f 3) + 1 ≤ g 0 + (g 1 + g 2 + g 3)
sum_less f g zero few all less = omega (arith, all 1, all 2, all 3)
sum_less f g (suc zero) few all less = omega (arith, all 0, all 2, all 3)
sum_less f g (suc (suc zero)) few all less = omega (arith, all 0, all 1, all 3)
sum_less f g (suc (suc (suc zero))) few all less = omega (arith, all 0, all 1, all 2)
sum_less f g (suc (suc (suc (suc digits)))) few all less = absurd (omega arith)

-- a block is one of a way from one place on, up to another, or none of them
pub among : (way : List ℕ) (gone block count : ℕ)
    → ((digits : ℕ) × (gone ≤ digits) × (digits < count) × (get_or way digits 0 ≡ block))
    ⊎ ((digits : ℕ) → gone ≤ digits → digits < count → get_or way digits 0 ≢ block)
among way gone block zero = inr (λ digits from to same. absurd (omega arith))
among way gone block (suc count) = elim (among way gone block count) [
  | inl found ↦ inl (found.0, found.1, omega (arith, found.2), found.3)
  | inr none ↦ elim (cases_eq (get_or way count 0) block) [
    | inl same ↦ elim (cases_lt count gone) [
      | inl above ↦ inr (λ digits from to is. none digits from (omega arith) is)
      | inr below ↦ inl (count, below, omega arith, same)
    ]
    | inr differs ↦ inr (λ digits from to is. elim (cases_eq digits count) [
      | inl last ↦ differs (sym (ap (λ (k : ℕ). get_or way k 0) last) ∙ is)
      | inr other ↦ none digits from (omega arith) is
    ])
  ]
]

module _ (way : List ℕ) (gone id blocks : ℕ) (old new : List ℕ) (cleared : IsCleared way gone id blocks old new) where
  -- a block of the way leads to the next one
  pub word_there : (digits : ℕ) → digits < 4
      → IsTrue (leads blocks (word_at old (get_or way digits 0) (digit_behind id digits)))
      × (word_at old (get_or way digits 0) (digit_behind id digits) ≡ get_or way (suc digits) 0)
  word_there digits few =
      let up : front_of id (suc digits) / 256 ≡ front_of id digits = omega (arith, front_next id digits few) in
      let digit : ℕ = digit_behind id digits in
      let word : ℕ = word_at old (get_or way digits 0) digit in
      let is : led_by old blocks digit (get_or way digits 0) ≡ Some (get_or way (suc digits) 0) =
      sym (ap (λ (n : ℕ). option_and_then (led_by old blocks digit) (block_led_to old blocks digits n)) up
      ∙ ap (option_and_then (led_by old blocks digit)) (cleared.led digits (omega arith)))
      ∙ cleared.led (suc digits) (omega arith) in
      elim (cases_Bool (leads blocks word)) [
        | inl leading ↦ (
          leading,
          same_Some word (get_or way (suc digits) 0) (sym (ap (λ (b : Bool). cond b (Some word) None) leading) ∙ is),
        )
        | inr other ↦
            absurd (none-some (get_or way (suc digits) 0) (sym (ap (λ (b : Bool). cond b (Some word) None) other) ∙ is))
      ]

  stands_at : (digits : ℕ) → digits < 4 → StandsIn (level old blocks digits) (get_or way digits 0)
  stands_at digits few =
      led_stands old blocks id digits (get_or way digits 0) cleared.small few (cleared.led digits (omega arith))

  -- the blocks of the way differ
  pub apart : (one two : ℕ) → one < 4 → two < 4 → one ≢ two → get_or way one 0 ≢ get_or way two 0
  apart one two few few' ne same =
      let here : StandsIn (level old blocks one) (get_or way two 0) =
      subst (λ (n : ℕ). StandsIn (level old blocks one) n) same (stands_at one few) in
      omega (
        arith,
        here,
        stands_at two few',
        two_levels old blocks (get_or way two 0) one two ne few few',
        cleared.once (get_or way two 0),
      )

  -- those above the cleared ones stay
  stays : (digits : ℕ) → digits < gone → block_of new (get_or way digits 0) ≡ block_of old (get_or way digits 0)
  stays digits above =
      let few : gone < 4 = cleared.few in
      cleared.others (get_or way digits 0) (λ k from to. apart k digits to (omega arith) (omega arith))

  -- and lead on as they did
  pub still_led : (digits : ℕ) → digits ≤ gone
      → block_led_to new blocks digits (front_of id digits) ≡ Some (get_or way digits 0)
  still_led zero few = cleared.led 0 (omega arith)
  still_led (suc digits) few =
      let low : digits < 4 = omega (arith, cleared.few, few) in
      let up : front_of id (suc digits) / 256 ≡ front_of id digits = omega (arith, front_next id digits low) in
      let digit : ℕ = digit_behind id digits in
      let there = word_there digits low in
      let same : word_at new (get_or way digits 0) digit ≡ word_at old (get_or way digits 0) digit =
      ap (λ (bytes : List ℕ). word_in bytes digit) (stays digits (omega arith)) in
      ap (λ (n : ℕ). option_and_then (led_by new blocks digit) (block_led_to new blocks digits n)) up
      ∙ ap (option_and_then (led_by new blocks digit)) (still_led digits (omega arith))
      ∙ ap (λ (word : ℕ). cond (leads blocks word) (Some word) None) (same ∙ there.1)
      ∙ ap (λ (b : Bool). cond b (Some (get_or way (suc digits) 0)) None) (sym (ap (leads blocks) there.1) ∙ there.0)

  -- the first cleared one no longer does
  pub ended : block_led_to new blocks (suc gone) (front_of id (suc gone)) ≡ None
  ended =
      let up : front_of id (suc gone) / 256 ≡ front_of id gone = omega (arith, front_next id gone cleared.few) in
      let digit : ℕ = digit_behind id gone in
      let none : word_at new (get_or way gone 0) digit ≡ 0 = (cleared.words gone (omega arith) cleared.few).is in
      ap (λ (n : ℕ). option_and_then (led_by new blocks digit) (block_led_to new blocks gone n)) up
      ∙ ap (option_and_then (led_by new blocks digit)) (still_led gone (omega arith))
      ∙ ap (λ (word : ℕ). cond (leads blocks word) (Some word) None) none

  -- so each reference is as it was, or 0
  pub is_cleared_file : IsClearedFile old new
  is_cleared_file block digit = elim (among way gone block 4) [
    | inl found ↦
        let here : HasWord block (4 * digit_behind id found.0) 0 old new = subst
        (λ (n : ℕ). HasWord n (4 * digit_behind id found.0) 0 old new) found.3
        (cleared.words found.0 found.1 found.2) in
        elim (cases_eq digit (digit_behind id found.0)) [
          | inl same ↦ inr (ap (word_at new block) same ∙ here.is)
          | inr other ↦ inl (word_kept block (digit_behind id found.0) 0 digit old new here other)
        ]
    | inr none ↦ inl (ap (λ (bytes : List ℕ). word_in bytes digit) (cleared.others block none))
  ]

  -- the way's paths are lost
  lost : (digits : ℕ) → gone < digits → digits ≤ 4
      → (w v : TreePath → ℕ) → ((p : TreePath) → w p ≤ v p)
      → weigh w (paths new blocks digits) + v (path_along way id digits) ≤ weigh v (paths old blocks digits)
  lost zero below few w v less = absurd (omega arith)
  lost (suc digits) below few w v less =
      let low : digits < 4 = omega arith in
      let digit : ℕ = digit_behind id digits in
      let small : digit < 256 = omega arith in
      let there = word_there digits low in
      let next : TreePath = path_along way id (suc digits) in
      elim (cases_eq gone digits) [
        | inl same ↦
            let led : block_led_to new blocks digits (front_of id digits) ≡ Some (get_or way digits 0) =
            still_led digits (omega arith) in
            let path = led_path new blocks id digits (get_or way digits 0) cleared.small low led in
            let split : SplitsAt (front_of id digits) path.0 (paths new blocks digits) =
            found_splits (front_of id digits) (paths new blocks digits) path.0 path.1 in
            let none : word_at new path.0.block digit ≡ 0 =
            ap (λ (n : ℕ). word_at new n digit) path.2 ∙ (cleared.words digits (omega arith) low).is in
            let leading : IsTrue (leads blocks (word_at old path.0.block digit)) =
            ap (λ (n : ℕ). leads blocks (word_at old n digit)) path.2 ∙ there.0 in
            let number_is : 256 * path.0.number + digit ≡ front_of id (suc digits) =
            omega (arith, split.number_is, front_next id digits low) in
            let is : path_by (word_at old path.0.block digit) path.0 digit ≡ next =
            path_same (256 * path.0.number + digit) (front_of id (suc digits))
            (word_at old path.0.block digit) number_is
            ∙ block_same (front_of id (suc digits)) (word_at old path.0.block digit) (get_or way (suc digits) 0)
            (ap (λ (n : ℕ). word_at old n digit) path.2 ∙ there.1) in
            subst (λ (p : TreePath).
            weigh w (paths new blocks (suc digits)) + v p ≤ weigh v (paths old blocks (suc digits))) is
            (next_loses old new blocks is_cleared_file digits split.before split.behind path.0 digit split.is small none
            leading w v less)
        | inr other ↦
            let path : TreePath = path_along way id digits in
            let number_is : 256 * path.number + digit ≡ front_of id (suc digits) =
            omega (arith, front_next id digits low) in
            let is : path_by (word_at old path.block digit) path digit ≡ next =
            path_same (256 * path.number + digit) (front_of id (suc digits)) (word_at old path.block digit) number_is
            ∙ block_same (front_of id (suc digits)) (word_at old path.block digit)
            (get_or way (suc digits) 0) there.1 in
            subst (λ (p : TreePath).
            weigh w (paths new blocks (suc digits)) + v p ≤ weigh v (paths old blocks (suc digits))) is
            (further_loses old new blocks is_cleared_file digits path digit (lost digits (omega arith) (omega arith))
            small there.0 w v less)
      ]
    where
      block_same : (number block block' : ℕ) → block ≡ block'
          → (let p : TreePath = record { number = number; block = block } in p)
          ≡ record { number = number; block = block' }
      block_same number block block' same =
          ap (λ (n : ℕ). let p : TreePath = record { number = number; block = n } in p) same

  -- and so their blocks are in the levels
  level_loses : (digits block : ℕ) → gone < digits → digits ≤ 4
      → times (level new blocks digits) block + times (get_or way digits 0 ∷ []) block
      ≤ times (level old blocks digits) block
  level_loses digits block below few =
      let one : TreePath → ℕ = λ p. times (p.block ∷ []) block in
      omega (
        arith,
        lost digits below few one one (λ p. omega arith),
        times_weighed (paths new blocks digits) block,
        times_weighed (paths old blocks digits) block,
      )

  less_in : (block digits : ℕ) → times (level new blocks digits) block ≤ times (level old blocks digits) block
  less_in block digits = level_less old new blocks is_cleared_file digits block

  -- each block of the tree stands once in its levels still
  pub still_once : (block : ℕ) → times (tree_blocks new blocks) block ≤ 1
  still_once block =
      omega (
        arith,
        cleared.once block,
        times_in_tree new blocks block,
        times_in_tree old blocks block,
        less_in block 0,
        less_in block 1,
        less_in block 2,
        less_in block 3,
      )

  -- and none is one that was emptied
  pub unused : (digits : ℕ) → gone < digits → digits < 4 → times (tree_blocks new blocks) (get_or way digits 0) ≡ 0
  unused digits below few =
      let block : ℕ = get_or way digits 0 in
      let f : ℕ → ℕ = λ k. times (level new blocks k) block in
      let g : ℕ → ℕ = λ k. times (level old blocks k) block in
      let fewer : f digits + 1 ≤ g digits =
      omega (arith, level_loses digits block below (omega arith), times-cons-same block []) in
      omega (
        arith,
        cleared.once block,
        times_in_tree new blocks block,
        times_in_tree old blocks block,
        sum_less f g digits few (less_in block) fewer,
      )

  -- linking the leaf again makes the old tree of the new one
  pub is_linked : IsLinked way gone id blocks new old
  is_linked = record {
    few = cleared.few;
    small = cleared.small;
    once = still_once;
    led = still_led gone (omega arith);
    ends = ended;
    blank = cleared.blank;
    unused = unused;
    leading = leading;
    words = λ digits from few.
        let set : HasWord (get_or way digits 0) (4 * digit_behind id digits) 0 old new =
        cleared.words digits from few in
        record {
          is = (word_there digits few).1;
          others = record {
            before = λ at low. sym (set.others.before at low);
            behind = λ at high. sym (set.others.behind at high);
          };
        };
    others = λ block differs. sym (cleared.others block differs);
  }
    where
      leading : (digits : ℕ) → gone < digits → digits ≤ 4 → IsTrue (leads blocks (get_or way digits 0))
      leading zero below few = absurd (omega arith)
      leading (suc digits) below few =
          let there = word_there digits (omega arith) in sym (ap (leads blocks) there.1) ∙ there.0
