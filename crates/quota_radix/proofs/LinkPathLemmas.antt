-- The paths of a tree once an identifier has its leaf: one more of each number of digits for which there was none.
use Rattle.std.proofs.Common.{◌≡◌, ◌≢◌, ℕ, zero, suc, ◌+◌, ◌-◌, ◌*◌, ◌/◌, ◌%◌, ◌^◌, ◌<◌, ◌≤◌, Bool, false, cond, ◌==◌}
use Rattle.std.proofs.Common.{IsTrue, List, [], ◌∷◌, ◌++◌, map, find, replicate, get_or, Option, Some, None}
use Rattle.std.proofs.Common.{option_and_then, option_map, refl, sym, ap, subst, ◌∙◌, inl, inr, arith, pow-suc}
use Rattle.std.specs.List.{flat_map, range_with_len}
use Rattle.std.proofs.lemmas.Bool.{cases_Bool, cases_eq, cases_lt}
use Rattle.std.proofs.lemmas.List.{get_or-replicate, map-append}
use Rattle.std.proofs.lemmas.List.Concat.{flat_map-append}
use Rattle.std.proofs.lemmas.Option.{none-some, same_Some}
use Rattle.quota_types.specs.Bytes.{number_at}
use Rattle.quota_types.specs.Times.{StandsIn, times}
use Rattle.file_blocks.specs.Block.{block_of, word_at, leads}
use Rattle.quota_pages.specs.Used.{HasWord}
use Rattle.quota_radix.specs.declared.tree_path.TreePath.{TreePath}
use Rattle.quota_radix.specs.OnWay.{block_led_to, led_by}
use Rattle.quota_radix.specs.Link.{GainsBlocks, HasWay, path_along}
use Rattle.quota_radix.specs.Tree.{blocks_of, level, paths, steps, tree_blocks}
use Rattle.quota_types.proofs.TimesLemmas.{times-append, times-cons-same}
use Rattle.quota_types.proofs.BytesLemmas.{number_at-zeros, number_same}
use Rattle.quota_radix.proofs.PathLemmas.{Rises, Rises-paths}
use Rattle.quota_radix.proofs.DescentLemmas.{path_led_to}
use Rattle.quota_radix.proofs.DownLemmas.{blocks_above, times_above, times_in_tree}
use Rattle.quota_radix.proofs.WayLemmas.{found_stands}
use Rattle.quota_radix.proofs.LinkStepLemmas.{Gains, GainsRef, Rises_split, SplitsAt, found_splits, onward_gains}
use Rattle.quota_radix.proofs.LinkStepLemmas.{onward_more, onward_same, times_gained, with_path_gained}

-- the number that the first digits of an identifier make, this many of them
abbrev pub front_of : ℕ → ℕ → ℕ
front_of id digits = id / 256 ^ (4 - digits)

-- the digit behind them
abbrev pub digit_behind : ℕ → ℕ → ℕ
digit_behind id digits = front_of id (suc digits) % 256

-- one more digit
pub front_next : (id digits : ℕ) → digits < 4
    → front_of id (suc digits) ≡ 256 * front_of id digits + digit_behind id digits
front_next id zero few = omega arith
front_next id (suc zero) few = omega arith
front_next id (suc (suc zero)) few = omega arith
front_next id (suc (suc (suc zero))) few = omega arith
front_next id (suc (suc (suc (suc digits)))) few = absurd (omega arith)

pub front_small : (id digits : ℕ) → id < 2 ^ 32 → digits < 4 → front_of id digits < 256 ^ digits
front_small id zero small few = omega arith
front_small id (suc zero) small few = omega arith
front_small id (suc (suc zero)) small few = omega arith
front_small id (suc (suc (suc zero))) small few = omega arith
front_small id (suc (suc (suc (suc digits)))) small few = absurd (omega arith)

-- a block of zeros has no reference
pub word_of_zeros : (file : List ℕ) (block digit : ℕ) → block_of file block ≡ replicate 1024 0 → digit < 256
    → word_at file block digit ≡ 0
word_of_zeros file block digit blank low =
    ap (λ (bytes : List ℕ). number_at 4 bytes (4 * digit)) blank
    ∙ number_at-zeros 4 (4 * digit) (replicate 1024 0) (λ k above below. get_or-replicate 1024 k 0 0 (omega arith))

-- where one reference of a block was set, the others are as before
pub word_kept : (block digit value other : ℕ) (old new : List ℕ) → HasWord block (4 * digit) value old new
    → other ≢ digit → word_at new block other ≡ word_at old block other
word_kept block digit value other old new set ne =
    number_same 4 (4 * other) (block_of new block) (block_of old block) (λ k from to. elim (cases_lt k (4 * digit)) [
      | inl low ↦ set.others.before k low
      | inr high ↦ set.others.behind k (omega arith)
    ])

-- a block that had none at that place has one more
gains_ref : (block digit value blocks : ℕ) (old new : List ℕ) → digit < 256
    → leads blocks (word_at old block digit) ≡ false → IsTrue (leads blocks value)
    → HasWord block (4 * digit) value old new
    → GainsRef block digit value blocks old new
gains_ref block digit value blocks old new low none leading set = record {
  low = low;
  none = none;
  is = set.is;
  leading = leading;
  others = λ other inside ne. word_kept block digit value other old new set ne;
}

-- a path to a block that is there
pub path_to : (o : Option TreePath) (block : ℕ) → Some block ≡ option_map (λ (path : TreePath). path.block) o
    → (path : TreePath) × (o ≡ Some path) × (path.block ≡ block)
path_to None block is = absurd (none-some block (sym is))
path_to (Some path) block is = (path, refl, sym (same_Some block path.block is))

-- a level above another one is among those above it
level_above : (file : List ℕ) (blocks block upper lower : ℕ) → upper < lower
    → times (level file blocks upper) block ≤ times (blocks_above file blocks lower) block
level_above file blocks block upper zero above = absurd (omega arith)
level_above file blocks block upper (suc lower) above =
    let all : times (blocks_above file blocks (suc lower)) block
    ≡ times (blocks_above file blocks lower) block + times (level file blocks lower) block =
    times-append (blocks_above file blocks lower) (level file blocks lower) block in
    elim (cases_eq upper lower) [
      | inl same ↦ omega (arith, all, ap (λ (k : ℕ). times (level file blocks k) block) same)
      | inr other ↦ omega (arith, all, level_above file blocks block upper lower (omega arith))
    ]

-- a block stands in no two levels of the tree more often than in the tree
pub two_levels : (file : List ℕ) (blocks block one two : ℕ) → one ≢ two → one < 4 → two < 4
    → times (level file blocks one) block + times (level file blocks two) block ≤ times (tree_blocks file blocks) block
two_levels file blocks block one two ne few few' = elim (cases_lt one two) [
  | inl above ↦ omega (arith, level_above file blocks block one two above, times_above file blocks two block few')
  | inr below ↦
      omega (arith, level_above file blocks block two one (omega arith), times_above file blocks one block few)
]

-- the blocks to which the paths of fewer than four digits lead are those of the tree
pub level_in_tree : (file : List ℕ) (blocks digits block : ℕ) → digits < 4 → StandsIn (level file blocks digits) block
    → StandsIn (tree_blocks file blocks) block
level_in_tree file blocks digits block few stands = omega (arith, stands, times_above file blocks digits block few)

gains_as : (low high high' : ℕ) (path path' : TreePath) (old old' new new' : List TreePath) → high ≡ high'
    → path ≡ path' → old ≡ old' → new ≡ new'
    → Gains low high path old new → Gains low high' path' old' new'
gains_as low high high' path path' old old' new new' eh ep eo en gain =
    subst (λ (h : ℕ). Gains low h path' old' new') eh
    (subst (λ (p : TreePath). Gains low high p old' new') ep
    (subst (λ (ps : List TreePath). Gains low high path ps new') eo
    (subst (λ (ps : List TreePath). Gains low high path old ps) en gain)))

pub path_same : (number number' block : ℕ) → number ≡ number'
    → (let p : TreePath = record { number = number; block = block } in p) ≡ record { number = number'; block = block }
path_same number number' block is = ap (λ (n : ℕ). let p : TreePath = record { number = n; block = block } in p) is

-- What a new leaf changes: along the way of its identifier, from the last block that was there on, each block leads to
-- the next, and nothing else changes. That block's digit led nowhere, and the ones behind it are blank and no blocks of
-- the tree.
pub record IsLinked (way : List ℕ) (gone id blocks : ℕ) (old new : List ℕ) : Type 0 where
  pub few : gone < 4
  pub small : id < 2 ^ 32
  pub once : (block : ℕ) → times (tree_blocks old blocks) block ≤ 1
  pub led : block_led_to old blocks gone (front_of id gone) ≡ Some (get_or way gone 0)
  pub ends : block_led_to old blocks (suc gone) (front_of id (suc gone)) ≡ None
  pub blank : (digits : ℕ) → gone < digits → digits < 4 → block_of old (get_or way digits 0) ≡ replicate 1024 0
  pub unused : (digits : ℕ) → gone < digits → digits < 4 → times (tree_blocks old blocks) (get_or way digits 0) ≡ 0
  pub leading : (digits : ℕ) → gone < digits → digits ≤ 4 → IsTrue (leads blocks (get_or way digits 0))
  pub words : (digits : ℕ) → gone ≤ digits → digits < 4
      → HasWord (get_or way digits 0) (4 * digit_behind id digits) (get_or way (suc digits) 0) old new
  pub others : (block : ℕ) → ((digits : ℕ) → gone ≤ digits → digits < 4 → get_or way digits 0 ≢ block)
      → block_of new block ≡ block_of old block

module _ (way : List ℕ) (gone id blocks : ℕ) (old new : List ℕ) (linked : IsLinked way gone id blocks old new) where
  -- the path to the last block of the way that was there
  there : (path : TreePath)
      × (find (λ (other : TreePath). other.number == front_of id gone) (paths old blocks gone) ≡ Some path)
      × (path.block ≡ get_or way gone 0)
  there =
      path_to (find (λ (other : TreePath). other.number == front_of id gone) (paths old blocks gone))
      (get_or way gone 0)
      (sym linked.led ∙ path_led_to old blocks gone (front_of id gone) (front_small id gone linked.small linked.few))

  split : SplitsAt (front_of id gone) there.0 (paths old blocks gone)
  split = found_splits (front_of id gone) (paths old blocks gone) there.0 there.1

  pub last_stands : StandsIn (level old blocks gone) (get_or way gone 0)
  last_stands =
      subst (λ (block : ℕ). StandsIn (level old blocks gone) block) there.2
      (found_stands (λ (other : TreePath). other.number == front_of id gone) (paths old blocks gone) there.0 there.1)

  -- all other blocks of the tree stay
  stays : (block : ℕ) → block ≢ get_or way gone 0 → StandsIn (tree_blocks old blocks) block
      → block_of new block ≡ block_of old block
  stays block ne stands = linked.others block (λ digits from to same. elim (cases_eq gone digits) [
    | inl is ↦ ne (sym same ∙ ap (λ (k : ℕ). get_or way k 0) (sym is))
    | inr later ↦ omega
        (arith, stands, linked.unused digits (omega arith) to, ap (λ (k : ℕ). times (tree_blocks old blocks) k) same)
  ])

  -- so do those of all other levels
  stays_in : (digits block : ℕ) → digits < 4 → digits ≢ gone → StandsIn (level old blocks digits) block
      → block_of new block ≡ block_of old block
  stays_in digits block few ne stands =
      stays block
      (λ same.
      let here : StandsIn (level old blocks gone) block =
      subst (λ (k : ℕ). StandsIn (level old blocks gone) k) (sym same) last_stands in
      omega (arith, stands, here, two_levels old blocks block digits gone ne few linked.few, linked.once block))
      (level_in_tree old blocks digits block few stands)

  -- the paths to the levels down to that of the last block that was there
  same_paths : (digits : ℕ) → digits ≤ gone → paths new blocks digits ≡ paths old blocks digits
  same_paths zero few = refl
  same_paths (suc digits) few =
      ap (flat_map (steps new blocks)) (same_paths digits (omega arith))
      ∙ onward_same old new blocks (paths old blocks digits)
      (λ block stands. stays_in digits block (omega (arith, linked.few, few)) (omega arith) stands)

  -- its digit led nowhere
  pub none_there : leads blocks (word_at old (get_or way gone 0) (digit_behind id gone)) ≡ false
  none_there =
      let up : front_of id (suc gone) / 256 ≡ front_of id gone = omega (arith, front_next id gone linked.few) in
      let digit : ℕ = digit_behind id gone in
      let word : ℕ = word_at old (get_or way gone 0) digit in
      let is : led_by old blocks digit (get_or way gone 0) ≡ None =
      sym (ap (λ (n : ℕ). option_and_then (led_by old blocks digit) (block_led_to old blocks gone n)) up
      ∙ ap (option_and_then (led_by old blocks digit)) linked.led)
      ∙ linked.ends in
      elim (cases_Bool (leads blocks word)) [
        | inl leading ↦ absurd (none-some word (sym is ∙ ap (λ (b : Bool). cond b (Some word) None) leading))
        | inr other ↦ other
      ]

  -- the level below it
  first : Gains 0 (256 ^ suc gone) (path_along way id (suc gone)) (paths old blocks (suc gone))
      (paths new blocks (suc gone))
  first =
      let path : TreePath = there.0 in
      let f : TreePath → List TreePath = steps old blocks in
      let before : List TreePath = split.before in
      let behind : List TreePath = split.behind in
      let digit : ℕ = digit_behind id gone in
      let value : ℕ = get_or way (suc gone) 0 in
      let rises = Rises_split 0 (256 ^ gone) before behind path
      (subst (λ (ps : List TreePath). Rises 0 ps (256 ^ gone)) split.is (Rises-paths old blocks gone)) in
      let numbers : level old blocks gone ≡ blocks_of before ++ path.block ∷ blocks_of behind =
      ap blocks_of split.is ∙ map-append (λ (p : TreePath). p.block) before (path ∷ behind) in
      let among : (block : ℕ)
      → times (level old blocks gone) block
      ≡ times (blocks_of before) block + times (path.block ∷ blocks_of behind) block =
      λ block. ap (λ (ns : List ℕ). times ns block) numbers
      ∙ times-append (blocks_of before) (path.block ∷ blocks_of behind) block in
      let once_here : (block : ℕ) → times (level old blocks gone) block ≤ 1 =
      λ block. omega (arith, times_above old blocks gone block linked.few, linked.once block) in
      let apart : (block : ℕ) → 1 ≤ times (blocks_of before) block + times (blocks_of behind) block
      → block ≢ get_or way gone 0 =
      λ block some same.
      let is : path.block ≡ block = there.2 ∙ sym same in
      omega (
        arith,
        some,
        among block,
        once_here block,
        ap (λ (k : ℕ). times (k ∷ blocks_of behind) block) is,
        times-cons-same block (blocks_of behind),
      ) in
      let rest : (block : ℕ) → times (blocks_of behind) block ≤ times (path.block ∷ blocks_of behind) block =
      λ block. omega (arith, times-append (path.block ∷ []) (blocks_of behind) block) in
      let number_is : 256 * path.number + digit ≡ front_of id (suc gone) =
      omega (arith, split.number_is, front_next id gone linked.few) in
      let set : HasWord path.block (4 * digit) value old new =
      subst (λ (block : ℕ). HasWord block (4 * digit) value old new) (sym there.2)
      (linked.words gone (omega arith) linked.few) in
      let none : leads blocks (word_at old path.block digit) ≡ false =
      ap (λ (block : ℕ). leads blocks (word_at old block digit)) there.2 ∙ none_there in
      gains_as 0 (256 * 256 ^ gone) (256 ^ suc gone) (record { number = 256 * path.number + digit; block = value })
      (path_along way id (suc gone))
      (flat_map f before ++ (f path ++ flat_map f behind)) (paths old blocks (suc gone))
      (flat_map (steps new blocks) (before ++ path ∷ behind)) (paths new blocks (suc gone))
      (omega (arith, pow-suc 256 gone))
      (path_same (256 * path.number + digit) (front_of id (suc gone)) value number_is)
      (sym (ap (flat_map f) split.is ∙ flat_map-append f before (path ∷ behind)))
      (ap (flat_map (steps new blocks)) (sym (same_paths gone (omega arith) ∙ split.is)))
      (onward_gains old new blocks 0 (256 ^ gone) digit value before behind path rises.0 rises.1
      (λ block stands. stays block (apart block (omega (arith, stands)))
      (level_in_tree old blocks gone block linked.few (omega (arith, stands, among block))))
      (λ block stands. stays block (apart block (omega (arith, stands)))
      (level_in_tree old blocks gone block linked.few (omega (arith, stands, among block, rest block))))
      (gains_ref path.block digit value blocks old new (omega arith) none
      (linked.leading (suc gone) (omega arith) (omega (arith, linked.few))) set))

  -- and those further down
  onward : (digits : ℕ) → gone < digits → digits < 4
      → Gains 0 (256 ^ digits) (path_along way id digits) (paths old blocks digits) (paths new blocks digits)
      → Gains 0 (256 ^ suc digits) (path_along way id (suc digits)) (paths old blocks (suc digits))
      (paths new blocks (suc digits))
  onward digits below few gain =
      let path : TreePath = path_along way id digits in
      let digit : ℕ = digit_behind id digits in
      let value : ℕ = get_or way (suc digits) 0 in
      let number_is : 256 * path.number + digit ≡ front_of id (suc digits) = sym (front_next id digits few) in
      let zeros : (other : ℕ) → other < 256 → word_at old path.block other ≡ 0 =
      λ other low. word_of_zeros old path.block other (linked.blank digits below few) low in
      let low : digit < 256 = omega arith in
      gains_as 0 (256 * 256 ^ digits) (256 ^ suc digits) (record { number = 256 * path.number + digit; block = value })
      (path_along way id (suc digits))
      (paths old blocks (suc digits)) (paths old blocks (suc digits)) (paths new blocks (suc digits))
      (paths new blocks (suc digits))
      (omega (arith, pow-suc 256 digits))
      (path_same (256 * path.number + digit) (front_of id (suc digits)) value number_is) refl refl
      (onward_more old new blocks 0 (256 ^ digits) digit value path (paths old blocks digits)
      (paths new blocks digits) gain
      (λ block stands. stays_in digits block few (omega arith) stands)
      zeros
      (gains_ref path.block digit value blocks old new low (ap (leads blocks) (zeros digit low))
      (linked.leading (suc digits) (omega arith) (omega arith)) (linked.words digits (omega arith) few)))

  pub gains_at : (digits : ℕ) → gone < digits → digits ≤ 4
      → Gains 0 (256 ^ digits) (path_along way id digits) (paths old blocks digits) (paths new blocks digits)
  gains_at zero below few = absurd (omega arith)
  gains_at (suc digits) below few = elim (cases_eq gone digits) [
    | inl same ↦ subst
        (λ (k : ℕ). Gains 0 (256 ^ suc k) (path_along way id (suc k)) (paths old blocks (suc k))
        (paths new blocks (suc k))) same first
    | inr later ↦ onward digits (omega arith) (omega arith) (gains_at digits (omega arith) (omega arith))
  ]

  pub has_way : HasWay way (suc gone) id blocks old new
  has_way = record {
    fewer = λ digits few. same_paths digits (omega arith);
    more = λ digits below few.
        with_path_gained 0 (256 ^ digits) (path_along way id digits) (paths old blocks digits) (paths new blocks digits)
        (gains_at digits (omega arith) few);
  }

  -- how often a block stands in a level then
  pub level_gains : (digits block : ℕ) → suc gone ≤ digits → digits ≤ 4
      → times (level new blocks digits) block ≡ times (get_or way digits 0 ∷ level old blocks digits) block
  level_gains digits block below few =
      times_gained 0 (256 ^ digits) (path_along way id digits) (paths old blocks digits) (paths new blocks digits) block
      (gains_at digits (omega arith) few)

-- the last block of a way that was there is one of the tree
pub last_in_tree : (file : List ℕ) (blocks id gone block : ℕ) → id < 2 ^ 32 → gone < 4
    → block_led_to file blocks gone (front_of id gone) ≡ Some block → StandsIn (tree_blocks file blocks) block
last_in_tree file blocks id gone block small few led =
    let test : TreePath → Bool = λ other. other.number == front_of id gone in
    let to = path_to (find test (paths file blocks gone)) block
    (sym led ∙ path_led_to file blocks gone (front_of id gone) (front_small id gone small few)) in
    level_in_tree file blocks gone block few
    (subst (λ (n : ℕ). StandsIn (level file blocks gone) n) to.2 (found_stands test (paths file blocks gone) to.0 to.1))

-- the blocks of the tree, level by level
tree_gains : (way fresh : List ℕ) (gone blocks block : ℕ) (old new : List ℕ) → gone < 4
    → fresh ≡ map (λ (k : ℕ). get_or way k 0) (range_with_len (suc gone) (3 - gone))
    → ((digits : ℕ) → digits < suc gone → times (level new blocks digits) block ≡ times (level old blocks digits) block)
    → ((digits : ℕ) → suc gone ≤ digits → digits ≤ 4
    → times (level new blocks digits) block
    ≡ times (get_or way digits 0 ∷ []) block + times (level old blocks digits) block)
    → times (tree_blocks new blocks) block ≡ times (tree_blocks old blocks) block + times fresh block
tree_gains way fresh zero blocks block old new few is fewer more =
    omega (
      arith,
      times_in_tree new blocks block,
      times_in_tree old blocks block,
      fewer 0 (omega arith),
      more 1 (omega arith) (omega arith),
      more 2 (omega arith) (omega arith),
      more 3 (omega arith) (omega arith),
      ap (λ (ns : List ℕ). times ns block) is,
      times-append (get_or way 1 0 ∷ []) (get_or way 2 0 ∷ get_or way 3 0 ∷ []) block,
      times-append (get_or way 2 0 ∷ []) (get_or way 3 0 ∷ []) block,
    )
tree_gains way fresh (suc zero) blocks block old new few is fewer more =
    omega (
      arith,
      times_in_tree new blocks block,
      times_in_tree old blocks block,
      fewer 0 (omega arith),
      fewer 1 (omega arith),
      more 2 (omega arith) (omega arith),
      more 3 (omega arith) (omega arith),
      ap (λ (ns : List ℕ). times ns block) is,
      times-append (get_or way 2 0 ∷ []) (get_or way 3 0 ∷ []) block,
    )
tree_gains way fresh (suc (suc zero)) blocks block old new few is fewer more =
    omega (
      arith,
      times_in_tree new blocks block,
      times_in_tree old blocks block,
      fewer 0 (omega arith),
      fewer 1 (omega arith),
      fewer 2 (omega arith),
      more 3 (omega arith) (omega arith),
      ap (λ (ns : List ℕ). times ns block) is,
    )
tree_gains way fresh (suc (suc (suc zero))) blocks block old new few is fewer more =
    omega (
      arith,
      times_in_tree new blocks block,
      times_in_tree old blocks block,
      fewer 0 (omega arith),
      fewer 1 (omega arith),
      fewer 2 (omega arith),
      fewer 3 (omega arith),
      ap (λ (ns : List ℕ). times ns block) is,
    )
tree_gains way fresh (suc (suc (suc (suc gone)))) blocks block old new few is fewer more = absurd (omega arith)

pub gains_blocks : (way fresh : List ℕ) (gone id blocks : ℕ) (old new : List ℕ) → IsLinked way gone id blocks old new
    → fresh ≡ map (λ (k : ℕ). get_or way k 0) (range_with_len (suc gone) (3 - gone))
    → GainsBlocks way fresh (suc gone) blocks old new
gains_blocks way fresh gone id blocks old new linked is =
    let had = has_way way gone id blocks old new linked in
    record {
      fewer = λ digits few. ap blocks_of (had.fewer digits few);
      more = level_gains way gone id blocks old new linked;
      tree = λ block. tree_gains way fresh gone blocks block old new linked.few is
          (λ digits few. ap (λ (ps : List TreePath). times (blocks_of ps) block) (had.fewer digits few))
          (λ digits below few. level_gains way gone id blocks old new linked digits block below few
          ∙ times-append (get_or way digits 0 ∷ []) (level old blocks digits) block);
    }
