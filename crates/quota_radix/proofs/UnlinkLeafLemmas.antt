-- What is left of a tree once a leaf was taken away: its way ends where it was cleared, the emptied blocks are blank
-- and none of it, and no further block is empty.
use Rattle.std.proofs.Common.{◌≡◌, ◌≢◌, ℕ, zero, suc, ◌+◌, ◌-◌, ◌*◌, ◌/◌, ◌%◌, ◌^◌, ◌<◌, ◌≤◌, IsTrue, List, [], ◌∷◌}
use Rattle.std.proofs.Common.{◌++◌, length, map, take, reverse, replicate, get_or, Option, Some, None, refl, sym, ap}
use Rattle.std.proofs.Common.{subst, ◌∙◌, inl, inr, arith}
use Rattle.std.specs.List.{cons_option, filter_map, range_with_len}
use Rattle.std.proofs.lemmas.Bool.{cases_eq, cases_lt}
use Rattle.std.proofs.lemmas.List.{ext_get_or, get_or-replicate, length-replicate, take_more}
use Rattle.std.proofs.lemmas.Option.{same_Some}
use Rattle.std.proofs.lemmas.List.FromFn.{get_or-map-range_with_len, length-map-range_with_len}
use Rattle.quota_types.specs.Bytes.{byte_at, number_at}
use Rattle.quota_types.specs.Times.{StandsIn, times}
use Rattle.quota_types.proofs.TimesLemmas.{times-append, times-cons-other, times-cons-same}
use Rattle.file_blocks.specs.Block.{block_of, leads, word_at}
use Rattle.file_blocks.proofs.WordLemmas.{length-block_of}
use Rattle.quota_pages.specs.Used.{HasWord}
use Rattle.quota_pages.specs.KeptBlocks.{KeepsBlocksBut}
use Rattle.quota_radix.specs.OnWay.{block_led_to, block_on_way, blocks_on_way}
use Rattle.quota_radix.specs.Link.{GainsBlocks, HasWay, IsLinkable, LeadsAlong, with_path}
use Rattle.quota_radix.specs.Tree.{leaves, level, lower_blocks, tree_blocks}
use Rattle.quota_radix.specs.TreeDefect.{IsEmpty}
use Rattle.quota_radix.specs.Unlink.{AreAllWithoutOther, ClearsAlong, IsUnlinkable, LosesLeaf, lowest_blocks}
use Rattle.quota_radix.specs.Way.{digit_on_way}
use Rattle.quota_radix.proofs.AlongLemmas.{given_all, given_more, none_later}
use Rattle.quota_radix.proofs.DownLemmas.{times_in_tree}
use Rattle.quota_radix.proofs.StepLemmas.{word_in}
use Rattle.quota_radix.proofs.LinkPathLemmas.{IsLinked, front_of, gains_blocks, has_way, word_kept}
use Rattle.quota_radix.proofs.LinkWayLemmas.{digit_same, ends_on_way, place_of, some_at}
use Rattle.quota_radix.proofs.UnlinkLevelLemmas.{level_less}
use Rattle.quota_radix.proofs.UnlinkPathLemmas.{IsCleared, among, ended, is_cleared_file, is_linked, still_led}
use Rattle.quota_radix.proofs.UnlinkPathLemmas.{still_once, unused}

-- a number of four bytes is 0 where each of them is
four_zeros : (bytes : List ℕ) (at : ℕ) → number_at 4 bytes at ≡ 0
    → (byte_at bytes at ≡ 0) × (byte_at bytes (suc at) ≡ 0) × (byte_at bytes (suc (suc at)) ≡ 0)
    × (byte_at bytes (suc (suc (suc at))) ≡ 0)
unfolding number_at
four_zeros bytes at none = (omega (arith, none), omega (arith, none), omega (arith, none), omega (arith, none))

-- a block without a reference is blank
pub blank_of_empty : (file : List ℕ) (block : ℕ) → IsEmpty file block → block_of file block ≡ replicate 1024 0
blank_of_empty file block empty =
    ext_get_or 0 (block_of file block) (replicate 1024 0)
    (length-block_of file block ∙ sym (length-replicate {A = ℕ} 1024 0))
    (λ i low. let inside : i < 1024 = omega (arith, low, length-block_of file block) in
    at_zero i inside ∙ sym (get_or-replicate 1024 i 0 0 inside))
  where
    at_zero : (i : ℕ) → i < 1024 → get_or (block_of file block) i 0 ≡ 0
    at_zero i low =
        let bytes : List ℕ = block_of file block in
        let four = four_zeros bytes (4 * (i / 4)) (empty (i / 4) (omega arith)) in
        elim (cases_eq (i % 4) 0) [
          | inl first ↦ let is : i ≡ 4 * (i / 4) = omega arith in ap (λ (k : ℕ). get_or bytes k 0) is ∙ four.0
          | inr more ↦ elim (cases_eq (i % 4) 1) [
            | inl second ↦ let is : i ≡ suc (4 * (i / 4)) = omega arith in ap (λ (k : ℕ). get_or bytes k 0) is ∙ four.1
            | inr yet ↦ elim (cases_eq (i % 4) 2) [
              | inl third ↦ let is : i ≡ suc (suc (4 * (i / 4))) = omega arith in
                  ap (λ (k : ℕ). get_or bytes k 0) is ∙ four.2
              | inr last ↦ let is : i ≡ suc (suc (suc (4 * (i / 4)))) = omega arith in
                  ap (λ (k : ℕ). get_or bytes k 0) is ∙ four.3
            ]
          ]
        ]

-- where a whole way was found, the first digits of the identifier lead to each of its blocks
pub whole_way_led : (file way : List ℕ) (blocks id : ℕ) → way ≡ blocks_on_way file blocks id → length way ≡ 5
    → (digits : ℕ) → digits ≤ 4
    → block_led_to file blocks digits (front_of id digits) ≡ Some (get_or way digits 0)
unfolding block_on_way blocks_on_way
whole_way_led file way blocks id is five digits few =
    let f : ℕ → Option ℕ = block_on_way file blocks id in
    let here : 0 + digits ≡ digits = omega arith in
    ap f (sym here)
    ∙ some_at f 5 (ends_on_way file blocks id) 0 5 digits (omega arith)
    (omega (arith, few, five, ap (λ (xs : List ℕ). length xs) is))
    ∙ ap (λ (xs : List ℕ). Some (get_or xs digits 0)) (sym is)

-- the first of some options, this many of them, where those are there
pub given_first : (f : ℕ → Option ℕ) (way : List ℕ) (count : ℕ) → count ≤ length way
    → ((k : ℕ) → k < count → f k ≡ Some (get_or way k 0)) → filter_map f (range_with_len 0 count) ≡ take count way
given_first f way zero few there = refl
given_first f way (suc count) few there =
    let next : suc count ≡ count + 1 = omega arith in
    ap (λ (k : ℕ). filter_map f (range_with_len 0 k)) next
    ∙ given_more f count
    ∙ ap (λ (xs : List ℕ). xs ++ cons_option (f count) [])
    (given_first f way count (omega arith) (λ k low. there k (omega arith)))
    ∙ ap (λ (o : Option ℕ). take count way ++ cons_option o []) (there count (omega arith))
    ∙ sym (take_more way count 0 (omega arith))
    ∙ ap (λ (k : ℕ). take k way) (sym next)

-- a way that ends behind this many digits has the blocks up to there
pub way_so_far : (file way : List ℕ) (blocks id gone : ℕ) → gone < 4 → length way ≡ 5
    → ((digits : ℕ) → digits ≤ gone → block_led_to file blocks digits (front_of id digits) ≡ Some (get_or way digits 0))
    → block_led_to file blocks (suc gone) (front_of id (suc gone)) ≡ None
    → take (suc gone) way ≡ blocks_on_way file blocks id
unfolding block_on_way blocks_on_way
way_so_far file way blocks id gone few five led ends =
    let f : ℕ → Option ℕ = block_on_way file blocks id in
    let all : suc gone + (4 - gone) ≡ 5 = omega arith in
    sym (given_first f way (suc gone) (omega (arith, five, few)) (λ k low. led k (omega arith)))
    ∙ sym
    (given_all f (suc gone) (4 - gone) (λ k from to. none_later file blocks id (suc gone) k ends from (omega arith)))
    ∙ ap (λ (k : ℕ). filter_map f (range_with_len 0 k)) all

-- the lowest blocks of a way, and the one above them, are those from it on
pub not_lowest : (way : List ℕ) (count block : ℕ) → count ≤ 3
    → ((digits : ℕ) → 3 - count ≤ digits → digits < 4 → get_or way digits 0 ≢ block)
    → times (lowest_blocks way count ++ get_or way (3 - count) 0 ∷ []) block ≡ 0
not_lowest way zero block few differs =
    times-cons-other (get_or way 3 0) [] block (differs 3 (omega arith) (omega arith))
not_lowest way (suc zero) block few differs =
    times-cons-other (get_or way 3 0) (get_or way 2 0 ∷ []) block (differs 3 (omega arith) (omega arith))
    ∙ times-cons-other (get_or way 2 0) [] block (differs 2 (omega arith) (omega arith))
not_lowest way (suc (suc zero)) block few differs =
    times-cons-other (get_or way 3 0) (get_or way 2 0 ∷ get_or way 1 0 ∷ []) block
    (differs 3 (omega arith) (omega arith))
    ∙ times-cons-other (get_or way 2 0) (get_or way 1 0 ∷ []) block (differs 2 (omega arith) (omega arith))
    ∙ times-cons-other (get_or way 1 0) [] block (differs 1 (omega arith) (omega arith))
not_lowest way (suc (suc (suc zero))) block few differs =
    times-cons-other (get_or way 3 0) (get_or way 2 0 ∷ get_or way 1 0 ∷ get_or way 0 0 ∷ []) block
    (differs 3 (omega arith) (omega arith))
    ∙ times-cons-other (get_or way 2 0) (get_or way 1 0 ∷ get_or way 0 0 ∷ []) block
    (differs 2 (omega arith) (omega arith))
    ∙ times-cons-other (get_or way 1 0) (get_or way 0 0 ∷ []) block (differs 1 (omega arith) (omega arith))
    ∙ times-cons-other (get_or way 0 0) [] block (differs 0 (omega arith) (omega arith))
not_lowest way (suc (suc (suc (suc count)))) block few differs = absurd (omega arith)

-- the lowest blocks of a way, the highest of them first
pub highest_first : (way : List ℕ) (count : ℕ) → count ≤ 3
    → reverse (lowest_blocks way count)
    ≡ map (λ (k : ℕ). get_or way k 0) (range_with_len (suc (3 - count)) (3 - (3 - count)))
highest_first way zero few = refl
highest_first way (suc zero) few = refl
highest_first way (suc (suc zero)) few = refl
highest_first way (suc (suc (suc zero))) few = refl
highest_first way (suc (suc (suc (suc count)))) few = absurd (omega arith)

-- each of them is one of the way
pub one_of_way : (way : List ℕ) (gone block : ℕ) → gone < 4
    → StandsIn (map (λ (k : ℕ). get_or way k 0) (range_with_len (suc gone) (3 - gone))) block
    → (digits : ℕ) × (gone < digits) × (digits < 4) × (get_or way digits 0 ≡ block)
one_of_way way gone block few stands =
    let f : ℕ → ℕ = λ k. get_or way k 0 in
    let there = place_of (map f (range_with_len (suc gone) (3 - gone))) block stands in
    let low : there.0 < 3 - gone = omega (arith, there.1, length-map-range_with_len f (suc gone) (3 - gone)) in (
      suc gone + there.0,
      omega arith,
      omega arith,
      sym (get_or-map-range_with_len f (suc gone) (3 - gone) there.0 (suc gone + there.0) 0 low refl) ∙ there.2,
    )

-- which blocks of a way are empty once it was cleared
pub without_other : (way : List ℕ) (count id : ℕ) (old new : List ℕ) → count ≤ 3
    → ClearsAlong way (3 - count) id old new
    → ((place : ℕ) → 3 - count < place → place < 4 → IsEmpty new (get_or way place 0))
    → (count < 3 → ¬ IsEmpty new (get_or way (3 - count) 0))
    → AreAllWithoutOther way count id old
without_other way count id old new few clears empty left = record {
  few = few;
  only = λ digits below low other inside ne.
      sym (word_kept (get_or way digits 0) (digit_on_way id digits) 0 other old new (clears digits (omega arith) low)
      ne) ∙ empty digits below low other inside;
  other = λ more none. left more (λ digit inside.
      let place : ℕ = 3 - count in
      let here = clears place (omega arith) (omega arith) in
      elim (cases_eq digit (digit_on_way id place)) [
        | inl same ↦ ap (word_at new (get_or way place 0)) same ∙ here.is
        | inr other ↦
            word_kept (get_or way place 0) (digit_on_way id place) 0 digit old new here other ∙ none digit inside other
      ]);
}

-- the leaf that was taken away, seen from the new tree
module _ (way emptied : List ℕ) (count id blocks : ℕ) (old new : List ℕ) (five : length way ≡ 5) (few : count ≤ 3)
    (is : emptied ≡ lowest_blocks way count) (small : id < 2 ^ 32)
    (can : IsUnlinkable old blocks way id) (clears : ClearsAlong way (3 - count) id old new)
    (keeps : KeepsBlocksBut (emptied ++ get_or way (3 - count) 0 ∷ []) old new)
    (empty : (place : ℕ) → 3 - count < place → place < 4 → IsEmpty new (get_or way place 0))
    (left : count < 3 → ¬ IsEmpty new (get_or way (3 - count) 0)) where
  cleared : IsCleared way (3 - count) id blocks old new
  cleared = record {
    few = omega arith;
    small = small;
    once = can.once;
    led = whole_way_led old way blocks id can.way five;
    words = λ digits from low. subst (λ (at : ℕ). HasWord (get_or way digits 0) at 0 old new) (digit_same id digits low)
        (clears digits from low);
    others = λ block differs.
        keeps.others block
        (ap (λ (numbers : List ℕ). times (numbers ++ get_or way (3 - count) 0 ∷ []) block) is
        ∙ not_lowest way count block few differs);
    blank = λ digits below low. blank_of_empty new (get_or way digits 0) (empty digits below low);
  }

  linked : IsLinked way (3 - count) id blocks new old
  linked = is_linked way (3 - count) id blocks old new cleared

  fresh_is : reverse emptied ≡ map (λ (k : ℕ). get_or way k 0) (range_with_len (suc (3 - count)) (3 - (3 - count)))
  fresh_is = ap reverse is ∙ highest_first way count few

  fresh_on_way : (block : ℕ) → StandsIn (reverse emptied) block
      → (digits : ℕ) × (3 - count < digits) × (digits < 4) × (get_or way digits 0 ≡ block)
  fresh_on_way block stands =
      one_of_way way (3 - count) block (omega arith)
      (subst (λ (numbers : List ℕ). StandsIn numbers block) fresh_is stands)

  suc_gone : suc (3 - count) ≡ 4 - count
  suc_gone = omega arith

  gained : GainsBlocks way (reverse emptied) (suc (3 - count)) blocks new old
  gained = gains_blocks way (reverse emptied) (3 - count) id blocks new old linked fresh_is

  had : HasWay way (suc (3 - count)) id blocks new old
  had = has_way way (3 - count) id blocks new old linked

  can_again : IsLinkable new blocks (take (4 - count) way) (reverse emptied) id (get_or way 4 0)
  can_again = record {
    once = still_once way (3 - count) id blocks old new cleared;
    way = ap (λ (k : ℕ). take k way) (sym suc_gone)
        ∙ way_so_far new way blocks id (3 - count) (omega arith) five
        (still_led way (3 - count) id blocks old new cleared) (ended way (3 - count) id blocks old new cleared);
    distinct = λ n. omega (arith, gained.tree n, can.once n);
    blank = λ block stands.
        let there = fresh_on_way block stands in
        subst (λ (n : ℕ). block_of new n ≡ replicate 1024 0) there.3 (cleared.blank there.0 there.1 there.2);
    unused = λ block stands.
        let there = fresh_on_way block stands in
        subst (λ (n : ℕ). times (tree_blocks new blocks) n ≡ 0) there.3
        (unused way (3 - count) id blocks old new cleared there.0 there.1 there.2);
    within = λ block stands.
        let there = fresh_on_way block stands in
        subst (λ (n : ℕ). IsTrue (leads blocks n)) there.3 (linked.leading there.0 there.1 (omega (arith, there.2)));
    leaf = linked.leading 4 (omega arith) (omega arith);
  }

  in_lower : (file : List ℕ) (block : ℕ)
      → times (tree_blocks file blocks) block
      ≡ times (level file blocks 0) block + times (lower_blocks file blocks) block
  in_lower file block = times-append (level file blocks 0) (lower_blocks file blocks) block

  -- a block below the root was one before
  was_lower : (block : ℕ) → StandsIn (lower_blocks new blocks) block → StandsIn (lower_blocks old blocks) block
  was_lower block stands =
      let less : (k : ℕ) → times (level new blocks k) block ≤ times (level old blocks k) block =
      λ k. level_less old new blocks (is_cleared_file way (3 - count) id blocks old new cleared) k block in
      omega (
        arith,
        stands,
        in_lower new block,
        in_lower old block,
        times_in_tree new blocks block,
        times_in_tree old blocks block,
        less 1,
        less 2,
        less 3,
      )

  none_empty : ((block : ℕ) → StandsIn (lower_blocks old blocks) block → ¬ IsEmpty old block) → (block : ℕ)
      → StandsIn (lower_blocks new blocks) block → ¬ IsEmpty new block
  none_empty before block stands now = elim (among way (3 - count) block 4) [
    | inr none ↦ before block (was_lower block stands)
        (λ digit inside.
        ap (λ (bytes : List ℕ). word_in bytes digit) (sym (cleared.others block none)) ∙ now digit inside)
    | inl there ↦ elim (cases_lt (3 - count) there.0) [
      | inl below ↦
          let gone : times (tree_blocks new blocks) block ≡ 0 =
          subst (λ (n : ℕ). times (tree_blocks new blocks) n ≡ 0) there.3
          (unused way (3 - count) id blocks old new cleared there.0 below there.2) in
          omega (arith, gone, in_lower new block, stands)
      | inr here ↦
          let place : there.0 ≡ 3 - count = omega (arith, there.1) in
          let block_is : get_or way (3 - count) 0 ≡ block = ap (λ (k : ℕ). get_or way k 0) (sym place) ∙ there.3 in
          elim (cases_lt count 3) [
            | inl more ↦ left more (subst (λ (n : ℕ). IsEmpty new n) (sym block_is) now)
            | inr all ↦
                let three : 3 - count ≡ 0 = omega arith in
                let root : StandsIn (level new blocks 0) block = root_stands (get_or way 0 0) block
                (ap (λ (k : ℕ). get_or way k 0) (sym three) ∙ block_is)
                (still_led way (3 - count) id blocks old new cleared 0 (omega arith)) in
                omega
                (arith, root, stands, in_lower new block, still_once way (3 - count) id blocks old new cleared block)
          ]
    ]
  ]
    where
      root_stands : (first block : ℕ) → first ≡ block → Some 1 ≡ Some first → StandsIn (level new blocks 0) block
      root_stands first block same one =
          let is : 1 ≡ block = same_Some 1 first one ∙ same in
          subst (λ (n : ℕ). StandsIn (level new blocks 0) n) is (omega (arith, times-cons-same 1 []))

  pub loses_leaf : count ≡ length emptied → LosesLeaf way emptied id blocks old new
  loses_leaf long =
      let below : 3 - count ≡ 3 - length emptied = omega (arith, long) in
      let above : suc (3 - count) ≡ 4 - length emptied = omega (arith, long, few) in
      let whole : id / 1 ≡ id = omega arith in
      record {
        can = subst
            (λ (k : ℕ). IsLinkable new blocks (take (4 - k) way) (reverse emptied) id (get_or way 4 0)) long can_again;
        along = subst (λ (k : ℕ). LeadsAlong way k id new old) below
            (λ digits from low. subst (λ (at : ℕ). HasWord (get_or way digits 0) at (get_or way (suc digits) 0) new old)
            (sym (digit_same id digits low)) (linked.words digits from low));
        paths = subst (λ (k : ℕ). HasWay way k id blocks new old) above had;
        leaves = had.more 4 (omega arith) (omega arith)
            ∙ ap (λ (n : ℕ). with_path (leaves new blocks) (record { number = n; block = get_or way 4 0 })) whole;
        levels = subst (λ (k : ℕ). GainsBlocks way (reverse emptied) k blocks new old) above gained;
        none_empty = none_empty;
      }
