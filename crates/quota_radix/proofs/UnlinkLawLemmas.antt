-- Linking a leaf and unlinking it undo each other.
use Rattle.std.proofs.Common.{◌≡◌, ◌≢◌, ℕ, zero, suc, ◌+◌, ◌-◌, ◌*◌, ◌/◌, ◌%◌, ◌^◌, ◌<◌, ◌≤◌, Bool, ◌==◌, List, [], ◌∷◌}
use Rattle.std.proofs.Common.{◌++◌, length, find, map, take, reverse, get_or, Option, Some, None, option_map, refl, sym}
use Rattle.std.proofs.Common.{ap, subst, ◌∙◌, inl, inr, arith, length-take}
use Rattle.std.specs.List.{range_with_len}
use Rattle.std.specs.Prelude.{slice_get}
use Rattle.std.proofs.lemmas.Bool.{cases_eq, cases_lt}
use Rattle.std.proofs.lemmas.List.{length-reverse, take_all}
use Rattle.quota_types.specs.Times.{StandsIn, times}
use Rattle.file_blocks.specs.Block.{word_at}
use Rattle.quota_pages.specs.Used.{HasWord}
use Rattle.quota_radix.specs.declared.tree_path.TreePath.{TreePath}
use Rattle.quota_radix.specs.Descent.{leaf_block}
use Rattle.quota_radix.specs.OnWay.{block_led_to, block_on_way, blocks_on_way}
use Rattle.quota_radix.specs.Link.{AreDistinct, GainsBlocks, HasWay, IsLinkable, LeadsAlong, changed_blocks, path_along}
use Rattle.quota_radix.specs.Link.{whole_way}
use Rattle.quota_radix.specs.Tree.{lower_blocks, paths, tree_blocks}
use Rattle.quota_radix.specs.TreeDefect.{IsEmpty}
use Rattle.quota_radix.specs.Undone.{ClearsWay, SetsWay}
use Rattle.quota_radix.specs.Unlink.{IsUnlinkable, LosesLeaf, lowest_blocks}
use Rattle.quota_radix.specs.Way.{IsInsideOnWay, digit_on_way}
use Rattle.quota_radix.proofs.AlongLemmas.{fifth_is_leaf}
use Rattle.quota_radix.proofs.DescentLemmas.{path_led_to}
use Rattle.quota_radix.proofs.StepLemmas.{word_in, zero_of}
use Rattle.quota_radix.proofs.WayLemmas.{lower_level}
use Rattle.quota_radix.proofs.LinkLeafLemmas.{find-with_path-same}
use Rattle.quota_radix.proofs.LinkPathLemmas.{IsLinked, digit_behind, front_of, front_small, last_stands, none_there}
use Rattle.quota_radix.proofs.LinkPathLemmas.{word_kept, word_of_zeros}
use Rattle.quota_radix.proofs.LinkWayLemmas.{changed_are, ends_on_way, fresh_is, leads_as, length_way, linked_along}
use Rattle.quota_radix.proofs.LinkWayLemmas.{not_in_stretch, some_at, stretch, way_found}
use Rattle.quota_radix.proofs.UnlinkLeafLemmas.{given_first, highest_first, not_lowest}
use Rattle.quota_radix.proofs.UnlinkPathLemmas.{among}

front_low : (id digits : ℕ) → id < 2 ^ 32 → digits ≤ 4 → front_of id digits < 256 ^ digits
front_low id digits small few = elim (cases_lt digits 4) [
  | inl fewer ↦ front_small id digits small fewer
  | inr all ↦
      let four : digits ≡ 4 = omega arith in
      subst (λ (k : ℕ). front_of id k < 256 ^ k) (sym four) (let whole : id / 1 < 256 ^ 4 = omega arith in whole)
]

-- the digit behind some, in other words
digit_is : (id digits : ℕ) → digits < 4 → digit_on_way id digits ≡ digit_behind id digits
unfolding digit_on_way
digit_is id digits few = let same : 3 - digits ≡ 4 - suc digits = omega arith in ap (λ (k : ℕ). id / 256 ^ k % 256) same

-- a way as far as it goes
found_led : (file found : List ℕ) (blocks id digits : ℕ) → found ≡ blocks_on_way file blocks id
    → digits < length found → digits ≤ 4
    → block_led_to file blocks digits (front_of id digits) ≡ Some (get_or found digits 0)
unfolding block_on_way blocks_on_way
found_led file found blocks id digits is low few =
    let f : ℕ → Option ℕ = block_on_way file blocks id in
    let here : 0 + digits ≡ digits = omega arith in
    ap f (sym here)
    ∙ some_at f 5 (ends_on_way file blocks id) 0 5 digits (omega arith)
    (omega (arith, low, ap (λ (xs : List ℕ). length xs) is))
    ∙ ap (λ (xs : List ℕ). Some (get_or xs digits 0)) (sym is)

way_of_led : (file way : List ℕ) (blocks id : ℕ) → length way ≡ 5
    → ((digits : ℕ) → digits ≤ 4 → block_led_to file blocks digits (front_of id digits) ≡ Some (get_or way digits 0))
    → way ≡ blocks_on_way file blocks id
unfolding block_on_way blocks_on_way
way_of_led file way blocks id five led =
    sym (take_all 5 way (omega (arith, five)))
    ∙ sym (given_first (block_on_way file blocks id) way 5 (omega (arith, five)) (λ k low. led k (omega arith)))

-- the whole way of an identifier whose leaf was linked
module _ (old new found fresh : List ℕ) (blocks id leaf : ℕ) (some : 1 ≤ length found)
    (five : length found + length fresh ≡ 4) (small : id < 2 ^ 32) (can : IsLinkable old blocks found fresh id leaf)
    (had : HasWay (whole_way found fresh leaf) (length found) id blocks old new)
    (gains : GainsBlocks (whole_way found fresh leaf) fresh (length found) blocks old new) where
  linked_once : AreDistinct (tree_blocks new blocks)
  linked_once n = elim (cases_lt 0 (times fresh n)) [
    | inl stands ↦ omega (arith, gains.tree n, can.unused n stands, can.distinct n)
    | inr none ↦ omega (arith, gains.tree n, can.once n)
  ]

  linked_led : (digits : ℕ) → digits ≤ 4
      → block_led_to new blocks digits (front_of id digits) ≡ Some (get_or (whole_way found fresh leaf) digits 0)
  linked_led digits few =
      let way : List ℕ = whole_way found fresh leaf in
      let test : TreePath → Bool = λ other. other.number == front_of id digits in
      let gone : ℕ = length found - 1 in
      let last : length found ≡ suc gone = omega (arith, some) in
      elim (cases_lt digits (length found)) [
        | inl above ↦
            path_led_to new blocks digits (front_of id digits) (front_low id digits small few)
            ∙ ap (λ (ps : List TreePath). option_map (λ (path : TreePath). path.block) (find test ps))
            (had.fewer digits above)
            ∙ sym (path_led_to old blocks digits (front_of id digits) (front_low id digits small few))
            ∙ found_led old found blocks id digits can.way above few
            ∙ ap (λ (n : ℕ). Some n)
            (sym (way_found found fresh leaf gone last five digits (omega (arith, above, last))))
        | inr below ↦
            path_led_to new blocks digits (front_of id digits) (front_low id digits small few)
            ∙ ap (λ (ps : List TreePath). option_map (λ (path : TreePath). path.block) (find test ps))
            (had.more digits below few)
            ∙ ap (option_map (λ (path : TreePath). path.block))
            (find-with_path-same (paths old blocks digits) (path_along way id digits))
      ]

  pub linked_unlinkable : IsUnlinkable new blocks (whole_way found fresh leaf) id
  linked_unlinkable =
      let gone : ℕ = length found - 1 in
      let last : length found ≡ suc gone = omega (arith, some) in
      record {
        once = linked_once;
        way = way_of_led new (whole_way found fresh leaf) blocks id
            (length_way found fresh leaf gone last five) linked_led;
      }

-- a leaf was linked, and unlinked again
module _ (old between new found fresh emptied : List ℕ) (blocks id leaf : ℕ) (some : 1 ≤ length found)
    (five : length found + length fresh ≡ 4) (small : id < 2 ^ 32) (can : IsLinkable old blocks found fresh id leaf)
    (inside : IsInsideOnWay old blocks id)
    (full : (block : ℕ) → StandsIn (lower_blocks old blocks) block → ¬ IsEmpty old block)
    (sets : SetsWay found fresh id leaf old between)
    (clears : ClearsWay (whole_way found fresh leaf) emptied id between new) where
  last : length found ≡ suc (length found - 1)
  last = omega (arith, some)

  linked : IsLinked (whole_way found fresh leaf) (length found - 1) id blocks old between
  linked =
      linked_along old between found fresh blocks id leaf (length found - 1) last five small can sets.words sets.keeps

  inside_there : word_at old (get_or (whole_way found fresh leaf) (length found - 1) 0)
      (digit_behind id (length found - 1)) < blocks
  unfolding block_on_way
  inside_there =
      let gone : ℕ = length found - 1 in
      subst (λ (digit : ℕ). word_at old (get_or (whole_way found fresh leaf) gone 0) digit < blocks)
      (digit_is id gone linked.few)
      (inside gone (get_or (whole_way found fresh leaf) gone 0) linked.few linked.led)

  -- none of the references along the way was there
  none_was : (digits : ℕ) → length found - 1 ≤ digits → digits < 4
      → word_at old (get_or (whole_way found fresh leaf) digits 0) (digit_behind id digits) ≡ 0
  none_was digits from few =
      let way : List ℕ = whole_way found fresh leaf in
      let gone : ℕ = length found - 1 in
      elim (cases_eq gone digits) [
        | inl same ↦ subst (λ (k : ℕ). word_at old (get_or way k 0) (digit_behind id k) ≡ 0) same
            (zero_of blocks (word_at old (get_or way gone 0) (digit_behind id gone))
            (none_there way gone id blocks old between linked) inside_there)
        | inr below ↦ word_of_zeros old (get_or way digits 0) (digit_behind id digits)
            (linked.blank digits (omega arith) few) (omega arith)
      ]

  -- all other references are as they were
  other_same : (digits digit : ℕ) → length found - 1 ≤ digits → digits < 4 → digit ≢ digit_behind id digits
      → word_at between (get_or (whole_way found fresh leaf) digits 0) digit
      ≡ word_at old (get_or (whole_way found fresh leaf) digits 0) digit
  other_same digits digit from few ne =
      word_kept (get_or (whole_way found fresh leaf) digits 0) (digit_behind id digits)
      (get_or (whole_way found fresh leaf) (suc digits) 0) digit old between (linked.words digits from few) ne

  -- as many blocks were emptied as were fresh
  as_many : 3 - length emptied ≡ length found - 1
  as_many =
      let way : List ℕ = whole_way found fresh leaf in
      let gone : ℕ = length found - 1 in
      let count : ℕ = length emptied in
      let few : count ≤ 3 = clears.all.few in
      elim (cases_lt gone (3 - count)) [
        | inl fewer ↦
            let place : ℕ = 3 - count in
            let low : place < 4 = omega arith in
            absurd (clears.all.other (omega arith) (λ digit within ne.
            other_same place digit (omega arith) low (λ same. ne (same ∙ sym (digit_is id place low)))
            ∙ word_of_zeros old (get_or way place 0) digit (linked.blank place fewer low) within))
        | inr rest ↦ elim (cases_lt (3 - count) gone) [
          | inl more ↦
              absurd (full (get_or way gone 0)
              (lower_level old blocks gone (get_or way gone 0) (omega arith) linked.few
              (last_stands way gone id blocks old between linked))
              (λ digit within. elim (cases_eq digit (digit_behind id gone)) [
                | inl same ↦ ap (word_at old (get_or way gone 0)) same ∙ none_was gone (omega arith) linked.few
                | inr other ↦ sym (other_same gone digit (omega arith) linked.few other)
                    ∙ clears.all.only gone more linked.few digit within
                    (λ same. other (same ∙ digit_is id gone linked.few))
              ]))
          | inr neither ↦ omega arith
        ]
      ]

  pub undone_answered : reverse emptied ≡ fresh
  undone_answered =
      let way : List ℕ = whole_way found fresh leaf in
      ap reverse clears.answered
      ∙ highest_first way (length emptied) clears.all.few
      ∙ ap (λ (k : ℕ). map (λ (n : ℕ). get_or way n 0) (range_with_len (suc k) (3 - k))) as_many
      ∙ sym (fresh_is found fresh leaf (length found - 1) last five)

  pub undone_words : (block digit : ℕ) → word_at new block digit ≡ word_at old block digit
  undone_words block digit =
      let way : List ℕ = whole_way found fresh leaf in
      let gone : ℕ = length found - 1 in
      elim (among way gone block 4) [
        | inl there ↦
            let cleared : HasWord (get_or way there.0 0) (4 * digit_on_way id there.0) 0 between new =
            clears.words there.0 (omega (arith, as_many, there.1)) there.2 in
            subst (λ (n : ℕ). word_at new n digit ≡ word_at old n digit) there.3
            (elim (cases_eq digit (digit_on_way id there.0)) [
              | inl same ↦ ap (word_at new (get_or way there.0 0)) same ∙ cleared.is
                  ∙ sym (ap (word_at old (get_or way there.0 0)) (same ∙ digit_is id there.0 there.2)
                  ∙ none_was there.0 there.1 there.2)
              | inr other ↦ word_kept (get_or way there.0 0) (digit_on_way id there.0) 0 digit between new cleared other
                  ∙ other_same there.0 digit there.1 there.2 (λ same. other (same ∙ sym (digit_is id there.0 there.2)))
            ])
        | inr none ↦
            let differs : (digits : ℕ) → 3 - length emptied ≤ digits → digits < 4 → get_or way digits 0 ≢ block =
            λ digits from low. none digits (omega (arith, as_many, from)) low in
            ap (λ (bytes : List ℕ). word_in bytes digit)
            (clears.keeps.others block
            (ap (λ (numbers : List ℕ). times (numbers ++ get_or way (3 - length emptied) 0 ∷ []) block) clears.answered
            ∙ not_lowest way (length emptied) block clears.all.few differs)
            ∙ linked.others block none)
      ]

-- a whole way is what was found of it, the blocks that are emptied, and the leaf's
whole_again : (way : List ℕ) (count : ℕ) → count ≤ 3 → length way ≡ 5
    → whole_way (take (4 - count) way) (reverse (lowest_blocks way count)) (get_or way 4 0) ≡ way
whole_again [] count few five = absurd (omega arith)
whole_again (a ∷ []) count few five = absurd (omega arith)
whole_again (a ∷ b ∷ []) count few five = absurd (omega arith)
whole_again (a ∷ b ∷ c ∷ []) count few five = absurd (omega arith)
whole_again (a ∷ b ∷ c ∷ d ∷ []) count few five = absurd (omega arith)
whole_again (a ∷ b ∷ c ∷ d ∷ e ∷ f ∷ rest) count few five = absurd (omega arith)
whole_again (a ∷ b ∷ c ∷ d ∷ e ∷ []) count few five = go count few
  where
    go : (k : ℕ) → k ≤ 3
        → whole_way (take (4 - k) (a ∷ b ∷ c ∷ d ∷ e ∷ [])) (reverse (take k (d ∷ c ∷ b ∷ []))) e
        ≡ a ∷ b ∷ c ∷ d ∷ e ∷ []
    go zero low = refl
    go (suc zero) low = refl
    go (suc (suc zero)) low = refl
    go (suc (suc (suc zero))) low = refl
    go (suc (suc (suc (suc k)))) low = absurd (omega arith)

-- a leaf was unlinked, and linked again
module _ (old between new way emptied : List ℕ) (blocks id : ℕ) (five : length way ≡ 5)
    (clears : ClearsWay way emptied id old between) (loses : LosesLeaf way emptied id blocks old between)
    (sets : SetsWay (take (4 - length emptied) way) (reverse emptied) id (get_or way 4 0) between new) where
  whole_is : whole_way (take (4 - length emptied) way) (reverse emptied) (get_or way 4 0) ≡ way
  whole_is =
      ap (λ (numbers : List ℕ).
      whole_way (take (4 - length emptied) way) (reverse numbers) (get_or way 4 0)) clears.answered
      ∙ whole_again way (length emptied) clears.all.few five

  long : length (take (4 - length emptied) way) ≡ suc (3 - length emptied)
  long = let few : length emptied ≤ 3 = clears.all.few in omega (arith, length-take (4 - length emptied) way, five, few)

  along_again : LeadsAlong way (3 - length emptied) id between new
  along_again =
      leads_as (whole_way (take (4 - length emptied) way) (reverse emptied) (get_or way 4 0)) way
      (length (take (4 - length emptied) way) - 1) (3 - length emptied) id between between new
      whole_is (ap (λ (n : ℕ). n - 1) long ∙ sub_one (3 - length emptied)) refl sets.words
    where
      sub_one : (k : ℕ) → suc k - 1 ≡ k
      sub_one k = omega arith

  not_changed : (block : ℕ) → ((digits : ℕ) → 3 - length emptied ≤ digits → digits < 4 → get_or way digits 0 ≢ block)
      → times (changed_blocks (take (4 - length emptied) way) (reverse emptied)) block ≡ 0
  not_changed block differs =
      let gone : ℕ = 3 - length emptied in
      let few : length emptied ≤ 3 = clears.all.few in
      let all : length (take (4 - length emptied) way) + length (reverse emptied) ≡ 4 =
      omega (arith, long, few, length-reverse emptied) in
      ap (λ (numbers : List ℕ). times numbers block)
      (sym (changed_are (take (4 - length emptied) way) (reverse emptied) (get_or way 4 0) gone long all)
      ∙ ap (λ (w : List ℕ). stretch w gone (4 - gone)) whole_is)
      ∙ not_in_stretch way gone (4 - gone) block (λ k from to. differs k from (omega arith))

  pub redone_words : (block digit : ℕ) → word_at new block digit ≡ word_at old block digit
  redone_words block digit = elim (among way (3 - length emptied) block 4) [
    | inl there ↦
        let was : HasWord (get_or way there.0 0) (4 * digit_on_way id there.0) (get_or way (suc there.0) 0) between
        old = loses.along there.0 there.1 there.2 in
        let is : HasWord (get_or way there.0 0) (4 * digit_on_way id there.0) (get_or way (suc there.0) 0) between new =
        along_again there.0 there.1 there.2 in
        subst (λ (n : ℕ). word_at new n digit ≡ word_at old n digit) there.3
        (elim (cases_eq digit (digit_on_way id there.0)) [
          | inl same ↦ ap (word_at new (get_or way there.0 0)) same ∙ is.is
              ∙ sym (ap (word_at old (get_or way there.0 0)) same ∙ was.is)
          | inr other ↦ word_kept (get_or way there.0 0) (digit_on_way id there.0) (get_or way (suc there.0) 0) digit
              between new is other
              ∙ sym (word_kept (get_or way there.0 0) (digit_on_way id there.0) (get_or way (suc there.0) 0) digit
              between old was other)
        ])
    | inr none ↦
        ap (λ (bytes : List ℕ). word_in bytes digit)
        (sets.keeps.others block (not_changed block none)
        ∙ clears.keeps.others block
        (ap (λ (numbers : List ℕ). times (numbers ++ get_or way (3 - length emptied) 0 ∷ []) block) clears.answered
        ∙ not_lowest way (length emptied) block clears.all.few none))
  ]

-- nothing stands past the end of a list
nothing_behind : (xs : List ℕ) (count k : ℕ) → count ≤ k → slice_get (take count xs) k ≡ None
nothing_behind xs zero k past = refl
nothing_behind [] (suc count) k past = refl
nothing_behind (x ∷ xs) (suc count) zero past = absurd (omega arith)
nothing_behind (x ∷ xs) (suc count) (suc k) past = nothing_behind xs count k (omega arith)

-- an identifier whose leaf was unlinked leads to no data block
pub unlinked_gone : (old new way emptied : List ℕ) (blocks id : ℕ) → LosesLeaf way emptied id blocks old new
    → leaf_block new blocks id ≡ None
unlinked_gone old new way emptied blocks id loses =
    sym (fifth_is_leaf new blocks id)
    ∙ ap (λ (xs : List ℕ). slice_get xs 4) (sym loses.can.way)
    ∙ nothing_behind way (4 - length emptied) 4 (omega arith)
