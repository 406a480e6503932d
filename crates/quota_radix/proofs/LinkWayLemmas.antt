-- The way of an identifier whose leaf is added: the blocks that were found on it, the fresh ones, and the leaf's.
use Rattle.std.proofs.Common.{◌≡◌, ◌≢◌, ℕ, zero, suc, ◌+◌, ◌-◌, ◌*◌, ◌/◌, ◌%◌, ◌^◌, ◌<◌, ◌≤◌, true, IsTrue, List, []}
use Rattle.std.proofs.Common.{◌∷◌, ◌++◌, length, map, take, drop, get_or, Option, Some, None, refl, sym, ap, subst, ◌∙◌}
use Rattle.std.proofs.Common.{inl, inr, arith, length-append, length-take, length-drop}
use Rattle.std.specs.List.{cons_option, filter_map, range_with_len}
use Rattle.std.proofs.lemmas.Bool.{cases_lt}
use Rattle.std.proofs.lemmas.List.{ext_get_or, get_or-append-add, get_or-drop, get_or-take, get_or_append_left}
use Rattle.std.proofs.lemmas.List.{get_or_at, take_more}
use Rattle.std.proofs.lemmas.List.FromFn.{get_or-map-range_with_len, length-map-range_with_len}
use Rattle.quota_types.specs.Times.{StandsIn, times}
use Rattle.file_blocks.specs.Block.{leads}
use Rattle.quota_radix.specs.OnWay.{block_led_to, block_on_way, blocks_on_way}
use Rattle.quota_radix.specs.Link.{AreBuffered, AreDistinct, IsLinkable, LeadsAlong, changed_blocks, path_along}
use Rattle.quota_radix.specs.Link.{whole_way}
use Rattle.quota_radix.specs.declared.tree_path.TreePath.{TreePath}
use Rattle.quota_radix.specs.Tree.{tree_blocks}
use Rattle.quota_radix.specs.Way.{digit_on_way}
use Rattle.quota_types.proofs.TimesLemmas.{only_one, stands_cons, stands_either, times-append, times-cons-same}
use Rattle.quota_types.proofs.TimesLemmas.{StandsIn-get_or}
use Rattle.quota_pages.specs.Page.{Page, is_buffered}
use Rattle.quota_pages.specs.Used.{HasWord}
use Rattle.quota_pages.specs.KeptBlocks.{KeepsBlocksBut}
use Rattle.quota_radix.proofs.AlongLemmas.{none_later}
use Rattle.quota_radix.proofs.DescentLemmas.{option_cases}
use Rattle.quota_radix.proofs.LinkPathLemmas.{IsLinked, front_of, last_in_tree}

-- what stands in a list has a place
pub place_of : (xs : List ℕ) (n : ℕ) → StandsIn xs n → (k : ℕ) × (k < length xs) × (get_or xs k 0 ≡ n)
place_of [] n stands = absurd (omega arith)
place_of (x ∷ xs) n stands = elim (stands_cons x xs n stands) [
  | inl same ↦ (0, omega arith, same)
  | inr later ↦ let rest = place_of xs n later in (suc rest.0, omega (arith, rest.1), rest.2)
]

-- numbers of a list that are distinct differ at different places
pub apart_at : (xs : List ℕ) → AreDistinct xs → (j k : ℕ) → j < k → k < length xs → get_or xs j 0 ≢ get_or xs k 0
apart_at [] distinct j k lt low same = absurd (omega arith)
apart_at (x ∷ xs) distinct j zero lt low same = absurd (omega arith)
apart_at (x ∷ xs) distinct zero (suc k) lt low same =
    let stands : StandsIn xs x = subst (λ (n : ℕ). StandsIn xs n) (sym same) (StandsIn-get_or xs k (omega arith)) in
    omega (arith, stands, distinct x, times-cons-same x xs)
apart_at (x ∷ xs) distinct (suc j) (suc k) lt low same =
    apart_at xs (λ n. omega (arith, distinct n, times-append (x ∷ []) xs n)) j k (omega arith) (omega arith) same

-- blocks that are buffered, with one more
pub buffered_more : (pages : List Page) (numbers : List ℕ) (i : ℕ) → i < length numbers
    → AreBuffered pages (take i numbers) → is_buffered pages (get_or numbers i 0) ≡ true
    → AreBuffered pages (take (i + 1) numbers)
buffered_more pages numbers i low so_far there n stands =
    elim (stands_either (take i numbers) (get_or numbers i 0 ∷ []) n
    (subst (λ (ns : List ℕ). StandsIn ns n) (take_more numbers i 0 low) stands)) [
      | inl before ↦ so_far n before
      | inr last ↦ ap (is_buffered pages) (sym (only_one (get_or numbers i 0) n last)) ∙ there
    ]

-- the blocks of a way from one place on, up to another
abbrev pub stretch : List ℕ → (first count : ℕ) → List ℕ
stretch way first count = take count (drop first way)

pub stretch_at : (way : List ℕ) (first count k : ℕ) → k < count
    → get_or (stretch way first count) k 0 ≡ get_or way (first + k) 0
stretch_at way first count k low = get_or-take count (drop first way) k 0 low ∙ get_or-drop first way k 0

pub length-stretch : (way : List ℕ) (first count : ℕ) → first + count ≤ length way
    → length (stretch way first count) ≡ count
length-stretch way first count within = omega (arith, within, length-take count (drop first way), length-drop first way)

-- blocks of a stretch that are distinct differ
pub stretch_apart : (way : List ℕ) (first count j k : ℕ) → first + count ≤ length way
    → AreDistinct (stretch way first count) → first ≤ j → j < k → k < first + count → get_or way j 0 ≢ get_or way k 0
stretch_apart way first count j k within distinct from lt to same =
    let j' : ℕ = j - first in
    let k' : ℕ = k - first in
    let j_is : first + j' ≡ j = omega arith in
    let k_is : first + k' ≡ k = omega arith in
    let low : k' < count = omega arith in
    apart_at (stretch way first count) distinct j' k' (omega arith)
    (omega (arith, low, length-stretch way first count within))
    (stretch_at way first count j' (omega arith) ∙ ap (λ (n : ℕ). get_or way n 0) j_is ∙ same
    ∙ ap (λ (n : ℕ). get_or way n 0) (sym k_is)
    ∙ sym (stretch_at way first count k' low))

-- a block of a way that differs from those of a stretch is none of them
pub not_in_stretch : (way : List ℕ) (first count n : ℕ) → ((k : ℕ) → first ≤ k → k < first + count → get_or way k 0 ≢ n)
    → times (stretch way first count) n ≡ 0
not_in_stretch way first count n differs = elim (cases_lt 0 (times (stretch way first count) n)) [
  | inl stands ↦
      let place = place_of (stretch way first count) n stands in
      let low : place.0 < count = omega (arith, place.1, length-take count (drop first way)) in
      absurd
      (differs (first + place.0) (omega arith) (omega arith) (sym (stretch_at way first count place.0 low) ∙ place.2))
  | inr none ↦ omega arith
]

pub in_stretch : (way : List ℕ) (first count k : ℕ) → first + count ≤ length way → first ≤ k → k < first + count
    → StandsIn (stretch way first count) (get_or way k 0)
in_stretch way first count k within from to =
    let k' : ℕ = k - first in
    let k_is : first + k' ≡ k = omega arith in
    let low : k' < count = omega arith in
    subst (λ (n : ℕ). StandsIn (stretch way first count) n)
    (stretch_at way first count k' low ∙ ap (λ (n : ℕ). get_or way n 0) k_is)
    (StandsIn-get_or (stretch way first count) k' (omega (arith, low, length-stretch way first count within)))

module _ (found fresh : List ℕ) (leaf_block gone : ℕ) (some : length found ≡ suc gone)
    (five : length found + length fresh ≡ 4) where
  pub length_way : length (whole_way found fresh leaf_block) ≡ 5
  length_way = omega (arith, length-append (found ++ fresh) (leaf_block ∷ []), length-append found fresh, five)

  pub way_found : (digits : ℕ) → digits ≤ gone
      → get_or (whole_way found fresh leaf_block) digits 0 ≡ get_or found digits 0
  way_found digits low =
      get_or_append_left (found ++ fresh) (leaf_block ∷ []) 0 digits
      (omega (arith, low, some, length-append found fresh))
      ∙ get_or_append_left found fresh 0 digits (omega (arith, low, some))

  pub way_fresh : (k : ℕ) → k < length fresh
      → get_or (whole_way found fresh leaf_block) (suc gone + k) 0 ≡ get_or fresh k 0
  way_fresh k low =
      get_or_append_left (found ++ fresh) (leaf_block ∷ []) 0 (suc gone + k)
      (omega (arith, low, some, length-append found fresh))
      ∙ ap (λ (n : ℕ). get_or (found ++ fresh) (n + k) 0) (sym some)
      ∙ get_or-append-add found fresh k 0

  pub way_leaf : get_or (whole_way found fresh leaf_block) 4 0 ≡ leaf_block
  way_leaf = get_or_at (found ++ fresh) leaf_block [] 0 4 (length-append found fresh ∙ five)

  -- each block behind the found ones is a fresh one
  pub way_in_fresh : (digits : ℕ) → gone < digits → digits < 4
      → StandsIn fresh (get_or (whole_way found fresh leaf_block) digits 0)
  way_in_fresh digits below few =
      let k : ℕ = digits - suc gone in
      let is : suc gone + k ≡ digits = omega arith in
      let low : k < length fresh = omega (arith, some, five) in
      subst (λ (n : ℕ). StandsIn fresh n)
      (sym (ap (λ (n : ℕ). get_or (whole_way found fresh leaf_block) n 0) (sym is) ∙ way_fresh k low))
      (StandsIn-get_or fresh k low)

  pub fresh_is : fresh
      ≡ map (λ (k : ℕ). get_or (whole_way found fresh leaf_block) k 0) (range_with_len (suc gone) (3 - gone))
  fresh_is =
      let f : ℕ → ℕ = λ k. get_or (whole_way found fresh leaf_block) k 0 in
      let long : length fresh ≡ 3 - gone = omega (arith, some, five) in
      ext_get_or 0 fresh (map f (range_with_len (suc gone) (3 - gone)))
      (long ∙ sym (length-map-range_with_len f (suc gone) (3 - gone)))
      (λ i lt. sym (get_or-map-range_with_len f (suc gone) (3 - gone) i (suc gone + i) 0 (omega (arith, lt, long)) refl
      ∙ way_fresh i lt))

  -- the blocks that change are those of the way from the last found one on
  pub changed_are : stretch (whole_way found fresh leaf_block) gone (4 - gone) ≡ changed_blocks found fresh
  changed_are =
      let way : List ℕ = whole_way found fresh leaf_block in
      let few : gone < 4 = omega (arith, some, five) in
      let long : length (stretch way gone (4 - gone)) ≡ 4 - gone =
      length-stretch way gone (4 - gone) (omega (arith, length_way, few)) in
      ext_get_or 0 (stretch way gone (4 - gone)) (changed_blocks found fresh)
      (omega (arith, long, some, five))
      (λ i lt. changed_at i (omega (arith, lt, long)))
    where
      changed_at : (i : ℕ) → i < 4 - gone
          → get_or (stretch (whole_way found fresh leaf_block) gone (4 - gone)) i 0
          ≡ get_or (changed_blocks found fresh) i 0
      changed_at zero low =
          let here : gone + zero ≡ gone = omega arith in
          let last : gone ≡ length found - 1 = omega (arith, some) in
          stretch_at (whole_way found fresh leaf_block) gone (4 - gone) zero low
          ∙ ap (λ (n : ℕ). get_or (whole_way found fresh leaf_block) n 0) here
          ∙ way_found gone (omega arith)
          ∙ ap (λ (n : ℕ). get_or found n 0) last
      changed_at (suc i) low =
          let next : gone + suc i ≡ suc gone + i = omega arith in
          stretch_at (whole_way found fresh leaf_block) gone (4 - gone) (suc i) low
          ∙ ap (λ (n : ℕ). get_or (whole_way found fresh leaf_block) n 0) next
          ∙ way_fresh i (omega (arith, low, some, five))

-- places of a list of options that ends with its first none
module _ (f : ℕ → Option ℕ) (high : ℕ) (ends : (d : ℕ) → suc d < high → f d ≡ None → f (suc d) ≡ None) where
  none_on : (first count : ℕ) → first + count ≤ high → f first ≡ None → filter_map f (range_with_len first count) ≡ []
  none_on first zero within none = refl
  none_on first (suc zero) within none = ap (λ (o : Option ℕ). cons_option o []) none
  none_on first (suc (suc count)) within none =
      let next : first + 1 ≡ suc first = omega arith in
      ap (λ (o : Option ℕ). cons_option o (filter_map f (range_with_len (first + 1) (suc count)))) none
      ∙ none_on (first + 1) (suc count) (omega arith) (ap f next ∙ ends first (omega arith) none)

  pub some_at : (first count k : ℕ) → first + count ≤ high → k < length (filter_map f (range_with_len first count))
      → f (first + k) ≡ Some (get_or (filter_map f (range_with_len first count)) k 0)
  some_at first zero k within low = absurd (omega arith)
  some_at first (suc count) k within low =
      let rest : List ℕ = filter_map f (range_with_len (first + 1) count) in
      elim (option_cases (f first)) [
        | inl none ↦
            absurd (omega (arith, low, ap (λ (xs : List ℕ). length xs) (none_on first (suc count) within none)))
        | inr here ↦
            let is : filter_map f (range_with_len first (suc count)) ≡ here.0 ∷ rest =
            ap (λ (o : Option ℕ). cons_option o rest) here.1 in
            subst (λ (xs : List ℕ). f (first + k) ≡ Some (get_or xs k 0)) (sym is)
            (at_place k here.0 rest here.1 (λ j few. some_at (first + 1) count j (omega arith) few) (omega (
              arith,
              low,
              ap (λ (xs : List ℕ). length xs) is,
            )))
      ]
    where
      at_place : (k x : ℕ) (xs : List ℕ) → f first ≡ Some x
          → ((j : ℕ) → j < length xs → f (first + 1 + j) ≡ Some (get_or xs j 0)) → k < suc (length xs)
          → f (first + k) ≡ Some (get_or (x ∷ xs) k 0)
      at_place zero x xs is onward low = let same : first + zero ≡ first = omega arith in ap f same ∙ is
      at_place (suc k) x xs is onward low =
          let next : first + suc k ≡ first + 1 + k = omega arith in ap f next ∙ onward k (omega arith)

  none_behind : (first count : ℕ) → first + count ≤ high → length (filter_map f (range_with_len first count)) < count
      → f (first + length (filter_map f (range_with_len first count))) ≡ None
  none_behind first zero within low = absurd (omega arith)
  none_behind first (suc count) within low =
      let rest : List ℕ = filter_map f (range_with_len (first + 1) count) in
      elim (option_cases (f first)) [
        | inl none ↦
            let is : filter_map f (range_with_len first (suc count)) ≡ [] = none_on first (suc count) within none in
            let same : first + length (filter_map f (range_with_len first (suc count))) ≡ first =
            omega (arith, ap (λ (xs : List ℕ). length xs) is) in
            ap f same ∙ none
        | inr here ↦
            let is : length (filter_map f (range_with_len first (suc count))) ≡ suc (length rest) =
            ap (λ (o : Option ℕ). length (cons_option o rest)) here.1 in
            let next : first + length (filter_map f (range_with_len first (suc count))) ≡ first + 1 + length rest =
            omega (arith, is) in
            ap f next ∙ none_behind (first + 1) count (omega arith) (omega (arith, low, is))
      ]

pub ends_on_way : (file : List ℕ) (blocks id d : ℕ) → suc d < 5 → block_on_way file blocks id d ≡ None
    → block_on_way file blocks id (suc d) ≡ None
ends_on_way file blocks id d low none = none_later file blocks id d (suc d) none (omega arith) (omega arith)

-- the last block of a way that ends before the leaf, and that it ends there
pub way_last : (file found : List ℕ) (blocks id gone : ℕ) → found ≡ blocks_on_way file blocks id
    → length found ≡ suc gone → block_led_to file blocks gone (front_of id gone) ≡ Some (get_or found gone 0)
unfolding block_on_way blocks_on_way
way_last file found blocks id gone is some =
    let f : ℕ → Option ℕ = block_on_way file blocks id in
    let here : 0 + gone ≡ gone = omega arith in
    ap f (sym here)
    ∙ some_at f 5 (ends_on_way file blocks id) 0 5 gone (omega arith)
    (omega (arith, some, ap (λ (xs : List ℕ). length xs) is))
    ∙ ap (λ (xs : List ℕ). Some (get_or xs gone 0)) (sym is)

pub way_end : (file found : List ℕ) (blocks id gone : ℕ) → found ≡ blocks_on_way file blocks id
    → length found ≡ suc gone → gone < 4 → block_led_to file blocks (suc gone) (front_of id (suc gone)) ≡ None
unfolding block_on_way blocks_on_way
way_end file found blocks id gone is some few =
    let f : ℕ → Option ℕ = block_on_way file blocks id in
    let long : length (filter_map f (range_with_len 0 5)) ≡ suc gone =
    omega (arith, some, ap (λ (xs : List ℕ). length xs) is) in
    let here : suc gone ≡ 0 + length (filter_map f (range_with_len 0 5)) = omega (arith, long) in
    ap f here ∙ none_behind f 5 (ends_on_way file blocks id) 0 5 (omega arith) (omega (arith, long, few))

pub digit_same : (id digits : ℕ) → digits < 4 → 4 * digit_on_way id digits ≡ 4 * (front_of id (suc digits) % 256)
unfolding digit_on_way
digit_same id digits few =
    let same : 3 - digits ≡ 4 - suc digits = omega arith in ap (λ (k : ℕ). 4 * (id / 256 ^ k % 256)) same

-- the leaf is linked, where it could be, the references along its way lead to its block, and nothing else changed
pub linked_along : (old new found fresh : List ℕ) (blocks id leaf_block gone : ℕ) → length found ≡ suc gone
    → length found + length fresh ≡ 4 → id < 2 ^ 32
    → IsLinkable old blocks found fresh id leaf_block
    → LeadsAlong (whole_way found fresh leaf_block) gone id old new
    → KeepsBlocksBut (changed_blocks found fresh) old new
    → IsLinked (whole_way found fresh leaf_block) gone id blocks old new
linked_along old new found fresh blocks id leaf_block gone some five small can along keeps =
    let way : List ℕ = whole_way found fresh leaf_block in
    let in_fresh : (digits : ℕ) → gone < digits → digits < 4 → StandsIn fresh (get_or way digits 0) =
    way_in_fresh found fresh leaf_block gone some five in
    record {
      few = omega (arith, some, five);
      small = small;
      once = can.once;
      led = way_last old found blocks id gone can.way some
          ∙ ap (λ (n : ℕ). Some n) (sym (way_found found fresh leaf_block gone some five gone (omega arith)));
      ends = way_end old found blocks id gone can.way some (omega (arith, some, five));
      blank = λ digits below few. can.blank (get_or way digits 0) (in_fresh digits below few);
      unused = λ digits below few. can.unused (get_or way digits 0) (in_fresh digits below few);
      leading = λ digits below few. elim (cases_lt digits 4) [
        | inl fewer ↦ can.within (get_or way digits 0) (in_fresh digits below fewer)
        | inr all ↦
            let is : digits ≡ 4 = omega arith in
            subst (λ (n : ℕ). IsTrue (leads blocks n))
            (sym (ap (λ (k : ℕ). get_or way k 0) is ∙ way_leaf found fresh leaf_block gone some five)) can.leaf
      ];
      words = λ digits from few.
          subst (λ (at : ℕ). HasWord (get_or way digits 0) at (get_or way (suc digits) 0) old new)
          (digit_same id digits few) (along digits from few);
      others = λ block differs.
          keeps.others block
          (ap (λ (numbers : List ℕ). times numbers block) (sym (changed_are found fresh leaf_block gone some five))
          ∙ not_in_stretch way gone (4 - gone) block (λ k from to. differs k from (omega (arith, to, some, five))));
    }

-- the blocks that change are distinct, where the fresh ones are, and are none of the tree
pub changed_distinct : (file found fresh : List ℕ) (blocks id leaf_block gone : ℕ) → length found ≡ suc gone → gone < 4
    → id < 2 ^ 32 → IsLinkable file blocks found fresh id leaf_block
    → AreDistinct (changed_blocks found fresh)
changed_distinct file found fresh blocks id leaf_block gone some few small can n =
    let last : ℕ = get_or found (length found - 1) 0 in
    let place : gone ≡ length found - 1 = omega (arith, some) in
    let in_tree : StandsIn (tree_blocks file blocks) last =
    last_in_tree file blocks id gone last small few
    (way_last file found blocks id gone can.way some ∙ ap (λ (k : ℕ). Some (get_or found k 0)) place) in
    elim (cases_lt 0 (times fresh n)) [
      | inl stands ↦
          let other : times (last ∷ []) n ≡ 0 = elim (cases_lt 0 (times (last ∷ []) n)) [
            | inl is ↦ absurd (omega (
              arith,
              in_tree,
              can.unused n stands,
              ap (λ (k : ℕ). times (tree_blocks file blocks) k) (only_one last n is),
            ))
            | inr none ↦ omega arith
          ] in
          omega (arith, other, can.distinct n, times-append (last ∷ []) fresh n)
      | inr none ↦ omega (arith, none, times-append (last ∷ []) fresh n, one_at_most last n)
    ]
  where
    one_at_most : (x n : ℕ) → times (x ∷ []) n ≤ 1
    one_at_most x n = elim (cases_lt 1 (times (x ∷ []) n)) [
      | inl more ↦ absurd (let is : x ≡ n = only_one x n (omega arith) in omega (
        arith,
        more,
        ap (λ (k : ℕ). times (x ∷ []) k) is,
        times-cons-same x [],
      ))
      | inr few ↦ omega arith
    ]

-- the leaf's own path
pub path_of_leaf : (found fresh : List ℕ) (id leaf_block gone : ℕ) → length found ≡ suc gone
    → length found + length fresh ≡ 4
    → path_along (whole_way found fresh leaf_block) id 4 ≡ record { number = id; block = leaf_block }
path_of_leaf found fresh id leaf_block gone some five =
    let whole : id / 1 ≡ id = omega arith in
    ap (λ (n : ℕ). let path : TreePath = record { number = n; block = get_or (whole_way found fresh leaf_block) 4 0 } in
    path) whole
    ∙ ap (λ (n : ℕ). let path : TreePath = record { number = id; block = n } in path)
    (way_leaf found fresh leaf_block gone some five)

-- a way that leads on, in other words
pub leads_as : (way way' : List ℕ) (first first' id : ℕ) (old old' new : List ℕ) → way ≡ way' → first ≡ first'
    → old ≡ old' → LeadsAlong way first id old new → LeadsAlong way' first' id old' new
leads_as way way' first first' id old old' new way_is first_is old_is along =
    subst (λ (w : List ℕ). LeadsAlong w first' id old' new) way_is
    (subst (λ (k : ℕ). LeadsAlong way k id old' new) first_is
    (subst (λ (file : List ℕ). LeadsAlong way first id file new) old_is along))

pub changed_as : (found fresh way : List ℕ) (leaf_block gone first : ℕ) → length found ≡ suc gone
    → length found + length fresh ≡ 4 → way ≡ whole_way found fresh leaf_block → first ≡ gone
    → stretch way first (4 - first) ≡ changed_blocks found fresh
changed_as found fresh way leaf_block gone first some five way_is first_is =
    ap (λ (w : List ℕ). stretch w first (4 - first)) way_is
    ∙ ap (λ (k : ℕ). stretch (whole_way found fresh leaf_block) k (4 - k)) first_is
    ∙ changed_are found fresh leaf_block gone some five

-- where the blocks that change are buffered, those of the way are
pub buffered_as : (found fresh way : List ℕ) (pages : List Page) (leaf_block first : ℕ)
    → length found ≡ suc (length found - 1) → length found + length fresh ≡ 4
    → way ≡ whole_way found fresh leaf_block → first ≡ length found - 1 → AreBuffered pages (changed_blocks found fresh)
    → AreBuffered pages (stretch way first (4 - first))
buffered_as found fresh way pages leaf_block first some five way_is first_is all n stands =
    all n (subst (λ (numbers : List ℕ). StandsIn numbers n)
    (changed_as found fresh way leaf_block (length found - 1) first some five way_is first_is) stands)
