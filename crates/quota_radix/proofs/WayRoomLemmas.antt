-- Room for the blocks of the tree on the way of an identifier.
use Rattle.std.proofs.Common.{◌≡◌, ℕ, ◌+◌, ◌-◌, ◌<◌, ◌≤◌, true, List, [], ◌∷◌, ◌++◌, length, inl, inr, ap, ◌∙◌, arith}
use Rattle.std.specs.List.{cons_option, filter_map, range_with_len}
use Rattle.std.specs.Prelude.{Option}
use Rattle.std.proofs.lemmas.List.Elements.{filter_map-append}
use Rattle.quota_types.proofs.TimesLemmas.{range_with_len-add}
use Rattle.quota_pages.specs.Page.{Page, is_buffered}
use Rattle.quota_pages.specs.Used.{HasRoomWithin, missing, missing_among}
use Rattle.quota_pages.proofs.UsedLemmas.{missing-stay}
use Rattle.quota_pages.proofs.UsesLemmas.{missing_among-append, missing_among-cons, missing_among-nil}
use Rattle.quota_radix.specs.Way.{tree_on_way}
use Rattle.quota_radix.specs.OnWay.{block_on_way}
use Rattle.quota_radix.proofs.AlongLemmas.{IsAlong, given_more}

-- the blocks to which the first digits of an identifier lead, fewer than this many of them
abbrev pub first_on_way : List ℕ → (blocks id gone : ℕ) → List ℕ
first_on_way file blocks id gone = filter_map (block_on_way file blocks id) (range_with_len 0 gone)

first_more : (file : List ℕ) (blocks id gone block : ℕ) (found : List ℕ) → IsAlong file blocks id gone block found
    → first_on_way file blocks id (gone + 1) ≡ first_on_way file blocks id gone ++ block ∷ []
first_more file blocks id gone block found along =
    given_more (block_on_way file blocks id) gone
    ∙ ap (λ (o : Option ℕ). first_on_way file blocks id gone ++ cons_option o []) along.led

-- they are the first of those of the tree on its way
first_of_tree : (file : List ℕ) (blocks id gone : ℕ) → gone < 4
    → tree_on_way file blocks id
    ≡ first_on_way file blocks id (gone + 1)
    ++ filter_map (block_on_way file blocks id) (range_with_len (0 + (gone + 1)) (3 - gone))
unfolding tree_on_way
first_of_tree file blocks id gone few =
    let whole : 4 ≡ gone + 1 + (3 - gone) = omega arith in
    ap (λ (k : ℕ). filter_map (block_on_way file blocks id) (range_with_len 0 k)) whole
    ∙ ap (filter_map (block_on_way file blocks id)) (range_with_len-add 0 (gone + 1) (3 - gone))
    ∙ filter_map-append (block_on_way file blocks id) (range_with_len 0 (gone + 1))
    (range_with_len (0 + (gone + 1)) (3 - gone))

-- one more was looked at
pub first_looked : (old now next : List Page) (file : List ℕ) (blocks id gone block : ℕ) (found : List ℕ)
    → IsAlong file blocks id gone block found
    → ((other : ℕ) → is_buffered old other ≡ true → is_buffered now other ≡ true)
    → length now ≤ length old + missing_among old (first_on_way file blocks id gone)
    → length next ≤ length now + missing now block
    → length next ≤ length old + missing_among old (first_on_way file blocks id (gone + 1))
first_looked old now next file blocks id gone block found along stay few more =
    omega (
      arith,
      few,
      more,
      missing-stay old now block (stay block),
      ap (missing_among old) (first_more file blocks id gone block found along),
      missing_among-append old (first_on_way file blocks id gone) (block ∷ []),
      missing_among-cons old block [],
      missing_among-nil old,
    )

-- and there is room for the next one
pub way_room : {K : Type 0} (old now : List Page) (file : List ℕ) (blocks id gone block : ℕ) → gone < 4
    → HasRoomWithin K old 4 (tree_on_way file blocks id)
    → (K → (found : List ℕ) × IsAlong file blocks id gone block found)
    → ((other : ℕ) → is_buffered old other ≡ true → is_buffered now other ≡ true) → length now ≤ length old + gone
    → (K → length now ≤ length old + missing_among old (first_on_way file blocks id gone)) → 1 ≤ missing now block
    → length now < 12
way_room old now file blocks id gone block low room along stay most few lacks = elim room [
  | inl many ↦ omega (arith, many, most, low)
  | inr exact ↦
      let way = along exact.0 in
      let behind = filter_map (block_on_way file blocks id) (range_with_len (0 + (gone + 1)) (3 - gone)) in
      omega (
        arith,
        exact.1,
        few exact.0,
        lacks,
        missing-stay old now block (stay block),
        ap (missing_among old) (first_of_tree file blocks id gone low),
        missing_among-append old (first_on_way file blocks id (gone + 1)) behind,
        ap (missing_among old) (first_more file blocks id gone block way.0 way.1),
        missing_among-append old (first_on_way file blocks id gone) (block ∷ []),
        missing_among-cons old block [],
        missing_among-nil old,
      )
]
