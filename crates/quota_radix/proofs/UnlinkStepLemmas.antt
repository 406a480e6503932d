-- What was cleared of a way so far, over a buffer of pages.
use Rattle.std.proofs.Common.{true, ◌≡◌, ℕ, ◌+◌, ◌-◌, ◌*◌, ◌<◌, ◌≤◌, Bool, List, [], ◌∷◌, ◌++◌, length, take, get_or}
use Rattle.std.proofs.Common.{sym, subst, inl, inr, arith}
use Rattle.std.proofs.lemmas.Bool.{cases_eq}
use Rattle.outside.specs.Seen.{StoreSeen}
use Rattle.quota_pages.specs.Used.{HasWord, IsKnown, LendsSome, LooksAtSome, shown_over}
use Rattle.quota_pages.specs.declared.page_buffer.Pages.{Pages}
use Rattle.quota_pages.proofs.UsedLemmas.{lends_then, lends_then_looks, shown_over-lends, shown_over-looks}
use Rattle.quota_radix.specs.Link.{AreDistinct}
use Rattle.quota_radix.specs.TreeDefect.{IsEmpty}
use Rattle.quota_radix.specs.Unlink.{ClearsAlong, lowest_blocks}
use Rattle.quota_radix.specs.Way.{digit_on_way}
use Rattle.quota_radix.proofs.UnlinkWordLemmas.{clears_more, empty_more, lowest_more}

-- The references of a way were cleared from one on, and pages of these blocks were lent for that; this many of its
-- lowest blocks are empty.
pub record IsClearedFrom (first count : ℕ) (numbers : List ℕ) (way : List ℕ) (id : ℕ) (tells : Bool)
    (before now : StoreSeen) (old new : Pages) : Type 0 where
  pub lends : LendsSome tells true 0 numbers before now old new
  pub words : IsKnown tells before old → AreDistinct (take 4 way)
      → ClearsAlong way first id (shown_over before old) (shown_over now new)
  pub empty : IsKnown tells before old → AreDistinct (take 4 way) → (place : ℕ) → 3 - count < place → place < 4
      → IsEmpty (shown_over now new) (get_or way place 0)

-- one more reference was cleared
pub cleared_more : {tells : Bool} {before between now : StoreSeen} {old middle new : Pages} (way : List ℕ)
    (id count at none : ℕ) → length way ≡ 5 → count ≤ 3
    → IsClearedFrom (4 - count) count (lowest_blocks way count) way id tells before between old middle
    → at ≡ 4 * digit_on_way id (3 - count) → none ≡ 0
    → (IsKnown tells between middle
    → HasWord (get_or way (3 - count) 0) at 0 (shown_over between middle) (shown_over now new))
    → LendsSome tells true none (get_or way (3 - count) 0 ∷ []) between now middle new
    → IsClearedFrom (3 - count) count (lowest_blocks way count ++ get_or way (3 - count) 0 ∷ []) way id tells
    before now old new
cleared_more {tells} {before} {between} {now} {old} {middle} {new} way id count at none five few kept at_is none_is set
    lends = record {
      lends = let all : 0 + none ≡ 0 = omega (arith, none_is) in
          subst
          (λ (k : ℕ). LendsSome tells true k (lowest_blocks way count ++ get_or way (3 - count) 0 ∷ []) before now old
          new) all (lends_then kept.lends lends);
      words = λ known distinct.
          clears_more way count id at (shown_over before old) (shown_over between middle) (shown_over now new)
          five few distinct
          (shown_over-lends kept.lends) (kept.words known distinct) at_is (set (kept.lends.known known))
          (shown_over-lends lends);
      empty = λ known distinct.
          empty_more way count (shown_over between middle) (shown_over now new) five few distinct
          (kept.empty known distinct) (shown_over-lends lends);
    }

-- pages were looked at
pub cleared_looks : {tells : Bool} {first count id : ℕ} {numbers way : List ℕ} {before between now : StoreSeen}
    {old middle new : Pages} → IsClearedFrom first count numbers way id tells before between old middle
    → LooksAtSome tells true 0 between now middle new
    → IsClearedFrom first count numbers way id tells before now old new
cleared_looks {first = first} {id = id} {way = way} {before = before} {old = old} kept looks = record {
  lends = lends_then_looks kept.lends looks;
  words = λ known distinct. subst (λ (file : List ℕ). ClearsAlong way first id (shown_over before old) file)
      (sym (shown_over-looks looks)) (kept.words known distinct);
  empty = λ known distinct place below low. subst (λ (file : List ℕ). IsEmpty file (get_or way place 0))
      (sym (shown_over-looks looks)) (kept.empty known distinct place below low);
}

-- the block whose reference was cleared last is empty too
pub cleared_next : {tells : Bool} {before now : StoreSeen} {old new : Pages} (way : List ℕ) (id count : ℕ) → count < 3
    → IsClearedFrom (3 - count) count (lowest_blocks way count ++ get_or way (3 - count) 0 ∷ []) way id tells
    before now old new
    → (IsKnown tells before old → IsEmpty (shown_over now new) (get_or way (3 - count) 0))
    → IsClearedFrom (4 - (count + 1)) (count + 1) (lowest_blocks way (count + 1)) way id tells before now old new
cleared_next {tells} {before} {now} {old} {new} way id count few kept empty = record {
  lends = subst (λ (numbers : List ℕ). LendsSome tells true 0 numbers before now old new)
      (sym (lowest_more way count few)) kept.lends;
  words = λ known distinct digits from low. kept.words known distinct digits (omega arith) low;
  empty = λ known distinct place below low. elim (cases_eq place (3 - count)) [
    | inl same ↦ subst (λ (k : ℕ). IsEmpty (shown_over now new) (get_or way k 0)) (sym same) (empty known)
    | inr other ↦ kept.empty known distinct place (omega arith) low
  ];
}
