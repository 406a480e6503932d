-- References that are written one after another along a way, each in a block of its own.
use Rattle.std.proofs.Common.{◌≡◌, ◌≢◌, ℕ, suc, ◌+◌, ◌-◌, ◌*◌, ◌<◌, ◌≤◌, List, [], ◌∷◌, ◌++◌, length, take, drop}
use Rattle.std.proofs.Common.{get_or, sym, ap, subst, ◌∙◌, inl, inr, arith, length-drop}
use Rattle.std.proofs.lemmas.Bool.{cases_eq, cases_lt}
use Rattle.std.proofs.lemmas.List.{get_or-drop, take_more}
use Rattle.quota_types.specs.Times.{times}
use Rattle.file_blocks.specs.Block.{block_of}
use Rattle.quota_pages.specs.Used.{HasWord}
use Rattle.quota_pages.specs.KeptBlocks.{KeepsBlocksBut}
use Rattle.quota_pages.proofs.UsedLemmas.{HasWord-earlier, HasWord-later}
use Rattle.quota_radix.specs.Link.{AreDistinct}
use Rattle.quota_radix.specs.Way.{digit_on_way}
use Rattle.quota_types.proofs.TimesLemmas.{only_one}
use Rattle.quota_radix.proofs.LinkWayLemmas.{not_in_stretch, stretch, stretch_apart}

not_alone : (x n : ℕ) → x ≢ n → times (x ∷ []) n ≡ 0
not_alone x n ne = elim (cases_lt 0 (times (x ∷ []) n)) [
  | inl stands ↦ absurd (ne (only_one x n stands))
  | inr none ↦ omega arith
]

-- References stand in the blocks of a way from some place to another, and one more is written at the latter. That
-- changes its block alone. The blocks of the way are distinct.
pub record WritesReference (way : List ℕ) (first id place at value : ℕ) (old between new : List ℕ) : Type 0 where
  pub five : length way ≡ 5
  pub from : first ≤ place
  pub few : place < 4
  pub distinct : AreDistinct (stretch way first (4 - first))
  pub kept : KeepsBlocksBut (stretch way first (place - first)) old between
  pub so_far : (digits : ℕ) → first ≤ digits → digits < place
      → HasWord (get_or way digits 0) (4 * digit_on_way id digits) (get_or way (suc digits) 0) old between
  pub at_is : at ≡ 4 * digit_on_way id place
  pub value_is : value ≡ get_or way (suc place) 0
  pub set : HasWord (get_or way place 0) at value between new
  pub keeps : KeepsBlocksBut (get_or way place 0 ∷ []) between new

-- the references that were written so far, with one more
pub leads_more : {way : List ℕ} {first id place at value : ℕ} {old between new : List ℕ}
    → WritesReference way first id place at value old between new
    → (digits : ℕ) → first ≤ digits → digits < place + 1
    → HasWord (get_or way digits 0) (4 * digit_on_way id digits) (get_or way (suc digits) 0) old new
leads_more {way} {first} {id} {place} {at} {value} {old} {between} {new} w digits above below =
    let apart : (j k : ℕ) → first ≤ j → j < k → k < first + (4 - first) → get_or way j 0 ≢ get_or way k 0 =
    λ j k low lt high.
    stretch_apart way first (4 - first) j k (omega (arith, w.five, w.from, w.few)) w.distinct low lt high in
    elim (cases_eq digits place) [
      | inl same ↦
          let untouched : block_of between (get_or way place 0) ≡ block_of old (get_or way place 0) =
          w.kept.others (get_or way place 0)
          (not_in_stretch way first (place - first) (get_or way place 0)
          (λ k low lt. apart k place low (omega (arith, w.from)) (omega (arith, w.from, w.few)))) in
          subst (λ (k : ℕ). HasWord (get_or way k 0) (4 * digit_on_way id k) (get_or way (suc k) 0) old new) (sym same)
          (subst (λ (n : ℕ). HasWord (get_or way place 0) (4 * digit_on_way id place) n old new) w.value_is
          (subst (λ (n : ℕ). HasWord (get_or way place 0) n value old new) w.at_is
          (HasWord-earlier (get_or way place 0) at value old between new untouched w.set)))
      | inr other ↦
          let before : digits < place = omega arith in
          HasWord-later (get_or way digits 0) (4 * digit_on_way id digits) (get_or way (suc digits) 0) old between new
          (w.so_far digits above before)
          (w.keeps.others (get_or way digits 0)
          (not_alone (get_or way place 0) (get_or way digits 0)
          (λ same. apart digits place above before (omega (arith, w.from, w.few)) (sym same))))
    ]

-- a stretch of a way with one more block
pub stretch_more : (way : List ℕ) (first place : ℕ) → first ≤ place → place < length way
    → stretch way first (place + 1 - first) ≡ stretch way first (place - first) ++ get_or way place 0 ∷ []
stretch_more way first place from low =
    let more : place + 1 - first ≡ place - first + 1 = omega arith in
    let here : first + (place - first) ≡ place = omega arith in
    ap (λ (k : ℕ). take k (drop first way)) more
    ∙ take_more (drop first way) (place - first) 0 (omega (arith, from, low, length-drop first way))
    ∙ ap (λ (n : ℕ). take (place - first) (drop first way) ++ n ∷ [])
    (get_or-drop first way (place - first) 0 ∙ ap (λ (k : ℕ). get_or way k 0) here)
