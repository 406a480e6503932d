-- References that are cleared one after another up a way, each in a block of its own.
use Rattle.std.proofs.Common.{◌≡◌, ◌≢◌, ℕ, zero, suc, ◌+◌, ◌-◌, ◌*◌, ◌<◌, ◌≤◌, List, [], ◌∷◌, ◌++◌, length, take}
use Rattle.std.proofs.Common.{get_or, refl, sym, ap, subst, ◌∙◌, inl, inr, arith, length-take}
use Rattle.std.proofs.lemmas.Bool.{cases_eq, cases_lt}
use Rattle.std.proofs.lemmas.List.{get_or-take, take_more}
use Rattle.quota_types.specs.Times.{times}
use Rattle.quota_types.proofs.TimesLemmas.{times-cons-other}
use Rattle.file_blocks.specs.Block.{block_of}
use Rattle.quota_pages.specs.Used.{HasWord}
use Rattle.quota_pages.specs.KeptBlocks.{KeepsBlocksBut}
use Rattle.quota_pages.proofs.UsedLemmas.{HasWord-earlier, HasWord-later, keeps_beside}
use Rattle.quota_radix.specs.Link.{AreDistinct}
use Rattle.quota_radix.specs.TreeDefect.{IsEmpty}
use Rattle.quota_radix.specs.Unlink.{ClearsAlong, lowest_blocks}
use Rattle.quota_radix.specs.Way.{digit_on_way}
use Rattle.quota_radix.proofs.StepLemmas.{word_in}
use Rattle.quota_radix.proofs.LinkWayLemmas.{apart_at}

-- the tree blocks of a whole way that are distinct differ
pub way_apart : (way : List ℕ) → length way ≡ 5 → AreDistinct (take 4 way) → (one two : ℕ) → one < 4 → two < 4
    → one ≢ two → get_or way one 0 ≢ get_or way two 0
way_apart way five distinct one two few few' ne same =
    let long : length (take 4 way) ≡ 4 = omega (arith, five, length-take 4 way) in
    let there : get_or (take 4 way) one 0 ≡ get_or (take 4 way) two 0 =
    get_or-take 4 way one 0 few ∙ same ∙ sym (get_or-take 4 way two 0 few') in
    elim (cases_lt one two) [
      | inl above ↦ apart_at (take 4 way) distinct one two above (omega (arith, long, few')) there
      | inr below ↦ apart_at (take 4 way) distinct two one (omega arith) (omega (arith, long, few)) (sym there)
    ]

-- the lowest blocks of a way with one more
pub lowest_more : (way : List ℕ) (count : ℕ) → count < 3
    → lowest_blocks way (count + 1) ≡ lowest_blocks way count ++ get_or way (3 - count) 0 ∷ []
lowest_more way count few =
    let three : List ℕ = get_or way 3 0 ∷ get_or way 2 0 ∷ get_or way 1 0 ∷ [] in
    take_more three count 0 few ∙ ap (λ (n : ℕ). take count three ++ n ∷ []) (at count few)
  where
    at : (k : ℕ) → k < 3 → get_or (get_or way 3 0 ∷ get_or way 2 0 ∷ get_or way 1 0 ∷ []) k 0 ≡ get_or way (3 - k) 0
    at zero low = refl
    at (suc zero) low = refl
    at (suc (suc zero)) low = refl
    at (suc (suc (suc k))) low = absurd (omega arith)

-- the block above them is none of them
pub above_lowest : (way : List ℕ) (count : ℕ) → count ≤ 3
    → ((one two : ℕ) → one < 4 → two < 4 → one ≢ two → get_or way one 0 ≢ get_or way two 0)
    → times (lowest_blocks way count) (get_or way (3 - count) 0) ≡ 0
above_lowest way zero few apart = refl
above_lowest way (suc zero) few apart =
    times-cons-other (get_or way 3 0) [] (get_or way 2 0) (apart 3 2 (omega arith) (omega arith) (omega arith))
above_lowest way (suc (suc zero)) few apart =
    times-cons-other (get_or way 3 0) (get_or way 2 0 ∷ []) (get_or way 1 0)
    (apart 3 1 (omega arith) (omega arith) (omega arith))
    ∙ times-cons-other (get_or way 2 0) [] (get_or way 1 0) (apart 2 1 (omega arith) (omega arith) (omega arith))
above_lowest way (suc (suc (suc zero))) few apart =
    times-cons-other (get_or way 3 0) (get_or way 2 0 ∷ get_or way 1 0 ∷ []) (get_or way 0 0)
    (apart 3 0 (omega arith) (omega arith) (omega arith))
    ∙ times-cons-other (get_or way 2 0) (get_or way 1 0 ∷ []) (get_or way 0 0)
    (apart 2 0 (omega arith) (omega arith) (omega arith))
    ∙ times-cons-other (get_or way 1 0) [] (get_or way 0 0) (apart 1 0 (omega arith) (omega arith) (omega arith))
above_lowest way (suc (suc (suc (suc count)))) few apart = absurd (omega arith)

-- the references that were cleared so far, with one more
pub clears_more : (way : List ℕ) (count id at : ℕ) (old between new : List ℕ) → length way ≡ 5 → count ≤ 3
    → AreDistinct (take 4 way)
    → KeepsBlocksBut (lowest_blocks way count) old between → ClearsAlong way (4 - count) id old between
    → at ≡ 4 * digit_on_way id (3 - count) → HasWord (get_or way (3 - count) 0) at 0 between new
    → KeepsBlocksBut (get_or way (3 - count) 0 ∷ []) between new
    → ClearsAlong way (3 - count) id old new
clears_more way count id at old between new five few distinct kept so_far at_is set keeps digits from low =
    let place : ℕ = 3 - count in
    let apart = way_apart way five distinct in
    elim (cases_eq digits place) [
      | inl same ↦
          let untouched : block_of between (get_or way place 0) ≡ block_of old (get_or way place 0) =
          kept.others (get_or way place 0) (above_lowest way count few apart) in
          subst (λ (k : ℕ). HasWord (get_or way k 0) (4 * digit_on_way id k) 0 old new) (sym same)
          (subst (λ (n : ℕ). HasWord (get_or way place 0) n 0 old new) at_is
          (HasWord-earlier (get_or way place 0) at 0 old between new untouched set))
      | inr other ↦
          HasWord-later (get_or way digits 0) (4 * digit_on_way id digits) 0 old between new
          (so_far digits (omega arith) low)
          (keeps_beside keeps (get_or way digits 0) (apart digits place low (omega arith) other))
    ]

-- a block that stays empty
pub empty_as : (old new : List ℕ) (block : ℕ) → block_of new block ≡ block_of old block → IsEmpty old block
    → IsEmpty new block
empty_as old new block same empty digit low = ap (λ (bytes : List ℕ). word_in bytes digit) same ∙ empty digit low

-- the blocks that were emptied so far, with one more
pub empty_more : (way : List ℕ) (count : ℕ) (between new : List ℕ) → length way ≡ 5 → count ≤ 3
    → AreDistinct (take 4 way)
    → ((place : ℕ) → 3 - count < place → place < 4 → IsEmpty between (get_or way place 0))
    → KeepsBlocksBut (get_or way (3 - count) 0 ∷ []) between new
    → (place : ℕ) → 3 - count < place → place < 4 → IsEmpty new (get_or way place 0)
empty_more way count between new five few distinct so_far keeps place below low =
    empty_as between new (get_or way place 0)
    (keeps_beside keeps (get_or way place 0)
    (way_apart way five distinct place (3 - count) low (omega arith) (omega arith)))
    (so_far place below low)
