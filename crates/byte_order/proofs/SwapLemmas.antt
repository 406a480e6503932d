-- Words of some bytes, turned round one after another.
use Rattle.std.proofs.Common.{◌≡◌, ◌≢◌, ◌⊎◌, ℕ, ◌+◌, ◌-◌, ◌*◌, ◌/◌, ◌<◌, ◌≤◌, List, length, get_or, set, refl, sym, ap}
use Rattle.std.proofs.Common.{◌∙◌, inl, inr, arith, length-set, get_or-set_same, get_or-set_other}
use Rattle.std.specs.List.{swap}
use Rattle.std.proofs.lemmas.Bool.{cases_eq, cases_lt}
use Rattle.std.proofs.lemmas.Grind.{same_number_lists}
use Rattle.std.proofs.lemmas.List.Edits.{swap_is}
use Rattle.quota_types.specs.Bytes.{byte_at}
use Rattle.byte_order.specs.Words.{turned, turned_place}
use Rattle.byte_order.proofs.TurnedLemmas.{byte_at-turned, length-turned}

-- The first so many words of some bytes are turned round, and all bytes behind them are as before.
pub record AreTurned (words : ℕ) (old new : List ℕ) : Type 0 where
  pub long : length new ≡ length old
  pub front : (at : ℕ) → at < 4 * words → byte_at new at ≡ byte_at old (turned_place at)
  pub behind : (at : ℕ) → 4 * words ≤ at → byte_at new at ≡ byte_at old at

-- the bytes after two were exchanged
swapped_second : (xs : List ℕ) (i j : ℕ) → i < length xs → j < length xs → byte_at (swap xs i j) j ≡ byte_at xs i
swapped_second xs i j low_i low_j =
    ap (λ (ys : List ℕ). get_or ys j 0) (sym (swap_is xs i j 0 low_i low_j))
    ∙ get_or-set_same (set xs i (get_or xs j 0)) j (get_or xs i 0) 0 (omega (arith, length-set xs i (get_or xs j 0)))

swapped_first : (xs : List ℕ) (i j : ℕ) → i < length xs → j < length xs → i ≢ j → byte_at (swap xs i j) i ≡ byte_at xs j
swapped_first xs i j low_i low_j other =
    ap (λ (ys : List ℕ). get_or ys i 0) (sym (swap_is xs i j 0 low_i low_j))
    ∙ get_or-set_other (set xs i (get_or xs j 0)) j i (get_or xs i 0) 0 other
    ∙ get_or-set_same xs i (get_or xs j 0) 0 low_i

swapped_other : (xs : List ℕ) (i j k : ℕ) → i < length xs → j < length xs → k ≢ i → k ≢ j
    → byte_at (swap xs i j) k ≡ byte_at xs k
swapped_other xs i j k low_i low_j not_i not_j =
    ap (λ (ys : List ℕ). get_or ys k 0) (sym (swap_is xs i j 0 low_i low_j))
    ∙ get_or-set_other (set xs i (get_or xs j 0)) j k (get_or xs i 0) 0 not_j
    ∙ get_or-set_other xs i k (get_or xs j 0) 0 not_i

length-swap : (xs : List ℕ) (i j : ℕ) → i < length xs → j < length xs → length (swap xs i j) ≡ length xs
length-swap xs i j low_i low_j =
    ap (λ (ys : List ℕ). length ys) (sym (swap_is xs i j 0 low_i low_j))
    ∙ length-set (set xs i (get_or xs j 0)) j (get_or xs i 0) ∙ length-set xs i (get_or xs j 0)

-- the word at a place, turned round
abbrev pub word_swapped : List ℕ → ℕ → List ℕ
word_swapped xs at = swap (swap xs at (at + 3)) (at + 1) (at + 2)

-- the four bytes of a word that is turned round, and all others
word_first : (xs : List ℕ) (at : ℕ) → at + 4 ≤ length xs → byte_at (word_swapped xs at) at ≡ byte_at xs (at + 3)
word_first xs at low =
    let once : length (swap xs at (at + 3)) ≡ length xs = length-swap xs at (at + 3) (omega arith) (omega arith) in
    swapped_other (swap xs at (at + 3)) (at + 1) (at + 2) at (omega arith) (omega arith) (omega arith) (omega arith)
    ∙ swapped_first xs at (at + 3) (omega arith) (omega arith) (omega arith)

word_second : (xs : List ℕ) (at : ℕ) → at + 4 ≤ length xs → byte_at (word_swapped xs at) (at + 1) ≡ byte_at xs (at + 2)
word_second xs at low =
    let once : length (swap xs at (at + 3)) ≡ length xs = length-swap xs at (at + 3) (omega arith) (omega arith) in
    swapped_first (swap xs at (at + 3)) (at + 1) (at + 2) (omega arith) (omega arith) (omega arith)
    ∙ swapped_other xs at (at + 3) (at + 2) (omega arith) (omega arith) (omega arith) (omega arith)

word_third : (xs : List ℕ) (at : ℕ) → at + 4 ≤ length xs → byte_at (word_swapped xs at) (at + 2) ≡ byte_at xs (at + 1)
word_third xs at low =
    let once : length (swap xs at (at + 3)) ≡ length xs = length-swap xs at (at + 3) (omega arith) (omega arith) in
    swapped_second (swap xs at (at + 3)) (at + 1) (at + 2) (omega arith) (omega arith)
    ∙ swapped_other xs at (at + 3) (at + 1) (omega arith) (omega arith) (omega arith) (omega arith)

word_fourth : (xs : List ℕ) (at : ℕ) → at + 4 ≤ length xs → byte_at (word_swapped xs at) (at + 3) ≡ byte_at xs at
word_fourth xs at low =
    let once : length (swap xs at (at + 3)) ≡ length xs = length-swap xs at (at + 3) (omega arith) (omega arith) in
    swapped_other (swap xs at (at + 3)) (at + 1) (at + 2) (at + 3) (omega arith) (omega arith)
    (omega arith) (omega arith)
    ∙ swapped_second xs at (at + 3) (omega arith) (omega arith)

word_apart : (xs : List ℕ) (at k : ℕ) → at + 4 ≤ length xs → k ≢ at → k ≢ at + 1 → k ≢ at + 2 → k ≢ at + 3
    → byte_at (word_swapped xs at) k ≡ byte_at xs k
word_apart xs at k low a b c d =
    let once : length (swap xs at (at + 3)) ≡ length xs = length-swap xs at (at + 3) (omega arith) (omega arith) in
    swapped_other (swap xs at (at + 3)) (at + 1) (at + 2) k (omega arith) (omega arith) b c
    ∙ swapped_other xs at (at + 3) k (omega arith) (omega arith) a d

word_others : (xs : List ℕ) (at k : ℕ) → at + 4 ≤ length xs → (k < at) ⊎ (at + 4 ≤ k)
    → byte_at (word_swapped xs at) k ≡ byte_at xs k
word_others xs at k low (inl below) = word_apart xs at k low (omega arith) (omega arith) (omega arith) (omega arith)
word_others xs at k low (inr above) = word_apart xs at k low (omega arith) (omega arith) (omega arith) (omega arith)

length-word_swapped : (xs : List ℕ) (at : ℕ) → at + 4 ≤ length xs → length (word_swapped xs at) ≡ length xs
length-word_swapped xs at low =
    let once : length (swap xs at (at + 3)) ≡ length xs = length-swap xs at (at + 3) (omega arith) (omega arith) in
    length-swap (swap xs at (at + 3)) (at + 1) (at + 2) (omega arith) (omega arith) ∙ once

-- no word turned round
pub none_turned : (xs : List ℕ) → AreTurned 0 xs xs
none_turned xs = record {
  long = refl;
  front = λ at lt. absurd (omega arith);
  behind = λ at le. refl;
}

-- where a byte of a word comes to stand
at_end : (word at k : ℕ) → at ≡ 4 * word + k → k < 4 → turned_place at ≡ 4 * word + (3 - k)
at_end word at k is low =
    let same : at / 4 ≡ word = omega arith in
    omega arith

-- a byte of the next word, once that is turned round too
of_next_word : (words k : ℕ) (old mid : List ℕ) → AreTurned words old mid → 4 * words + 4 ≤ length mid → 4 * words ≤ k
    → k < 4 * words + 4
    → byte_at (word_swapped mid (4 * words)) k ≡ byte_at old (turned_place k)
of_next_word words k old mid are low above below = elim (cases_lt k (4 * words + 2)) [
  | inl front ↦ elim (cases_eq k (4 * words)) [
    | inl first ↦
        let place : turned_place k ≡ 4 * words + 3 = at_end words k 0 (omega arith) (omega arith) in
        ap (byte_at (word_swapped mid (4 * words))) first ∙ word_first mid (4 * words) low
        ∙ are.behind (4 * words + 3) (omega arith) ∙ ap (byte_at old) (sym place)
    | inr other ↦
        let second : k ≡ 4 * words + 1 = omega arith in
        let place : turned_place k ≡ 4 * words + 2 = at_end words k 1 (omega arith) (omega arith) in
        ap (byte_at (word_swapped mid (4 * words))) second ∙ word_second mid (4 * words) low
        ∙ are.behind (4 * words + 2) (omega arith) ∙ ap (byte_at old) (sym place)
  ]
  | inr behind ↦ elim (cases_eq k (4 * words + 2)) [
    | inl third ↦
        let place : turned_place k ≡ 4 * words + 1 = at_end words k 2 (omega arith) (omega arith) in
        ap (byte_at (word_swapped mid (4 * words))) third ∙ word_third mid (4 * words) low
        ∙ are.behind (4 * words + 1) (omega arith) ∙ ap (byte_at old) (sym place)
    | inr other ↦
        let fourth : k ≡ 4 * words + 3 = omega arith in
        let place : turned_place k ≡ 4 * words = omega (arith, at_end words k 3 (omega arith) (omega arith)) in
        ap (byte_at (word_swapped mid (4 * words))) fourth ∙ word_fourth mid (4 * words) low
        ∙ are.behind (4 * words) (omega arith) ∙ ap (byte_at old) (sym place)
  ]
]

-- one word more is turned round
pub one_more_turned : (words : ℕ) (old mid new : List ℕ) → AreTurned words old mid → 4 * words + 4 ≤ length mid
    → new ≡ word_swapped mid (4 * words) → AreTurned (words + 1) old new
one_more_turned words old mid new are low is = record {
  long = ap (λ (xs : List ℕ). length xs) is ∙ length-word_swapped mid (4 * words) low ∙ are.long;
  front = λ at lt. elim (cases_lt at (4 * words)) [
    | inl before ↦
        ap (λ (xs : List ℕ). byte_at xs at) is ∙ word_others mid (4 * words) at low (inl before) ∙ are.front at before
    | inr from ↦ ap (λ (xs : List ℕ). byte_at xs at) is ∙ of_next_word words at old mid are low from (omega arith)
  ];
  behind = λ at le. ap (λ (xs : List ℕ). byte_at xs at) is ∙ word_others mid (4 * words) at low (inr (omega arith))
      ∙ are.behind at (omega arith);
}

-- all words turned round
pub all_turned : (words most : ℕ) (old new : List ℕ) → length old ≡ 4 * most → most ≤ words → AreTurned words old new
    → new ≡ turned old
all_turned words most old new whole all are =
    let long : length new ≡ length old = are.long in
    same_number_lists new (turned old) (omega (arith, length-turned old))
    (λ k lt. are.front k (omega arith) ∙ sym (byte_at-turned old k))
