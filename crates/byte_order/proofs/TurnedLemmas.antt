-- The bytes of a file whose words are turned round.
use Rattle.std.proofs.Common.{◌≡◌, ℕ, ◌+◌, ◌-◌, ◌*◌, ◌/◌, ◌%◌, ◌<◌, ◌≤◌, List, length, take, drop, refl, sym, ap, ◌∙◌}
use Rattle.std.proofs.Common.{inl, inr, arith, length-take, length-drop}
use Rattle.std.proofs.lemmas.Bool.{cases_lt}
use Rattle.std.proofs.lemmas.List.{get_or_past, get_or-drop, get_or-take}
use Rattle.std.proofs.lemmas.List.FromFn.{length-map-range_with_len, get_or-map-range_with_len}
use Rattle.std.proofs.lemmas.Grind.{same_number_lists}
use Rattle.quota_types.specs.Bytes.{byte_at}
use Rattle.byte_order.specs.Words.{turned, turned_place, words_in}

pub length-turned : (file : List ℕ) → length (turned file) ≡ 4 * words_in (length file)
unfolding turned
length-turned file =
    length-map-range_with_len (λ (at : ℕ). byte_at file (turned_place at)) 0 (4 * words_in (length file))

-- past the last word both are 0
turned_past : (file : List ℕ) (at : ℕ) → 4 * words_in (length file) ≤ at → length file ≤ turned_place at
turned_past file at past = omega arith

-- a byte of the words turned round is that of its place in them
pub byte_at-turned : (file : List ℕ) (at : ℕ) → byte_at (turned file) at ≡ byte_at file (turned_place at)
unfolding turned
byte_at-turned file at = elim (cases_lt at (4 * words_in (length file))) [
  | inl low ↦ get_or-map-range_with_len (λ (k : ℕ). byte_at file (turned_place k)) 0 (4 * words_in (length file)) at at
      0 low (omega arith)
  | inr high ↦
      get_or_past (turned file) at 0 (omega (arith, length-turned file))
      ∙ sym (get_or_past file (turned_place at) 0 (turned_past file at high))
]

-- a place turned twice
pub turned_back : (at : ℕ) → turned_place (turned_place at) ≡ at
turned_back at =
    let word : ℕ = at / 4 in
    let step : turned_place at ≡ 4 * word + (3 - at % 4) = refl in
    let same : turned_place at / 4 ≡ word = omega arith in
    let rest : turned_place at % 4 ≡ 3 - at % 4 = omega arith in
    omega arith

-- the bytes of whole words some words further on
pub turned_further : (words at : ℕ) → turned_place (4 * words + at) ≡ 4 * words + turned_place at
turned_further words at =
    let quotient : (4 * words + at) / 4 ≡ words + at / 4 = omega arith in
    omega arith

-- words turned round twice are as before
pub byte_at-turned_twice : (file : List ℕ) (at : ℕ) → byte_at (turned (turned file)) at ≡ byte_at file at
byte_at-turned_twice file at =
    byte_at-turned (turned file) at ∙ byte_at-turned file (turned_place at) ∙ ap (byte_at file) (turned_back at)

pub turned_twice : (file : List ℕ) (words : ℕ) → length file ≡ 4 * words → turned (turned file) ≡ file
turned_twice file words whole =
    let once : length (turned file) ≡ 4 * words = omega (arith, length-turned file) in
    let twice : length (turned (turned file)) ≡ length file = omega (arith, length-turned (turned file)) in
    same_number_lists (turned (turned file)) file twice (λ k lt. byte_at-turned_twice file k)

-- some words of a file turned round are these words of the file, turned round
pub turned_part : (file : List ℕ) (skip words : ℕ)
    → take (4 * words) (drop (4 * skip) (turned file)) ≡ turned (take (4 * words) (drop (4 * skip) file))
turned_part file skip words =
    let part : List ℕ = take (4 * words) (drop (4 * skip) file) in
    let front : length (take (4 * words) (drop (4 * skip) (turned file))) ≡ length (turned part) =
    omega (
      arith,
      length-take (4 * words) (drop (4 * skip) (turned file)),
      length-drop (4 * skip) (turned file),
      length-turned file,
      length-turned part,
      length-take (4 * words) (drop (4 * skip) file),
      length-drop (4 * skip) file,
    ) in
    same_number_lists (take (4 * words) (drop (4 * skip) (turned file))) (turned part) front
    (λ k lt.
    let low : k < 4 * words = omega (arith, lt, length-take (4 * words) (drop (4 * skip) (turned file))) in
    let mirrored : turned_place k < 4 * words = omega arith in
    get_or-take (4 * words) (drop (4 * skip) (turned file)) k 0 low ∙ get_or-drop (4 * skip) (turned file) k 0
    ∙ byte_at-turned file (4 * skip + k) ∙ ap (byte_at file) (turned_further skip k)
    ∙ sym (byte_at-turned part k ∙ get_or-take (4 * words) (drop (4 * skip) file) (turned_place k) 0 mirrored
    ∙ get_or-drop (4 * skip) file (turned_place k) 0))
