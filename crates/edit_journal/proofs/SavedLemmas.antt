-- What an undo file saves.
use Rattle.std.proofs.Common.{◌≡◌, ℕ, zero, suc, ◌+◌, ◌<◌, ◌≤◌, get_or, refl, List, [], ◌∷◌, ◌++◌, length, ap, ◌∙◌}
use Rattle.std.proofs.Common.{subst, arith}
use Rattle.quota_types.specs.Bytes.{byte_at}
use Rattle.quota_types.proofs.BytesLemmas.{number_same}
use Rattle.edit_journal.specs.ByteRanges.{ByteRange, laid, with_laid}
use Rattle.edit_journal.specs.UndoSaves.{IsOutsideAll, saved_bytes, Saves, SavesFrom, SavesOne}
use Rattle.edit_journal.specs.Undo.{bytes_at, range_at, saved_range, saved_ranges}
use Rattle.edit_journal.proofs.LaidBytesLemmas.{laid_saved, length-saved_most}

pub length-bytes_at : (file : List ℕ) (at count : ℕ) → length (bytes_at file at count) ≡ count
length-bytes_at file at zero = refl
length-bytes_at file at (suc count) = ap suc (length-bytes_at file (suc at) count)

-- bytes that are the same
pub bytes_at-same : (count at : ℕ) (xs ys : List ℕ) → ((p : ℕ) → at ≤ p → p < at + count → byte_at xs p ≡ byte_at ys p)
    → bytes_at xs at count ≡ bytes_at ys at count
bytes_at-same zero at xs ys same = refl
bytes_at-same (suc count) at xs ys same =
    ap (λ (b : ℕ). b ∷ bytes_at xs (suc at) count) (same at (omega arith) (omega arith))
    ∙ ap (λ (l : List ℕ). byte_at ys at ∷ l)
    (bytes_at-same count (suc at) xs ys (λ p from to. same p (omega arith) (omega arith)))

-- a saved range stays where its bytes stay
pub saves_one-same : (old : List ℕ) (k at len : ℕ) (undo new : List ℕ) → SavesOne old k at len undo
    → length undo ≤ length new
    → ((p : ℕ) → range_at k ≤ p → p < range_at k + 16 + length (saved_bytes old at len)
    → get_or new p 0 ≡ get_or undo p 0) → SavesOne old k at len new
saves_one-same old k at len undo new saves longer same = record {
  low = saves.low;
  few = saves.few;
  place = number_same 8 (range_at k) new undo (λ p from to. same p from (omega arith)) ∙ saves.place;
  number = number_same 2 (range_at k + 8) new undo (λ p from to. same p (omega arith) (omega arith)) ∙ saves.number;
  rest = number_same 6 (range_at k + 10) new undo (λ p from to. same p (omega arith) (omega arith)) ∙ saves.rest;
  bytes = bytes_at-same (length (saved_bytes old at len)) (range_at k + 16) new undo
      (λ p from to. same p (omega arith) (omega arith)) ∙ saves.bytes;
  whole = omega (arith, saves.whole, longer);
}

-- saved ranges stay where the bytes up to their end stay
pub saves_from-same : (old : List ℕ) (k : ℕ) (ranges : List ByteRange) (undo new : List ℕ) → SavesFrom old k ranges undo
    → length undo ≤ length new
    → ((p : ℕ) → 1024 ≤ p → p < length undo → p < range_at (k + length ranges) → get_or new p 0 ≡ get_or undo p 0)
    → SavesFrom old k ranges new
saves_from-same old k [] undo new saves longer same = tt
saves_from-same old k (range ∷ rest) undo new saves longer same = (
  saves_one-same old k range.at (length range.bytes) undo new saves.0 longer
      (λ p from to. same p (omega arith) (omega (arith, saves.0.whole)) (omega (
        arith,
        saves.0.few,
        length-saved_most old range,
      ))),
  saves_from-same old (suc k) rest undo new saves.1 longer (λ p from below to. same p from below (omega (arith, to))),
)

-- one saved range more
pub saves_from-more : (old : List ℕ) (k : ℕ) (ranges : List ByteRange) (range : ByteRange) (undo : List ℕ)
    → SavesFrom old k ranges undo → SavesOne old (k + length ranges) range.at (length range.bytes) undo
    → SavesFrom old k (ranges ++ range ∷ []) undo
saves_from-more old k [] range undo saves one = (
  let here : k + 0 ≡ k = omega arith in
      subst (λ (n : ℕ). SavesOne old n range.at (length range.bytes) undo) here one,
  tt,
)
saves_from-more old k (first ∷ rest) range undo saves one =
    let there : k + suc (length rest) ≡ suc k + length rest = omega arith in (
      saves.0,
      saves_from-more old (suc k) rest range undo saves.1
          (subst (λ (n : ℕ). SavesOne old n range.at (length range.bytes) undo) there one),
    )

-- what is saved stays where all from byte 8 on stays
pub saves-same : (old : List ℕ) (ranges : List ByteRange) (undo new : List ℕ) → Saves old ranges undo
    → length undo ≤ length new
    → ((p : ℕ) → 8 ≤ p → p < length undo → get_or new p 0 ≡ get_or undo p 0) → Saves old ranges new
saves-same old ranges undo new saves longer same = record {
  long = omega (arith, saves.long, longer);
  old_length = number_same 8 8 new undo (λ p from to. same p from (omega (arith, saves.long))) ∙ saves.old_length;
  count = number_same 4 16 new undo (λ p from to. same p (omega arith) (omega (arith, saves.long))) ∙ saves.count;
  most = saves.most;
  saved = saves_from-same old 0 ranges undo new saves.saved longer (λ p from below to. same p (omega arith) below);
}

-- the bytes of a saved range are those of the old file
pub saved_range-bytes : (old : List ℕ) (k : ℕ) (range : ByteRange) (undo : List ℕ)
    → SavesOne old k range.at (length range.bytes) undo
    → (saved_range undo k).bytes ≡ saved_bytes old range.at (length range.bytes)
saved_range-bytes old k range undo saves = ap (λ (n : ℕ). bytes_at undo (range_at k + 16) n) saves.number ∙ saves.bytes

-- saved ranges that are laid back make the file what it was, within the old length
pub laid_back : (old undo : List ℕ) (k : ℕ) (ranges : List ByteRange) (file : List ℕ) (place : ℕ)
    → SavesFrom old k ranges undo → place < length old
    → (IsOutsideAll ranges place → get_or file place 0 ≡ get_or old place 0)
    → get_or (laid (saved_ranges undo k (length ranges)) file) place 0 ≡ get_or old place 0
laid_back old undo k [] file place saves below same = same tt
laid_back old undo k (range ∷ rest) file place saves below same =
    let span : ByteRange = saved_range undo k in
    laid_back old undo (suc k) rest (with_laid file span.at span.bytes) place saves.1 below
    (λ outside.
    ap (λ (at : ℕ). get_or (with_laid file at span.bytes) place 0) saves.0.place
    ∙ ap (λ (bytes : List ℕ). get_or (with_laid file range.at bytes) place 0)
    (saved_range-bytes old k range undo saves.0)
    ∙ laid_saved old range file place below (λ here. same (here, outside)))
