-- What the calls that write an undo file leave in it.
use Rattle.std.proofs.Common.{◌≡◌, ℕ, zero, suc, ◌+◌, ◌^◌, ◌<◌, ◌≤◌, get_or, refl, List, [], ◌∷◌, length, drop, Option}
use Rattle.std.proofs.Common.{Some, None, unwrap_or, sym, ap, ◌∙◌, arith}
use Rattle.std.specs.Option.{option_map}
use Rattle.std.proofs.lemmas.List.{ext_get_or, get_or-drop}
use Rattle.outside.specs.World.{World, overwritten, with_bytes}
use Rattle.outside.proofs.WorldLemmas.{with_file-at}
use Rattle.outside.proofs.OverwriteLemmas.{get_or-overwritten_behind, length-overwritten}
use Rattle.quota_types.specs.Bytes.{byte_at, number_at}
use Rattle.quota_types.proofs.BytesLemmas.{number_at-drop, number_same}
use Rattle.edit_journal.specs.ByteRanges.{ByteRange, with_laid}
use Rattle.edit_journal.specs.UndoSaves.{saved_bytes, Saves, SavesFrom, SavesOne}
use Rattle.edit_journal.specs.Undo.{bytes_at, range_at}
use Rattle.edit_journal.proofs.LaidBytesLemmas.{get_or-overwritten_inside, get_or-with_laid_before}
use Rattle.edit_journal.proofs.LaidBytesLemmas.{get_or-with_laid_inside, length-overwritten_end}
use Rattle.edit_journal.proofs.SavedLemmas.{length-bytes_at, saves_from-same}

get_or-bytes_at : (file : List ℕ) (at count j : ℕ) → j < count
    → get_or (bytes_at file at count) j 0 ≡ byte_at file (at + j)
get_or-bytes_at file at zero j below = absurd (omega (arith, below))
get_or-bytes_at file at (suc count) zero below =
    let same : at ≡ at + 0 = omega arith in ap (λ (p : ℕ). byte_at file p) same
get_or-bytes_at file at (suc count) (suc j) below =
    let same : suc at + j ≡ at + suc j = omega arith in
    get_or-bytes_at file (suc at) count j (omega (arith, below)) ∙ ap (λ (p : ℕ). byte_at file p) same

-- the bytes from a place on, as a list that has the same ones
pub bytes_at-list : (file : List ℕ) (at : ℕ) (bytes : List ℕ)
    → ((j : ℕ) → j < length bytes → get_or file (at + j) 0 ≡ get_or bytes j 0) → bytes_at file at (length bytes) ≡ bytes
bytes_at-list file at bytes same =
    ext_get_or 0 (bytes_at file at (length bytes)) bytes (length-bytes_at file at (length bytes))
    (λ j below. let inside : j < length bytes = omega (arith, below, length-bytes_at file at (length bytes)) in
    get_or-bytes_at file at (length bytes) j inside ∙ same j inside)

-- a number in bytes that were written at a place
number_in : (width place at : ℕ) (file head : List ℕ)
    → ((j : ℕ) → j < length head → get_or file (place + j) 0 ≡ get_or head j 0) → at + width ≤ length head
    → number_at width file (place + at) ≡ number_at width head at
number_in width place at file head same within =
    sym (number_at-drop width place file at)
    ∙ number_same width at (drop place file) head (λ p from to. get_or-drop place file p 0 ∙ same p (omega arith))

length-with_laid_end : (file : List ℕ) (at : ℕ) (bytes : List ℕ) → at ≤ length file
    → at + length bytes ≤ length (with_laid file at bytes)
length-with_laid_end file at [] within = omega (arith, within)
length-with_laid_end file at (byte ∷ rest) within = length-overwritten_end file at (byte ∷ rest)

-- a range is saved where its head and its bytes were written
pub saves_one-written : (old undo head mid new : List ℕ) (k at len count : ℕ) → at ≤ 2 ^ 42 → len ≤ 1024
    → number_at 8 head 0 ≡ at → number_at 2 head 8 ≡ count → number_at 6 head 10 ≡ 0 → length head ≡ 16
    → count ≡ length (saved_bytes old at len)
    → mid ≡ overwritten undo (range_at k) head → new ≡ with_laid mid (range_at k + 16) (saved_bytes old at len)
    → SavesOne old k at len new
saves_one-written old undo head mid new k at len count low few place number rest whole counts first second =
    let bytes : List ℕ = saved_bytes old at len in
    let longer : range_at k + 16 ≤ length mid =
    omega (arith, ap length first, length-overwritten_end undo (range_at k) head, whole) in
    let in_head : (j : ℕ) → j < length head → get_or new (range_at k + j) 0 ≡ get_or head j 0 =
    λ j below.
    ap (λ (f : List ℕ). get_or f (range_at k + j) 0) second
    ∙ get_or-with_laid_before mid (range_at k + 16) bytes (range_at k + j) (omega (arith, below, whole))
    ∙ ap (λ (f : List ℕ). get_or f (range_at k + j) 0) first
    ∙ get_or-overwritten_inside undo (range_at k) head j below in
    let start : range_at k ≡ range_at k + 0 = omega arith in
    record {
      low = low;
      few = few;
      place = ap (λ (p : ℕ). number_at 8 new p) start
          ∙ number_in 8 (range_at k) 0 new head in_head (omega (arith, whole)) ∙ place;
      number = number_in 2 (range_at k) 8 new head in_head (omega (arith, whole)) ∙ number ∙ counts;
      rest = number_in 6 (range_at k) 10 new head in_head (omega (arith, whole)) ∙ rest;
      bytes = bytes_at-list new (range_at k + 16) bytes
          (λ j below. ap (λ (f : List ℕ). get_or f (range_at k + 16 + j) 0) second
          ∙ get_or-with_laid_inside mid (range_at k + 16) bytes j below);
      whole = omega (arith, ap length second, length-with_laid_end mid (range_at k + 16) bytes longer);
    }

-- what is saved is whole once the head of the undo file was written
pub saves-written : (old : List ℕ) (ranges : List ByteRange) (undo head new : List ℕ) → 1024 ≤ length undo
    → length ranges ≤ 12
    → number_at 8 head 0 ≡ length old → number_at 4 head 8 ≡ length ranges → length head ≡ 12
    → SavesFrom old 0 ranges undo → new ≡ overwritten undo 8 head → Saves old ranges new
saves-written old ranges undo head new long most old_length count whole saved written =
    let longer : length undo ≤ length new = omega (arith, ap length written, length-overwritten undo 8 head) in
    let in_head : (j : ℕ) → j < length head → get_or new (8 + j) 0 ≡ get_or head j 0 =
    λ j below. ap (λ (f : List ℕ). get_or f (8 + j) 0) written ∙ get_or-overwritten_inside undo 8 head j below in
    record {
      long = omega (arith, longer, long);
      old_length = number_in 8 8 0 new head in_head (omega (arith, whole)) ∙ old_length;
      count = number_in 4 8 8 new head in_head (omega (arith, whole)) ∙ count;
      most = most;
      saved = saves_from-same old 0 ranges undo new saved longer
          (λ p from below to. ap (λ (f : List ℕ). get_or f p 0) written
          ∙ get_or-overwritten_behind undo 8 head p (omega (arith, from, whole)));
    }

-- the bytes of a file that was written
pub written-bytes : (files new : World) (name : List ℕ) (at : ℕ) (bytes : List ℕ) → new ≡ with_bytes files name at bytes
    → unwrap_or (new name) [] ≡ overwritten (unwrap_or (files name) []) at bytes
written-bytes files new name at bytes is =
    ap (λ (f : World). unwrap_or (f name) []) is
    ∙ ap (λ (f : Option (List ℕ)). unwrap_or f [])
    (with_file-at files name (Some (overwritten (unwrap_or (files name) []) at bytes)))

-- the length of a file, or 0 where there is none
pub length-or_none : (file : Option (List ℕ)) (found : Option ℕ) → found ≡ option_map length file
    → unwrap_or found 0 ≡ length (unwrap_or file [])
length-or_none file found is = ap (λ (f : Option ℕ). unwrap_or f 0) is ∙ by file
  where
    by : (f : Option (List ℕ)) → unwrap_or (option_map length f) 0 ≡ length (unwrap_or f [])
    by None = refl
    by (Some bytes) = refl
