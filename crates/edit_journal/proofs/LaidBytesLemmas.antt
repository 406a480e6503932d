-- Ranges laid over a file, byte by byte.
use Rattle.std.proofs.Common.{◌≡◌, ℕ, ◌+◌, ◌-◌, ◌<◌, ◌≤◌, inl, inr, get_or, refl, length-take, length-drop, List, []}
use Rattle.std.proofs.Common.{◌∷◌, ◌++◌, length, take, drop, replicate, sym, ap, ◌∙◌, arith, length-append}
use Rattle.std.proofs.lemmas.Bool.{cases_lt}
use Rattle.std.proofs.lemmas.List.{get_or-append_right, get_or_append_left, get_or-take, get_or-drop, length-replicate}
use Rattle.outside.specs.World.{overwritten}
use Rattle.disk.specs.DiskCalls.{IsOutside}
use Rattle.outside.proofs.OverwriteLemmas.{get_or-overwritten_before, get_or-overwritten_behind, length-overwritten}
use Rattle.edit_journal.specs.ByteRanges.{ByteRange, laid, with_laid}
use Rattle.edit_journal.specs.UndoSaves.{saved_bytes}

-- the bytes that were written
pub get_or-overwritten_inside : (old : List ℕ) (at : ℕ) (bytes : List ℕ) (j : ℕ) → j < length bytes
    → get_or (overwritten old at bytes) (at + j) 0 ≡ get_or bytes j 0
get_or-overwritten_inside old at bytes j below =
    let front : List ℕ = take at old ++ replicate (at - length old) 0 in
    let long : length front ≡ at = omega (
      arith,
      length-append (take at old) (replicate (at - length old) 0),
      length-take at old,
      length-replicate {A = ℕ} (at - length old) 0,
    ) in
    let back : at + j - at ≡ j = omega arith in
    get_or_append_left (front ++ bytes) (drop (at + length bytes) old) 0 (at + j)
    (omega (arith, length-append front bytes, long, below))
    ∙ get_or-append_right front bytes at (at + j) 0 long (omega arith)
    ∙ ap (λ (n : ℕ). get_or bytes n 0) back

-- where the written bytes end the file has an end no sooner
pub length-overwritten_end : (old : List ℕ) (at : ℕ) (bytes : List ℕ)
    → at + length bytes ≤ length (overwritten old at bytes)
length-overwritten_end old at bytes =
    let front : List ℕ = take at old ++ replicate (at - length old) 0 in
    let long : length front ≡ at = omega (
      arith,
      length-append (take at old) (replicate (at - length old) 0),
      length-take at old,
      length-replicate {A = ℕ} (at - length old) 0,
    ) in
    omega (arith, length-append (front ++ bytes) (drop (at + length bytes) old), length-append front bytes, long)

pub get_or-with_laid_inside : (file : List ℕ) (at : ℕ) (bytes : List ℕ) (j : ℕ) → j < length bytes
    → get_or (with_laid file at bytes) (at + j) 0 ≡ get_or bytes j 0
get_or-with_laid_inside file at [] j below = absurd (omega (arith, below))
get_or-with_laid_inside file at (byte ∷ rest) j below = get_or-overwritten_inside file at (byte ∷ rest) j below

pub get_or-with_laid_before : (file : List ℕ) (at : ℕ) (bytes : List ℕ) (place : ℕ) → place < at
    → get_or (with_laid file at bytes) place 0 ≡ get_or file place 0
get_or-with_laid_before file at [] place before = refl
get_or-with_laid_before file at (byte ∷ rest) place before =
    get_or-overwritten_before file at (byte ∷ rest) place before

pub get_or-with_laid_behind : (file : List ℕ) (at : ℕ) (bytes : List ℕ) (place : ℕ) → at + length bytes ≤ place
    → get_or (with_laid file at bytes) place 0 ≡ get_or file place 0
get_or-with_laid_behind file at [] place behind = refl
get_or-with_laid_behind file at (byte ∷ rest) place behind =
    get_or-overwritten_behind file at (byte ∷ rest) place behind

pub length-with_laid : (file : List ℕ) (at : ℕ) (bytes : List ℕ) → length file ≤ length (with_laid file at bytes)
length-with_laid file at [] = omega arith
length-with_laid file at (byte ∷ rest) = length-overwritten file at (byte ∷ rest)

-- ranges that are laid over a file make it no shorter
pub length-laid : (ranges : List ByteRange) (file : List ℕ) → length file ≤ length (laid ranges file)
length-laid [] file = omega arith
length-laid (range ∷ rest) file =
    omega (arith, length-with_laid file range.at range.bytes, length-laid rest (with_laid file range.at range.bytes))

-- one range more
pub laid-more : (ranges : List ByteRange) (range : ByteRange) (file : List ℕ)
    → laid (ranges ++ range ∷ []) file ≡ with_laid (laid ranges file) range.at range.bytes
laid-more [] range file = refl
laid-more (first ∷ rest) range file = laid-more rest range (with_laid file first.at first.bytes)

-- what was saved of a range is no more than the range
pub length-saved_most : (old : List ℕ) (range : ByteRange)
    → length (saved_bytes old range.at (length range.bytes)) ≤ length range.bytes
length-saved_most old range = omega (arith, length-take (length range.bytes) (drop range.at old))

-- where any byte was saved, the saved ones stand within the old file
pub saved-within : (old : List ℕ) (range : ByteRange) → 1 ≤ length (saved_bytes old range.at (length range.bytes))
    → range.at + length (saved_bytes old range.at (length range.bytes)) ≤ length old
saved-within old range some =
    omega (arith, length-take (length range.bytes) (drop range.at old), length-drop range.at old)

laid_inside : (old : List ℕ) (range : ByteRange) (file : List ℕ) (j : ℕ) → range.at + j < length old
    → j < length range.bytes
    → get_or (with_laid file range.at (saved_bytes old range.at (length range.bytes))) (range.at + j) 0
    ≡ get_or old (range.at + j) 0
laid_inside old range file j below to =
    get_or-with_laid_inside file range.at (saved_bytes old range.at (length range.bytes)) j
    (omega (arith, length-take (length range.bytes) (drop range.at old), length-drop range.at old))
    ∙ get_or-take (length range.bytes) (drop range.at old) j 0 to
    ∙ get_or-drop range.at old j 0

-- what was saved of a range, laid back, makes the range what it was in the old file, and changes nothing else
pub laid_saved : (old : List ℕ) (range : ByteRange) (file : List ℕ) (place : ℕ) → place < length old
    → (IsOutside range.at (length range.bytes) place → get_or file place 0 ≡ get_or old place 0)
    → get_or (with_laid file range.at (saved_bytes old range.at (length range.bytes))) place 0 ≡ get_or old place 0
laid_saved old range file place below same =
    elim (cases_lt place range.at) [
      | inl before ↦ get_or-with_laid_before file range.at (saved_bytes old range.at (length range.bytes)) place before
          ∙ same (inl before)
      | inr from ↦ elim (cases_lt place (range.at + length range.bytes)) [
        | inl to ↦
            let parts : range.at + (place - range.at) ≡ place = omega arith in
            ap (λ (p : ℕ). get_or (with_laid file range.at (saved_bytes old range.at (length range.bytes))) p 0) (sym
            parts)
            ∙ laid_inside old range file (place - range.at) (omega arith) (omega arith)
            ∙ ap (λ (p : ℕ). get_or old p 0) parts
        | inr behind ↦
            get_or-with_laid_behind file range.at (saved_bytes old range.at (length range.bytes)) place
            (omega (arith, length-saved_most old range))
            ∙ same (inr behind)
      ]
    ]
