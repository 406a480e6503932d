-- Ranges that are laid over a file twice.
use Rattle.std.proofs.Common.{◌≡◌, inl, inr, ◌⊎◌, ⊎_elim, ℕ, ◌+◌, ◌≤◌, get_or, refl, List, [], ◌∷◌, length, Option}
use Rattle.std.proofs.Common.{Some, option_map, sym, ap, ◌∙◌, subst, arith}
use Rattle.std.proofs.lemmas.List.{ext_get_or}
use Rattle.edit_journal.specs.ByteRanges.{ByteRange, laid, with_laid}
use Rattle.edit_journal.specs.UndoSaves.{IsOutsideAll}
use Rattle.edit_journal.proofs.LaidBytesLemmas.{get_or-with_laid_before, get_or-with_laid_behind, length-laid}
use Rattle.edit_journal.proofs.MendedFileLemmas.{laid_same}
use Rattle.journal_store.proofs.OverlayLemmas.{length-laid_one}

-- each range that has any byte ends within a length
abbrev EndWithin : List ByteRange → ℕ → Type 0
EndWithin [] n = Unit {0}
EndWithin (span ∷ rest) n = (1 ≤ length span.bytes → span.at + length span.bytes ≤ n) × EndWithin rest n

-- ranges that were laid over a file end within it
ends-laid : (spans : List ByteRange) (file : List ℕ) → EndWithin spans (length (laid spans file))
ends-laid [] file = tt
ends-laid (span ∷ rest) file = (
  λ some.
      omega (arith, length-laid_one file span.at span.bytes some, length-laid rest (with_laid file span.at span.bytes)),
  ends-laid rest (with_laid file span.at span.bytes),
)

same-length : (file : List ℕ) (at : ℕ) (bytes : List ℕ) → (1 ≤ length bytes → at + length bytes ≤ length file)
    → length (with_laid file at bytes) ≡ length file
same-length file at [] within = refl
same-length file at (byte ∷ rest) within =
    let some : 1 ≤ length (byte ∷ rest) = omega arith in
    omega (arith, length-laid_one file at (byte ∷ rest) some, within some)

-- ranges that end within a file make it no longer
laid-within : (spans : List ByteRange) (file : List ℕ) → EndWithin spans (length file)
    → length (laid spans file) ≡ length file
laid-within [] file within = refl
laid-within (span ∷ rest) file within =
    let here : length (with_laid file span.at span.bytes) ≡ length file =
    same-length file span.at span.bytes within.0 in
    laid-within rest (with_laid file span.at span.bytes) (subst (λ (n : ℕ). EndWithin rest n) (sym here) within.1)
    ∙ here

-- nothing changes outside of the ranges
laid-outside : (spans : List ByteRange) (file : List ℕ) (place : ℕ) → IsOutsideAll spans place
    → get_or (laid spans file) place 0 ≡ get_or file place 0
laid-outside [] file place outside = refl
laid-outside (span ∷ rest) file place outside =
    laid-outside rest (with_laid file span.at span.bytes) place outside.1
    ∙ ⊎_elim (λ before. get_or-with_laid_before file span.at span.bytes place before)
    (λ behind. get_or-with_laid_behind file span.at span.bytes place behind) outside.0

-- ranges that are laid over a file once more change nothing
pub laid-twice : (spans : List ByteRange) (file : List ℕ) → laid spans (laid spans file) ≡ laid spans file
laid-twice spans file =
    ext_get_or 0 (laid spans (laid spans file)) (laid spans file)
    (laid-within spans (laid spans file) (ends-laid spans file))
    (λ place below. laid_same spans (laid spans file) file place (λ outside. laid-outside spans file place outside))

-- the ranges over the old file, or over the new one
pub laid-either : (spans : List ByteRange) (old : List ℕ) (file : Option (List ℕ))
    → (file ≡ Some old) ⊎ (file ≡ Some (laid spans old)) → option_map (laid spans) file ≡ Some (laid spans old)
laid-either spans old file (inl is) = ap (λ (f : Option (List ℕ)). option_map (laid spans) f) is
laid-either spans old file (inr is) =
    ap (λ (f : Option (List ℕ)). option_map (laid spans) f) is ∙ ap (λ (f : List ℕ). Some f) (laid-twice spans old)
