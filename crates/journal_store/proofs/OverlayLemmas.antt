-- What is read of a file over which ranges are laid.
use Rattle.std.proofs.Common.{◌≡◌, ◌⊎◌, inl, inr, ℕ, ◌+◌, ◌-◌, ◌<◌, ◌≤◌, List, [], ◌∷◌, ◌++◌, length, take, drop}
use Rattle.std.proofs.Common.{get_or, replicate, sym, ap, ◌∙◌, arith, length-append, length-drop, length-take}
use Rattle.std.specs.Prelude.{max}
use Rattle.std.proofs.lemmas.List.{length-replicate}
use Rattle.quota_types.specs.Bytes.{byte_at}
use Rattle.edit_journal.specs.ByteRanges.{with_laid}
use Rattle.edit_journal.proofs.LaidBytesLemmas.{get_or-with_laid_before, get_or-with_laid_behind}
use Rattle.edit_journal.proofs.LaidBytesLemmas.{get_or-with_laid_inside}

-- the length of a file over which bytes are laid
pub length-laid_one : (file : List ℕ) (at : ℕ) (bytes : List ℕ) → 1 ≤ length bytes
    → length (with_laid file at bytes) ≡ max (length file) (at + length bytes)
length-laid_one file at [] some = absurd (omega (arith, some))
length-laid_one file at (byte ∷ rest) some =
    let bytes : List ℕ = byte ∷ rest in
    let front : List ℕ = take at file ++ replicate (at - length file) 0 in
    omega (
      arith,
      length-append (front ++ bytes) (drop (at + length bytes) file),
      length-append front bytes,
      length-append (take at file) (replicate (at - length file) 0),
      length-take at file,
      length-replicate {A = ℕ} (at - length file) 0,
      length-drop (at + length bytes) file,
    )

-- a place that is not in a range that is laid over a file
pub laid-past : (file : List ℕ) (at : ℕ) (bytes : List ℕ) (place : ℕ) → (place < at) ⊎ (at + length bytes ≤ place)
    → byte_at file place ≡ byte_at (with_laid file at bytes) place
laid-past file at bytes place (inl before) = sym (get_or-with_laid_before file at bytes place before)
laid-past file at bytes place (inr behind) = sym (get_or-with_laid_behind file at bytes place behind)

-- a place that is
pub laid-in : (file : List ℕ) (at : ℕ) (bytes : List ℕ) (place j : ℕ) → place ≡ at + j → j < length bytes
    → get_or bytes j 0 ≡ byte_at (with_laid file at bytes) place
laid-in file at bytes place j here below =
    sym (get_or-with_laid_inside file at bytes j below) ∙ ap (λ (p : ℕ). byte_at (with_laid file at bytes) p) (sym here)
