-- A file that is written in pieces under another name, and then renamed.
use Rattle.std.proofs.Common.{◌≡◌, ◌≢◌, ◌⊎◌, inl, inr, ℕ, ◌+◌, ◌-◌, ◌%◌, ◌<◌, ◌≤◌, min, List, [], ◌++◌, length, take}
use Rattle.std.proofs.Common.{drop, replicate, Option, None, Some, sym, ap, ◌∙◌, arith, append-nil, length-append}
use Rattle.std.proofs.Common.{length-take}
use Rattle.std.specs.Prelude.{codes}
use Rattle.std.specs.Option.{option_map_or, unwrap_or}
use Rattle.std.proofs.Math.Seq.{take-add}
use Rattle.std.proofs.lemmas.Bool.{cases_lt}
use Rattle.outside.specs.Count.{counted}
use Rattle.std.proofs.lemmas.List.{take_all, drop_all}
use Rattle.opened_file.specs.Replace.{pieces_of}
use Rattle.outside.specs.Replacement.{replacement_name}
use Rattle.outside.specs.World.{World, overwritten, with_bytes, with_file, with_new_name}
use Rattle.outside.proofs.WorldLemmas.{with_file-at, with_file-again}

-- a piece written behind the pieces before it
overwritten-piece : (bytes : List ℕ) (at end : ℕ) → at ≤ end → end ≤ length bytes
    → overwritten (take at bytes) at (take (end - at) (drop at bytes)) ≡ take end bytes
overwritten-piece bytes at end before within =
    let long : length (take at bytes) ≡ at = omega (arith, length-take at bytes) in
    let none : at - length (take at bytes) ≡ 0 = omega (arith, long) in
    let piece = take (end - at) (drop at bytes) in
    let whole : at + (end - at) ≡ end = omega arith in
    ap (λ (rest : List ℕ). take at (take at bytes) ++ replicate (at - length (take at bytes)) 0 ++ piece ++ rest)
    (drop_all (at + length piece) (take at bytes) (omega (arith, long)))
    ∙ append-nil (take at (take at bytes) ++ replicate (at - length (take at bytes)) 0 ++ piece)
    ∙ ap (λ (n : ℕ). take at (take at bytes) ++ replicate n 0 ++ piece) none
    ∙ ap (λ (front : List ℕ). front ++ piece)
    (append-nil (take at (take at bytes)) ∙ take_all at (take at bytes) (omega (arith, long)))
    ∙ sym (take-add at (end - at) bytes)
    ∙ ap (λ (n : ℕ). take n bytes) whole

-- the files after one more piece
pub with_bytes-piece : (files now : World) (name bytes : List ℕ) (at end : ℕ) → at ≤ end → end ≤ length bytes
    → now ≡ with_file files name (Some (take at bytes))
    → with_bytes now name at (take (end - at) (drop at bytes)) ≡ with_file files name (Some (take end bytes))
with_bytes-piece files now name bytes at end before within is =
    let piece = take (end - at) (drop at bytes) in
    ap (λ (f : World). with_bytes f name at piece) is
    ∙ ap (λ (file : Option (List ℕ)). with_file (with_file files name (Some (take at bytes))) name
    (Some (overwritten (unwrap_or file []) at piece))) (with_file-at files name (Some (take at bytes)))
    ∙ with_file-again files name (Some (take at bytes)) (Some (overwritten (take at bytes) at piece))
    ∙ ap (λ (b : List ℕ). with_file files name (Some b)) (overwritten-piece bytes at end before within)

-- the added part makes another name
pub replacement_name-ne : (name : List ℕ) → replacement_name name ≢ name
unfolding replacement_name
replacement_name-ne name same = omega (arith, ap length same, length-append name (codes ".new"))

-- the new file in the place of the old one
pub with_new_name-replaced : (files now : World) (from to bytes : List ℕ) → now ≡ with_file files from (Some bytes)
    → with_new_name now from to ≡ with_file (with_file files from None) to (Some bytes)
with_new_name-replaced files now from to bytes is =
    ap (λ (f : World). with_new_name f from to) is
    ∙ ap (λ (file : Option (List ℕ)). option_map_or
    (λ (b : List ℕ). with_file (with_file (with_file files from (Some bytes)) from None) to (Some b)) file
    (with_file files from (Some bytes))) (with_file-at files from (Some bytes))
    ∙ ap (λ (f : World). with_file f to (Some bytes)) (with_file-again files from (Some bytes) None)

-- pieces of 1,024 bytes end at a multiple of that, or at the end
pub piece-whole : (at end long : ℕ) → at < long → end ≡ min long (at + 1024) → (at % 1024 ≡ 0) ⊎ (at ≡ long)
    → (end % 1024 ≡ 0) ⊎ (end ≡ long)
piece-whole at end long below is (inl aligned) = elim (cases_lt long (at + 1024)) [
  | inl last ↦ inr (omega (arith, is, last))
  | inr more ↦ inl (omega (arith, is, more, aligned))
]
piece-whole at end long below is (inr ended) = absurd (omega (arith, below, ended))

-- one more piece is one more call
pub piece-counted : (at end long before now : ℕ) → at < long → end ≡ min long (at + 1024)
    → (at % 1024 ≡ 0) ⊎ (at ≡ long) → now ≤ before + pieces_of at
    → counted now ≤ before + pieces_of end
piece-counted at end long before now below is (inl aligned) few = elim (cases_lt long (at + 1024)) [
  | inl last ↦ omega (arith, is, last, below, aligned, few)
  | inr more ↦ omega (arith, is, more, aligned, few)
]
piece-counted at end long before now below is (inr ended) few = absurd (omega (arith, below, ended))
