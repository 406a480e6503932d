-- Bytes that are written over those of a file.
use Rattle.std.proofs.Common.{◌≡◌, ℕ, ◌+◌, ◌-◌, ◌<◌, ◌≤◌, inl, inr, get_or, refl, length-take, length-drop, List, ◌++◌}
use Rattle.std.proofs.Common.{length, take, drop, replicate, sym, ap, ◌∙◌, arith, append-nil, length-append}
use Rattle.std.proofs.Math.Seq.{take-append-add}
use Rattle.std.proofs.lemmas.Bool.{cases_lt}
use Rattle.std.proofs.lemmas.List.{get_or-append_right, get_or_append_left, get_or-take, get_or-drop, get_or-replicate}
use Rattle.std.proofs.lemmas.List.{get_or_past, take_all, drop_all, take-append-le, take-replicate, length-replicate}
use Rattle.outside.specs.World.{overwritten}

-- the front of a file that was made longer with zeros
take-padded : (old : List ℕ) (more at : ℕ) → at ≤ length old + more
    → take at (old ++ replicate more 0) ≡ take at old ++ replicate (at - length old) 0
take-padded old more at within =
    elim (cases_lt at (length old)) [
      | inl inside ↦
          let none : at - length old ≡ 0 = omega arith in
          take-append-le at old (replicate more 0) (omega arith)
          ∙ sym (append-nil (take at old))
          ∙ ap (λ (n : ℕ). take at old ++ replicate n 0) (sym none)
      | inr past ↦
          let parts : at ≡ length old + (at - length old) = omega arith in
          ap (λ (n : ℕ). take n (old ++ replicate more 0)) parts
          ∙ take-append-add old (replicate more 0) (at - length old)
          ∙ ap (λ (zeros : List ℕ). old ++ zeros) (take-replicate (at - length old) more 0 (omega arith))
          ∙ ap (λ (front : List ℕ). front ++ replicate (at - length old) 0) (sym (take_all at old past))
    ]

-- what a file that was filled up with zeros has behind its end before
drop-padded : (old : List ℕ) (end : ℕ) → drop end (old ++ replicate (end - length old) 0) ≡ drop end old
drop-padded old end =
    elim (cases_lt end (length old)) [
      | inl inside ↦
          let none : end - length old ≡ 0 = omega arith in
          ap (λ (n : ℕ). drop end (old ++ replicate n 0)) none ∙ ap (λ (l : List ℕ). drop end l) (append-nil old)
      | inr past ↦
          drop_all end (old ++ replicate (end - length old) 0) (omega (
            arith,
            length-append old (replicate (end - length old) 0),
            length-replicate {A = ℕ} (end - length old) 0,
          ))
          ∙ sym (drop_all end old past)
    ]

-- a write into a file that was first filled up with zeros to where the write ends
pub overwritten-filled_up : (old : List ℕ) (at : ℕ) (bytes : List ℕ) → let filled : List ℕ =
    old ++ replicate (at + length bytes - length old) 0 in
    take at filled ++ bytes ++ drop (at + length bytes) filled ≡ overwritten old at bytes
overwritten-filled_up old at bytes =
    let end = at + length bytes in
    let more = end - length old in
    ap (λ (front : List ℕ). front ++ bytes ++ drop end (old ++ replicate more 0))
    (take-padded old more at (omega arith))
    ∙ ap (λ (rest : List ℕ). take at old ++ replicate (at - length old) 0 ++ bytes ++ rest) (drop-padded old end)

-- what stands before the bytes that are written at a place
abbrev front_of : List ℕ → ℕ → List ℕ
front_of old at = take at old ++ replicate (at - length old) 0

length-front_of : (old : List ℕ) (at : ℕ) → length (front_of old at) ≡ at
length-front_of old at =
    omega (
      arith,
      length-append (take at old) (replicate (at - length old) 0),
      length-take at old,
      length-replicate {A = ℕ} (at - length old) 0,
    )

-- a written file is no shorter than it was
pub length-overwritten : (old : List ℕ) (at : ℕ) (bytes : List ℕ) → length old ≤ length (overwritten old at bytes)
length-overwritten old at bytes =
    let rest : List ℕ = drop (at + length bytes) old in
    omega (
      arith,
      length-append (front_of old at ++ bytes) rest,
      length-append (front_of old at) bytes,
      length-front_of old at,
      length-drop (at + length bytes) old,
    )

-- the bytes behind those that were written
pub get_or-overwritten_behind : (old : List ℕ) (at : ℕ) (bytes : List ℕ) (place : ℕ) → at + length bytes ≤ place
    → get_or (overwritten old at bytes) place 0 ≡ get_or old place 0
get_or-overwritten_behind old at bytes place behind =
    get_or-append_right (front_of old at ++ bytes) (drop (at + length bytes) old) (at + length bytes) place 0
    (omega (arith, length-append (front_of old at) bytes, length-front_of old at)) behind
    ∙ get_or-drop (at + length bytes) old (place - (at + length bytes)) 0
    ∙ ap (λ (n : ℕ). get_or old n 0)
    (let same : (at + length bytes) + (place - (at + length bytes)) ≡ place = omega arith in same)

-- the front has the old bytes, and zeros behind their end
get_or-front_of : (old : List ℕ) (at place : ℕ) → place < at → get_or (front_of old at) place 0 ≡ get_or old place 0
get_or-front_of old at place before =
    elim (cases_lt place (length old)) [
      | inl inside ↦ get_or_append_left (take at old) (replicate (at - length old) 0) 0 place
          (omega (arith, length-take at old)) ∙ get_or-take at old place 0 before
      | inr past ↦ get_or-append_right (take at old) (replicate (at - length old) 0) (length (take at old)) place 0 refl
          (omega (arith, length-take at old))
          ∙ get_or-replicate (at - length old) (place - length (take at old)) 0 0 (omega (arith, length-take at old))
          ∙ sym (get_or_past old place 0 past)
    ]

-- the bytes before those that were written
pub get_or-overwritten_before : (old : List ℕ) (at : ℕ) (bytes : List ℕ) (place : ℕ) → place < at
    → get_or (overwritten old at bytes) place 0 ≡ get_or old place 0
get_or-overwritten_before old at bytes place before =
    get_or_append_left (front_of old at ++ bytes) (drop (at + length bytes) old) 0 place
    (omega (arith, length-append (front_of old at) bytes, length-front_of old at))
    ∙ get_or_append_left (front_of old at) bytes 0 place (omega (arith, length-front_of old at))
    ∙ get_or-front_of old at place before
