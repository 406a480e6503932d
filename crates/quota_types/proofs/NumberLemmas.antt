-- Numbers of bytes as `byteorder` reads and writes them.
use Rattle.std.proofs.Common.{◌≡◌, ℕ, zero, suc, ◌+◌, ◌-◌, ◌*◌, ◌^◌, ◌<◌, ◌≤◌, List, [], ◌∷◌, ◌++◌, length, get_or}
use Rattle.std.proofs.Common.{take, drop, refl, sym, ap, ◌∙◌, arith, append_assoc, length-append}
use Rattle.std.proofs.Math.Nat.{mul-suc}
use Rattle.std.proofs.Math.Seq.{drop-append_seam}
use Rattle.std.proofs.lemmas.Grind.{same_number_lists}
use Rattle.std.specs.List.{flat_map}
use Rattle.std.proofs.lemmas.List.{append-nil, take_all, length-drop, drop-drop, drop_all, drop_at, length-take-le}
use Rattle.std.proofs.lemmas.List.{get_or-take, get_or-drop, get_or_append_left, get_or-append_right}
use borrow.Rule.Slice.PartMut.{Post-is, put_mid}
use Rattle.byteorder.specs.Endian.{little_bytes, little_from, little_number}
use Rattle.byteorder.specs.Numbers.{length-bytes_low_first, little_number-reads_back}
use Rattle.quota_types.specs.Bytes.{number_at}
use Rattle.quota_types.proofs.BytesLemmas.{number_at-drop, number_same}
use Rattle.quota_types.specs.KeptBytes.{KeepsOutside}

little_from-number_at : (width at : ℕ) (file : List ℕ) → little_from at width file ≡ number_at width file at
unfolding number_at
little_from-number_at zero at file = refl
little_from-number_at (suc width) at file =
    ap (λ (rest : ℕ). get_or file at 0 + 256 * rest) (little_from-number_at width (suc at) file)

-- all that is behind a place
take-room : (at room : ℕ) (file : List ℕ) → at + room ≡ length file → take room (drop at file) ≡ drop at file
take-room at room file size = take_all room (drop at file) (omega (arith, length-drop at file))

-- what is read from a place on is the number there
pub little_number-drop : (width at : ℕ) (file : List ℕ) → little_number width (drop at file) ≡ number_at width file at
little_number-drop width at file =
    little_from-number_at width 0 (drop at file) ∙ number_at-drop width at file 0
    ∙ ap (number_at width file) (omega arith)

-- the bytes of a number in place of as many
abbrev pub with_number : ℕ → ℕ → ℕ → List ℕ → List ℕ
with_number width at number file = take at file ++ (little_bytes width number ++ drop (at + width) file)

-- what is left of a write at a place of a slice or an array, behind which there is that much room
pub written_at : (width at room number : ℕ) (file part : List ℕ) → at + room ≡ length file
    → part ≡ little_bytes width number ++ drop width (take room (drop at file))
    → put_mid at room file part ≡ with_number width at number file
written_at width at room number file part size is =
    let rest : drop width (take room (drop at file)) ≡ drop (at + width) file =
    ap (λ (xs : List ℕ). drop width xs) (take-room at room file size) ∙ drop-drop width at file in
    let behind : drop room (drop at file) ≡ [] = drop-drop room at file ∙ drop_all _ file (omega arith) in
    ap (λ (xs : List ℕ). take at file ++ (part ++ xs)) behind
    ∙ ap (λ (xs : List ℕ). take at file ++ xs)
    (append-nil part ∙ is ∙ ap (λ (xs : List ℕ). little_bytes width number ++ xs) rest)

pub number_at-with_number : (width at number : ℕ) (file : List ℕ) → at + width ≤ length file → number < 256 ^ width
    → number_at width (with_number width at number file) at ≡ number
number_at-with_number width at number file h small =
    sym (little_number-drop width at (with_number width at number file))
    ∙ ap (little_number width)
    (drop_at (take at file) (little_bytes width number ++ drop (at + width) file) at
    (length-take-le at file (omega arith)))
    ∙ little_number-reads_back width number (drop (at + width) file) small

pub keeps-with_number : (width at number : ℕ) (file : List ℕ) → at + width ≤ length file
    → KeepsOutside at (at + width) file (with_number width at number file)
keeps-with_number width at number file h =
    let long : length (take at file) ≡ at = length-take-le at file (omega arith) in
    record {
      before = λ k lt.
          let within : k < length (take at file) = omega arith in
          get_or_append_left (take at file) (little_bytes width number ++ drop (at + width) file) 0 k within
          ∙ get_or-take at file k 0 lt;
      behind = λ k le.
          get_or-append_right (take at file) (little_bytes width number ++ drop (at + width) file) at k 0
          long (omega arith)
          ∙ get_or-append_right (little_bytes width number) (drop (at + width) file) width (k - at) 0
          (length-bytes_low_first 0 width number) (omega arith)
          ∙ get_or-drop (at + width) file (k - at - width) 0
          ∙ ap (λ (n : ℕ). get_or file n 0) (omega arith);
    }

-- what was written in front is read again
number_at-front : (width number : ℕ) (rest : List ℕ) → number < 256 ^ width
    → number_at width (little_bytes width number ++ rest) 0 ≡ number
number_at-front width number rest h =
    sym (little_from-number_at width 0 (little_bytes width number ++ rest))
    ∙ little_number-reads_back width number rest h

-- a number behind the first bytes
number_at-behind : (width : ℕ) (front rest : List ℕ) (at : ℕ)
    → number_at width (front ++ rest) (length front + at) ≡ number_at width rest at
number_at-behind width front rest at =
    sym (number_at-drop width (length front) (front ++ rest) at)
    ∙ ap (λ (bytes : List ℕ). number_at width bytes at) (drop-append_seam front rest)

-- numbers that were written one after the other are read again
pub number_at-written : (width : ℕ) (numbers rest : List ℕ) (k : ℕ) → k < length numbers
    → ((i : ℕ) → i < length numbers → get_or numbers i 0 < 256 ^ width)
    → number_at width (flat_map (little_bytes width) numbers ++ rest) (width * k) ≡ get_or numbers k 0
number_at-written width [] rest k lt fits = absurd (omega arith)
number_at-written width (number ∷ numbers) rest zero lt fits =
    let start : width * 0 ≡ 0 = omega arith in
    rw (start, append_assoc) (number_at-front width number (flat_map (little_bytes width) numbers ++ rest) (fits 0 lt))
number_at-written width (number ∷ numbers) rest (suc k) lt fits =
    let place : width * suc k ≡ length (little_bytes width number) + width * k =
    omega (arith, length-bytes_low_first 0 width number) in
    rw (place, append_assoc)
    (number_at-behind width (little_bytes width number) (flat_map (little_bytes width) numbers ++ rest) (width * k)
    ∙ number_at-written width numbers rest k (omega arith) (λ i h. fits (suc i) (omega arith)))

-- the same behind other bytes
pub number_at-written_from : (width : ℕ) (front numbers rest : List ℕ) (at k : ℕ) → length front ≡ at
    → k < length numbers → ((i : ℕ) → i < length numbers → get_or numbers i 0 < 256 ^ width)
    → number_at width (front ++ (flat_map (little_bytes width) numbers ++ rest)) (at + width * k) ≡ get_or numbers k 0
number_at-written_from width front numbers rest at k size lt fits =
    rw (← size) (number_at-behind width front (flat_map (little_bytes width) numbers ++ rest) (width * k)
    ∙ number_at-written width numbers rest k lt fits)

-- the bytes of numbers in place of as many
abbrev pub with_numbers : ℕ → ℕ → List ℕ → List ℕ → List ℕ
with_numbers width at numbers file =
    take at file ++ (flat_map (little_bytes width) numbers ++ drop (at + width * length numbers) file)

-- what is left of a write of numbers at a place of a slice
pub written_all : (width at : ℕ) (numbers file part : List ℕ) → part ≡ flat_map (little_bytes width) numbers
    → put_mid at (at + width * length numbers - at) file part ≡ with_numbers width at numbers file
written_all width at numbers file part is =
    ap (λ (xs : List ℕ). take at file ++ (part ++ xs)) (Post-is at (at + width * length numbers) file (omega arith))
    ∙ ap (λ (xs : List ℕ). take at file ++ (xs ++ drop (at + width * length numbers) file)) is

length_numbers : (width : ℕ) (numbers : List ℕ)
    → length (flat_map (little_bytes width) numbers) ≡ width * length numbers
length_numbers width [] = omega arith
length_numbers width (number ∷ numbers) =
    omega (
      arith,
      length-append (little_bytes width number) (flat_map (little_bytes width) numbers),
      length-bytes_low_first 0 width number,
      length_numbers width numbers,
      mul-suc width (length numbers),
    )

pub number_at-with_numbers : (width at : ℕ) (numbers file : List ℕ) (k : ℕ) → at ≤ length file → k < length numbers
    → ((i : ℕ) → i < length numbers → get_or numbers i 0 < 256 ^ width)
    → number_at width (with_numbers width at numbers file) (at + width * k) ≡ get_or numbers k 0
number_at-with_numbers width at numbers file k within lt fits =
    number_at-written_from width (take at file) numbers (drop (at + width * length numbers) file) at k
    (length-take-le at file within) lt fits

pub keeps-with_numbers : (width at : ℕ) (numbers file : List ℕ) → at ≤ length file
    → KeepsOutside at (at + width * length numbers) file (with_numbers width at numbers file)
keeps-with_numbers width at numbers file h =
    let bytes : List ℕ = flat_map (little_bytes width) numbers in
    let size : ℕ = width * length numbers in
    let long : length (take at file) ≡ at = length-take-le at file h in
    record {
      before = λ k lt.
          let within : k < length (take at file) = omega arith in
          get_or_append_left (take at file) (bytes ++ drop (at + size) file) 0 k within ∙ get_or-take at file k 0 lt;
      behind = λ k le.
          get_or-append_right (take at file) (bytes ++ drop (at + size) file) at k 0 long (omega arith)
          ∙ get_or-append_right bytes (drop (at + size) file) size (k - at) 0
          (length_numbers width numbers) (omega arith)
          ∙ get_or-drop (at + size) file (k - at - size) 0
          ∙ ap (λ (n : ℕ). get_or file n 0) (omega arith);
    }

-- a number before the span of a write
pub number_before : (width at from to : ℕ) (old new : List ℕ) → KeepsOutside from to old new → at + width ≤ from
    → number_at width new at ≡ number_at width old at
number_before width at from to old new keeps h = number_same width at new old (λ k a b. keeps.before k (omega arith))

-- and one behind it
pub number_behind : (width at from to : ℕ) (old new : List ℕ) → KeepsOutside from to old new → to ≤ at
    → number_at width new at ≡ number_at width old at
number_behind width at from to old new keeps h = number_same width at new old (λ k a b. keeps.behind k (omega arith))

-- and all bytes behind it
pub behind_kept : (from to : ℕ) (old new : List ℕ) → KeepsOutside from to old new → length new ≡ length old
    → drop to new ≡ drop to old
behind_kept from to old new keeps long =
    same_number_lists (drop to new) (drop to old) (omega (arith, length-drop to new, length-drop to old, long))
    (λ k lt. get_or-drop to new k 0 ∙ keeps.behind (to + k) (omega arith) ∙ sym (get_or-drop to old k 0))
