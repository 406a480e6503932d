-- Blocks of a file, and blocks that are laid over it.
use Rattle.std.proofs.Common.{◌≡◌, ◌≢◌, ℕ, ◌+◌, ◌-◌, ◌*◌, ◌<◌, ◌≤◌, inl, inr, List, ◌++◌, length, take, drop, replicate}
use Rattle.std.proofs.Common.{refl, sym, ap, ◌∙◌, arith, length-append, length-take, length-drop}
use Rattle.std.proofs.lemmas.Bool.{cases_lt}
use Rattle.std.proofs.lemmas.Grind.{same_number_lists}
use Rattle.std.proofs.lemmas.List.{get_or-append_right, get_or_append_left, get_or-take, get_or-drop, get_or-replicate}
use Rattle.std.proofs.lemmas.List.{get_or_past, length-replicate, take_all, take-append-le}
use Rattle.quota_types.specs.Bytes.{byte_at}
use Rattle.outside.specs.World.{overwritten}
use Rattle.file_blocks.specs.Block.{block_of}
use Rattle.file_blocks.proofs.WordLemmas.{byte_at-block_of, length-block_of}
use Rattle.quota_pages.specs.Overlay.{whole_block, with_block}

-- two lists of as many bytes with the same byte at each place
same_bytes : (one other : List ℕ) → length one ≡ length other
    → ((at : ℕ) → byte_at one at ≡ byte_at other at) → one ≡ other
same_bytes one other long same = same_number_lists one other long (λ at within. same at)

-- a list that is cut, or filled up with zeros, to a length
pub length-filled : (size : ℕ) (bytes : List ℕ) → length (take size (bytes ++ replicate size 0)) ≡ size
length-filled size bytes =
    omega (
      arith,
      length-take size (bytes ++ replicate size 0),
      length-append bytes (replicate size 0),
      length-replicate {A = ℕ} size 0,
    )

pub byte_at-filled : (size : ℕ) (bytes : List ℕ) (at : ℕ) → at < size
    → byte_at (take size (bytes ++ replicate size 0)) at ≡ byte_at bytes at
byte_at-filled size bytes at within =
    let padded : byte_at (bytes ++ replicate size 0) at ≡ byte_at bytes at =
    elim (cases_lt at (length bytes)) [
      | inl inside ↦ get_or_append_left bytes (replicate size 0) 0 at inside
      | inr past ↦ get_or-append_right bytes (replicate size 0) (length bytes) at 0 refl past
          ∙ get_or-replicate size (at - length bytes) 0 0 (omega arith)
          ∙ sym (get_or_past bytes at 0 past)
    ] in
    get_or-take size (bytes ++ replicate size 0) at 0 within ∙ padded

filled-whole : (size : ℕ) (bytes : List ℕ) → length bytes ≡ size → take size (bytes ++ replicate size 0) ≡ bytes
filled-whole size bytes long =
    take-append-le size bytes (replicate size 0) (omega arith) ∙ take_all size bytes (omega arith)

-- what stands before the bytes that are written at a place
abbrev front_of : List ℕ → ℕ → List ℕ
front_of old at = take at old ++ replicate (at - length old) 0

length-front_of : (old : List ℕ) (at : ℕ) → length (front_of old at) ≡ at
length-front_of old at =
    omega (
      arith,
      length-append (take at old) (replicate (at - length old) 0),
      length-take at old,
      length-replicate {A = ℕ} (at - length old) 0,
    )

pub length-overwritten : (old : List ℕ) (at : ℕ) (bytes : List ℕ)
    → length (overwritten old at bytes) ≡ (at + length bytes) + (length old - (at + length bytes))
length-overwritten old at bytes =
    let rest : List ℕ = drop (at + length bytes) old in
    length-append (front_of old at ++ bytes) rest
    ∙ omega (arith, length-append (front_of old at) bytes, length-front_of old at, length-drop (at + length bytes) old)

pub byte_at-overwritten_inside : (old : List ℕ) (at : ℕ) (bytes : List ℕ) (place : ℕ) → at ≤ place
    → place < at + length bytes → byte_at (overwritten old at bytes) place ≡ byte_at bytes (place - at)
byte_at-overwritten_inside old at bytes place past within =
    get_or_append_left (front_of old at ++ bytes) (drop (at + length bytes) old) 0 place
    (omega (arith, length-append (front_of old at) bytes, length-front_of old at))
    ∙ get_or-append_right (front_of old at) bytes at place 0 (length-front_of old at) past

pub byte_at-overwritten_behind : (old : List ℕ) (at : ℕ) (bytes : List ℕ) (place : ℕ) → at + length bytes ≤ place
    → byte_at (overwritten old at bytes) place ≡ byte_at old place
byte_at-overwritten_behind old at bytes place behind =
    get_or-append_right (front_of old at ++ bytes) (drop (at + length bytes) old) (at + length bytes) place 0
    (omega (arith, length-append (front_of old at) bytes, length-front_of old at)) behind
    ∙ get_or-drop (at + length bytes) old (place - (at + length bytes)) 0
    ∙ ap (byte_at old) (let same : (at + length bytes) + (place - (at + length bytes)) ≡ place = omega arith in same)

-- the front has the old bytes, and zeros behind their end
byte_at-front_of : (old : List ℕ) (at place : ℕ) → place < at → byte_at (front_of old at) place ≡ byte_at old place
byte_at-front_of old at place before =
    elim (cases_lt place (length old)) [
      | inl inside ↦ get_or_append_left (take at old) (replicate (at - length old) 0) 0 place
          (omega (arith, length-take at old)) ∙ get_or-take at old place 0 before
      | inr past ↦ get_or-append_right (take at old) (replicate (at - length old) 0) (length (take at old)) place 0 refl
          (omega (arith, length-take at old))
          ∙ get_or-replicate (at - length old) (place - length (take at old)) 0 0 (omega (arith, length-take at old))
          ∙ sym (get_or_past old place 0 past)
    ]

pub byte_at-overwritten_before : (old : List ℕ) (at : ℕ) (bytes : List ℕ) (place : ℕ) → place < at
    → byte_at (overwritten old at bytes) place ≡ byte_at old place
byte_at-overwritten_before old at bytes place before =
    get_or_append_left (front_of old at ++ bytes) (drop (at + length bytes) old) 0 place
    (omega (arith, length-append (front_of old at) bytes, length-front_of old at))
    ∙ get_or_append_left (front_of old at) bytes 0 place (omega (arith, length-front_of old at))
    ∙ byte_at-front_of old at place before

pub length-whole_block : (bytes : List ℕ) → length (whole_block bytes) ≡ 1024
length-whole_block bytes = length-filled 1024 bytes

pub byte_at-whole_block : (bytes : List ℕ) (at : ℕ) → at < 1024 → byte_at (whole_block bytes) at ≡ byte_at bytes at
byte_at-whole_block bytes at within = byte_at-filled 1024 bytes at within

-- bytes that are a block as they are
pub whole_block-same : (bytes : List ℕ) → length bytes ≡ 1024 → whole_block bytes ≡ bytes
whole_block-same bytes long = filled-whole 1024 bytes long

pub length-with_block : (file : List ℕ) (number : ℕ) (bytes : List ℕ)
    → length (with_block file number bytes) ≡ (1024 * number + 1024) + (length file - (1024 * number + 1024))
unfolding with_block
length-with_block file number bytes =
    length-overwritten file (1024 * number) (whole_block bytes)
    ∙ ap (λ (size : ℕ). (1024 * number + size) + (length file - (1024 * number + size))) (length-whole_block bytes)

-- a byte of the block that was laid over a file
pub byte_at-with_block_inside : (file : List ℕ) (number : ℕ) (bytes : List ℕ) (at : ℕ) → 1024 * number ≤ at
    → at < 1024 * number + 1024 → byte_at (with_block file number bytes) at ≡ byte_at bytes (at - 1024 * number)
unfolding with_block
byte_at-with_block_inside file number bytes at past within =
    byte_at-overwritten_inside file (1024 * number) (whole_block bytes) at past
    (omega (arith, length-whole_block bytes))
    ∙ byte_at-whole_block bytes (at - 1024 * number) (omega arith)

pub byte_at-with_block_before : (file : List ℕ) (number : ℕ) (bytes : List ℕ) (at : ℕ) → at < 1024 * number
    → byte_at (with_block file number bytes) at ≡ byte_at file at
unfolding with_block
byte_at-with_block_before file number bytes at before =
    byte_at-overwritten_before file (1024 * number) (whole_block bytes) at before

pub byte_at-with_block_behind : (file : List ℕ) (number : ℕ) (bytes : List ℕ) (at : ℕ) → 1024 * number + 1024 ≤ at
    → byte_at (with_block file number bytes) at ≡ byte_at file at
unfolding with_block
byte_at-with_block_behind file number bytes at behind =
    byte_at-overwritten_behind file (1024 * number) (whole_block bytes) at (omega (arith, length-whole_block bytes))

-- a byte of a file outside of a block
outside : (file : List ℕ) (number other : ℕ) (bytes : List ℕ) (at : ℕ) → other ≢ number → 1024 * other ≤ at
    → at < 1024 * other + 1024 → byte_at (with_block file number bytes) at ≡ byte_at file at
outside file number other bytes at differ past within =
    elim (cases_lt other number) [
      | inl below ↦ byte_at-with_block_before file number bytes at (omega arith)
      | inr above ↦ byte_at-with_block_behind file number bytes at (omega arith)
    ]

-- the block that was laid over a file, and each other one
pub block_of-with_block_same : (file : List ℕ) (number : ℕ) (bytes : List ℕ)
    → block_of (with_block file number bytes) number ≡ whole_block bytes
block_of-with_block_same file number bytes =
    same_number_lists _ _
    (length-block_of (with_block file number bytes) number ∙ sym (length-whole_block bytes)) (λ at inside.
    let within : at < 1024 = omega (arith, inside, length-block_of (with_block file number bytes) number) in
    byte_at-block_of (with_block file number bytes) number at within
    ∙ byte_at-with_block_inside file number bytes (1024 * number + at) (omega arith) (omega arith)
    ∙ ap (byte_at bytes) (let same : (1024 * number + at) - 1024 * number ≡ at = omega arith in same)
    ∙ sym (byte_at-whole_block bytes at within))

pub block_of-with_block_other : (file : List ℕ) (number other : ℕ) (bytes : List ℕ) → other ≢ number
    → block_of (with_block file number bytes) other ≡ block_of file other
block_of-with_block_other file number other bytes differ =
    same_number_lists _ _
    (length-block_of (with_block file number bytes) other ∙ sym (length-block_of file other)) (λ at inside.
    let within : at < 1024 = omega (arith, inside, length-block_of (with_block file number bytes) other) in
    byte_at-block_of (with_block file number bytes) other at within
    ∙ outside file number other bytes (1024 * other + at) differ (omega arith) (omega arith)
    ∙ sym (byte_at-block_of file other at within))

-- a block that was laid over one that had just been laid there
pub with_block-again : (file : List ℕ) (number : ℕ) (one other : List ℕ)
    → with_block (with_block file number one) number other ≡ with_block file number other
with_block-again file number one other =
    same_bytes _ _ (omega (
      arith,
      length-with_block (with_block file number one) number other,
      length-with_block file number one,
      length-with_block file number other,
    )) (λ at.
    elim (cases_lt at (1024 * number)) [
      | inl before ↦ byte_at-with_block_before (with_block file number one) number other at before
          ∙ byte_at-with_block_before file number one at before
          ∙ sym (byte_at-with_block_before file number other at before)
      | inr past ↦ elim (cases_lt at (1024 * number + 1024)) [
        | inl within ↦ byte_at-with_block_inside (with_block file number one) number other at past within
            ∙ sym (byte_at-with_block_inside file number other at past within)
        | inr behind ↦ byte_at-with_block_behind (with_block file number one) number other at behind
            ∙ byte_at-with_block_behind file number one at behind
            ∙ sym (byte_at-with_block_behind file number other at behind)
      ]
    ])

-- bytes of two files that are the same stay the same where the same block is laid over them
along : (one two : List ℕ) (number : ℕ) (bytes : List ℕ) (at : ℕ) → byte_at one at ≡ byte_at two at
    → byte_at (with_block one number bytes) at ≡ byte_at (with_block two number bytes) at
along one two number bytes at same =
    elim (cases_lt at (1024 * number)) [
      | inl before ↦ byte_at-with_block_before one number bytes at before ∙ same
          ∙ sym (byte_at-with_block_before two number bytes at before)
      | inr past ↦ elim (cases_lt at (1024 * number + 1024)) [
        | inl within ↦ byte_at-with_block_inside one number bytes at past within
            ∙ sym (byte_at-with_block_inside two number bytes at past within)
        | inr behind ↦ byte_at-with_block_behind one number bytes at behind ∙ same
            ∙ sym (byte_at-with_block_behind two number bytes at behind)
      ]
    ]

-- blocks of two numbers are laid over a file in either order
pub with_block-swap : (file : List ℕ) (number other : ℕ) (one two : List ℕ) → other ≢ number
    → with_block (with_block file number one) other two ≡ with_block (with_block file other two) number one
with_block-swap file number other one two differ =
    same_bytes _ _
    (omega (
      arith,
      length-with_block (with_block file number one) other two,
      length-with_block file number one,
      length-with_block (with_block file other two) number one,
      length-with_block file other two,
    ))
    (λ at.
    elim (cases_lt at (1024 * other)) [
      | inl before ↦ byte_at-with_block_before (with_block file number one) other two at before
          ∙ along file (with_block file other two) number one at
          (sym (byte_at-with_block_before file other two at before))
      | inr past ↦ elim (cases_lt at (1024 * other + 1024)) [
        | inl within ↦ byte_at-with_block_inside (with_block file number one) other two at past within
            ∙ sym (outside (with_block file other two) number other one at differ past within
            ∙ byte_at-with_block_inside file other two at past within)
        | inr behind ↦ byte_at-with_block_behind (with_block file number one) other two at behind
            ∙ along file (with_block file other two) number one at
            (sym (byte_at-with_block_behind file other two at behind))
      ]
    ])
