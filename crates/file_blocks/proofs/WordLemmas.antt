-- Numbers of a block and of a part of one are numbers of the file.
use Rattle.std.proofs.Common.{◌≡◌, ℕ, zero, suc, ◌+◌, ◌*◌, ◌<◌, ◌≤◌, List, [], ◌∷◌, ◌++◌, length, get_or, take, drop}
use Rattle.std.proofs.Common.{replicate, refl, ap, ◌∙◌, inl, inr, arith, sym, length-append, length-take, length-drop}
use Rattle.std.proofs.lemmas.Bool.{cases_lt}
use Rattle.std.proofs.lemmas.List.{get_or_past, get_or-drop, get_or-take, get_or-replicate, length-replicate}
use Rattle.quota_types.specs.Bytes.{byte_at, number_at}
use Rattle.file_blocks.specs.Block.{block_of}
use Rattle.std.proofs.lemmas.Grind.{same_number_lists}

-- a part of two lists in which they are the same
pub same_part : (size at : ℕ) (xs ys : List ℕ) → length xs ≡ length ys
    → ((k : ℕ) → at ≤ k → k < at + size → byte_at xs k ≡ byte_at ys k) → take size (drop at xs) ≡ take size (drop at ys)
same_part size at xs ys long same =
    same_number_lists (take size (drop at xs)) (take size (drop at ys))
    (omega (
      arith,
      length-take size (drop at xs),
      length-take size (drop at ys),
      length-drop at xs,
      length-drop at ys,
      long,
    ))
    (λ k lt.
    let low : k < size = omega (arith, lt, length-take size (drop at xs)) in
    get_or-take size (drop at xs) k 0 low ∙ get_or-drop at xs k 0 ∙ same (at + k) (omega arith) (omega arith)
    ∙ sym (get_or-take size (drop at ys) k 0 low ∙ get_or-drop at ys k 0))

-- numbers of bytes that are the same, some places further on
pub number_shifted : (width from shift : ℕ) (xs ys : List ℕ)
    → ((k : ℕ) → from ≤ k → k < from + width → byte_at xs k ≡ byte_at ys (shift + k))
    → number_at width xs from ≡ number_at width ys (shift + from)
unfolding number_at
number_shifted zero from shift xs ys same = refl
number_shifted (suc width) from shift xs ys same =
    let byte : byte_at xs from ≡ byte_at ys (shift + from) = same from (omega arith) (omega arith) in
    let rest = number_shifted width (suc from) shift xs ys (λ k above below. same k (omega arith) (omega arith)) in
    let next : shift + suc from ≡ suc (shift + from) = omega arith in
    let behind : number_at width xs (suc from) ≡ number_at width ys (suc (shift + from)) =
    rest ∙ ap (number_at width ys) next in
    omega (arith, byte, behind)

-- a list with zeros behind it has 0 where it has no number
zeros_past : (xs : List ℕ) (count k : ℕ) → get_or (xs ++ replicate count 0) k 0 ≡ get_or xs k 0
zeros_past [] count k = elim (cases_lt k count) [
  | inl low ↦ get_or-replicate count k 0 0 low
  | inr high ↦ get_or_past (replicate count 0) k 0 (omega (arith, high, length-replicate {A = ℕ} count 0))
]
zeros_past (x ∷ xs) count zero = refl
zeros_past (x ∷ xs) count (suc k) = zeros_past xs count k

-- a block has 1,024 bytes
pub length-block_of : (file : List ℕ) (number : ℕ) → length (block_of file number) ≡ 1024
unfolding block_of
length-block_of file number =
    omega (
      arith,
      length-take 1024 (drop (1024 * number) file ++ replicate 1024 0),
      length-append (drop (1024 * number) file) (replicate 1024 0),
      length-replicate {A = ℕ} 1024 0,
    )

-- a byte of a block is one of the file
pub byte_at-block_of : (file : List ℕ) (number at : ℕ) → at < 1024
    → byte_at (block_of file number) at ≡ byte_at file (1024 * number + at)
unfolding block_of
byte_at-block_of file number at low =
    get_or-take 1024 (drop (1024 * number) file ++ replicate 1024 0) at 0 low
    ∙ zeros_past (drop (1024 * number) file) 1024 at
    ∙ get_or-drop (1024 * number) file at 0

-- and so is a number
pub number_in_block : (width : ℕ) (file : List ℕ) (number at : ℕ) → at + width ≤ 1024
    → number_at width (block_of file number) at ≡ number_at width file (1024 * number + at)
number_in_block width file number at low =
    number_shifted width at (1024 * number) (block_of file number) file
    (λ k above below. byte_at-block_of file number k (omega arith))

-- a number of a part is one of the whole
pub number_in_part : (width size at : ℕ) (xs : List ℕ) → width ≤ size
    → number_at width (take size (drop at xs)) 0 ≡ number_at width xs at
number_in_part width size at xs low =
    let same : at + 0 ≡ at = omega arith in
    number_shifted width 0 at (take size (drop at xs)) xs
    (λ k above below. get_or-take size (drop at xs) k 0 (omega arith) ∙ get_or-drop at xs k 0)
    ∙ ap (number_at width xs) same
