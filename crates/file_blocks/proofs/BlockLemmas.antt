-- A block that is read: what the file has of it, and zeros behind that.
use Rattle.std.proofs.Common.{◌≡◌, ℕ, zero, suc, ◌-◌, ◌*◌, ◌≤◌, min, inl, inr, List, [], ◌∷◌, ◌++◌, length, take, drop}
use Rattle.std.proofs.Common.{replicate, refl, sym, ap, ◌∙◌, arith, length-take, length-drop}
use Rattle.std.proofs.lemmas.Bool.{cases_lt}
use Rattle.std.proofs.lemmas.List.{append-nil, take-replicate, drop-replicate, drop_all, take_all}
use borrow.Rule.Slice.PartMut.{mid_of, post_of, put_mid}
use Rattle.file_blocks.specs.Block.{block_of}

-- the beginning of a list with zeros behind it is that of the list, with as many zeros as are missing
pub zeros_behind : (n m : ℕ) (xs : List ℕ) → n ≤ m
    → take n (xs ++ replicate m 0) ≡ take n xs ++ replicate (n - length (take n xs)) 0
zeros_behind zero m xs le = refl
zeros_behind (suc n) m [] le =
    let whole : suc n ≡ suc n - 0 = omega arith in
    take-replicate (suc n) m 0 le ∙ ap (λ (k : ℕ). replicate k 0) whole
zeros_behind (suc n) m (x ∷ xs) le =
    let same : n - length (take n xs) ≡ suc n - suc (length (take n xs)) = omega arith in
    ap (λ (ys : List ℕ). x ∷ ys) (zeros_behind n m xs (omega arith))
    ∙ ap (λ (k : ℕ). x ∷ (take n xs ++ replicate k 0)) same

-- a buffer of a block has this many bytes behind those that were read, and none behind these
room_behind : (count : ℕ) (buffer : List ℕ) → length buffer ≡ 1024
    → length (mid_of count (1024 - count) buffer) ≡ 1024 - count
room_behind count buffer long =
    omega (arith, length-take (1024 - count) (drop count buffer), length-drop count buffer, long)

none_behind : (count : ℕ) (buffer : List ℕ) → length buffer ≡ 1024 → post_of count (1024 - count) buffer ≡ []
none_behind count buffer long =
    drop_all (1024 - count) (drop count buffer) (omega (arith, length-drop count buffer, long))

-- the bytes that a read of this many gives, and zeros in place of all others, are the block
pub read_whole : (file : List ℕ) (number at room count : ℕ) (buffer filled : List ℕ) → at ≡ 1024 * number → room ≡ 1024
    → length buffer ≡ 1024
    → count ≤ 1024 → count ≡ length (take room (drop at file)) → take count buffer ≡ take room (drop at file)
    → filled ≡ replicate (length (mid_of count (1024 - count) buffer)) 0
    → put_mid count (1024 - count) buffer filled ≡ block_of file number
unfolding block_of
read_whole file number at room count buffer filled place whole long few counted_of_room is_of_room filled_so =
    let front : List ℕ = take 1024 (drop at file) in
    let counted : count ≡ length front = counted_of_room ∙ ap (λ (k : ℕ). length (take k (drop at file))) whole in
    let is : take count buffer ≡ front = is_of_room ∙ ap (λ (k : ℕ). take k (drop at file)) whole in
    let zeros : filled ≡ replicate (1024 - count) 0 =
    filled_so ∙ ap (λ (k : ℕ). replicate k 0) (room_behind count buffer long) in
    ap (λ (ys : List ℕ). take count buffer ++ (filled ++ ys)) (none_behind count buffer long)
    ∙ ap (λ (ys : List ℕ). take count buffer ++ ys)
    (append-nil filled ∙ zeros ∙ ap (λ (k : ℕ). replicate (1024 - k) 0) counted)
    ∙ ap (λ (ys : List ℕ). ys ++ replicate (1024 - length front) 0) is
    ∙ sym (zeros_behind 1024 1024 (drop at file) (omega arith))
    ∙ ap (λ (k : ℕ). take 1024 (drop k file ++ replicate 1024 0)) place

-- the bytes from a place on, or none where it is past the end
rest_from : (file : List ℕ) (at : ℕ) → drop (min (length file) at) file ≡ drop at file
rest_from file at = elim (cases_lt (length file) at) [
  | inl past ↦
      let end : min (length file) at ≡ length file = omega arith in
      ap (λ (k : ℕ). drop k file) end ∙ drop_all (length file) file (omega arith) ∙ sym (drop_all at file (omega arith))
  | inr within ↦ let there : min (length file) at ≡ at = omega arith in ap (λ (k : ℕ). drop k file) there
]

-- what the file has of a block, copied over the beginning of zeros, is the block
pub copied_block : (file part front zeros : List ℕ) (number start count : ℕ) → start ≡ min (length file) (1024 * number)
    → part ≡ take (length file - start) (drop start file)
    → count ≡ min (length part) 1024 → front ≡ take count part → zeros ≡ replicate 1024 0
    → front ++ drop count zeros ≡ block_of file number
unfolding block_of
copied_block file part front zeros number start count from behind few is none =
    let rest : List ℕ = drop (1024 * number) file in
    let same : part ≡ rest =
    behind ∙ take_all (length file - start) (drop start file) (omega (arith, length-drop start file))
    ∙ ap (λ (k : ℕ). drop k file) from ∙ rest_from file (1024 * number) in
    let counted : count ≡ length (take 1024 rest) = omega (arith, few, ap length same, length-take 1024 rest) in
    let whole : take count rest ≡ take 1024 rest = take_counted rest count (omega (arith, few, ap length same)) in
    ap (λ (ys : List ℕ). ys ++ drop count zeros) (is ∙ ap (take count) same ∙ whole)
    ∙ ap (λ (ys : List ℕ). take 1024 rest ++ ys)
    (ap (drop count) none ∙ drop-replicate count 1024 0 ∙ ap (λ (k : ℕ). replicate (1024 - k) 0) counted)
    ∙ sym (zeros_behind 1024 1024 rest (omega arith))
  where
    take_counted : (xs : List ℕ) (n : ℕ) → n ≡ min (length xs) 1024 → take n xs ≡ take 1024 xs
    take_counted xs n is = elim (cases_lt (length xs) 1024) [
      | inl low ↦
          let all : n ≡ length xs = omega arith in
          take_all n xs (omega arith) ∙ sym (take_all 1024 xs (omega arith))
      | inr high ↦ let all : n ≡ 1024 = omega arith in ap (λ (k : ℕ). take k xs) all
    ]

-- the first 1,024 bytes behind a block's place are the block, where the file has that many
pub chunk_is_block : (file rest block : List ℕ) (number start : ℕ) → start ≡ 1024 * number
    → rest ≡ take (length file - start) (drop start file) → 1024 ≤ length rest
    → block ≡ take 1024 rest → block ≡ block_of file number
unfolding block_of
chunk_is_block file rest block number start place behind enough is =
    let all : List ℕ = drop (1024 * number) file in
    let same : rest ≡ all = behind
    ∙ take_all (length file - start) (drop start file) (omega (arith, length-drop start file))
    ∙ ap (λ (k : ℕ). drop k file) place in
    let none : 1024 - length (take 1024 all) ≡ 0 = omega (arith, enough, ap length same, length-take 1024 all) in
    is ∙ ap (take 1024) same
    ∙ sym (zeros_behind 1024 1024 all (omega arith)
    ∙ ap (λ (k : ℕ). take 1024 all ++ replicate k 0) none
    ∙ append-nil (take 1024 all))
