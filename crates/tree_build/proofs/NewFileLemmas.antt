-- The blocks of a file that is written block by block.
use Rattle.std.proofs.Common.{◌≡◌, ℕ, ◌+◌, ◌-◌, ◌*◌, ◌<◌, ◌≤◌, List, ◌++◌, length, get_or, take, drop, replicate, refl}
use Rattle.std.proofs.Common.{sym, ap, ◌∙◌, arith, append_assoc, length-append, length-drop}
use Rattle.std.proofs.lemmas.List.{append-nil, take-append-le, drop-append-le, drop-drop, drop_all, take_all, take_at}
use Rattle.std.proofs.lemmas.List.{drop_at, length-take-le, get_or-drop, get_or-replicate}
use borrow.Rule.Slice.PartMut.{post_of}
use Rattle.quota_types.specs.Bytes.{byte_at}
use Rattle.file_blocks.specs.Block.{block_of}
use Rattle.tree_build.specs.NewFile.{KeepsBlocks}

-- a block that the file has whole is as many of its bytes
pub block_within : (file : List ℕ) (number : ℕ) → 1024 * number + 1024 ≤ length file
    → block_of file number ≡ take 1024 (drop (1024 * number) file)
unfolding block_of
block_within file number long =
    take-append-le 1024 (drop (1024 * number) file) (replicate 1024 0) (omega (arith, length-drop (1024 * number) file))

-- blocks that are followed by others stay
pub kept_append : (file more : List ℕ) (count : ℕ) → length file ≡ 1024 * count → KeepsBlocks count file (file ++ more)
kept_append file more count long number low =
    let whole : 1024 ≤ length (drop (1024 * number) file) = omega (arith, length-drop (1024 * number) file) in
    block_within (file ++ more) number (omega (arith, length-append file more))
    ∙ ap (take 1024) (drop-append-le (1024 * number) file more (omega arith))
    ∙ take-append-le 1024 (drop (1024 * number) file) more whole
    ∙ sym (block_within file number (omega arith))

-- a block that is appended is the next one
pub appended : (file block : List ℕ) (count : ℕ) → length file ≡ 1024 * count → length block ≡ 1024
    → block_of (file ++ block) count ≡ block
appended file block count long size =
    block_within (file ++ block) count (omega (arith, length-append file block))
    ∙ ap (take 1024) (drop_at file block (1024 * count) long)
    ∙ take_all 1024 block (omega arith)

pub kept_again : (count : ℕ) (old middle new : List ℕ) → KeepsBlocks count old middle → KeepsBlocks count middle new
    → KeepsBlocks count old new
kept_again count old middle new first second number low = second number low ∙ first number low

pub kept_first : (count : ℕ) (file : List ℕ) → KeepsBlocks count file file
kept_first count file number low = refl

-- the file with another root
abbrev pub with_root : List ℕ → List ℕ → List ℕ
with_root file root = take 1024 file ++ (root ++ drop 2048 file)

-- what a write at the place of the root leaves
pub root_written : (items there root written : List ℕ) (len : ℕ) → there ≡ items → length items ≡ len → 2048 ≤ len
    → length root ≡ 1024 → written ≡ root
    → take len ((take 1024 there ++ (written ++ post_of 1024 1024 there))
    ++ drop (length (take 1024 there ++ (written ++ post_of 1024 1024 there))) items) ≡ with_root items root
root_written items there root written len is long two size now =
    let behind : post_of 1024 1024 there ≡ drop 2048 items = drop-drop 1024 1024 there ∙ ap (drop 2048) is in
    let front : take 1024 there ≡ take 1024 items = ap (take 1024) is in
    let whole : take 1024 there ++ (written ++ post_of 1024 1024 there) ≡ with_root items root =
    ap (λ (xs : List ℕ). xs ++ (written ++ post_of 1024 1024 there)) front
    ∙ ap (λ (xs : List ℕ). take 1024 items ++ (xs ++ post_of 1024 1024 there)) now
    ∙ ap (λ (xs : List ℕ). take 1024 items ++ (root ++ xs)) behind in
    let all : length (with_root items root) ≡ len =
    omega (
      arith,
      length-append (take 1024 items) (root ++ drop 2048 items),
      length-append root (drop 2048 items),
      length-take-le 1024 items (omega arith),
      length-drop 2048 items,
    ) in
    ap (λ (xs : List ℕ). take len (xs ++ drop (length xs) items)) whole
    ∙ ap (λ (xs : List ℕ). take len (with_root items root ++ xs))
    (drop_all (length (with_root items root)) items (omega arith))
    ∙ ap (take len) (append-nil (with_root items root))
    ∙ take_all len (with_root items root) (omega arith)

pub length-with_root : (file root : List ℕ) → 2048 ≤ length file → length root ≡ 1024
    → length (with_root file root) ≡ length file
length-with_root file root two size =
    omega (
      arith,
      length-append (take 1024 file) (root ++ drop 2048 file),
      length-append root (drop 2048 file),
      length-take-le 1024 file (omega arith),
      length-drop 2048 file,
    )

-- the root is the one that was written
pub root_is : (file root : List ℕ) → 2048 ≤ length file → length root ≡ 1024 → block_of (with_root file root) 1 ≡ root
root_is file root two size =
    block_within (with_root file root) 1 (omega (arith, length-with_root file root two size))
    ∙ ap (take 1024) (drop_at (take 1024 file) (root ++ drop 2048 file) 1024 (length-take-le 1024 file (omega arith)))
    ∙ take_at root (drop 2048 file) 1024 size

-- the header stays
pub front_is : (file root : List ℕ) → 2048 ≤ length file → take 1024 (with_root file root) ≡ take 1024 file
front_is file root two = take_at (take 1024 file) (root ++ drop 2048 file) 1024 (length-take-le 1024 file (omega arith))

-- and every other block
pub root_keeps : (file root : List ℕ) (number : ℕ) → length root ≡ 1024 → 2 ≤ number
    → 1024 * number + 1024 ≤ length file → block_of (with_root file root) number ≡ block_of file number
root_keeps file root number size two low =
    let skip : length (take 1024 file ++ root) ≡ 2048 =
    omega (arith, length-append (take 1024 file) root, length-take-le 1024 file (omega arith)) in
    let place : 2048 + (1024 * number - 2048) ≡ 1024 * number = omega arith in
    block_within (with_root file root) number (omega (arith, length-with_root file root (omega arith) size))
    ∙ ap (take 1024) (
    ap (λ (k : ℕ). drop k (with_root file root)) (sym place)
    ∙ sym (drop-drop (1024 * number - 2048) 2048 (with_root file root))
    ∙ ap (drop (1024 * number - 2048))
    (ap (drop 2048) (sym (append_assoc (take 1024 file) root (drop 2048 file)))
    ∙ drop_at (take 1024 file ++ root) (drop 2048 file) 2048 skip)
    ∙ drop-drop (1024 * number - 2048) 2048 file
    ∙ ap (λ (k : ℕ). drop k file) place
    )
    ∙ sym (block_within file number low)

-- the bytes behind the first 32 of a block of zeros, of which only those were written
pub zeros_stay : (block : List ℕ) → drop 32 block ≡ drop 32 (replicate 1024 0) → (at : ℕ) → 32 ≤ at → at < 1024
    → byte_at block at ≡ 0
zeros_stay block same at from to =
    let place : 32 + (at - 32) ≡ at = omega arith in
    ap (λ (k : ℕ). get_or block k 0) (sym place) ∙ sym (get_or-drop 32 block (at - 32) 0)
    ∙ ap (λ (xs : List ℕ). get_or xs (at - 32) 0) same
    ∙ get_or-drop 32 (replicate 1024 0) (at - 32) 0 ∙ ap (λ (k : ℕ). get_or (replicate 1024 0) k 0) place
    ∙ get_or-replicate 1024 at 0 0 to
