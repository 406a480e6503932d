-- The words of a file that is read in an order.
use Rattle.std.proofs.Common.{◌≡◌, ℕ, zero, suc, ◌+◌, ◌*◌, ◌/◌, ◌^◌, ◌<◌, ◌≤◌, List, length, take, drop, refl, sym, ap}
use Rattle.std.proofs.Common.{◌∙◌, arith}
use Rattle.std.proofs.lemmas.Grind.{same_number_lists}
use Rattle.std.proofs.lemmas.List.{get_or_past}
use Rattle.quota_types.specs.Bytes.{byte_at, number_at}
use Rattle.quota_types.proofs.BytesLemmas.{number_at-past}
use Rattle.file_blocks.specs.Block.{block_of}
use Rattle.file_blocks.proofs.WordLemmas.{byte_at-block_of, length-block_of}
use Rattle.byte_order.specs.declared.order.Order.{Order}
use Rattle.byte_order.specs.declared.order.Order.TheVariants.{Little, Big}
use Rattle.byte_order.specs.Number.{big_at, number_in}
use Rattle.byte_order.specs.Words.{in_order, turned, turned_place}
use Rattle.byte_order.proofs.TurnedLemmas.{byte_at-turned, byte_at-turned_twice, length-turned, turned_further}
use Rattle.byte_order.proofs.TurnedLemmas.{turned_part, turned_twice}

-- a byte of a word that is turned round is the one that stands as far from the word's end as it from its start
byte_of_word : (file : List ℕ) (word at from : ℕ) → at + from ≡ 8 * word + 3 → 4 * word ≤ at → 4 * word ≤ from
    → byte_at (turned file) at ≡ byte_at file from
byte_of_word file word at from far above below =
    let same : at / 4 ≡ word = omega arith in
    let mirrored : turned_place at ≡ from = omega arith in
    byte_at-turned file at ∙ ap (byte_at file) mirrored

-- a word turned round is the word read the highest byte first
pub word_turned : (file : List ℕ) (word : ℕ) → big_at 4 file (4 * word) ≡ number_at 4 (turned file) (4 * word)
unfolding big_at number_at
word_turned file word =
    let at : ℕ = 4 * word in
    let first = byte_of_word file word at (suc (suc (suc at))) (omega arith) (omega arith) (omega arith) in
    let second = byte_of_word file word (suc at) (suc (suc at)) (omega arith) (omega arith) (omega arith) in
    let third = byte_of_word file word (suc (suc at)) (suc at) (omega arith) (omega arith) (omega arith) in
    let fourth = byte_of_word file word (suc (suc (suc at))) at (omega arith) (omega arith) (omega arith) in
    omega (arith, first, second, third, fourth)

-- the first half of a word is the second one of the word turned round
pub first_half_turned : (file : List ℕ) (word : ℕ) → big_at 2 file (4 * word) ≡ number_at 2 (turned file) (4 * word + 2)
unfolding big_at number_at
first_half_turned file word =
    let at : ℕ = 4 * word in
    let third = byte_of_word file word (at + 2) (suc at) (omega arith) (omega arith) (omega arith) in
    let fourth = byte_of_word file word (suc (at + 2)) at (omega arith) (omega arith) (omega arith) in
    omega (arith, third, fourth)

-- and the second half the first one
pub second_half_turned : (file : List ℕ) (word : ℕ)
    → big_at 2 file (4 * word + 2) ≡ number_at 2 (turned file) (4 * word)
unfolding big_at number_at
second_half_turned file word =
    let at : ℕ = 4 * word in
    let first = byte_of_word file word at (suc (at + 2)) (omega arith) (omega arith) (omega arith) in
    let second = byte_of_word file word (suc at) (at + 2) (omega arith) (omega arith) (omega arith) in
    omega (arith, first, second)

-- a number of two words, the highest byte first, by these
two_words : (file : List ℕ) (at : ℕ) → big_at 8 file at ≡ 2 ^ 32 * big_at 4 file at + big_at 4 file (at + 4)
unfolding big_at
two_words file at =
    let e4 : at + 4 ≡ suc (suc (suc (suc at))) = omega arith in
    rw e4 (omega arith)

-- two words turned round stand in the other order
pub double_turned : (file : List ℕ) (word : ℕ)
    → big_at 8 file (4 * word)
    ≡ number_at 4 (turned file) (4 * word + 4) + 2 ^ 32 * number_at 4 (turned file) (4 * word)
double_turned file word =
    let next : 4 * suc word ≡ 4 * word + 4 = omega arith in
    let low : big_at 4 file (4 * word + 4) ≡ number_at 4 (turned file) (4 * word + 4) =
    ap (big_at 4 file) (sym next) ∙ word_turned file (suc word) ∙ ap (number_at 4 (turned file)) next in
    omega (arith, two_words file (4 * word), word_turned file word, low)

-- a word of a file, read in an order
pub word_in_order : (order : Order) (file : List ℕ) (word : ℕ)
    → number_in order 4 file (4 * word) ≡ number_at 4 (in_order order file) (4 * word)
word_in_order Little file word = refl
word_in_order Big file word = word_turned file word

-- a block of the words of a file
block_turned : (file : List ℕ) (number : ℕ) → block_of (turned file) number ≡ turned (block_of file number)
block_turned file number =
    let long : length (block_of (turned file) number) ≡ length (turned (block_of file number)) =
    omega
    (arith, length-block_of (turned file) number, length-turned (block_of file number), length-block_of file number) in
    same_number_lists (block_of (turned file) number) (turned (block_of file number)) long
    (λ k lt.
    let low : k < 1024 = omega (arith, length-block_of (turned file) number) in
    let mirrored : turned_place k < 1024 = omega arith in
    let whole : 1024 * number ≡ 4 * (256 * number) = omega arith in
    byte_at-block_of (turned file) number k low
    ∙ byte_at-turned file (1024 * number + k)
    ∙ ap (λ (n : ℕ). byte_at file (turned_place (n + k))) whole
    ∙ ap (byte_at file) (turned_further (256 * number) k)
    ∙ ap (λ (n : ℕ). byte_at file (n + turned_place k)) (sym whole)
    ∙ sym (byte_at-turned (block_of file number) k ∙ byte_at-block_of file number (turned_place k) mirrored))

pub block_in_order : (order : Order) (file : List ℕ) (number : ℕ)
    → block_of (in_order order file) number ≡ in_order order (block_of file number)
block_in_order Little file number = refl
block_in_order Big file number = block_turned file number

-- a word of a block, read in an order, is that of the block of the file's words
pub word_of_block : (order : Order) (file : List ℕ) (number word : ℕ)
    → number_in order 4 (block_of file number) (4 * word)
    ≡ number_at 4 (block_of (in_order order file) number) (4 * word)
word_of_block order file number word =
    word_in_order order (block_of file number) word
    ∙ ap (λ (block : List ℕ). number_at 4 block (4 * word)) (sym (block_in_order order file number))

big_past : (width at : ℕ) (file : List ℕ) → length file ≤ at → big_at width file at ≡ 0
unfolding big_at
big_past zero at file past = refl
big_past (suc width) at file past =
    let rest = big_past width (suc at) file (omega arith) in
    let none : 0 * 256 ^ width + big_at width file (suc at) ≡ 0 = omega arith in
    ap (λ (byte : ℕ). byte * 256 ^ width + big_at width file (suc at)) (get_or_past file at 0 past) ∙ none

-- past the end each number is 0
pub number_past : (order : Order) (width at : ℕ) (file : List ℕ) → length file ≤ at → number_in order width file at ≡ 0
number_past Little width at file past = number_at-past width at file past
number_past Big width at file past = big_past width at file past

-- the stated number of a data block, in the words of a big-endian file
pub stated_turned : (file : List ℕ) (number : ℕ)
    → big_at 2 (block_of file number) 8 ≡ number_at 2 (block_of (turned file) number) 10
stated_turned file number =
    first_half_turned (block_of file number) 2
    ∙ ap (λ (block : List ℕ). number_at 2 block 10) (sym (block_turned file number))

-- the length of the words of a file
pub length_in_order : (order : Order) (file : List ℕ)
    → (length file ≤ length (in_order order file)) × (length (in_order order file) < length file + 4)
length_in_order Little file = (omega arith, omega arith)
length_in_order Big file = (omega (arith, length-turned file), omega (arith, length-turned file))

pub whole_length : (order : Order) (file : List ℕ) (words : ℕ) → length file ≡ 4 * words
    → length (in_order order file) ≡ length file
whole_length Little file words whole = refl
whole_length Big file words whole = omega (arith, length-turned file)

pub twice_in_order : (order : Order) (file : List ℕ) (words : ℕ) → length file ≡ 4 * words
    → in_order order (in_order order file) ≡ file
twice_in_order Little file words whole = refl
twice_in_order Big file words whole = turned_twice file words whole

pub byte_twice_in_order : (order : Order) (file : List ℕ) (at : ℕ)
    → byte_at (in_order order (in_order order file)) at ≡ byte_at file at
byte_twice_in_order Little file at = refl
byte_twice_in_order Big file at = byte_at-turned_twice file at

pub part_in_order : (order : Order) (file : List ℕ) (skip words : ℕ)
    → take (4 * words) (drop (4 * skip) (in_order order file))
    ≡ in_order order (take (4 * words) (drop (4 * skip) file))
part_in_order Little file skip words = refl
part_in_order Big file skip words = turned_part file skip words
