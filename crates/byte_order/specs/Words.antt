-- The words of a file, of four bytes each, as they are where it is read in an order. Source: the references of a tree
-- block and the links of `struct qt_disk_dqdbheader` in the kernel's `fs/quota/quota_tree.h`, each a number of four
-- bytes at a multiple of four.
use Rattle.std.specs.Prelude.{ℕ, ◌+◌, ◌-◌, ◌*◌, ◌/◌, ◌%◌, List, length, map}
use Rattle.std.specs.List.{range_with_len}
use Rattle.quota_types.specs.Bytes.{byte_at}
use Rattle.outside.specs.World.{World}
use Rattle.file_blocks.specs.Block.{file_of}
use Rattle.byte_order.specs.declared.order.Order.{Order}
use Rattle.byte_order.specs.declared.order.Order.TheVariants.{Little, Big}

-- where a byte comes to stand when its word is turned round: the first in place of the last, the second of the third
abbrev pub turned_place : ℕ → ℕ
turned_place at = 4 * (at / 4) + (3 - at % 4)

-- how many words so many bytes have, the last of which may be cut
abbrev pub words_in : ℕ → ℕ
words_in bytes = (bytes + 3) / 4

-- Each word of a file turned round. Bytes past its end count as 0, so that a word which the end cuts is filled up with
-- zeros.
unfoldable pub turned : List ℕ → List ℕ
turned file = map (λ at. byte_at file (turned_place at)) (range_with_len 0 (4 * words_in (length file)))

-- The words of a file that is read in an order, lowest byte first. Of a little-endian file they are the file itself.
abbrev pub in_order : Order → List ℕ → List ℕ
in_order Little file = file
in_order Big file = turned file

-- the words of the file that has a name among some files
abbrev pub words_of : Order → World → (name : List ℕ) → List ℕ
words_of order files name = in_order order (file_of files name)
