-- The blocks of a tree file. Source: the kernel's `fs/quota/quotaio_v2.h` (`V2_DQBLKSIZE_BITS`: blocks of 1,024 bytes)
-- and `struct qt_disk_dqdbheader` of `fs/quota/quota_tree.h`.
use Rattle.std.specs.Prelude.{ℕ, ◌*◌, List, ◌++◌, take, drop, replicate, [], Option, unwrap_or, Bool, not, ◌&&◌, ◌==◌}
use Rattle.std.specs.Prelude.{nat_lt}
use Rattle.quota_types.specs.Bytes.{number_at}
use Rattle.outside.specs.World.{World}

-- the 1,024 bytes of a block; bytes past the end of the file count as 0
unfoldable pub block_of : List ℕ → ℕ → List ℕ
block_of file number = take 1024 (drop (1024 * number) file ++ replicate 1024 0)

-- the number of four bytes at a place of a block, where places count such numbers
abbrev pub word_at : List ℕ → ℕ → ℕ → ℕ
word_at file number place = number_at 4 (block_of file number) (4 * place)

-- the block that follows a block in its list, or 0
abbrev pub next_of : List ℕ → ℕ → ℕ
next_of file number = number_at 4 (block_of file number) 0

-- the block before a data block in the entry list, or 0
abbrev pub previous_of : List ℕ → ℕ → ℕ
previous_of file number = number_at 4 (block_of file number) 4

-- the bytes of a file that may be absent
abbrev pub bytes_of : Option (List ℕ) → List ℕ
bytes_of file = unwrap_or file []

-- the bytes of the file that has a name among some files; one that is not there has none
abbrev pub file_of : World → (name : List ℕ) → List ℕ
file_of files name = bytes_of (files name)

-- a reference or a link leads to a block other than that of the header
abbrev pub leads : ℕ → ℕ → Bool
leads blocks reference = not (reference == 0) && nat_lt reference blocks
