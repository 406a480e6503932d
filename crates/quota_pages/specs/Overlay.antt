-- A block laid over a file. Source: `V2_DQBLKSIZE_BITS` of the kernel's `fs/quota/quotaio_v2.h`, blocks of 1,024 bytes.
use Rattle.std.specs.Prelude.{ℕ, ◌*◌, List, ◌++◌, take, replicate}
use Rattle.outside.specs.World.{overwritten}

-- the 1,024 bytes of a block; bytes that are missing count as 0
abbrev pub whole_block : List ℕ → List ℕ
whole_block bytes = take 1024 (bytes ++ replicate 1024 0)

-- a file with a block laid over it, at 1,024 times its number
unfoldable pub with_block : List ℕ → ℕ → List ℕ → List ℕ
with_block file number bytes = overwritten file (1024 * number) (whole_block bytes)
