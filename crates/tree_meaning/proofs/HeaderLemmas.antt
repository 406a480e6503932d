-- The header of a file, in its first block.
use Rattle.std.proofs.Common.{◌≡◌, ℕ, ◌+◌, ◌*◌, ◌≤◌, List, ap, ◌∙◌, arith}
use Rattle.quota_types.specs.Bytes.{number_at}
use Rattle.entry_codec.specs.Header.{header_of}
use Rattle.file_blocks.specs.Block.{block_of}
use Rattle.file_blocks.proofs.WordLemmas.{number_in_block}

-- the header of a file is that of its first block
pub header_in_block : (file : List ℕ) → header_of (block_of file 0) ≡ header_of file
header_in_block file =
    λ i. record {
      magic = number 0 (omega arith) i;
      version = number 4 (omega arith) i;
      block_grace = number 8 (omega arith) i;
      inode_grace = number 12 (omega arith) i;
      flags = number 16 (omega arith) i;
      blocks = number 20 (omega arith) i;
      free = number 24 (omega arith) i;
      first = number 28 (omega arith) i;
    }
  where
    number : (at : ℕ) → at + 4 ≤ 1024 → number_at 4 (block_of file 0) at ≡ number_at 4 file at
    number at low =
        let same : 1024 * 0 + at ≡ at = omega arith in number_in_block 4 file 0 at low ∙ ap (number_at 4 file) same
