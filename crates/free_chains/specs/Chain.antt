-- The lists of free blocks and of data blocks that have room. Source: `struct v2_disk_dqinfo` of the kernel's
-- `fs/quota/quotaio_v2.h` (`dqi_free_blk`, `dqi_free_entry`) and `struct qt_disk_dqdbheader` of `fs/quota/quota_tree.h`
-- (`dqdh_next_free`, `dqdh_prev_free`).
use Rattle.std.specs.Prelude.{◌≡◌, ◌⊎◌, ℕ, zero, suc, ◌≤◌, if◌then◌else◌, IsTrue, List, [], ◌∷◌, ◌++◌, map}
use Rattle.file_blocks.specs.Block.{next_of, leads}
use Rattle.quota_types.specs.Times.{StandsIn, times}

-- A chain begins at its head and goes on by the link of each block, up to the first number that is 0, is no block's
-- number, or was met before. `end` is that number.
pub record IsChain (file : List ℕ) (blocks head : ℕ) (chain : List ℕ) (end : ℕ) : Type 0 where
  pub linked : chain ++ end ∷ [] ≡ head ∷ map (next_of file) chain
  pub inside : (number : ℕ) → StandsIn chain number → IsTrue (leads blocks number)
  pub distinct : (number : ℕ) → times chain number ≤ 1
  pub stops : (end ≡ 0) ⊎ (blocks ≤ end) ⊎ StandsIn chain end

-- The blocks that are met from a head on, at most this many of them: up to the first number that is 0 or no block's
-- number.
unfoldable pub chain_from : List ℕ → (blocks head most : ℕ) → List ℕ
chain_from file blocks head zero = []
chain_from file blocks head (suc most) =
    if leads blocks head then head ∷ chain_from file blocks (next_of file head) most else []
