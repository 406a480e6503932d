-- Whether a tree file has room for more blocks: it takes those of its list of free blocks first, and then new ones
-- behind the last one, up to a limit.
use Rattle.std.specs.Prelude.{◌≡◌, ℕ, ◌+◌, ◌-◌, ◌<◌, ◌≤◌, List, length}
use Rattle.free_chains.specs.Chain.{IsChain}
use Rattle.free_chains.specs.declared.heads.Heads.{Heads}

-- this many blocks can be taken from a list of free blocks and behind the last one, within the limit
abbrev pub LeavesRoom : Heads → (limit need : ℕ) → (free : List ℕ) → Type 0
LeavesRoom heads limit need free = need ≤ length free + (limit - heads.blocks)

-- The list of free blocks ends, and this many blocks can be taken within the limit.
pub record FileHasRoom (file : List ℕ) (heads : Heads) (limit need : ℕ) : Type 0 where
  pub free : List ℕ
  pub is_free : IsChain file heads.blocks heads.free free 0
  pub room : LeavesRoom heads limit need free

-- The list of free blocks, where it ends, has fewer blocks than are needed, and with new ones for the others the file
-- would have this number of blocks.
pub record NeedsBlocks (file : List ℕ) (heads : Heads) (need blocks : ℕ) : Type 0 where
  pub few : (free : List ℕ) → IsChain file heads.blocks heads.free free 0 → length free < need
  pub sum : (free : List ℕ) → IsChain file heads.blocks heads.free free 0 → blocks ≡ heads.blocks + (need - length free)
