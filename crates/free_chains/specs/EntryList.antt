-- What calls do with the list of data blocks that have room. Source: `insert_free_dqentry` and `remove_free_dqentry` of
-- the kernel's `fs/quota/quota_tree.c`.
use Rattle.std.specs.Prelude.{◌≡◌, ◌≢◌, ℕ, ◌<◌, ◌≤◌, ◌==◌, Bool, true, IsTrue, List, [], ◌∷◌, ◌++◌, length, map, take}
use Rattle.std.specs.Prelude.{if◌then◌else◌}
use Rattle.quota_types.specs.Times.{times}
use Rattle.file_blocks.specs.Block.{leads, next_of, previous_of}
use Rattle.outside.specs.Seen.{StoreSeen}
use Rattle.quota_pages.specs.Used.{HasWord, IsKnown, LendsSome, shown_over}
use Rattle.quota_pages.specs.declared.page_buffer.Pages.{Pages}
use Rattle.free_chains.specs.Chain.{IsChain}
use Rattle.free_chains.specs.Links.{HasLinks, led_to}
use Rattle.free_chains.specs.declared.heads.Heads.{Heads}

-- a block, and the blocks to which its links lead, that to the block before it first
abbrev pub blocks_beside : List ℕ → (block : ℕ) → List ℕ
blocks_beside file block = block ∷ led_to (previous_of file block) ++ led_to (next_of file block)

-- each block of a list names the one before it, the first one 0
abbrev pub NamesPrevious : (file chain : List ℕ) → Type 0
NamesPrevious file chain = map (previous_of file) chain ≡ take (length chain) (0 ∷ chain)

-- A block was put before the list of data blocks that have room: it has the old head and 0 as its links, the old first
-- block names it, and whatever list began at the old head goes on behind it.
pub record EntersList (old new : List ℕ) (heads : Heads) (block : ℕ) : Type 0 where
  pub links : block ≢ heads.first → HasLinks block heads.first 0 old new
  pub behind : block ≢ heads.first → heads.first ≢ 0 → HasWord heads.first 4 block old new
  pub chain : (chain : List ℕ) (end : ℕ) → IsChain old heads.blocks heads.first chain end → times chain block ≡ 0
      → IsTrue (leads heads.blocks block) → IsChain new heads.blocks block (block ∷ chain) end
  pub previous : (chain : List ℕ) (end : ℕ) → IsChain old heads.blocks heads.first chain end → times chain block ≡ 0
      → IsTrue (leads heads.blocks block) → NamesPrevious old chain → NamesPrevious new (block ∷ chain)

-- A block left the list of data blocks that have room, in which these blocks stood in front of it and behind it: those
-- are the list now, the two on both sides of it name each other, and its own links are 0.
pub record LeavesList (old new : List ℕ) (heads now : Heads) (block : ℕ) (front back : List ℕ) : Type 0 where
  pub chain : IsChain new heads.blocks now.first (front ++ back) 0
  pub previous : NamesPrevious new (front ++ back)
  pub links : HasLinks block 0 0 old new
  pub first : front ≡ [] → now.first ≡ next_of old block
  pub stays : front ≢ [] → now.first ≡ heads.first
  pub before : (done : List ℕ) (number : ℕ) → front ≡ done ++ number ∷ [] → HasWord number 0 (next_of old block) old new
  pub behind : (number : ℕ) (rest : List ℕ) → back ≡ number ∷ rest → HasWord number 4 (previous_of old block) old new

-- A block was taken out of the list: neither of its links leads past the last block, the blocks to which they lead are
-- the only others that were lent for writing, and its link to the block behind it became the head where it names none
-- before it.
pub record TakesOut (tells : Bool) (block : ℕ) (before now : StoreSeen) (heads new_heads : Heads)
    (old new : Pages) : Type 0 where
  pub next : ℕ
  pub previous : ℕ
  pub next_is : IsKnown tells before old → next ≡ next_of (shown_over before old) block
  pub previous_is : IsKnown tells before old → previous ≡ previous_of (shown_over before old) block
  pub next_inside : next < heads.blocks
  pub previous_inside : previous < heads.blocks
  pub heads_are : new_heads ≡ record heads { first = if previous == 0 then next else heads.first }
  pub lends : LendsSome tells true 3 (block ∷ led_to previous ++ led_to next) before now old new

-- The number that stops a block from leaving: its link to the block behind it, or, where that is inside, the one to the
-- block before it.
pub record StopsLeaving (file : List ℕ) (blocks block number : ℕ) : Type 0 where
  pub next : blocks ≤ next_of file block → number ≡ next_of file block
  pub previous : next_of file block < blocks → number ≡ previous_of file block

-- three numbers, of which the last two differ unless both are 0
pub record AreApart (block next previous : ℕ) : Type 0 where
  pub next_other : next ≢ block
  pub previous_other : previous ≢ block
  pub each_other : next ≢ 0 → next ≢ previous

-- The blocks to which the links of a block led name each other, and the block names none.
pub record Unlinks (old new : List ℕ) (block next previous : ℕ) : Type 0 where
  pub links : HasLinks block 0 0 old new
  pub before : previous ≢ 0 → HasWord previous 0 next old new
  pub behind : next ≢ 0 → HasWord next 4 previous old new
