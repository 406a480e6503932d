-- A leaf that is taken away from the tree of a file. Source: the kernel's `fs/quota/quota_tree.c` (`remove_tree`).
use Rattle.std.specs.Prelude.{◌≡◌, ◌≢◌, ℕ, ◌-◌, ◌*◌, ◌<◌, ◌≤◌, List, [], ◌∷◌, length, take, reverse, slice_index}
use Rattle.quota_types.specs.Times.{StandsIn}
use Rattle.file_blocks.specs.Block.{word_at}
use Rattle.quota_pages.specs.Used.{HasWord}
use Rattle.quota_radix.specs.Link.{AreDistinct, GainsBlocks, HasWay, IsLinkable, LeadsAlong, with_path}
use Rattle.quota_radix.specs.Tree.{leaves, lower_blocks, tree_blocks}
use Rattle.quota_radix.specs.TreeDefect.{IsEmpty}
use Rattle.quota_radix.specs.Way.{digit_on_way}
use Rattle.quota_radix.specs.OnWay.{blocks_on_way}

-- the tree blocks of a whole way below the root, this many of them, the lowest first
abbrev pub lowest_blocks : List ℕ → (count : ℕ) → List ℕ
lowest_blocks way count = take count (slice_index way 3 ∷ slice_index way 2 ∷ slice_index way 1 ∷ [])

-- Each tree block of an identifier's way, from one of them on, has 0 at the place of its digit; all its other bytes are
-- as before.
abbrev pub ClearsAlong : List ℕ → (first id : ℕ) → List ℕ → List ℕ → Type 0
ClearsAlong way first id old new =
    (digits : ℕ) → first ≤ digits → digits < 4 → HasWord (slice_index way digits) (4 * digit_on_way id digits) 0 old new

-- a tree block has no reference but that of a digit
abbrev pub HasNoOther : List ℕ → (block digit : ℕ) → Type 0
HasNoOther file block digit = (other : ℕ) → other < 256 → other ≢ digit → word_at file block other ≡ 0

-- This many of the lowest tree blocks of an identifier's way have no reference but that on the way, and the one above
-- them, where that is below the root, has another.
pub record AreAllWithoutOther (way : List ℕ) (count id : ℕ) (file : List ℕ) : Type 0 where
  pub few : count ≤ 3
  pub only : (digits : ℕ) → 3 - count < digits → digits < 4
      → HasNoOther file (slice_index way digits) (digit_on_way id digits)
  pub other : count < 3 → ¬ HasNoOther file (slice_index way (3 - count)) (digit_on_way id (3 - count))

-- A leaf can be taken away from the tree of a file: the whole way of its identifier is there.
pub record IsUnlinkable (file : List ℕ) (blocks : ℕ) (found : List ℕ) (id : ℕ) : Type 0 where
  -- each block of the tree stands once in its levels
  pub once : AreDistinct (tree_blocks file blocks)
  -- the blocks that were found are those on the identifier's way
  pub way : found ≡ blocks_on_way file blocks id

-- An identifier lost its leaf, and its way the tree blocks that were emptied: linking the leaf in the new tree, by
-- those blocks, would make the old one.
pub record LosesLeaf (way emptied : List ℕ) (id blocks : ℕ) (old new : List ℕ) : Type 0 where
  -- the leaf can be linked in the new tree, whose way ends above the emptied blocks; these are blank, and are none of
  -- its blocks
  pub can : IsLinkable new blocks (take (4 - length emptied) way) (reverse emptied) id (slice_index way 4)
  -- along the way, from the block above the emptied ones on, each block led to the next one, and has all its other
  -- bytes
  pub along : LeadsAlong way (3 - length emptied) id new old
  -- the old paths are the new ones and those along the way
  pub paths : HasWay way (4 - length emptied) id blocks new old
  -- the old leaves are the new ones with this one in its place
  pub leaves : leaves old blocks ≡ with_path (leaves new blocks) (record { number = id; block = slice_index way 4 })
  -- the old levels have the emptied blocks besides
  pub levels : GainsBlocks way (reverse emptied) (4 - length emptied) blocks new old
  -- where no tree block below the root was empty, none is
  pub none_empty : ((block : ℕ) → StandsIn (lower_blocks old blocks) block → ¬ IsEmpty old block)
      → (block : ℕ) → StandsIn (lower_blocks new blocks) block → ¬ IsEmpty new block
