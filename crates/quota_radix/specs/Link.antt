-- A leaf that is added to the tree of a file. Source: the kernel's `fs/quota/quota_tree.c` (`do_insert_tree`).
use Rattle.std.specs.Prelude.{◌≡◌, ℕ, suc, ◌-◌, ◌+◌, ◌*◌, ◌/◌, ◌^◌, ◌<◌, ◌≤◌, nat_lt, true, IsTrue, List, [], ◌∷◌, ◌++◌}
use Rattle.std.specs.Prelude.{length, replicate, slice_index}
use Rattle.std.specs.List.{filter}
use Rattle.quota_types.specs.Times.{StandsIn, times}
use Rattle.file_blocks.specs.Block.{block_of, leads}
use Rattle.quota_pages.specs.Page.{Page, is_buffered}
use Rattle.quota_pages.specs.Used.{HasWord}
use Rattle.quota_radix.specs.declared.tree_path.TreePath.{TreePath}
use Rattle.quota_radix.specs.Tree.{level, paths, tree_blocks}
use Rattle.quota_radix.specs.Way.{digit_on_way}
use Rattle.quota_radix.specs.OnWay.{blocks_on_way}

-- Paths with one more in its place: behind those of lower numbers, and before those of greater ones.
abbrev pub with_path : List TreePath → TreePath → List TreePath
with_path paths path =
    filter (λ other. nat_lt other.number path.number) paths ++ path
    ∷ filter (λ other. nat_lt path.number other.number) paths

-- the way of an identifier once its leaf is there: the blocks that were found on it, the fresh ones, and the leaf's
abbrev pub whole_way : List ℕ → List ℕ → ℕ → List ℕ
whole_way found fresh leaf_block = found ++ fresh ++ leaf_block ∷ []

-- the path along an identifier's way by its first digits, this many of them
abbrev pub path_along : List ℕ → ℕ → ℕ → TreePath
path_along way id digits = record { number = id / 256 ^ (4 - digits); block = slice_index way digits }

-- the blocks that a new leaf changes: the last one that was found on its way, and the fresh ones
abbrev pub changed_blocks : List ℕ → List ℕ → List ℕ
changed_blocks found fresh = slice_index found (length found - 1) ∷ fresh

-- each block of a list is buffered
abbrev pub AreBuffered : List Page → List ℕ → Type 0
AreBuffered pages numbers = (number : ℕ) → StandsIn numbers number → is_buffered pages number ≡ true

-- no number stands in a list twice
abbrev pub AreDistinct : List ℕ → Type 0
AreDistinct numbers = (number : ℕ) → times numbers number ≤ 1

-- Each block of an identifier's way, from one of them on, has the next one at the place of its digit; all its other
-- bytes are as before.
abbrev pub LeadsAlong : List ℕ → (first id : ℕ) → List ℕ → List ℕ → Type 0
LeadsAlong way first id old new =
    (digits : ℕ) → first ≤ digits → digits < 4
    → HasWord (slice_index way digits) (4 * digit_on_way id digits) (slice_index way (suc digits)) old new

-- A leaf can be added to the tree of a file: the way of its identifier ends at the last block that was found, and the
-- fresh blocks can become blocks of the tree.
pub record IsLinkable (file : List ℕ) (blocks : ℕ) (found fresh : List ℕ) (id leaf_block : ℕ) : Type 0 where
  -- each block of the tree stands once in its levels
  pub once : AreDistinct (tree_blocks file blocks)
  -- the blocks that were found are all that are on the identifier's way
  pub way : found ≡ blocks_on_way file blocks id
  -- the fresh blocks differ
  pub distinct : AreDistinct fresh
  -- all their bytes are 0
  pub blank : (block : ℕ) → StandsIn fresh block → block_of file block ≡ replicate 1024 0
  -- none of them is a block of the tree
  pub unused : (block : ℕ) → StandsIn fresh block → times (tree_blocks file blocks) block ≡ 0
  -- each of them is a block of the file other than that of the header
  pub within : (block : ℕ) → StandsIn fresh block → IsTrue (leads blocks block)
  -- and so is the leaf's
  pub leaf : IsTrue (leads blocks leaf_block)

-- An identifier has its way: the paths of fewer digits than there were blocks on it are as they were, and those of as
-- many or more have the path along the way in its place.
pub record HasWay (way : List ℕ) (count id blocks : ℕ) (old new : List ℕ) : Type 0 where
  pub fewer : (digits : ℕ) → digits < count → paths new blocks digits ≡ paths old blocks digits
  pub more : (digits : ℕ) → count ≤ digits → digits ≤ 4
      → paths new blocks digits ≡ with_path (paths old blocks digits) (path_along way id digits)

-- The levels gain the blocks of a way that were not there: each of these levels its own block, once more. So the blocks
-- of the tree are those that were, and the fresh ones.
pub record GainsBlocks (way fresh : List ℕ) (count blocks : ℕ) (old new : List ℕ) : Type 0 where
  pub fewer : (digits : ℕ) → digits < count → level new blocks digits ≡ level old blocks digits
  pub more : (digits block : ℕ) → count ≤ digits → digits ≤ 4
      → times (level new blocks digits) block ≡ times (slice_index way digits ∷ level old blocks digits) block
  pub tree : (block : ℕ)
      → times (tree_blocks new blocks) block ≡ times (tree_blocks old blocks) block + times fresh block
