-- The tree of a tree file, by which each identifier's data block is found. Source: the kernel's
-- `fs/quota/quota_tree.c`: four levels of blocks of 256 references, indexed by the four bytes of the identifier.
use Rattle.std.specs.Prelude.{ℕ, zero, suc, ◌+◌, ◌*◌, Bool, ◌==◌, nat_le, if◌then◌else◌, List, [], ◌∷◌, ◌++◌, map}
use Rattle.std.specs.Prelude.{Option, Some, None}
use Rattle.std.specs.List.{filter, filter_map, flat_map, range_with_len}
use Rattle.quota_radix.specs.declared.tree_path.TreePath.{TreePath}
use Rattle.file_blocks.specs.Block.{word_at, leads}
use Rattle.quota_types.specs.Times.{times}

-- the path that goes on from another one by a digit, where the reference at the digit's place leads to a block
abbrev pub step : List ℕ → ℕ → TreePath → ℕ → Option TreePath
step file blocks path digit =
    if leads blocks (word_at file path.block digit)
    then Some (record { number = 256 * path.number + digit; block = word_at file path.block digit })
    else None

-- the paths that go on from another one, by each digit in order
unfoldable pub steps : List ℕ → ℕ → TreePath → List TreePath
steps file blocks path = filter_map (step file blocks path) (range_with_len 0 256)

-- The paths of this many digits, in order, each with the number that its digits make and the block that it leads to.
-- The path of no digit leads to block 1, the root.
abbrev pub paths : List ℕ → ℕ → ℕ → List TreePath
paths file blocks zero = record { number = 0; block = 1 } ∷ []
paths file blocks (suc digits) = flat_map (steps file blocks) (paths file blocks digits)

-- the blocks to which the paths of this many digits lead, in order
abbrev pub level : List ℕ → ℕ → ℕ → List ℕ
level file blocks digits = map (λ path. path.block) (paths file blocks digits)

-- the blocks of the tree below the root
abbrev pub lower_blocks : List ℕ → ℕ → List ℕ
lower_blocks file blocks = level file blocks 1 ++ level file blocks 2 ++ level file blocks 3

-- the blocks of the tree
abbrev pub tree_blocks : List ℕ → ℕ → List ℕ
tree_blocks file blocks = level file blocks 0 ++ lower_blocks file blocks

-- the leaves: each identifier that has a path of four digits, ascending, with its data block
abbrev pub leaves : List ℕ → ℕ → List TreePath
leaves file blocks = paths file blocks 4

-- the identifiers of those leaves that name a block
abbrev pub ids_at : List TreePath → ℕ → List ℕ
ids_at paths block = map (λ path. path.number) (filter (λ path. path.block == block) paths)

-- a block is one that leaves name
abbrev pub is_data : List ℕ → ℕ → ℕ → Bool
is_data file blocks block = nat_le 1 (times (level file blocks 4) block)

-- the data blocks: those that leaves name, each once
abbrev pub data_blocks : List ℕ → ℕ → List ℕ
data_blocks file blocks = filter (is_data file blocks) (range_with_len 0 blocks)

-- the blocks to which some paths lead, in order
abbrev pub blocks_of : List TreePath → List ℕ
blocks_of paths = map (λ path. path.block) paths

-- the numbers of paths, in order
abbrev pub numbers_of : List TreePath → List ℕ
numbers_of paths = map (λ path. path.number) paths
