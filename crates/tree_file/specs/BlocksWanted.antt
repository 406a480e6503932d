-- How many blocks a tree file needs for records. Whether it has room for a change rests on that number, and so on the
-- file as it is.
use Rattle.std.specs.Prelude.{ℕ, ◌==◌, Bool, is_none, List, find, Option, Some, None}
use Rattle.quota_types.specs.declared.file_kind.Format.{Format}
use Rattle.quota_types.specs.declared.file_kind.Format.TheVariants.{V1, V1R32, V2R0, V2R1}
use Rattle.entry_codec.specs.Header.{header_of}
use Rattle.file_blocks.specs.Block.{bytes_of}
use Rattle.free_chains.specs.declared.heads.Heads.{Heads}
use Rattle.quota_radix.specs.Tree.{leaves}
use Rattle.quota_radix.specs.declared.tree_path.TreePath.{TreePath}
use Rattle.tree_meaning.specs.TreeHeads.{heads_of}
use Rattle.tree_change.specs.BlocksWanted.{blocks_with}

-- no leaf of a file is that of an identifier
abbrev pub has_no_leaf : List ℕ → (blocks id : ℕ) → Bool
has_no_leaf file blocks id = is_none (find (λ (leaf : TreePath). leaf.number == id) (leaves file blocks))

-- how many blocks a file has once it has a leaf of this identifier too, where there is one
abbrev pub blocks_with_new : List ℕ → Heads → Option ℕ → ℕ
blocks_with_new file heads None = heads.blocks
blocks_with_new file heads (Some id) = blocks_with file heads id

-- How many blocks a tree file, as it is, will have once it has records of just these identifiers, of which one at most
-- has no leaf yet: as many as it has, where each has one. What is said of calls that stand on it holds for any number
-- in its place.
unfoldable pub tree_blocks_wanted : Format → Option (List ℕ) → List ℕ → ℕ
tree_blocks_wanted format file ids =
    blocks_with_new (bytes_of file) (heads_of (header_of (bytes_of file)))
    (find (has_no_leaf (bytes_of file) (header_of (bytes_of file)).blocks) ids)

-- how many blocks a file of this format, as it is, will have once it has records of just these identifiers; a flat file
-- has none
abbrev pub blocks_wanted : Format → Option (List ℕ) → List ℕ → ℕ
blocks_wanted V1 file ids = 0
blocks_wanted V1R32 file ids = 0
blocks_wanted V2R0 file ids = tree_blocks_wanted V2R0 file ids
blocks_wanted V2R1 file ids = tree_blocks_wanted V2R1 file ids
