-- How many blocks a tree file needs. Source: the kernel's `fs/quota/quota_tree.c`: the header, a tree block for each
-- beginning of an identifier's four bytes that some identifier has, and data blocks that are full but for the last one.
use Rattle.std.specs.Prelude.{ℕ, ◌+◌, ◌-◌, ◌/◌, ◌^◌, ◌==◌, not, List, [], ◌∷◌, length, map}
use Rattle.std.specs.List.{filter}
use Rattle.quota_types.specs.declared.file_kind.Format.{Format}
use Rattle.quota_types.specs.declared.file_kind.Format.TheVariants.{V1, V1R32, V2R0, V2R1}

-- the numbers of a list, each once
abbrev pub each_once : List ℕ → List ℕ
each_once [] = []
each_once (number ∷ numbers) = number ∷ filter (λ other. not (other == number)) (each_once numbers)

-- how many different beginnings identifiers have, where this many of their four bytes are left out
abbrev pub beginnings : ℕ → List ℕ → ℕ
beginnings left_out ids = length (each_once (map (λ id. id / 256 ^ left_out) ids))

-- how many blocks a number of entries fills, with a given number to a block
abbrev pub filled_blocks : ℕ → ℕ → ℕ
filled_blocks per_block entries = (entries + (per_block - 1)) / per_block

-- the header, the root and the tree blocks below it
abbrev pub tree_needed : List ℕ → ℕ
tree_needed ids = 2 + beginnings 3 ids + beginnings 2 ids + beginnings 1 ids

-- the blocks that a file of these identifiers needs; a flat file has none
abbrev pub blocks_needed : Format → List ℕ → ℕ
blocks_needed V1 ids = 0
blocks_needed V1R32 ids = 0
blocks_needed V2R0 ids = tree_needed ids + filled_blocks 21 (length ids)
blocks_needed V2R1 ids = tree_needed ids + filled_blocks 14 (length ids)
