-- How many blocks a record that is put into a tree file takes, and how many the file has then.
use Rattle.std.specs.Prelude.{ℕ, ◌+◌, ◌-◌, ◌==◌, nat_lt, if◌then◌else◌, List, length}
use Rattle.quota_radix.specs.OnWay.{blocks_on_way}
use Rattle.free_chains.specs.declared.heads.Heads.{Heads}
use Rattle.tree_change.specs.Freed.{free_blocks}

-- how many data blocks are taken for a record of an identifier that has none: one where no data block has room
abbrev pub data_wanted : Heads → ℕ
data_wanted heads = if heads.first == 0 then 1 else 0

-- how many blocks are taken for it, with those that its way lacks
abbrev pub blocks_wanted : List ℕ → Heads → (id : ℕ) → ℕ
blocks_wanted file heads id = (4 - length (blocks_on_way file heads.blocks id)) + data_wanted heads

-- how many blocks are taken for a record of an identifier: none where a leaf of it is there, and otherwise those that
-- are needed
abbrev pub blocks_taken : List ℕ → Heads → (id : ℕ) → ℕ
blocks_taken file heads id =
    if nat_lt 4 (length (blocks_on_way file heads.blocks id)) then 0 else blocks_wanted file heads id

-- how many blocks a file has once an identifier has a record: free ones are taken first, and new ones for the others
abbrev pub blocks_with : List ℕ → Heads → (id : ℕ) → ℕ
blocks_with file heads id = heads.blocks + (blocks_taken file heads id - length (free_blocks file heads))
