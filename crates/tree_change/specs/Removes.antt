-- What the removal of an entry makes of a tree and of its lists.
use Rattle.std.specs.Prelude.{◌≡◌, ℕ, [], ◌∷◌, ◌++◌, true, false, List, Option, Some, None}
use Rattle.std.specs.FinMap.{remove}
use Rattle.quota_types.specs.Times.{StandsIn}
use Rattle.quota_types.specs.declared.file_kind.Format.{Format}
use Rattle.quota_value.specs.QuotaValue.{Records}
use Rattle.quota_radix.specs.declared.tree_path.TreePath.{TreePath}
use Rattle.free_chains.specs.declared.heads.Heads.{Heads}
use Rattle.tree_meaning.specs.Loose.{Loose, loose_of}
use Rattle.tree_meaning.specs.Roles.{data_with, has_room}
use Rattle.tree_change.specs.Freed.{unnamed_of}
use Rattle.tree_change.specs.FreedTree.{BecomesTree}
use Rattle.tree_change.specs.Shows.{IsWholeTree}

-- bytes are no tree with these heads in which a leaf is awaited that leads to a block, whatever is held of it
abbrev pub AwaitsInNoTree : Format → List ℕ → Heads → (id block : ℕ) → Type 0
AwaitsInNoTree format file heads id block = (held : List ℕ) (records : Records)
    → ¬ IsWholeTree (loose_of held (Some (record { number = id; block = block })) None) format file heads records

-- An entry was removed from a block: a tree in which its leaf was awaited has no record of the identifier now, and
-- nothing of it is loose but what was held. The block is free where no leaf leads to it.
abbrev pub RemovesEntry : Format → (id block : ℕ) → (old new : List ℕ) → (heads now : Heads) → Type 0
RemovesEntry format id block old new heads now = (held : List ℕ) (records : Records)
    → IsWholeTree (loose_of held (Some (record { number = id; block = block })) None) format old heads records
    → BecomesTree (loose_of held None None) (unnamed_of new now.blocks (block ∷ [])) format old new heads now
    (remove records id)

-- A misplaced block that has no room left the entry list: the tree has no misplaced block.
abbrev pub LeavesTree : Format → (block : ℕ) → (old new : List ℕ) → (heads now : Heads) → Type 0
LeavesTree format block old new heads now = (held : List ℕ) (awaited : Option TreePath) (records : Records)
    → StandsIn (held ++ data_with (loose_of held awaited (Some block)) old heads.blocks) block
    → has_room (loose_of held awaited (Some block)) format old heads.blocks block ≡ false
    → IsWholeTree (loose_of held awaited (Some block)) format old heads records
    → BecomesTree (loose_of held awaited None) [] format old new heads now records

-- bytes are no tree with these heads in which a block without room is misplaced
abbrev pub IsNoTreeMisplacing : Format → List ℕ → Heads → (block : ℕ) → Type 0
IsNoTreeMisplacing format file heads block = (held : List ℕ) (awaited : Option TreePath) (records : Records)
    → has_room (loose_of held awaited (Some block)) format file heads.blocks block ≡ false
    → ¬ IsWholeTree (loose_of held awaited (Some block)) format file heads records

-- bytes are no tree with these heads, whatever is loose of it
abbrev pub IsNoTreeOf : Format → List ℕ → Heads → Type 0
IsNoTreeOf format file heads = (loose : Loose) (records : Records) → ¬ IsWholeTree loose format file heads records

-- A misplaced block that has room was put before the entry list: the tree has no misplaced block.
abbrev pub EntersTree : Format → (block : ℕ) → (old new : List ℕ) → (heads now : Heads) → Type 0
EntersTree format block old new heads now = (held : List ℕ) (awaited : Option TreePath) (records : Records)
    → has_room (loose_of held awaited (Some block)) format old heads.blocks block ≡ true
    → IsWholeTree (loose_of held awaited (Some block)) format old heads records
    → BecomesTree (loose_of held awaited None) [] format old new heads now records

-- A misplaced block that is held left the entry list, and was given: it is free.
abbrev pub GivesTree : Format → (block : ℕ) → (old new : List ℕ) → (heads now : Heads) → Type 0
GivesTree format block old new heads now = (held : List ℕ) (awaited : Option TreePath) (records : Records)
    → has_room (loose_of (block ∷ held) awaited (Some block)) format old heads.blocks block ≡ false
    → IsWholeTree (loose_of (block ∷ held) awaited (Some block)) format old heads records
    → BecomesTree (loose_of held awaited None) (block ∷ []) format old new heads now records
