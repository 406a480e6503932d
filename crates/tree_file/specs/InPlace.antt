-- A record that is put into a tree file, or taken out of one, where it stands.
use Rattle.std.specs.Prelude.{◌≡◌, ◌⊎◌, ℕ, ◌≤◌, Bool, false, IsTrue, IsSome, List, Some}
use Rattle.entry_codec.specs.Header.{header_of}
use Rattle.entry_codec.specs.Spelling.{AreOf}
use Rattle.entry_codec.specs.declared.header.Header.{Header}
use Rattle.file_blocks.specs.Block.{file_of}
use Rattle.free_chains.specs.declared.heads.Heads.{Heads}
use Rattle.outside.specs.Frame.{OnlyReads}
use Rattle.outside.specs.Seen.{StoreSeen}
use Rattle.outside.specs.World.{KeepsOthers, World}
use Rattle.opened_file.specs.FileChange.{FileChange, changed_value}
use Rattle.opened_file.specs.ValueEdits.{has_nothing_to_do}
use Rattle.quota_value.specs.QuotaValue.{QuotaValue}
use Rattle.tree_meaning.specs.TreeHeads.{heads_of}
use Rattle.tree_meaning.specs.Ids.{ids_in}
use Rattle.tree_meaning.specs.TreeFile.{TreeStandsFor}
use Rattle.tree_change.specs.declared.change_fault.ChangeFault.{ChangeFault}
use Rattle.tree_change.specs.declared.change_fault.ChangeFault.TheVariants.{Store}
use Rattle.tree_file.specs.BlocksWanted.{blocks_wanted}
use Rattle.tree_file.specs.TreeChange.{TreeChanged, TreeLeaves}

-- A file of a value became one of the changed value, with these heads, of which there are no more blocks than it may
-- have: those that it needed for that, and there was something to do.
pub record ChangesTree (limit : ℕ) (change : FileChange) (value : QuotaValue) (before after : List ℕ)
    (heads : Heads) : Type 0 where
  pub stands : TreeStandsFor after (changed_value change value)
  pub heads_are : heads ≡ heads_of (header_of after)
  pub few : heads.blocks ≤ limit
  pub changed : TreeChanged change before after
  pub room : blocks_wanted value.format (Some before) (ids_in (changed_value change value).records) ≡ heads.blocks
  pub busy : has_nothing_to_do change value ≡ false

-- whatever value a file with this header stands for, it became one of the changed value
abbrev pub MayChange : (limit : ℕ) → FileChange → Header → Heads → List ℕ → List ℕ → Type 0
MayChange limit change header heads before after =
    AreOf header (header_of before) → (value : QuotaValue) → TreeStandsFor before value
    → ChangesTree limit change value before after heads

-- The named file, where there is one, has bytes that are related so to those that it had, and no other file has
-- changed.
pub record WritesSo (so : List ℕ → List ℕ → Type 0) (name : List ℕ) (old new : World) : Type 0 where
  pub there : IsSome (old name) → IsSome (new name)
  pub related : so (file_of old name) (file_of new name)
  pub others : KeepsOthers name old new

-- The named file is as it was, or lies between the old file and one that has bytes that are related so to those that it
-- had.
pub record IsLeftSo (so : Heads → List ℕ → List ℕ → Type 0) (name : List ℕ) (old new : World) : Type 0 where
  pub heads : Heads
  pub after : World
  pub made : WritesSo (so heads) name old after
  pub left : TreeLeaves (old name) (after name) (new name)

-- A change was refused before anything was written, or the store failed while it was.
abbrev pub EndsEarly : (tells : Bool) → (so : Heads → List ℕ → List ℕ → Type 0) → List ℕ → StoreSeen → StoreSeen
    → ChangeFault → Type 0
EndsEarly tells so name before now fault =
    OnlyReads false name before now ⊎ ((fault ≡ Store) × (IsTrue tells → IsLeftSo so name before.files now.files))

-- where the store tells its files and this file has the header, something holds of each value for which it stands
abbrev pub OfEachValue : (tells : Bool) → Header → List ℕ → (holds : QuotaValue → Type 0) → Type 0
OfEachValue tells header file holds =
    IsTrue tells → AreOf header (header_of file) → (value : QuotaValue) → TreeStandsFor file value → holds value

-- no file with this header stands for a value
abbrev pub IsNoFileOf : (tells : Bool) → Header → List ℕ → Type 0
IsNoFileOf tells header file = OfEachValue tells header file (λ _. ⊥)
