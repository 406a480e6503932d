-- The entries of a data block, compared with the identifiers that lead to it.
use Rattle.std.specs.Prelude.{◌≡◌, ◌≢◌, ℕ, ◌≤◌, ◌&&◌, nat_le, Bool, List, [], length}
use Rattle.std.specs.List.{filter, range_with_len, slice_index_or}
use Rattle.quota_types.specs.declared.damage.Damage.{Damage}
use Rattle.quota_types.specs.declared.damage.DamageKind.{DamageKind}
use Rattle.quota_types.specs.declared.damage.DamageKind.TheVariants.{BadCount, MissingEntry, StrayEntry, DoubleEntry}
use Rattle.quota_types.specs.declared.file_kind.Format.{Format}
use Rattle.file_blocks.specs.Block.{block_of}
use Rattle.quota_types.specs.Times.{StandsIn, StandsTwiceIn, times}
use Rattle.byte_order.specs.declared.order.Order.{Order}
use Rattle.byte_order.specs.Words.{in_order}
use Rattle.tree_meaning.specs.Entries.{has_unused, stated_in, used_ids}

-- a used entry of each identifier that leads to the block, one of no other, and as many as the block states
pub record AreEntriesOf (stated : ℕ) (used ids : List ℕ) : Type 0 where
  pub count : length used ≡ stated
  pub one : (id : ℕ) → StandsIn ids id → times used id ≡ 1
  pub none : (id : ℕ) → times ids id ≡ 0 → times used id ≡ 0

-- what a kind of damage says of the stated number, the identifiers of the used entries and those that lead to the block
abbrev pub IsEntryDefect : ℕ → List ℕ → List ℕ → DamageKind → ℕ → Type 0
IsEntryDefect stated used ids BadCount id = (stated ≢ length used) × (id ≡ 0)
IsEntryDefect stated used ids MissingEntry id = StandsIn ids id × (times used id ≡ 0)
IsEntryDefect stated used ids StrayEntry id = StandsIn used id × (times ids id ≡ 0)
IsEntryDefect stated used ids DoubleEntry id = StandsTwiceIn used id
IsEntryDefect stated used ids _ id = ⊥

-- a damage of this block, by its stated number, the identifiers of its used entries and those that lead to it
pub record IsEntryDefectAt (block stated : ℕ) (used ids : List ℕ) (damage : Damage) : Type 0 where
  pub block_is : damage.block ≡ block
  pub defect : IsEntryDefect stated used ids damage.kind damage.id

-- the identifiers that lead to a block
abbrev pub leading_ids : List (List ℕ) → ℕ → List ℕ
leading_ids groups block = slice_index_or groups block []

-- an identifier leads to a block, which has an unused entry
abbrev pub is_room : Format → List ℕ → List (List ℕ) → ℕ → Bool
is_room format file groups block =
    nat_le 1 (length (leading_ids groups block)) && has_unused format (block_of file block)

-- the data blocks with room, among this many blocks
abbrev pub rooms : Format → List ℕ → List (List ℕ) → ℕ → List ℕ
rooms format file groups blocks = filter (is_room format file groups) (range_with_len 0 blocks)

-- in a file that is read in an order, a block to which some identifiers lead has a used entry of each of them and of no
-- other, and states their number
abbrev pub HasEntriesOf : Order → Format → List ℕ → ℕ → List ℕ → Type 0
HasEntriesOf order format file block ids =
    1 ≤ length ids
    → AreEntriesOf (stated_in order file block) (used_ids format (block_of (in_order order file) block)) ids

-- a damage of a block to which some identifiers lead
pub record IsDataDefect (order : Order) (format : Format) (file ids : List ℕ) (block : ℕ)
    (damage : Damage) : Type 0 where
  pub led : 1 ≤ length ids
  pub defect : IsEntryDefectAt block (stated_in order file block)
      (used_ids format (block_of (in_order order file) block)) ids damage
