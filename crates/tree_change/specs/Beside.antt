-- Which blocks a removal lends for writing.
use Rattle.std.specs.Prelude.{◌≡◌, ◌⊎◌, ℕ, Bool, true, List, [], ◌∷◌, ◌++◌, length, slice_index, take}
use Rattle.quota_types.specs.Times.{times}
use Rattle.file_blocks.specs.Block.{next_of, previous_of}
use Rattle.outside.specs.Seen.{StoreSeen}
use Rattle.quota_pages.specs.Used.{IsKnown, LendsSome, shown_over}
use Rattle.quota_pages.specs.declared.page_buffer.Pages.{Pages}
use Rattle.quota_radix.specs.OnWay.{blocks_on_way}

-- the blocks beside a data block: those to which its links lead, or the first one of the entry list, before which it is
-- put
abbrev pub AreBeside : (block next previous : ℕ) → (file : List ℕ) → (first : ℕ) → Type 0
AreBeside block next previous file first =
    ((next ≡ next_of file block) × (previous ≡ previous_of file block)) ⊎ ((next ≡ first) × (previous ≡ 0))

-- Pages of no blocks but these, a data block, and the two beside it were lent for writing, where this is the first
-- block of the entry list. Which two they are is said where what is shown is known, and the data block is none of the
-- others.
pub record LendsBeside (numbers : List ℕ) (block first : ℕ) (tells : Bool) (count : ℕ) (before now : StoreSeen)
    (old new : Pages) : Type 0 where
  pub next : ℕ
  pub previous : ℕ
  pub which : IsKnown tells before old → times numbers block ≡ 0
      → AreBeside block next previous (shown_over before old) first
  pub lends : LendsSome tells true count (numbers ++ block ∷ previous ∷ next ∷ []) before now old new

-- Pages of eight blocks at most were lent for the removal of the record of an identifier: the header's, those of the
-- four tree blocks and of the data block on its way, and those of the two blocks beside that.
pub record LendsForRemoval (id blocks first : ℕ) (tells : Bool) (before now : StoreSeen)
    (old new : Pages) : Type 0 where
  pub way : List ℕ
  pub five : length way ≡ 5
  pub is_way : IsKnown tells before old → way ≡ blocks_on_way (shown_over before old) blocks id
  pub beside : LendsBeside (0 ∷ take 4 way) (slice_index way 4) first tells 12 before now old new
