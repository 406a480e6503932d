-- The links of single blocks. Source: `dqdh_next_free` and `dqdh_prev_free` of `struct qt_disk_dqdbheader` in the
-- kernel's `fs/quota/quota_tree.h`: a link that is 0 leads to no block.
use Rattle.std.specs.Prelude.{◌≡◌, ℕ, ◌==◌, List, [], ◌∷◌, if◌then◌else◌}
use Rattle.file_blocks.specs.Block.{block_of, next_of, previous_of}
use Rattle.quota_types.specs.KeptBytes.{KeepsOutside}
use Rattle.quota_pages.specs.Page.{Page}
use Rattle.quota_pages.specs.Used.{missing}

-- the block to which a head or a link leads, where it leads to one
abbrev pub led_to : ℕ → List ℕ
led_to number = if number == 0 then [] else number ∷ []

-- how many blocks are read to have the one buffered to which a head or a link leads
abbrev pub missing_at : List Page → ℕ → ℕ
missing_at pages number = if number == 0 then 0 else missing pages number

-- All bytes of each block but the first eight, its links, are as before.
abbrev pub ChangesLinksAlone : (old new : List ℕ) → Type 0
ChangesLinksAlone old new = (block : ℕ) → KeepsOutside 0 8 (block_of old block) (block_of new block)

-- A block has these links to the block behind it and to the one before it, and all its other bytes are as before.
pub record HasLinks (number behind before : ℕ) (old new : List ℕ) : Type 0 where
  pub next : next_of new number ≡ behind
  pub previous : previous_of new number ≡ before
  pub others : KeepsOutside 0 8 (block_of old number) (block_of new number)
