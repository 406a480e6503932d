-- What calls over a buffer of pages leave of it, and of what it shows over its file.
use Rattle.std.specs.Prelude.{◌≡◌, ◌⊎◌, ℕ, ◌+◌, ◌≤◌, Bool, true, IsTrue, List, [], ◌∷◌, length, if◌then◌else◌}
use Rattle.quota_types.specs.Bytes.{number_at}
use Rattle.quota_types.specs.Times.{times}
use Rattle.file_blocks.specs.Block.{block_of, file_of}
use Rattle.outside.specs.Frame.{OnlyReads}
use Rattle.outside.specs.Seen.{StoreSeen}
use Rattle.quota_types.specs.KeptBytes.{KeepsOutside}
use Rattle.quota_pages.specs.Page.{IsClean, Page, is_buffered, is_lent, lent_count, shown}
use Rattle.quota_pages.specs.Pages.{name_of, pages_of}
use Rattle.quota_pages.specs.declared.page_buffer.Pages.{Pages}
use Rattle.quota_pages.specs.KeptBlocks.{KeepsBlocksBut}

-- the bytes of a buffer's file, as a store has it
abbrev pub file_under : StoreSeen → Pages → List ℕ
file_under seen buffer = file_of seen.files (name_of buffer)

-- what a buffer shows over its file, as a store has it
abbrev pub shown_over : StoreSeen → Pages → List ℕ
shown_over seen buffer = shown (pages_of buffer) (file_under seen buffer)

-- What a buffer shows is known: the store tells its files, and the buffer is clean over its file.
pub record IsKnown (tells : Bool) (seen : StoreSeen) (buffer : Pages) : Type 0 where
  pub told : IsTrue tells
  pub clean : IsClean (pages_of buffer) (file_under seen buffer)

-- how many blocks are read to have the one of this number buffered
abbrev pub missing : List Page → ℕ → ℕ
missing pages number = if is_buffered pages number then 0 else 1

-- how many blocks are read at most to have some of them buffered, one after another; a block that is missing counts as
-- often as it stands there
unfoldable pub missing_among : List Page → List ℕ → ℕ
missing_among pages [] = 0
missing_among pages (number ∷ numbers) = missing pages number + missing_among pages numbers

-- There is room for this many blocks; or it is known which are looked at, and each of them is buffered, or there is
-- room for it.
abbrev pub HasRoomWithin : (known : Type 0) → List Page → (most : ℕ) → (numbers : List ℕ) → Type 0
HasRoomWithin known pages most numbers =
    (length pages + most ≤ 12) ⊎ (known × (length pages + missing_among pages numbers ≤ 12))

-- At most this many pages were used, whether they were looked at or lent: the name and what was buffered stay, what was
-- known still is, no file changed, and where it was done no name is unsynced that was not. It is said beside what is
-- shown then.
pub record UsesPages (tells ok : Bool) (count : ℕ) (before now : StoreSeen) (old new : Pages) : Type 0 where
  pub name : name_of new ≡ name_of old
  pub few : length (pages_of new) ≤ length (pages_of old) + count
  pub stay : (number : ℕ) → is_buffered (pages_of old) number ≡ true → is_buffered (pages_of new) number ≡ true
  pub known : IsKnown tells before old → IsKnown tells now new
  pub leaves : OnlyReads ok (name_of old) before now
  pub reads : now.reads ≤ before.reads + count

-- At most this many pages were looked at: the name and what was buffered stay, and so does what the buffer shows, over
-- any file, and each file over which it is clean now is one over which it was clean; no further page was lent for
-- writing, no file changed, and where it was done no name is unsynced that was not.
pub record LooksAtSome (tells ok : Bool) (count : ℕ) (before now : StoreSeen) (old new : Pages) : Type 0 where
  pub name : name_of new ≡ name_of old
  pub few : length (pages_of new) ≤ length (pages_of old) + count
  pub stay : (number : ℕ) → is_buffered (pages_of old) number ≡ true → is_buffered (pages_of new) number ≡ true
  pub shows : (file : List ℕ) → shown (pages_of new) file ≡ shown (pages_of old) file
  pub was_clean : (file : List ℕ) → IsClean (pages_of new) file → IsClean (pages_of old) file
  pub lent : (number : ℕ) → is_lent (pages_of new) number ≡ is_lent (pages_of old) number
  pub lent_count : lent_count (pages_of new) ≡ lent_count (pages_of old)
  pub known : IsKnown tells before old → IsKnown tells now new
  pub leaves : OnlyReads ok (name_of old) before now
  pub reads : now.reads ≤ before.reads + count

-- Pages of no blocks but those of a list were lent for writing, and at most this many were read: the name and what was
-- buffered stay, and so does what the buffer shows of other blocks, over any file; a page that was lent before still
-- is, no file changed, and where it was done no name is unsynced that was not.
pub record LendsSome (tells ok : Bool) (count : ℕ) (numbers : List ℕ) (before now : StoreSeen)
    (old new : Pages) : Type 0 where
  pub name : name_of new ≡ name_of old
  pub few : length (pages_of new) ≤ length (pages_of old) + count
  pub stay : (number : ℕ) → is_buffered (pages_of old) number ≡ true → is_buffered (pages_of new) number ≡ true
  pub shows : (file : List ℕ) → KeepsBlocksBut numbers (shown (pages_of old) file) (shown (pages_of new) file)
  pub lent : (number : ℕ) → times numbers number ≡ 0 → is_lent (pages_of new) number ≡ is_lent (pages_of old) number
  pub still_lent : (number : ℕ) → is_lent (pages_of old) number ≡ true → is_lent (pages_of new) number ≡ true
  pub lent_count : lent_count (pages_of new) ≤ lent_count (pages_of old) + length numbers
  pub known : IsKnown tells before old → IsKnown tells now new
  pub leaves : OnlyReads ok (name_of old) before now
  pub reads : now.reads ≤ before.reads + count

-- A block has a number of four bytes at a place, and all its other bytes are as before.
pub record HasWord (number at value : ℕ) (old new : List ℕ) : Type 0 where
  pub is : number_at 4 (block_of new number) at ≡ value
  pub others : KeepsOutside at (at + 4) (block_of old number) (block_of new number)
