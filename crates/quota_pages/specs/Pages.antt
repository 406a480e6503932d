-- What a buffer of pages has, and what its calls leave of it.
use Rattle.std.specs.Prelude.{◌≡◌, ℕ, ◌+◌, ◌<◌, slice_index_or, false, Bool, IsTrue, ◌||◌, ◌==◌, List, length, Result}
use Rattle.std.specs.Prelude.{MatchResult, if◌then◌else◌, ⊤}
use Rattle.std.specs.String.{string_bytes}
use Rattle.std.specs.Borrow.{follows_so, LendsSoOk, MutBor, Bor, Fml, Array, u8}
use mathlib.Core.Option.{none}
use Rattle.file_blocks.specs.Block.{block_of}
use Rattle.quota_pages.specs.Overlay.{with_block}
use Rattle.quota_pages.specs.Held.{pages_in}
use Rattle.quota_pages.specs.Page.{IsClean, Page, is_buffered, is_lent, lent_count, shown}
use Rattle.quota_pages.specs.declared.page_buffer.Pages.{Pages}
use Rattle.quota_pages.specs.contracts.page_buffer.Pages.{the_row}

-- the bytes of the name of the file
unfoldable pub name_of : Pages → List ℕ
name_of buffer = string_bytes buffer.name

-- the pages of a buffer
unfoldable pub pages_of : Pages → List Page
pages_of buffer = pages_in buffer.held.heads.items buffer.held.blocks.items

-- the place of a buffer has the block of this number
pub record HasAt (place number : ℕ) (buffer : Pages) : Type 0 where
  pub within : place < length buffer.held.heads.items
  pub is : (slice_index_or buffer.held.heads.items place (record { number = number; lent = false })).number ≡ number

-- nothing of a buffer changed
pub record StaysAsItWas (old new : Pages) : Type 0 where
  pub name : name_of new ≡ name_of old
  pub pages : pages_of new ≡ pages_of old

-- A block is buffered now, and of the others those that were.
pub record Brings (number : ℕ) (old new : Pages) : Type 0 where
  pub name : name_of new ≡ name_of old
  pub buffered : (other : ℕ) → is_buffered (pages_of new) other ≡ (is_buffered (pages_of old) other || number == other)
  pub count : length (pages_of new)
      ≡ (if is_buffered (pages_of old) number then length (pages_of old) else length (pages_of old) + 1)

-- A fact holds by what is buffered: it is one of what the buffer shows over each file over which it is clean. So it is
-- one of the bytes of the buffered blocks, whatever a store tells of the file.
abbrev pub HoldsAsBuffered : Pages → (List ℕ → Type 0) → Type 0
HoldsAsBuffered buffer fact = (file : List ℕ) → IsClean (pages_of buffer) file → fact (shown (pages_of buffer) file)

-- A block was looked at: what the buffer shows stays, over any file, and over the one that it was read from, where that
-- is told, it is as clean as it was. Each file over which it is clean now is one over which it was clean.
pub record LooksAt (tells : Bool) (file : List ℕ) (number : ℕ) (old new : Pages) : Type 0 where
  pub brings : Brings number old new
  pub shows : (other : List ℕ) → shown (pages_of new) other ≡ shown (pages_of old) other
  pub clean : IsTrue tells → IsClean (pages_of old) file → IsClean (pages_of new) file
  pub was_clean : (other : List ℕ) → IsClean (pages_of new) other → IsClean (pages_of old) other
  pub lent : (other : ℕ) → is_lent (pages_of new) other ≡ is_lent (pages_of old) other
  pub lent_count : lent_count (pages_of new) ≡ lent_count (pages_of old)

-- A block was lent for writing and left with these bytes: what the buffer shows, over any file, has them laid over what
-- it showed before, and over the file that it is read from, where that is told, it is as clean as it was.
pub record Lent (tells : Bool) (file : List ℕ) (number : ℕ) (bytes : List ℕ) (old new : Pages) : Type 0 where
  pub brings : Brings number old new
  pub shows : (other : List ℕ) → shown (pages_of new) other ≡ with_block (shown (pages_of old) other) number bytes
  pub clean : IsTrue tells → IsClean (pages_of old) file → IsClean (pages_of new) file
  pub lent : (other : ℕ) → is_lent (pages_of new) other ≡ (is_lent (pages_of old) other || number == other)
  pub lent_count : lent_count (pages_of new)
      ≡ (if is_lent (pages_of old) number then lent_count (pages_of old) else lent_count (pages_of old) + 1)

-- once the borrow ends, the block was looked at and is buffered with these bytes, and after a fault nothing of the
-- buffer changed
abbrev pub EndsLookedAt : {E : Type 0} (tells : Bool) (file : List ℕ) (number : ℕ) → MutBor Pages
    → Result (Bor (List ℕ)) E → Fml
EndsLookedAt tells file number buffer result =
    follows_so the_row the_row buffer.ghost_name none (λ _ _. ⊤)
    (λ new. MatchResult result
    (λ block.
    LooksAt tells file number buffer.now new × HoldsAsBuffered new (λ shown. block.now ≡ block_of shown number))
    (λ _. StaysAsItWas buffer.now new))

-- once the borrow ends, the block was lent and left with the last bytes behind the reference, and after a fault nothing
-- of the buffer changed
abbrev pub EndsLent : {E : Type 0} (tells : Bool) (file : List ℕ) (number : ℕ) → MutBor Pages
    → Result (MutBor (List ℕ)) E → Fml
EndsLent tells file number buffer result =
    LendsSoOk the_row (Array u8 1024) buffer result (λ new bytes. Lent tells file number bytes buffer.now new)
    (λ new. StaysAsItWas buffer.now new)
