-- Pages: blocks of a file that are kept in a buffer.
use Rattle.std.specs.Prelude.{◌≡◌, ℕ, ◌<◌, Bool, true, false, not, ◌&&◌, ◌==◌, List, [], ◌∷◌, length, fold, count_by}
use Rattle.std.specs.Prelude.{All, if◌then◌else◌}
use Rattle.std.specs.List.{list_any}
use Rattle.file_blocks.specs.Block.{block_of}
use Rattle.quota_pages.specs.Overlay.{with_block}

-- a page: the number of a block in its file, the bytes that it has in the buffer, and whether it was lent for writing
pub record Page : Type 0 where
  pub number : ℕ
  pub bytes : List ℕ
  pub lent : Bool

-- whether the block of this number is buffered
abbrev pub is_buffered : List Page → ℕ → Bool
is_buffered pages number = list_any (λ page. page.number == number) pages

-- whether the block of this number was lent for writing
abbrev pub is_lent : List Page → ℕ → Bool
is_lent pages number = list_any (λ page. page.lent && page.number == number) pages

-- the numbers of the pages that were lent for writing, in order
abbrev pub lent_numbers : List Page → List ℕ
lent_numbers [] = []
lent_numbers (page ∷ pages) = if page.lent then page.number ∷ lent_numbers pages else lent_numbers pages

-- whether some page was lent for writing
abbrev pub is_some_lent : List Page → Bool
is_some_lent pages = list_any (λ page. page.lent) pages

-- how many pages were lent for writing
abbrev pub lent_count : List Page → ℕ
lent_count pages = count_by (λ page. page.lent) pages

-- a file with a page laid over it, if that was lent for writing
abbrev pub with_page : List ℕ → Page → List ℕ
with_page file page = if page.lent then with_block file page.number page.bytes else file

-- What a buffer and a file show together: the file with each page laid over it that was lent for writing. Every other
-- page of a clean buffer is the file's block.
unfoldable pub shown : List Page → List ℕ → List ℕ
shown pages file = fold with_page file pages

-- A buffer is clean over a file where each page that was not lent for writing is the file's block.
unfoldable pub IsClean : List Page → List ℕ → Type 0
IsClean pages file = All (λ page. page.lent ≡ false → page.bytes ≡ block_of file page.number) pages

-- no two pages have the same number
abbrev pub are_distinct : List Page → Bool
are_distinct [] = true
are_distinct (page ∷ pages) = not (is_buffered pages page.number) && are_distinct pages

-- the block of this number is buffered, or fewer than twelve are
abbrev pub HasRoomFor : List Page → ℕ → Type 0
HasRoomFor pages number = is_buffered pages number ≡ false → length pages < 12
