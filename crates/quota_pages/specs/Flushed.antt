-- Files that the pages of a buffer are written into.
use Rattle.std.specs.Prelude.{◌≡◌, ℕ, zero, suc, true, List, take, Some, if◌then◌else◌}
use Rattle.file_blocks.specs.Block.{file_of}
use Rattle.outside.specs.Count.{counted}
use Rattle.outside.specs.Unsynced.{UnsyncedNames, with_name}
use Rattle.outside.specs.World.{World, with_file}
use Rattle.quota_pages.specs.Page.{Page, is_some_lent, shown}

-- The files once the named one has what pages show over it. Where no page was lent for writing nothing changes;
-- otherwise a file that was not there is made.
unfoldable pub flushed_files : World → List ℕ → List Page → World
flushed_files files name pages =
    if is_some_lent pages then with_file files name (Some (shown pages (file_of files name))) else files

-- the names that are unsynced then: the named one besides, where some page was lent for writing
unfoldable pub flushed_names : UnsyncedNames → List ℕ → List Page → UnsyncedNames
flushed_names names name pages = if is_some_lent pages then with_name names name true else names

-- The pages up to some place were written, so that each lent block of the file is the old or the new one.
pub record IsPartlyFlushed (name : List ℕ) (pages : List Page) (old new : World) : Type 0 where
  pub count : ℕ
  pub files : new ≡ flushed_files old name (take count pages)

-- a count after this many more
abbrev pub counted_by : ℕ → ℕ → ℕ
counted_by count zero = count
counted_by count (suc more) = counted (counted_by count more)
