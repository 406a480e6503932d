-- An opened quota file of any format: what it holds with its store, what is seen of it, and what is said of all its
-- calls.
use Rattle.std.specs.Prelude.{◌≡◌, Bool, true, if◌then◌else◌, List, Option, ℕ}
use Rattle.std.specs.String.{string_bytes}
use Rattle.file_blocks.specs.Block.{bytes_of}
use Rattle.quota_types.specs.Format.{IsTreeFormat, is_flat}
use Rattle.quota_types.specs.declared.damage.Damage.{Damage}
use Rattle.quota_types.specs.declared.file_kind.Format.{Format}
use Rattle.opened_file.specs.Changes.{FileAt, FileLaws, file_at, laws_of}
use Rattle.opened_file.specs.FileChange.{FileChange}
use Rattle.opened_file.specs.FileUse.{seen_in}
use Rattle.opened_file.specs.FileSeen.{FileSeen}
use Rattle.quota_value.specs.QuotaValue.{QuotaValue}
use Rattle.outside.specs.Seen.{StoreSeen}
use Rattle.outside.specs.World.{World}
use Rattle.opened_file.specs.declared.quota_file.FileFault.{FileFault}
use Rattle.quota_pages.specs.Pages.{name_of}
use Rattle.tree_file.specs.Opened.{HoldsTree, IsNamedDefect, LacksRoom, MayRefuse as MayRefuseTree}
use Rattle.tree_file.specs.TreeCalls.{tree_change_reads, tree_change_writes, tree_done_writes}
use Rattle.quota_v1.specs.FlatCalls.{MayRefuse as MayRefuseFlat}
use Rattle.quota_v1.specs.Opened.{HoldsFlat, IsNamedDefect as IsCutOff, flat_seen, most_next_reads}
use Rattle.quota_v1.specs.Window.{passing_reads}
use Rattle.quota_map.specs.StandsFor.{StandsForAs}
use Rattle.quota_map.specs.declared.any_file.AnyFile.{AnyFile}
use Rattle.quota_map.specs.declared.any_file.AnyFile.TheVariants.{V1, Tree}
use Rattle.quota_map.specs.AnyChange.{AnyMakes, AnyLeaves}

-- the opened file, with a store that tells its files or does not, holds a value as one of its format does
abbrev pub HoldsAny : (tells : Bool) (files : World) → AnyFile → QuotaValue → Type 0
HoldsAny tells files (V1 file) value =
    HoldsFlat tells (files (string_bytes file.name)) file.format file.len file.times file.window value
HoldsAny tells files (Tree file) value =
    HoldsTree tells (files (name_of file.pages)) file.header file.coming file.limit value

-- what is seen of it
abbrev pub any_seen : AnyFile → FileSeen
any_seen (V1 file) = flat_seen file.opened (string_bytes file.name) file.format
any_seen (Tree file) = seen_in file.opened (name_of file.pages) file.header.format file.limit

-- the opened file with what is seen of its store
abbrev pub any_at : (tells : Bool) → StoreSeen → AnyFile → FileAt
any_at tells store file = file_at (HoldsAny tells store.files file) (any_seen file) store

-- The faults that a call on a file of this format may answer: those of a flat file, or those of a tree file.
pub record MayRefuse (format : Format) (fault : FileFault) : Type 0 where
  pub flat : is_flat format ≡ true → MayRefuseFlat fault
  pub tree : IsTreeFormat format → MayRefuseTree fault

-- A damage that a look-up answers is one of the named file, where the store tells that and, of a tree file, it has the
-- header that is kept.
abbrev pub IsAnyDamage : (tells : Bool) → World → AnyFile → Damage → Type 0
IsAnyDamage tells files (V1 file) damage = IsCutOff tells (files (string_bytes file.name)) file.format damage
IsAnyDamage tells files (Tree file) damage = IsNamedDefect tells (files (name_of file.pages)) file.header damage

-- how many calls of `read` a change of a file that is seen so makes at most, by its format
abbrev pub reads_of_change : Format → FileSeen → FileChange → ℕ
reads_of_change format seen change = if is_flat format then 1 else tree_change_reads seen change

-- how many calls of `write` it makes at most, by its format
abbrev pub writes_of_change : Format → FileSeen → FileChange → ℕ
writes_of_change format seen change = if is_flat format then 1 else tree_change_writes seen change

-- How many calls of `read` a change of a file that is seen so makes at most. What is said of calls that stand on it
-- holds for any number in its place.
unfoldable pub any_change_reads : FileSeen → FileChange → ℕ
any_change_reads seen change = reads_of_change seen.format seen change

-- How many calls of `write` it makes at most. What is said of calls that stand on it holds for any number in its place.
unfoldable pub any_change_writes : FileSeen → FileChange → ℕ
any_change_writes seen change = writes_of_change seen.format seen change

-- how many calls of `write` a change makes at most that succeeds on a file of this value, by its format
abbrev pub done_writes_of : Format → FileSeen → QuotaValue → FileChange → ℕ
done_writes_of format seen value change = if is_flat format then 1 else tree_done_writes seen value change

-- How many calls of `write` a change makes at most that succeeds on a file of this value. What is said of calls that
-- stand on it holds for any number in its place.
unfoldable pub any_done_writes : FileSeen → QuotaValue → FileChange → ℕ
any_done_writes seen value change = done_writes_of seen.format seen value change

-- how many calls of `read` one call of `get` makes at most, by the format
abbrev pub reads_of_get : Format → ℕ
reads_of_get format = if is_flat format then 1 else 5

-- How many calls of `read` one call of `get` makes at most, in a file of any format. What is said of calls that stand
-- on it holds for any number in its place.
unfoldable pub any_get_reads : ℕ
any_get_reads = 5

-- how many calls of `read` one call of `next_after` makes at most, by the format
abbrev pub reads_of_next : Format → ℕ
reads_of_next format = if is_flat format then most_next_reads format else 8

-- How many calls of `read` one call of `next_after` makes at most, on a file of these bytes. What is said of calls that
-- stand on it holds for any number in its place.
unfoldable pub any_next_reads : FileSeen → Option (List ℕ) → ℕ
any_next_reads seen file = reads_of_next seen.format

-- how many calls of `read` one call of `next_after` makes at most in a file of these bytes, by the format and by the
-- identifiers that it passes, from one up to another one: in a flat file by how many records stand there
abbrev pub reads_of_passing : Format → Option (List ℕ) → (from to : ℕ) → ℕ
reads_of_passing format file from to = if is_flat format then passing_reads format (bytes_of file) from to else 8

-- The same of a file that is seen so. What is said of calls that stand on it holds for all numbers in its place that
-- add up.
unfoldable pub any_passing_reads : FileSeen → Option (List ℕ) → (from to : ℕ) → ℕ
any_passing_reads seen file from to = reads_of_passing seen.format file from to

-- what is said of all calls on one
abbrev pub any_laws : (tells : Bool) → FileLaws
any_laws tells =
    laws_of tells StandsForAs AnyMakes (λ format _. AnyLeaves format)
    (λ seen file _ value blocks limit. LacksRoom seen file value blocks limit) MayRefuse
    any_change_reads any_change_writes any_done_writes
