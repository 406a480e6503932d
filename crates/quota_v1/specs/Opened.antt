-- What an opened flat file holds, what is seen of it, and what is said of all its calls.
use Rattle.std.specs.Prelude.{◌≡◌, ℕ, ◌+◌, ◌/◌, ◌≤◌, Bool, IsTrue, List, length, Option, Some}
use Rattle.file_blocks.specs.Block.{bytes_of}
use Rattle.quota_types.specs.Bytes.{number_at}
use Rattle.quota_types.specs.declared.damage.Damage.{Damage}
use Rattle.quota_types.specs.declared.file_kind.Format.{Format}
use Rattle.quota_types.specs.declared.record.Grace.{Grace}
use Rattle.opened_file.specs.Changes.{FileAt, FileLaws, file_at, laws_of}
use Rattle.opened_file.specs.FileUse.{seen_in}
use Rattle.opened_file.specs.FileSeen.{FileSeen}
use Rattle.quota_value.specs.QuotaValue.{QuotaValue}
use Rattle.outside.specs.Seen.{StoreSeen}
use Rattle.opened_file.specs.declared.file_use.FileUse.{FileUse}
use Rattle.quota_v1.specs.Change.{FlatLeaves, FlatMakes}
use Rattle.quota_v1.specs.FlatCalls.{MayRefuse}
use Rattle.quota_v1.specs.FlatFile.{FlatStandsFor}
use Rattle.quota_v1.specs.Place.{block_time_start, flat_limit, inode_time_start, records_read, time_width}
use Rattle.quota_v1.specs.View.{IsFlatDefect}
use Rattle.quota_v1.specs.Window.{HoldsWindow}
use Rattle.quota_v1.specs.declared.window.Window.{Window}

-- What is kept of a file agrees with it: its length in bytes, the two times of its record 0 as they are stored, and the
-- records that were read.
pub record AgreesFlat (format : Format) (len : ℕ) (times : Grace) (window : Window) (file : List ℕ) : Type 0 where
  pub long : len ≡ length file
  pub block_time : number_at (time_width format) file (block_time_start format 0) ≡ times.block
  pub inode_time : number_at (time_width format) file (inode_time_start format 0) ≡ times.inode
  pub next : HoldsWindow format file window

-- The store tells its files, the named file stands for the value and has no more bytes than a flat file may have, and
-- what is kept of it agrees with it.
pub record HoldsFlat (tells : Bool) (named : Option (List ℕ)) (format : Format) (len : ℕ) (times : Grace)
    (window : Window) (value : QuotaValue) : Type 0 where
  pub told : IsTrue tells
  pub file : List ℕ
  pub there : named ≡ Some file
  pub few : length file ≤ flat_limit format
  pub stands : FlatStandsFor format file value
  pub agrees : AgreesFlat format len times window file

-- a damage is one of the named file, where the store tells that: its last record is cut off
abbrev pub IsNamedDefect : (tells : Bool) → (named : Option (List ℕ)) → Format → Damage → Type 0
IsNamedDefect tells named format damage = IsTrue tells → IsFlatDefect format (bytes_of named) damage

-- what is seen of one of this name and this format, which has no number of blocks
abbrev pub flat_seen : FileUse → (name : List ℕ) → Format → FileSeen
flat_seen opened name format = seen_in opened name format 0

-- an opened flat file of this name and this use, and what is kept of it, with what is seen of its store, which tells
-- its files or does not
abbrev pub flat_at : (tells : Bool) → StoreSeen → (name : List ℕ) → FileUse → Format → (len : ℕ) → (times : Grace)
    → Window → FileAt
flat_at tells store name opened format len times window =
    file_at (HoldsFlat tells (store.files name) format len times window) (flat_seen opened name format) store

-- how many calls of `read` find the next record at most: each reads as many records as one gives, of those that a flat
-- file may have
abbrev pub most_next_reads : Format → ℕ
most_next_reads format = 1048576 / records_read format + 1

-- what is said of all calls on one: a change reads a record at most and writes one, and it is never full
abbrev pub flat_laws : (tells : Bool) → FileLaws
flat_laws tells =
    laws_of tells (λ format file value. FlatStandsFor format file value) (λ seen change. FlatMakes seen.format change)
    (λ _ _ old after left. FlatLeaves old after left) (λ _ _ _ _ _ _. ⊥)
    (λ _ fault. MayRefuse fault) (λ _ _. 1) (λ _ _. 1) (λ _ _ _. 1)
