-- What is said of calls on a tree file: how many blocks they look at and write, and why opening is refused.
use Rattle.std.specs.Prelude.{ℕ, Bool, List, Option, None, Some, ◌≡◌, IsTrue, IsSomeAnd, ⊤}
use Rattle.std.specs.FinMap.{get}
use Rattle.quota_types.specs.declared.record.Rec.{Rec}
use Rattle.quota_types.specs.declared.file_kind.Format.{Format}
use Rattle.quota_types.specs.declared.file_kind.Kind.{Kind}
use Rattle.quota_value.specs.QuotaValue.{QuotaValue}
use Rattle.outside.specs.Seen.{StoreSeen}
use Rattle.outside.specs.Count.{Rose}
use Rattle.opened_file.specs.Changes.{FileAt, FileLaws, file_at, laws_of}
use Rattle.opened_file.specs.FileChange.{FileChange, Put, Remove, SetGrace}
use Rattle.opened_file.specs.FileUse.{seen_in}
use Rattle.opened_file.specs.FileSeen.{FileSeen}
use Rattle.opened_file.specs.declared.file_use.FileUse.{FileUse}
use Rattle.opened_file.specs.declared.quota_file.OpenFault.{OpenFault}
use Rattle.opened_file.specs.declared.quota_file.OpenFault.TheVariants.{Store, NoFile, Memory}
use Rattle.entry_codec.specs.declared.header.Header.{Header}
use Rattle.tree_meaning.specs.TreeFile.{TreeStandsFor}
use Rattle.byte_order.specs.declared.order.Order.{Order}
use Rattle.byte_order.specs.declared.order.Order.TheVariants.{Little}
use Rattle.tree_file.specs.Opened.{HoldsTree, LacksRoom, MayRefuse}
use Rattle.tree_file.specs.declared.coming.Coming.{Coming}
use Rattle.tree_file.specs.TreeChange.{TreeMakes, TreeLeaves}
use Rattle.tree_file.specs.View.{IsRefusedFor, FitsRequest}

-- how many blocks a change of a tree file looks at, at most: the grace periods stand in one
abbrev pub most_blocks : FileChange → ℕ
most_blocks (Put id rec) = 12
most_blocks (Remove id) = 12
most_blocks (SetGrace grace) = 1

-- how many blocks it writes at most: where a record is taken away the header, the five on its way, and the two beside
-- its data block
abbrev pub most_written : FileChange → ℕ
most_written (Put id rec) = 12
most_written (Remove id) = 8
most_written (SetGrace grace) = 1

-- how many calls of `read` a change of a tree file makes at most
abbrev pub tree_change_reads : FileSeen → FileChange → ℕ
tree_change_reads seen change = most_blocks change

-- how many calls of `write` it makes at most
abbrev pub tree_change_writes : FileSeen → FileChange → ℕ
tree_change_writes seen change = most_written change

-- how many blocks a put that succeeds writes at most, by the record that the identifier had: where there was one, that
-- is written over
abbrev pub blocks_put : Option Rec → ℕ
blocks_put None = 12
blocks_put (Some rec) = 1

-- how many calls of `write` a change makes at most that succeeds on a file that stands for this value
abbrev pub tree_done_writes : FileSeen → QuotaValue → FileChange → ℕ
tree_done_writes seen value (Put id rec) = blocks_put (get value.records id)
tree_done_writes seen value (Remove id) = 8
tree_done_writes seen value (SetGrace grace) = 1

-- what is said of all changes of opened tree files, whose store tells its files or doesn't
abbrev pub tree_laws : Bool → FileLaws
tree_laws tells =
    laws_of tells (λ _ file value. TreeStandsFor file value) (λ seen change. TreeMakes seen.limit change)
    (λ _ _ old after left. TreeLeaves old after left)
    (λ seen file _ value blocks limit. LacksRoom seen file value blocks limit) (λ _ fault. MayRefuse fault)
    tree_change_reads tree_change_writes tree_done_writes

-- an opened tree file of this name with this header and these answers that come next, which may have at most this many
-- blocks, with its store
abbrev pub tree_at : Bool → (name : List ℕ) → FileUse → Header → Coming → ℕ → StoreSeen → FileAt
tree_at tells name opened header coming limit store =
    file_at (HoldsTree tells (store.files name) header coming limit) (seen_in opened name header.format limit) store

-- Why the opening of a file that is read in an order is refused: the store's count of faults rose, there is not enough
-- memory, there is no file, or the file is refused. What is said of the file holds where the store tells it; that no
-- other refusal comes, and where the limit lies, holds always.
abbrev pub IsTreeFaultIn : Order → ℕ → ℕ → Bool → Option (List ℕ) → Kind → Option Format → ℕ → OpenFault → Type 0
IsTreeFaultIn order before now tells named kind asked limit Store = Rose before now
IsTreeFaultIn order before now tells named kind asked limit NoFile = IsTrue tells → named ≡ None
IsTreeFaultIn order before now tells named kind asked limit Memory = ⊤
IsTreeFaultIn order before now tells named kind asked limit fault =
    FitsRequest asked limit fault × (IsTrue tells → IsSomeAnd named (IsRefusedFor order kind asked limit fault))

-- the same of a little-endian file
abbrev pub IsTreeFault : ℕ → ℕ → Bool → Option (List ℕ) → Kind → Option Format → ℕ → OpenFault → Type 0
IsTreeFault before now tells named kind asked limit fault =
    IsTreeFaultIn Little before now tells named kind asked limit fault
