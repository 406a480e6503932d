-- What is said of every call that only looks at an opened quota file, whatever it looks for and whatever the format.
-- Source: this project's own.
use Rattle.std.specs.Prelude.{◌≡◌, ℕ, ◌+◌, ◌≤◌, true, is_ok, IfErr, IfSome, OnOk, Option, None, Some, Result}
use Rattle.outside.specs.Frame.{OnlyReads}
use Rattle.opened_file.specs.Changes.{FileAt, FileLaws}
use Rattle.opened_file.specs.QuotaFile.{CountsRefusal, IsLookupFault}
use Rattle.opened_file.specs.FileSeen.{FileSeen}
use Rattle.quota_value.specs.QuotaValue.{QuotaValue}
use Rattle.opened_file.specs.declared.quota_file.FileFault.{FileFault}

-- A refusal by a fault of the opened file counts once, and the file may be used again; where it was refused by
-- something else all that is seen of the file is as before.
abbrev pub CountsLookup : (old new : FileSeen) → Option FileFault → Type 0
CountsLookup old new None = new ≡ old
CountsLookup old new (Some fault) = CountsRefusal true old new

-- Look-ups in an opened file, whose result may have a fault of the file. A fault has its cause, and may come in a file
-- of this format. However it ended the file holds what it held, nothing was written, and there were at most `most`
-- calls of `read`. Where it is Ok all that is seen of the file is as before; a refusal by the file counts once, and the
-- file may be used again.
pub record LooksUp {T E : Type 0} (fault_of : E → Option FileFault) (laws : FileLaws) (old new : FileAt) (most : ℕ)
    (result : Result T E) : Type 0 where
  pub refused : IfErr result
      (λ fault. IfSome (fault_of fault) (IsLookupFault old.store.faults new.store.faults old.holds))
  pub may : IfErr result (λ fault. IfSome (fault_of fault) (laws.may_refuse old.seen.format))
  pub stays : (value : QuotaValue) → old.holds value → new.holds value
  pub leaves : OnlyReads (is_ok result) old.seen.name old.store new.store
  pub same : OnOk result (new.seen ≡ old.seen)
  pub counted : IfErr result (λ fault. CountsLookup old.seen new.seen (fault_of fault))
  pub reads : new.store.reads ≤ old.store.reads + most
