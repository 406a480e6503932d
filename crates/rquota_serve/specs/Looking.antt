-- What is said of every call that only looks something up in the files of exports, whatever it answers. Source: this
-- project's own.
use Rattle.std.specs.Prelude.{◌≡◌, ℕ, ◌+◌, ◌≤◌, Bool, IfErr, IfSome, OnOk, List, Option, None, Some, Result, is_ok}
use Rattle.outside.specs.ManyCalls.{Syncs}
use Rattle.outside.specs.Seen.{StoreSeen}
use Rattle.opened_file.specs.declared.quota_file.FileFault.{FileFault}
use Rattle.rquota_serve.specs.ExportedValues.{ExportedValues}
use Rattle.rquota_serve.specs.Exports.{CountsOne, OnlyLooksUp, Serves, exports_seen}
use Rattle.rquota_serve.specs.ExportSeen.{ExportSeen}
use Rattle.rquota_serve.specs.Refusal.{IsAnswerFault, MayRefuseOne}
use Rattle.rquota_serve.specs.declared.exports.Exports.{Exports}

-- Exports with their store at a moment: the values for which they stand, and what is seen of both.
pub record ExportsAt : Type 1 where
  pub serves : ExportedValues → Type 0
  pub seen : List ExportSeen
  pub store : StoreSeen

-- the exports with what is seen of their store, which tells its files or does not
abbrev pub exports_at : (tells : Bool) → StoreSeen → Exports → ExportsAt
exports_at tells store exports =
    record { serves = Serves tells store.files exports; seen = exports_seen exports; store = store }

-- A refusal by a fault of one of the files is counted there; where something else refused, all that is seen is as
-- before.
abbrev pub CountsRefused : (old new : List ExportSeen) → Option FileFault → Type 0
CountsRefused old new None = new ≡ old
CountsRefused old new (Some fault) = CountsOne old new

-- Look-ups in the files of exports, whose result may have a fault of one of them. A fault has its cause, and may come
-- in a file of such a format. However it ended the exports stand for what they stood for, nothing was written, and
-- there were at most `most` calls of `read`. Where it is Ok, or no call on the store failed, no name is unsynced that
-- was not. Where it is Ok all that is seen is as before; a refusal by a file counts once, and all else is as before.
pub record LooksUpIn {T E : Type 0} (fault_of : E → Option FileFault) (old new : ExportsAt) (most : ℕ)
    (result : Result T E) : Type 0 where
  pub refused : IfErr result
      (λ fault. IfSome (fault_of fault) (IsAnswerFault old.store.faults new.store.faults old.serves))
  pub may : IfErr result (λ fault. IfSome (fault_of fault) (MayRefuseOne old.seen))
  pub stays : (exported : ExportedValues) → old.serves exported → new.serves exported
  pub leaves : OnlyLooksUp old.seen old.store new.store
  pub synced : Syncs (is_ok result) old.store new.store
  pub same : OnOk result (new.seen ≡ old.seen)
  pub counted : IfErr result (λ fault. CountsRefused old.seen new.seen (fault_of fault))
  pub reads : new.store.reads ≤ old.store.reads + most
