-- Why a datagram could not be answered, and why serving ended before its time.
use Rattle.std.specs.Prelude.{◌≡◌, ℕ, List, slice_get, Option, None, Some, ⊤}
use Rattle.outside.specs.Count.{Rose}
use Rattle.opened_file.specs.declared.quota_file.FileFault.{FileFault}
use Rattle.opened_file.specs.declared.quota_file.FileFault.TheVariants.{Store, Damage, Full, Memory}
use Rattle.quota_map.specs.AnyFile.{MayRefuse}
use Rattle.rquota_xdr.specs.declared.reply.Reply.{Reply}
use Rattle.rquota_xdr.specs.declared.reply.Reply.TheVariants as reply
use Rattle.rquota_serve.specs.ExportedValues.{ExportedValues}
use Rattle.rquota_serve.specs.ExportSeen.{ExportSeen}
use Rattle.rquota_serve.specs.declared.serve_fault.ServeFault.{ServeFault}
use Rattle.rquota_serve.specs.declared.serve_fault.ServeFault.TheVariants.{Link as LinkFailed, File as FileFailed}

-- A look-up in a file of the exports is refused where the store's count of faults rose, or where the exports with the
-- store stand for no values. It needs no room and takes no memory.
abbrev pub IsAnswerFault : (before now : ℕ) → (serves : ExportedValues → Type 0) → FileFault → Type 0
IsAnswerFault before now serves Store = Rose before now
IsAnswerFault before now serves (Damage _) = (exported : ExportedValues) → ¬ (serves exported)
IsAnswerFault before now serves (Full _ _) = ⊥
IsAnswerFault before now serves Memory = ⊥

-- the fault is one that the opened file of one of the exports may answer, whatever the store tells
abbrev pub MayRefuseOne : List ExportSeen → FileFault → Type 0
MayRefuseOne seen fault =
    (place : ℕ) × (export : ExportSeen) × (slice_get seen place ≡ Some export) × MayRefuse export.file.format fault

-- the reply tells limits and usage
abbrev pub IsQuota : Option Reply → Type 0
IsQuota None = ⊥
IsQuota (Some (reply.Quota xid quota)) = ⊤
IsQuota (Some _) = ⊥

-- Serving ends before its time where the link's count of faults rose, or where a datagram could not be answered.
abbrev pub IsServeFault : (store_before store_now link_before link_now : ℕ) → (serves : ExportedValues → Type 0)
    → ServeFault → Type 0
IsServeFault store_before store_now link_before link_now serves LinkFailed = Rose link_before link_now
IsServeFault store_before store_now link_before link_now serves (FileFailed fault) =
    IsAnswerFault store_before store_now serves fault

-- a fact of a fault of a file
abbrev pub OnFile : ServeFault → (FileFault → Type 0) → Type 0
OnFile LinkFailed P = ⊤
OnFile (FileFailed fault) P = P fault

-- a fact where the link failed
abbrev pub OnLink : ServeFault → Type 0 → Type 0
OnLink LinkFailed P = P
OnLink (FileFailed fault) P = ⊤

-- the fault of a file, where there was one
abbrev pub file_in : ServeFault → Option FileFault
file_in LinkFailed = None
file_in (FileFailed fault) = Some fault
