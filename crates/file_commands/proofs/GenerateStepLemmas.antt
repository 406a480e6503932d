-- The steps of a listing that is made: they are always to make one file, and to write the line on it.
use Rattle.std.proofs.Common.{◌≡◌, ℕ, ◌^◌, ◌<◌, Bool, true, false, List, [], ◌∷◌, Some, None, Ok, Err, Result, refl}
use Rattle.std.proofs.Common.{sym, ap, subst, ◌∙◌, arith}
use Rattle.std.specs.Prelude.{◌&&◌}
use Rattle.quota_types.specs.declared.field.NoRoom.{NoRoom as NoRoomFor}
use Rattle.quota_types.specs.declared.file_kind.Format.TheVariants.{V2R1}
use Rattle.quota_types.specs.declared.file_kind.Kind.TheVariants.{User}
use Rattle.quota_value.specs.QuotaValue.{QuotaValue, Records}
use Rattle.inode_scan.specs.Apply.{IsApplyFault, applied}
use Rattle.inode_scan.specs.Generated.{generated}
use Rattle.inode_scan.specs.Scan.{scanned}
use Rattle.inode_scan.specs.ListingFaults.{IsScanFault}
use Rattle.inode_scan.specs.Usage.{UsageMap}
use Rattle.inode_scan.specs.declared.scan_fault.ApplyFault.{ApplyFault}
use Rattle.inode_scan.specs.declared.scan_fault.ApplyFault.TheVariants.{NoRoom as Unfit, Memory as ApplyWantsMemory}
use Rattle.inode_scan.specs.declared.scan_fault.ScanFault.{ScanFault}
use Rattle.inode_scan.specs.declared.scan_fault.ScanFault.TheVariants.{Source, Memory as ScanWantsMemory}
use Rattle.inode_scan.proofs.MadeListingLemmas.{generated_usage, scanned-generated}
use Rattle.refusals.specs.declared.cause.Cause.{Cause}
use Rattle.refusals.specs.declared.cause.Cause.TheVariants.{Memory}
use Rattle.refusals.specs.Outcome.{Outcome}
use Rattle.run_steps.specs.Act.{Act, ToOut}
use Rattle.run_steps.specs.Done.{Outside}
use Rattle.run_steps.specs.Meaning.{IsSure}
use Rattle.run_steps.specs.OneCommand.{LooksFirst, leaves_files}
use Rattle.run_steps.specs.Steps.{Doing, DoingAll, Finish, Steps, Then}
use Rattle.run_steps.proofs.OneCommandLemmas.{looks_then}
use Rattle.file_commands.specs.Check.{checked, new_value, replaced, scan_cause, scan_outcome, with_applied}
use Rattle.file_commands.specs.Causes.{apply_cause, WrittenSteps}
use Rattle.file_commands.specs.Generate.{GenerateSteps, MadeSteps, summary}
use Rattle.file_commands.proofs.GeneratedValueLemmas.{checked-generated, few-generated, generated_value}
use Rattle.file_commands.proofs.ReplacingLemmas.{room_for}

pub steps_of : (seed count now : ℕ) (file : List ℕ) → count < 2 ^ 32
    → GenerateSteps seed count file now ≡ WrittenSteps count file now (generated_value seed count now)
steps_of seed count now file few =
    let new : QuotaValue = generated_value seed count now in
    ap (λ (r : Result UsageMap ScanFault). Then (scan_outcome file r)
    (λ (usage : UsageMap). MadeSteps count file now (checked (new_value User (Some V2R1)) usage now)))
    (scanned-generated seed count few)
    ∙ ap (MadeSteps count file now) (checked-generated seed count now few)
    ∙ ap (λ (o : Outcome (List Act)). Then o
    (λ (acts : List Act). DoingAll acts (Doing (ToOut (summary count file now new)) Finish)))
    (room_for file new (few-generated seed count now few))

-- the usage that a listing was read as, where it is the one that is made
pub usage_is : (seed count : ℕ) (left : List ℕ) (usage : UsageMap) → count < 2 ^ 32 → left ≡ generated seed count
    → scanned User None left ≡ Ok usage → usage ≡ generated_usage seed count
usage_is seed count left usage few made read =
    let same : ◌≡◌ {A = Result UsageMap ScanFault} (Ok usage) (Ok (generated_usage seed count)) =
    sym read ∙ ap (scanned User None) made ∙ scanned-generated seed count few in
    cc

-- the value that comes of it is the one that is known
pub value_is : (seed count now : ℕ) (value new : QuotaValue) (usage : UsageMap) → count < 2 ^ 32
    → value ≡ new_value User (Some V2R1) → usage ≡ generated_usage seed count
    → checked value usage now ≡ Ok new → generated_value seed count now ≡ new
value_is seed count now value new usage few fresh used made =
    let same : ◌≡◌ {A = Result QuotaValue NoRoomFor} (Ok (generated_value seed count now)) (Ok new) =
    sym (checked-generated seed count now few)
    ∙ ap (λ (u : UsageMap). checked (new_value User (Some V2R1)) u now) (sym used)
    ∙ ap (λ (v : QuotaValue). checked v usage now) (sym fresh) ∙ made in
    cc

pub value_made : (seed count now : ℕ) (value : QuotaValue) (records : Records) (usage : UsageMap) (left : List ℕ)
    → count < 2 ^ 32 → left ≡ generated seed count → scanned User None left ≡ Ok usage
    → value ≡ new_value User (Some V2R1) → applied value.format value.grace now value.records usage ≡ Ok records
    → generated_value seed count now ≡ record value { records = records }
value_made seed count now value records usage left few made read fresh is =
    value_is seed count now value (record value { records = records }) usage few fresh
    (usage_is seed count left usage few made read) (ap (with_applied value) is)

-- there is room for it, so only memory may run out
pub apply_memory : (seed count now : ℕ) (value : QuotaValue) (usage : UsageMap) (fault : ApplyFault) → count < 2 ^ 32
    → value ≡ new_value User (Some V2R1) → usage ≡ generated_usage seed count
    → IsApplyFault (applied value.format value.grace now value.records usage) fault → apply_cause fault ≡ Memory
apply_memory seed count now value usage ApplyWantsMemory few fresh used is = refl
apply_memory seed count now value usage (Unfit out) few fresh used is =
    let same : ◌≡◌ {A = Result QuotaValue NoRoomFor} (Ok (generated_value seed count now)) (Err out) =
    sym (checked-generated seed count now few)
    ∙ ap (λ (u : UsageMap). checked (new_value User (Some V2R1)) u now) (sym used)
    ∙ ap (λ (v : QuotaValue). checked v usage now) (sym fresh) ∙ ap (with_applied value) is in
    absurd (cc)

-- nothing is wrong with it, and it never fails
pub scan_memory : (before : ℕ) (failed : Cause) (left : List ℕ) (seed count : ℕ) (fault : ScanFault) → count < 2 ^ 32
    → left ≡ generated seed count
    → IsScanFault before 0 true (scanned User None left) fault → scan_cause failed fault ≡ Memory
scan_memory before failed left seed count Source few made is = absurd (omega arith)
scan_memory before failed left seed count ScanWantsMemory few made is = refl
scan_memory before failed left seed count _ few made is =
    let wrong = is refl in
    let good : scanned User None left ≡ Ok (generated_usage seed count) =
    ap (scanned User None) made ∙ scanned-generated seed count few in
    absurd (cc)

-- The laws of these steps.

doing_looks : (looks takes : Bool) (acts : List Act) (text : List ℕ)
    → LooksFirst looks takes (DoingAll acts (Doing (ToOut text) Finish))
doing_looks looks takes [] text = tt
doing_looks looks takes (act ∷ acts) text = doing_looks (looks && leaves_files act) takes acts text

pub generate_looks : (seed count : ℕ) (file : List ℕ) (now : ℕ)
    → LooksFirst true true (GenerateSteps seed count file now)
generate_looks seed count file now =
    looks_then false true true (scan_outcome file (scanned User None (generated seed count)))
    (λ (usage : UsageMap). MadeSteps count file now (checked (new_value User (Some V2R1)) usage now))
    (λ usage. made_looks (checked (new_value User (Some V2R1)) usage now))
  where
    made_looks : (new : Result QuotaValue NoRoomFor) → LooksFirst true true (MadeSteps count file now new)
    made_looks (Ok new) =
        looks_then false true true (replaced file (Ok new))
        (λ (acts : List Act). DoingAll acts (Doing (ToOut (summary count file now new)) Finish))
        (λ acts. doing_looks true true acts (summary count file now new))
    made_looks (Err out) = tt

-- they are always sure, where the count is one of 32 bits
pub generate_sure : (seed count : ℕ) (file : List ℕ) (now : ℕ) (old : Outside) → count < 2 ^ 32
    → IsSure (GenerateSteps seed count file now) old
generate_sure seed count file now old few =
    subst (λ (steps : Steps). IsSure steps old) (sym (steps_of seed count now file few))
    (λ middle follows. λ later written. refl)
