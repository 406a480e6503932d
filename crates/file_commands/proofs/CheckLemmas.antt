-- Listings that become the usage of a file: why one was not read, which value it leaves, and why a file was not read.
use Rattle.std.proofs.Common.{◌≡◌, ◌≢◌, ℕ, ◌<◌, ◌≤◌, Bool, true, false, IsTrue, List, [], ◌∷◌, Option, None, Some, Err}
use Rattle.std.proofs.Common.{Result, ◌⊎◌, inl, inr, refl, sym, ap, subst, ◌∙◌, arith}
use Rattle.std.specs.Prelude.{IfSome, T, cond, slice_get}
use Rattle.std.specs.Cmp.{unsigned_tied}
use Rattle.std.specs.FinMap.{entries, entries_sorted, find, get, get-entries, is_sorted}
use Rattle.std.specs.FinMap.Entries.{below_all}
use Rattle.std.specs.Ordering.{nat_cmp}
use Rattle.std.proofs.lemmas.Bool.Decides.{eqb_tells, nat_tests}
use Rattle.std.proofs.lemmas.Option.{none-some}
use Rattle.std.specs.List.{cons_option, filter_map}
use Rattle.std.specs.Option.{option_map}
use Rattle.quota_types.specs.Range.{unfit}
use Rattle.outside.specs.World.{World}
use Rattle.quota_types.specs.declared.field.Field.{Field}
use Rattle.quota_types.specs.declared.field.NoRoom.{NoRoom as NoRoomFor}
use Rattle.quota_types.specs.declared.file_kind.Format.{Format}
use Rattle.quota_types.specs.declared.file_kind.Kind.{Kind}
use Rattle.quota_types.specs.declared.record.Rec.{Rec}
use Rattle.outside.specs.Count.{Rose}
use Rattle.outside.specs.Frame.{OnlyReads}
use Rattle.quota_value.specs.QuotaValue.{QuotaValue}
use Rattle.outside.specs.Seen.{StoreSeen}
use Rattle.outside.proofs.FrameLemmas.{only_reads-none}
use Rattle.opened_file.specs.declared.quota_file.FileFault.{FileFault}
use Rattle.opened_file.specs.declared.quota_file.FileFault.TheVariants.{Store as StoreFailed, Damage as FileDamaged}
use Rattle.opened_file.specs.declared.quota_file.FileFault.TheVariants.{Full as NoBlocks, Memory as NoMemory}
use Rattle.quota_map.specs.Asked.{Asked}
use Rattle.quota_map.specs.AnyFile.{MayRefuse}
use Rattle.opened_file.specs.QuotaFile.{IsLookupFault}
use Rattle.quota_map.specs.Reading.{file_refusal}
use Rattle.quota_map.specs.Size.{ids_in}
use Rattle.quota_map.specs.Replacing.{IsReplacedBy, built_size}
use Rattle.quota_map.specs.View.{IsOpenedAs}
use Rattle.inode_scan.specs.Apply.{IsApplyFault, applied, first_no_room, no_room, wanted, wanted_record}
use Rattle.inode_scan.proofs.ApplyLemmas.{wanted_at}
use Rattle.inode_scan.specs.Faults.{unless}
use Rattle.inode_scan.specs.ListingFaults.{IsScanFault}
use Rattle.inode_scan.specs.Usage.{UsageMap}
use Rattle.inode_scan.specs.declared.scan_fault.ApplyFault.{ApplyFault}
use Rattle.inode_scan.specs.declared.scan_fault.ApplyFault.TheVariants.{NoRoom as Unfit, Memory as ApplyWantsMemory}
use Rattle.inode_scan.specs.declared.scan_fault.ScanFault.{ScanFault}
use Rattle.inode_scan.specs.declared.scan_fault.ScanFault.TheVariants.{Source, Memory as ScanWantsMemory}
use Rattle.refusals.specs.declared.cause.Cause.{Cause}
use Rattle.refusals.specs.declared.cause.Cause.TheVariants.{StoreFault, NoRoom}
use Rattle.refusals.specs.declared.reason.Refusal.{Refusal}
use Rattle.run_steps.specs.Done.{IsWorldTold, RunSeen, RunTells, outside_of}
use Rattle.run_steps.specs.Opening.{MayRefuseOpening, file_cause}
use Rattle.run_steps.specs.Run.{HasReason, Uses}
use Rattle.run_steps.specs.Carrying.{CarriesOut}
use Rattle.run_steps.specs.Steps.{Opening, Steps}
use Rattle.run_steps.specs.Causes.{IsInputFault}
use Rattle.file_commands.specs.Check.{ReplaceSteps, UnfitMayRefuse, UsageMayLack, checked, scan_cause, scan_outcome}
use Rattle.file_commands.specs.Check.{with_applied}
use Rattle.file_commands.specs.Causes.{apply_cause}
use Rattle.run_steps.specs.Changing.{edit_uses}
use Rattle.file_commands.specs.FileValue.{IsMadeAnew}
use Rattle.file_commands.specs.WritingRefused.{WritingMayRefuse}
use Rattle.refusals.specs.Refusals.{refusal_of}
use Rattle.run_steps.proofs.OpeningLemmas.{refused_reads, with_store, file_no_output}
use Rattle.run_steps.proofs.PhaseLemmas.{carries_on, leads_same, stop_carried}
use Rattle.file_commands.proofs.ReplacingLemmas.{replace_wanting}
use Rattle.run_steps.proofs.ShowingLemmas.{damage_may}

-- Listings.

-- a listing in a file that gave no usage
listing_unread_of : (name : List ℕ) (read : Result UsageMap ScanFault) (before now : ℕ) (tells : Bool)
    (fault : ScanFault) → IsScanFault before now tells read fault
    → IsInputFault (Rose before now) ⊥ (IsTrue tells) (scan_outcome name read)
    (refusal_of (scan_cause StoreFault fault) name) (scan_cause StoreFault fault)
listing_unread_of name read before now tells Source is = is
listing_unread_of name read before now tells ScanWantsMemory is = tt
listing_unread_of name read before now tells _ is = λ told. ap (scan_outcome name) (is told)

-- why a listing was not read, by the refusal that says so
pub listing_unread_at : (name : List ℕ) (read : Result UsageMap ScanFault) (before now : ℕ) (tells : Bool)
    (fault : ScanFault) (refusal : Refusal) → IsScanFault before now tells read fault
    → refusal ≡ refusal_of (scan_cause StoreFault fault) name
    → IsInputFault (Rose before now) ⊥ (IsTrue tells) (scan_outcome name read) refusal refusal.cause
listing_unread_at name read before now tells fault refusal is same =
    subst (λ (r : Refusal). IsInputFault (Rose before now) ⊥ (IsTrue tells) (scan_outcome name read) r r.cause)
    (sym same) (listing_unread_of name read before now tells fault is)

-- Values for which there is no room.

-- an identifier is found at its own entry, not at another one, and not before all of them
pub found_here : (pair : ℕ × Rec) (pairs : List (ℕ × Rec)) → find nat_cmp pair.0 (pair ∷ pairs) ≡ Some pair.1
found_here pair pairs = grind (arith, unsigned_tied pair.0 pair.0, nat_tests)

pub found_later : (id : ℕ) (pair : ℕ × Rec) (pairs : List (ℕ × Rec)) → id ≢ pair.0
    → find nat_cmp id (pair ∷ pairs) ≡ find nat_cmp id pairs
found_later id pair pairs other = grind (arith, unsigned_tied id pair.0, nat_tests)

find_none : (id : ℕ) (pairs : List (ℕ × Rec)) → T (below_all nat_cmp id pairs) → find nat_cmp id pairs ≡ None
find_none id [] below = refl
find_none id (pair ∷ pairs) below =
    let less : id < pair.0 = grind (arith, nat_tests) in
    found_later id pair pairs (omega (arith, less)) ∙ find_none id pairs (grind (arith, nat_tests))

-- what there is no room for is a value of a record that an identifier has
abbrev pub Lacks : Format → List (ℕ × Rec) → NoRoomFor → Type 0
Lacks format pairs out =
    (rec : Rec) × (find nat_cmp out.id pairs ≡ Some rec) × (unfit format out.id rec ≡ Some (out.field, out.value))

lacks_here : (format : Format) (pair : ℕ × Rec) (pairs : List (ℕ × Rec)) (out : NoRoomFor) (found : Option (Field × ℕ))
    → unfit format pair.0 pair.1 ≡ found
    → option_map (λ (one : Field × ℕ). record { id = pair.0; field = one.0; value = one.1 }) found ≡ Some out
    → Lacks format (pair ∷ pairs) out
lacks_here format pair pairs out None is named = absurd (cc)
lacks_here format pair pairs out (Some one) is named =
    let same : ◌≡◌ {A = NoRoomFor} (record { id = pair.0; field = one.0; value = one.1 }) out = cc in
    subst (λ (o : NoRoomFor). Lacks format (pair ∷ pairs) o) same
    (pair.1, found_here pair pairs, is)

lacks_later : (format : Format) (pair : ℕ × Rec) (pairs : List (ℕ × Rec)) (out : NoRoomFor)
    → T (below_all nat_cmp pair.0 pairs) → Lacks format pairs out → Lacks format (pair ∷ pairs) out
lacks_later format pair pairs out below lacks = elim (eqb_tells out.id pair.0) [
  | inl own ↦ absurd
      (none-some lacks.0
      (sym (find_none pair.0 pairs below) ∙ ap (λ (n : ℕ). find nat_cmp n pairs) (sym own.1) ∙ lacks.1))
  | inr other ↦ (lacks.0, found_later out.id pair pairs other.1 ∙ lacks.1, lacks.2)
]

pub first_lacking : (format : Format) (pairs : List (ℕ × Rec)) (out : NoRoomFor) → T (is_sorted nat_cmp pairs)
    → slice_get (filter_map (no_room format) pairs) 0 ≡ Some out → Lacks format pairs out
first_lacking format [] out sorted is = absurd (cc)
first_lacking format (pair ∷ pairs) out sorted is =
    by_found (no_room format pair) refl (first_lacking format pairs out (grind arith)) is
  where
    by_found : (found : Option NoRoomFor) → no_room format pair ≡ found
        → (slice_get (filter_map (no_room format) pairs) 0 ≡ Some out → Lacks format pairs out)
        → slice_get (cons_option found (filter_map (no_room format) pairs)) 0 ≡ Some out
        → Lacks format (pair ∷ pairs) out
    by_found None found next first = lacks_later format pair pairs out (grind arith) (next first)
    by_found (Some one) found next first =
        lacks_here format pair pairs out (unfit format pair.0 pair.1) refl (found ∙ first)

refused_by : {A E : Type 0} (refusal : Option E) (value : A) (out : E) → unless refusal value ≡ Err out
    → refusal ≡ Some out
refused_by None value out is = absurd (cc)
refused_by (Some refusal) value out is = cc

-- a record that is wanted of an identifier is made of what it has and uses
pub made_of : (some : Bool) (made rec : Rec) → cond some (Some made) None ≡ Some rec → made ≡ rec
made_of true made rec is = cc
made_of false made rec is = absurd (cc)

-- where the records are refused there is no room for a value of some record with some usage
applied_lacks : (value : QuotaValue) (now : ℕ) (usage : UsageMap) (out : NoRoomFor)
    → applied value.format value.grace now value.records usage ≡ Err out → UsageMayLack value out
unfolding applied
applied_lacks value now usage out is =
    let all = wanted value.grace now value.records usage in
    let lacks = first_lacking value.format (entries all) out (entries_sorted all)
    (refused_by (first_no_room value.format all) _ out is) in
    let made : wanted_record value.grace now (get value.records out.id) (get usage out.id) ≡ lacks.0 =
    made_of _ _ lacks.0
    (sym (wanted_at value.grace now value.records usage out.id) ∙ get-entries all out.id ∙ lacks.1) in (
      get usage out.id,
      now,
      subst (λ (r : Rec). unfit value.format out.id r ≡ Some (out.field, out.value)) (sym made) lacks.2,
    )

-- the causes for which a file of a value may not be replaced
abbrev pub ReplacingMayRefuse : QuotaValue → List ℕ → Cause → List ℕ → Type 0
ReplacingMayRefuse value file cause name =
    UnfitMayRefuse value file cause name ⊎ WritingMayRefuse value.format file cause name

-- there was no room for a value
pub check_unfit : (name : List ℕ) (value : QuotaValue) (usage : UsageMap) (now : ℕ) (out : NoRoomFor)
    (tells : RunTells) (old : RunSeen)
    → applied value.format value.grace now value.records usage ≡ Err out
    → CarriesOut (ReplaceSteps name (checked value usage now)) (edit_uses false) (ReplacingMayRefuse value name) tells
    old old (Err (refusal_of (NoRoom out) name))
check_unfit name value usage now out tells old is =
    subst (λ (r : Result QuotaValue NoRoomFor). CarriesOut (ReplaceSteps name r) (edit_uses false)
    (ReplacingMayRefuse value name) tells old old (Err (refusal_of (NoRoom out) name)))
    (sym (ap (with_applied value) is))
    (stop_carried (edit_uses false) (ReplacingMayRefuse value name) tells old (refusal_of (NoRoom out) name) (λ is. cc)
    (λ stated fact. fact)
    (inl (refl, applied_lacks value now usage out is)) (record { line = λ no. refl; input_line = λ no. refl }))

-- Files that were opened and not read.

read_reason : (uses : Uses) (old new : RunSeen) (tells : RunTells) (stated : Type 0) (before : ℕ)
    (holds : QuotaValue → Type 0) (fault : FileFault)
    → old.store.faults ≤ before → (IsTrue tells.store → ((value : QuotaValue) → holds value → ⊥) → ⊥)
    → IfSome (file_refusal fault) (IsLookupFault before new.store.faults holds)
    → HasReason uses old new (IsWorldTold tells → stated) (file_cause fault)
read_reason uses old new tells stated before holds StoreFailed le seen cause = omega (arith, le, cause)
read_reason uses old new tells stated before holds (FileDamaged damage) le seen cause =
    λ told. absurd (seen told.store cause)
read_reason uses old new tells stated before holds (NoBlocks blocks limit) le seen cause = absurd cause
read_reason uses old new tells stated before holds NoMemory le seen cause = tt

read_may : (asked : Asked) (name : List ℕ) (format : Format) (before now : ℕ) (holds : QuotaValue → Type 0)
    (fault : FileFault) → IsOpenedAs asked format
    → IfSome (file_refusal fault) (IsLookupFault before now holds) → IfSome (file_refusal fault) (MayRefuse format)
    → MayRefuseOpening asked name (file_cause fault) name
read_may asked name format before now holds StoreFailed asks cause may = tt
read_may asked name format before now holds (FileDamaged damage) asks cause may =
    (damage_may asked format damage asks may, refl)
read_may asked name format before now holds (NoBlocks blocks limit) asks cause may = absurd cause
read_may asked name format before now holds NoMemory asks cause may = tt

-- a file was opened, and its records were not read
pub not_read_whole : {done : Bool} (kind : Kind) (asked : Asked) (name : List ℕ) (next : QuotaValue → Steps)
    (uses : Uses) (may : Cause → List ℕ → Type 0) (tells : RunTells) (old : RunSeen) (store : StoreSeen)
    (format : Format) (before : ℕ) (holds : QuotaValue → Type 0) (fault : FileFault)
    → IsOpenedAs asked format → OnlyReads done name old.store store → old.store.faults ≤ before
    → (IsTrue tells.store → ((value : QuotaValue) → holds value → ⊥) → ⊥)
    → IfSome (file_refusal fault) (IsLookupFault before store.faults holds)
    → IfSome (file_refusal fault) (MayRefuse format)
    → ((cause : Cause) → MayRefuseOpening asked name cause name → may cause name)
    → CarriesOut (Opening kind asked name next) uses may tells old (with_store old store)
    (Err (refusal_of (file_cause fault) name))
not_read_whole kind asked name next uses may tells old store format before holds fault asks reads le seen cause
    may_be allowed =
    refused_reads name (Opening kind asked name next) uses may tells old store (refusal_of (file_cause fault) name)
    (file_no_output fault) reads
    (read_reason uses old (with_store old store) tells _ before holds fault le seen cause)
    (allowed (file_cause fault) (read_may asked name format before store.faults holds fault asks cause may_be))
    (record { line = λ no. refl; input_line = λ no. refl })

-- Steps over a value that is known where the store tells.

-- the steps over one value were carried out where those over the same one were
pub carries_same : (name : List ℕ) (next : QuotaValue → Steps) (one other : QuotaValue) (uses : Uses)
    (may : Cause → List ℕ → Type 0) (tells : RunTells) (old new : RunSeen) (result : Result (Unit {0}) Refusal)
    → (IsTrue tells.store → one ≡ other) → CarriesOut (next one) uses may tells old new result
    → CarriesOut (next other) uses may tells old new result
carries_same name next one other uses may tells old new result same carries =
    carries_on name (next one) (next other) uses may may tells old old.store new result
    (only_reads-none {done = true} name old.store)
    (λ told. leads_same (next one) (next other) (outside_of old) (ap next (same told.store)))
    (λ cause said may. may) carries

-- the records were not made, for lack of memory or of room
pub apply_refused : (name : List ℕ) (value : QuotaValue) (usage : UsageMap) (now : ℕ) (fault : ApplyFault)
    (tells : RunTells) (old : RunSeen)
    → IsApplyFault (applied value.format value.grace now value.records usage) fault
    → CarriesOut (ReplaceSteps name (checked value usage now)) (edit_uses false) (ReplacingMayRefuse value name) tells
    old old (Err (refusal_of (apply_cause fault) name))
apply_refused name value usage now (Unfit out) tells old is = check_unfit name value usage now out tells old is
apply_refused name value usage now ApplyWantsMemory tells old is =
    replace_wanting name (checked value usage now) (ReplacingMayRefuse value name) tells old old.store refl (inr tt)

-- a file is made anew, even after calls that only read
pub anew_since : {done : Bool} (kind other : Kind) (IsFormat IsOther : Format → Type 0) (read name : List ℕ)
    (old store new : StoreSeen) → OnlyReads done read old store → kind ≡ other
    → ((format : Format) → IsFormat format → IsOther format) → IsMadeAnew kind IsFormat name store.files new.files
    → IsMadeAnew other IsOther name old.files new.files
anew_since kind other IsFormat IsOther read name old store new reads same so anew = record {
  value = anew.value;
  kind_is = anew.kind_is ∙ same;
  format_is = so anew.value.format anew.format_is;
  replaced = subst
      (λ (w : World). IsReplacedBy name anew.value (ids_in anew.value.records)
      (built_size anew.value.format (ids_in anew.value.records)) w new.files) reads.files anew.replaced;
}
