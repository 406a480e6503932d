-- Conversions: what was done where a new file was made, and where it was refused.
use Rattle.std.proofs.Common.{◌≡◌, ◌≢◌, ◌≤◌, ℕ, Bool, false, IsTrue, List, [], Option, None, Some, Ok, Err, Result, inr}
use Rattle.std.proofs.Common.{refl, sym, ap, subst, ◌∙◌, arith, if◌then◌else◌, true}
use Rattle.std.specs.Prelude.{IsSome}
use Rattle.std.specs.Str.{bytes_eq}
use Rattle.std.specs.List.{slice_get}
use Rattle.quota_types.specs.declared.field.NoRoom.{NoRoom as NoRoomFor}
use Rattle.quota_types.specs.Format.{is_flat}
use Rattle.quota_types.specs.declared.file_kind.Format.{Format}
use Rattle.quota_types.specs.declared.file_kind.Kind.{Kind}
use Rattle.outside.specs.Count.{Rose}
use Rattle.quota_value.specs.QuotaValue.{QuotaValue}
use Rattle.outside.specs.Replacement.{ReplacesOnly}
use Rattle.outside.specs.Seen.{StoreSeen}
use Rattle.outside.specs.World.{World}
use Rattle.opened_file.specs.declared.quota_file.FileFault.{FileFault}
use Rattle.opened_file.specs.declared.quota_file.FileFault.TheVariants.{Store as CallFailed, Damage as FileDamaged}
use Rattle.opened_file.specs.declared.quota_file.FileFault.TheVariants.{Full as NoBlocks, Memory as NoMemory}
use Rattle.opened_file.specs.declared.quota_file.OpenFault.{OpenFault}
use Rattle.opened_file.specs.declared.quota_file.OpenFault.TheVariants.{Store as OpenFailed, Memory as WantsMemory}
use Rattle.opened_file.specs.declared.replacement.ReplaceFault.{ReplaceFault}
use Rattle.opened_file.specs.declared.replacement.ReplaceFault.TheVariants.{Store as MakingFailed}
use Rattle.opened_file.specs.declared.replacement.ReplaceFault.TheVariants.{Full as TooManyBlocks}
use Rattle.opened_file.specs.declared.replacement.ReplaceFault.TheVariants.{Memory as NoMemoryToMake}
use Rattle.outside.proofs.FrameLemmas.{only_reads-none}
use Rattle.outside.proofs.WorldLemmas.{bytes_eq-ne, bytes_eq-same}
use Rattle.quota_map.specs.Asked.{InFormat}
use Rattle.quota_map.specs.Size.{blocks_of, ids_in}
use Rattle.quota_map.specs.Replacing.{UnlessStore}
use Rattle.quota_map.specs.View.{IsView, most_blocks}
use Rattle.quota_map.proofs.SeenLemmas.{fault_seen, store_rose}
use Rattle.convert.specs.Conversion.{all_without_room, converted, converted_value, unless}
use Rattle.convert.specs.Convert.{AskedConversion, HasNoTarget, IsConvertFault, IsConverted, IsMade, IsNotMade}
use Rattle.convert.specs.Convert.{IsNotOpened, IsUnfit, UnlessMaking, asked_for}
use Rattle.convert.specs.Leaves.{LeavesOthers, OnlyLooks}
use Rattle.convert.specs.Source.{HasRead, IsReadingFault}
use Rattle.convert.specs.declared.convert_fault.ConvertFault.{ConvertFault}
use Rattle.convert.specs.declared.convert_fault.ConvertFault.TheVariants.{SameName as NamesAreSame}
use Rattle.convert.specs.declared.convert_fault.ConvertFault.TheVariants.{TargetExists as TargetIsThere, Open, File}
use Rattle.convert.specs.declared.convert_fault.ConvertFault.TheVariants.{NoRoom as Unfit, Replace}
use Rattle.refusals.specs.declared.cause.Cause.{Cause}
use Rattle.refusals.specs.declared.cause.Cause.TheVariants.{StoreFault, Memory, Damaged, Full, NoRoom, TargetExists}
use Rattle.refusals.specs.declared.cause.Cause.TheVariants.{SameName, SinkFault}
use Rattle.refusals.specs.declared.reason.Refusal.{Refusal}
use Rattle.refusals.specs.Outcome.{Outcome, Passed, Refused, and_then}
use Rattle.refusals.specs.Refusals.{refusal_of}
use Rattle.run_steps.specs.Act.{Act}
use Rattle.run_steps.specs.Changing.{edit_uses}
use Rattle.run_steps.specs.Done.{IsWorldTold, Outside, RunSeen, RunTells, outside_of}
use Rattle.run_steps.specs.Opening.{MayRefuseOpening, file_cause, opening_cause}
use Rattle.run_steps.specs.Meaning.{EndsBy}
use Rattle.run_steps.specs.Run.{HasReason, HasSteps, IsPlacedBy}
use Rattle.run_steps.specs.Carrying.{CarriesOut}
use Rattle.run_steps.specs.Steps.{DoingAll, Finish, Opening, Steps, Then}
use Rattle.run_steps.specs.declared.invocation.Invocation.{Invocation}
use Rattle.run_steps.proofs.OpeningLemmas.{none_done, not_opened, outside_same, refused_so, opening_no_output}
use Rattle.run_steps.proofs.OpeningLemmas.{store_later, with_store}
use Rattle.run_steps.proofs.PartLemmas.{nothing_begun}
use Rattle.run_steps.proofs.PhaseLemmas.{carries_on, carries_opening, leads_looking}
use Rattle.run_steps.proofs.ShowingLemmas.{damage_may}
use Rattle.file_commands.specs.Conversion.{ConvertMayRefuse, ConvertSteps, MakingSteps, absent, made, targeted}
use Rattle.file_commands.specs.ConversionCauses.{convert_refusal}
use Rattle.file_commands.specs.FileValue.{IsMadeAnew, replace_cause}
use Rattle.run_steps.specs.Committed.{ComesTo}
use Rattle.run_steps.proofs.CommittedLemmas.{comes_opened}
use Rattle.file_commands.proofs.CheckLemmas.{carries_same}
use Rattle.run_steps.proofs.CommittedLemmas.{comes_led}
use Rattle.file_commands.proofs.CommittedLemmas.{comes_fitting}
use Rattle.file_commands.proofs.ReplacingLemmas.{no_room_for, replace_failed, replace_made}
use Rattle.quota_map.proofs.SizeLemmas.{no_flat_blocks}

-- Refusals after which nothing was written.

module _ (source target : List ℕ) (may : Cause → List ℕ → Type 0) (tells : RunTells) (old : RunSeen) (store : StoreSeen)
    (looks : OnlyLooks source target old.store store) where
  -- steps that were refused, for a reason
  looked_carried : (steps : Steps) (refusal : Refusal) → Some refusal.cause ≢ Some SinkFault
      → HasReason (edit_uses false) old (with_store old store)
      (IsWorldTold tells → HasSteps steps tells (Some refusal) old (with_store old store)) refusal.cause
      → may refusal.cause refusal.name → IsPlacedBy (edit_uses false) refusal
      → CarriesOut steps (edit_uses false) may tells old (with_store old store) (Err refusal)
  looked_carried steps refusal other reason allowed placed =
      refused_so steps (edit_uses false) may tells old (with_store old store) refusal
      (record { files = looks.files; writes = looks.writes }) refl (store_later old store looks.later)
      (λ told. nothing_begun steps tells old (with_store old store) other looks.files (λ told. refl) (λ told. refl) refl
      refl refl looks.writes) reason
      allowed placed

  -- steps that end at once
  ended_steps : (steps : Steps) (refusal : Refusal)
      → ((new : Outside) → new ≡ outside_of old → EndsBy steps (outside_of old) [] new (Some refusal))
      → HasSteps steps tells (Some refusal) old (with_store old store)
  ended_steps steps refusal ends = record {
    acts = [];
    by_steps = ends (outside_of (with_store old store)) (outside_same old store looks.files);
    done = none_done tells old store old.input (record { files = looks.files; writes = looks.writes });
  }

  looked_refused : {V : Type 0} (outcome : Outcome V) (next : V → Steps) (refusal : Refusal)
      → Some refusal.cause ≢ Some SinkFault → (IsTrue tells.store → outcome ≡ Refused refusal)
      → ((stated : Type 0) → stated → HasReason (edit_uses false) old (with_store old store) stated refusal.cause)
      → may refusal.cause refusal.name → IsPlacedBy (edit_uses false) refusal
      → CarriesOut (Then outcome next) (edit_uses false) may tells old (with_store old store) (Err refusal)
  looked_refused outcome next refusal other is own allowed placed =
      looked_carried (Then outcome next) refusal other
      (own _ (λ told. ended_steps (Then outcome next) refusal (λ new same.
      subst (λ (o : Outcome _). EndsBy (Then o next) (outside_of old) [] new (Some refusal)) (sym (is told.store))
      (record { acts_none = refl; same = same; ends = refl })))) allowed placed

  -- the store failed, or there was not enough memory
  looked_failed : (steps : Steps) (name : List ℕ) → Rose old.store.faults store.faults → may StoreFault name
      → CarriesOut steps (edit_uses false) may tells old (with_store old store) (Err (refusal_of StoreFault name))
  looked_failed steps name rose allowed =
      looked_carried steps (refusal_of StoreFault name) (λ is. cc) rose allowed
      (record { line = λ no. refl; input_line = λ no. refl })

  looked_wanting : (steps : Steps) (name : List ℕ) → may Memory name
      → CarriesOut steps (edit_uses false) may tells old (with_store old store) (Err (refusal_of Memory name))
  looked_wanting steps name allowed =
      looked_carried steps (refusal_of Memory name) (λ is. cc) tt allowed
      (record { line = λ no. refl; input_line = λ no. refl })

-- The names.

pub targets_free : (source target : List ℕ) (files : World) → source ≢ target → files target ≡ None
    → targeted source target files ≡ Passed tt
targets_free source target files differ none =
    ap (λ (same : Bool). and_then (if same then Refused (refusal_of SameName source) else Passed tt)
    (λ (_ : Unit {0}). absent target (files target))) (bytes_eq-ne source target differ)
    ∙ ap (absent target) none

targets_same : (source target : List ℕ) (files : World) → source ≡ target
    → targeted source target files ≡ Refused (refusal_of SameName source)
targets_same source target files same =
    ap (λ (is : Bool). and_then (if is then Refused (refusal_of SameName source) else Passed tt)
    (λ (_ : Unit {0}). absent target (files target)))
    (ap (bytes_eq source) (sym same) ∙ bytes_eq-same source)

is_there : (target : List ℕ) (file : Option (List ℕ)) → IsSome file
    → absent target file ≡ Refused (refusal_of TargetExists target)
is_there target None some = absurd (cc)
is_there target (Some file) some = refl

targets_there : (source target : List ℕ) (files : World) → source ≢ target → IsSome (files target)
    → targeted source target files ≡ Refused (refusal_of TargetExists target)
targets_there source target files differ some =
    ap (λ (same : Bool). and_then (if same then Refused (refusal_of SameName source) else Passed tt)
    (λ (_ : Unit {0}). absent target (files target))) (bytes_eq-ne source target differ)
    ∙ is_there target (files target) some

-- The steps behind the names, and those behind the opening.

module _ (kind : Kind) (before after : Format) (source target : List ℕ) (invocation : Invocation) (tells : RunTells)
    (old new : RunSeen) (result : Result (Unit {0}) Refusal) where
  abbrev Converting : QuotaValue → Steps
  Converting value = MakingSteps source target (converted after value)

  abbrev May : Cause → List ℕ → Type 0
  May = ConvertMayRefuse kind before after source target

  carries_targeting : source ≢ target → (IsTrue tells.store → old.store.files target ≡ None)
      → CarriesOut (Opening kind (InFormat before) source Converting) (edit_uses false) May tells old new result
      → CarriesOut (ConvertSteps kind before after source target invocation) (edit_uses false) May tells old new result
  carries_targeting differ none carries =
      let next = Opening kind (InFormat before) source Converting in
      carries_on source next (ConvertSteps kind before after source target invocation) (edit_uses false) May May tells
      old old.store new result (only_reads-none {done = true} source old.store)
      (λ told. leads_looking next _ (outside_of old)
      (ap (λ (o : Outcome (Unit {0})). Then o (λ (_ : Unit {0}). next))
      (sym (targets_free source target old.store.files differ (none told.store)))))
      (λ cause said may. may) carries

  carries_read : (value : QuotaValue) → source ≢ target → (IsTrue tells.store → old.store.files target ≡ None)
      → HasRead tells.store (old.store.files source) kind before value
      → CarriesOut (Converting value) (edit_uses false) May tells old new result
      → CarriesOut (ConvertSteps kind before after source target invocation) (edit_uses false) May tells old new result
  carries_read value differ none read carries =
      carries_targeting differ none
      (carries_opening source kind (InFormat before) Converting (edit_uses false) May May tells old old.store new result
      (only_reads-none {done = true} source old.store)
      (λ told. (value, read.seen told)) (λ cause said may. may)
      (λ other view. carries_same source Converting value other (edit_uses false) May tells old new result
      (λ told. sym (read.alone told other (view told))) carries))

-- What was made.

made_value : (refusal : Option NoRoomFor) (value made : QuotaValue) → unless refusal value ≡ Ok made → value ≡ made
made_value None value made is = cc
made_value (Some refusal) value made is = absurd (cc)

-- what was made is the converted value
made_of : (after : Format) (value made : QuotaValue) → converted after value ≡ Ok made
    → converted_value after value ≡ made
made_of after value made is =
    made_value (slice_get (all_without_room after value) 0) (converted_value after value) made is

made_kind : (kind : Kind) (before after : Format) (source target : List ℕ) (tells : Bool) (files : World)
    (new : QuotaValue)
    → IsConverted tells (asked_for source target before after kind most_blocks) files new → new.kind ≡ kind
made_kind kind before after source target tells files new is =
    sym (ap (λ (v : QuotaValue). v.kind) (made_of after is.value new is.converts)) ∙ is.read.kind_is

made_format : (kind : Kind) (before after : Format) (source target : List ℕ) (tells : Bool) (files : World)
    (new : QuotaValue)
    → IsConverted tells (asked_for source target before after kind most_blocks) files new → new.format ≡ after
made_format kind before after source target tells files new is =
    sym (ap (λ (v : QuotaValue). v.format) (made_of after is.value new is.converts))

-- a new file has nothing beside what it stands for
pub converted_anew : (kind : Kind) (before after : Format) (source target : List ℕ) (tells : Bool)
    (old store : StoreSeen)
    → IsMade tells (asked_for source target before after kind most_blocks) old store → IsTrue tells
    → IsMadeAnew kind (λ (format : Format). format ≡ after) target old.files store.files
converted_anew kind before after source target tells old store is told = record {
  value = is.made;
  kind_is = made_kind kind before after source target tells old.files is.made is.converts;
  format_is = made_format kind before after source target tells old.files is.made is.converts;
  replaced = is.replaced told;
}

-- the steps come to the files with the new one, in which it is seen as the converted value
pub comes_converted : (kind : Kind) (before after : Format) (source target : List ℕ) (invocation : Invocation)
    (tells : Bool) (old : Outside) (files : World) (new : QuotaValue) → IsTrue tells
    → HasNoTarget tells (asked_for source target before after kind most_blocks) old.files
    → IsConverted tells (asked_for source target before after kind most_blocks) old.files new
    → blocks_of new ≤ most_blocks → IsView (files target) kind (InFormat after) (Ok new)
    → ReplacesOnly target old.files files
    → ComesTo (ConvertSteps kind before after source target invocation) old files
comes_converted kind before after source target invocation tells old files new told free is few view only =
    let converting = λ (value : QuotaValue). MakingSteps source target (converted after value) in
    let next = Opening kind (InFormat before) source converting in
    comes_led next old (ConvertSteps kind before after source target invocation) old files
    (leads_looking next _ old
    (ap (λ (o : Outcome (Unit {0})). Then o (λ (_ : Unit {0}). next))
    (sym (targets_free source target old.files free.apart (free.absent told)))))
    (comes_opened kind (InFormat before) source converting old is.value files (is.read.seen told)
    (subst (λ (r : Result QuotaValue NoRoomFor). ComesTo (MakingSteps source target r) old files) (sym is.converts)
    (comes_fitting target new old files few
    (subst (λ (k : Kind). IsView (files target) k (InFormat new.format) (Ok new))
    (sym (made_kind kind before after source target tells old.files new is))
    (subst (λ (f : Format). IsView (files target) kind (InFormat f) (Ok new))
    (sym (made_format kind before after source target tells old.files new is)) view)) only)))

-- Why it was not made.

-- what may be said of a file that was not opened
opening_may : (kind : Kind) (before after : Format) (source target : List ℕ) (cause : Cause)
    → MayRefuseOpening (InFormat before) source cause source
    → ConvertMayRefuse kind before after source target cause source
opening_may kind before after source target StoreFault may = may
opening_may kind before after source target Memory may = may
opening_may kind before after source target (Full blocks limit) may = absurd may
opening_may kind before after source target (NoRoom out) may = absurd may
opening_may kind before after source target TargetExists may = absurd may
opening_may kind before after source target SameName may = absurd may
opening_may kind before after source target _ may = may

nowhere_placed : (cause : Cause) (name : List ℕ) → IsPlacedBy (edit_uses false) (refusal_of cause name)
nowhere_placed cause name = record { line = λ no. refl; input_line = λ no. refl }

module _ (kind : Kind) (before after : Format) (source target : List ℕ) (invocation : Invocation) (tells : RunTells)
    (old : RunSeen) (store : StoreSeen) where
  abbrev asked : AskedConversion
  asked = asked_for source target before after kind most_blocks

  abbrev Says : Cause → List ℕ → Type 0
  Says = ConvertMayRefuse kind before after source target

  abbrev Carried : Steps → Result (Unit {0}) Refusal → Type 0
  Carried steps result = CarriesOut steps (edit_uses false) Says tells old (with_store old store) result

  abbrev steps : Steps
  steps = ConvertSteps kind before after source target invocation

  abbrev next : Steps
  next =
      Opening kind (InFormat before) source (λ (value : QuotaValue). MakingSteps source target (converted after value))

  -- the steps over what was read make the new file
  carries_made : (new : QuotaValue) (result : Result (Unit {0}) Refusal) → HasNoTarget tells.store asked old.store.files
      → IsConverted tells.store asked old.store.files new
      → Carried (MakingSteps source target (Ok new)) result → Carried steps result
  carries_made new result free converts carries =
      carries_read kind before after source target invocation tells old (with_store old store) result converts.value
      free.apart free.absent converts.read
      (subst (λ (r : Result QuotaValue NoRoomFor). Carried (MakingSteps source target r) result)
      (sym converts.converts) carries)

  pub converted_done : IsMade tells.store asked old.store store → LeavesOthers source target old.store store
      → Carried steps (Ok tt)
  converted_done is leaves =
      let kind_is = made_kind kind before after source target tells.store old.store.files is.made is.converts in
      let format_is = made_format kind before after source target tells.store old.store.files is.made is.converts in
      carries_made is.made (Ok tt) is.free is.converts
      (replace_made target is.made Says tells old store
      (λ told. subst (λ (k : Kind). IsView (store.files target) k (InFormat is.made.format) (Ok is.made)) (sym kind_is)
      (subst (λ (f : Format). IsView (store.files target) kind (InFormat f) (Ok is.made)) (sym format_is)
      (is.seen told (omega arith))))
      leaves.files leaves.later is.few)

  not_made : (fault : ReplaceFault) → IsNotMade tells.store asked old.store store fault
      → UnlessStore fault (OnlyLooks source target old.store store)
      → store.files target ≡ old.store.files target → LeavesOthers source target old.store store
      → Carried steps (Err (refusal_of (replace_cause fault) target))
  not_made MakingFailed is looks same leaves =
      carries_made is.made (Err (refusal_of StoreFault target)) is.free is.converts
      (replace_failed target is.made Says tells old store is.cause.0 same leaves.files leaves.later is.cause.1 tt)
  not_made (TooManyBlocks blocks limit) is looks same leaves =
      let format_is = made_format kind before after source target tells.store old.store.files is.made is.converts in
      carries_made is.made (Err (refusal_of (Full blocks limit) target)) is.free is.converts
      (looked_refused source target Says tells old store looks (made source target (Ok is.made))
      (λ (acts : List Act). DoingAll acts Finish) (refusal_of (Full blocks limit) target) (λ is. cc)
      (λ told. no_room_for target is.made blocks limit is.cause.0 is.cause.1 is.cause.2) (λ stated fact. fact) (
        ap is_flat (sym format_is) ∙ no_flat_blocks is.made.format (ids_in is.made.records) most_blocks is.cause.0,
        is.cause.2,
        omega (arith, is.cause.0, is.cause.1, is.cause.2),
        refl,
      )
      (nowhere_placed (Full blocks limit) target))
  not_made NoMemoryToMake is looks same leaves = looked_wanting source target Says tells old store looks steps target tt

  -- what is said of a file that is not opened may be said, whichever names were looked at before
  open_says : (fault : OpenFault) → IsNotOpened tells.store asked old.store store fault
      → OnlyLooks source target old.store store → Says (opening_cause fault) source
  open_says fault is looks =
      let before_it = with_store old (record old.store { unsynced = store.unsynced }) in
      (not_opened {done = true} kind (InFormat before) source
      (λ (value : QuotaValue). MakingSteps source target (converted after value)) (edit_uses false) Says tells before_it
      store fault is.cause
      (record {
        files = looks.files;
        unsynced = λ other differ. refl;
        later = looks.later;
        writes = looks.writes;
        synced = λ done other is. is;
      }) (λ cause may. opening_may kind before after source target cause may)).may_refuse

  open_refused : (fault : OpenFault) → IsNotOpened tells.store asked old.store store fault
      → OnlyLooks source target old.store store
      → Carried steps (Err (refusal_of (opening_cause fault) source))
  open_refused OpenFailed is looks =
      looked_failed source target Says tells old store looks steps source
      (store_rose old.store.faults store.faults tells.store (old.store.files source) kind (InFormat before) is.cause) tt
  open_refused WantsMemory is looks = looked_wanting source target Says tells old store looks steps source tt
  open_refused fault is looks =
      carries_targeting kind before after source target invocation tells old (with_store old store)
      (Err (refusal_of (opening_cause fault) source)) is.apart is.absent
      (looked_carried source target Says tells old store looks next (refusal_of (opening_cause fault) source)
      (opening_no_output fault)
      (λ told. ended_steps source target Says tells old store looks next (refusal_of (opening_cause fault) source)
      (λ new same. inr (
        fault,
        fault_seen old.store.faults store.faults tells.store (old.store.files source) kind (InFormat before) fault
            is.cause told.store (λ own. own),
        record { acts_none = refl; same = same; ends = refl },
      )))
      (open_says fault is looks) (nowhere_placed (opening_cause fault) source))

  read_refused : (fault : FileFault) → IsReadingFault old.store.faults store.faults tells.store before fault
      → OnlyLooks source target old.store store
      → Carried steps (Err (refusal_of (file_cause fault) source))
  read_refused CallFailed cause looks = looked_failed source target Says tells old store looks steps source cause tt
  read_refused (FileDamaged damage) cause looks =
      looked_carried source target Says tells old store looks steps (refusal_of (Damaged damage) source) (λ is. cc)
      (λ told. absurd (cause.0 told.store))
      (damage_may (InFormat before) before damage refl cause.1, refl) (nowhere_placed (Damaged damage) source)
  read_refused (NoBlocks blocks limit) cause looks = absurd cause
  read_refused NoMemory cause looks = looked_wanting source target Says tells old store looks steps source tt

  unfit_refused : (out : NoRoomFor) → IsUnfit tells.store asked old.store.files out
      → OnlyLooks source target old.store store → Carried steps (Err (refusal_of (NoRoom out) source))
  unfit_refused out is looks =
      let refusal = refusal_of (NoRoom out) source in
      carries_read kind before after source target invocation tells old (with_store old store) (Err refusal) is.value
      is.free.apart is.free.absent is.read
      (subst (λ (r : Result QuotaValue NoRoomFor). Carried (MakingSteps source target r) (Err refusal)) (sym is.refused)
      (looked_refused source target Says tells old store looks (made source target (Err out))
      (λ (acts : List Act). DoingAll acts Finish) refusal (λ is. cc) (λ told. refl) (λ stated fact. fact) (
        (
          is.value,
          record {
            kind_is = is.read.kind_is;
            format_is = is.read.format_is;
            grace = is.read.grace;
            kept = is.read.kept;
          },
          is.refused,
        ),
        refl,
      )
      (nowhere_placed (NoRoom out) source)))

  -- the names were refused
  names_refused : (refusal : Refusal) → Some refusal.cause ≢ Some SinkFault
      → (IsTrue tells.store → targeted source target old.store.files ≡ Refused refusal)
      → OnlyLooks source target old.store store
      → ((stated : Type 0) → stated → HasReason (edit_uses false) old (with_store old store) stated refusal.cause)
      → Says refusal.cause refusal.name → IsPlacedBy (edit_uses false) refusal
      → Carried steps (Err refusal)
  names_refused refusal other is looks own allowed placed =
      carries_on source (Then (targeted source target old.store.files) (λ (_ : Unit {0}). next)) steps (edit_uses false)
      Says Says tells old old.store (with_store old store) (Err refusal)
      (only_reads-none {done = true} source old.store)
      (λ told. leads_looking (Then (targeted source target old.store.files) (λ (_ : Unit {0}). next)) _ (outside_of old)
      refl) (λ cause said may. may)
      (looked_refused source target Says tells old store looks (targeted source target old.store.files)
      (λ (_ : Unit {0}). next) refusal other is own allowed placed)

  pub not_converted : (fault : ConvertFault) → IsConvertFault tells.store asked old.store store fault
      → UnlessMaking fault (OnlyLooks source target old.store store)
      → store.files target ≡ old.store.files target → LeavesOthers source target old.store store
      → Carried steps (Err (convert_refusal source target fault))
  not_converted NamesAreSame is looks same leaves =
      names_refused (refusal_of SameName source) (λ is. cc) (λ told. targets_same source target old.store.files is)
      looks (λ stated fact. fact) (is, refl) (nowhere_placed SameName source)
  not_converted TargetIsThere is looks same leaves =
      names_refused (refusal_of TargetExists target) (λ is. cc)
      (λ told. targets_there source target old.store.files is.0 (is.1 told)) looks (λ stated fact. fact) (is.0, refl)
      (nowhere_placed TargetExists target)
  not_converted (Open fault) is looks same leaves = open_refused fault is looks
  not_converted (File fault) is looks same leaves = read_refused fault is.1 looks
  not_converted (Unfit out) is looks same leaves = unfit_refused out is looks
  not_converted (Replace fault) is looks same leaves = not_made fault is looks same leaves
