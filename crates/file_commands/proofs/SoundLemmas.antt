-- What is shown of the commands of this crate: how their steps look, read and end, and that their descriptions are
-- sound.
use Rattle.std.specs.Prelude.{is_none, Contains, is_some}
use Rattle.std.proofs.Common.{◌≡◌, ℕ, ◌≤◌, Bool, true, false, IsTrue, List, [], ◌∷◌, Option, None, Ok, inl, refl, sym}
use Rattle.std.proofs.Common.{ap, ◌∙◌, Some, Result, Err, inr}
use Rattle.quota_types.specs.declared.file_kind.Format.{Format}
use Rattle.quota_types.specs.declared.file_kind.Kind.{Kind}
use Rattle.quota_value.specs.QuotaValue.{QuotaValue}
use Rattle.quota_map.specs.Asked.{InFormat, asked_of, Asked, AnyTree}
use Rattle.quota_map.specs.View.{most_blocks}
use Rattle.convert.specs.Conversion.{converted}
use Rattle.id_names.specs.NamesFile.{NameLine}
use Rattle.inode_scan.specs.Usage.{UsageMap}
use Rattle.report_options.specs.declared.options.Options.{Options}
use Rattle.refusals.specs.Outcome.{Outcome, Passed, and_then}
use Rattle.command_words.specs.declared.command.Common.{Common}
use Rattle.run_steps.specs.Act.{Act, Replace, ToOut}
use Rattle.quota_map.specs.Size.{blocks_of}
use Rattle.run_steps.specs.Done.{Outside}
use Rattle.run_steps.specs.Meaning.{IsSure}
use Rattle.run_steps.specs.OneCommand.{LooksFirst, ReadsToEnd}
use Rattle.run_steps.specs.Changing.{edit_uses}
use Rattle.run_steps.specs.Showing.{ShowingSteps, showing_uses}
use Rattle.run_steps.specs.Steps.{Doing, DoingAll, Finish, Opening, Then, Steps}
use Rattle.run_steps.specs.Taking.{input_said, AListing}
use Rattle.run_steps.specs.declared.invocation.Invocation.{Invocation}
use Rattle.run_steps.proofs.OneCommandLemmas.{looks_done, looks_naming, looks_taking, looks_then, reads_taking}
use Rattle.run_steps.proofs.OneCommandLemmas.{sure_done, sure_naming, sure_opening, sure_taking, sure_then}
use Rattle.file_commands.specs.Check.{CheckSteps, ReplaceSteps, UsageSteps, checked, replaced, scan_step, CanCheck}
use Rattle.file_commands.specs.Check.{new_value, scan_outcome, checking, CheckMayRefuse, UnfitMayRefuse, UsageMayRefuse}
use Rattle.file_commands.specs.Check.{check_uses}
use Rattle.file_commands.specs.Conversion.{ConvertSteps, MakingSteps, made, targeted, CanConvert, absent, apart}
use Rattle.file_commands.specs.Conversion.{ConvertMayRefuse, converting}
use Rattle.descriptions.proofs.SoundLemmas.{never, only_one, spares_both, spares_input, spares_names, spares_opening}
use Rattle.descriptions.proofs.SoundLemmas.{spares_showing}
use Rattle.file_commands.specs.Report.{ReportSteps, report_on, CanReport, ReportMayRefuse, reporting}
use Rattle.file_commands.proofs.ConversionLemmas.{targets_free}
use Rattle.file_commands.proofs.ReplacingLemmas.{room_for}
use Rattle.quota_types.specs.declared.field.NoRoom.{NoRoom as NoRoomFor}
use Rattle.quota_types.specs.declared.file_kind.Format.TheVariants.{V2R1}
use Rattle.quota_types.specs.declared.file_kind.Kind.TheVariants.{User}
use Rattle.outside.specs.World.{World}
use Rattle.inode_scan.specs.Generated.{generated}
use Rattle.inode_scan.specs.Scan.{scanned}
use Rattle.run_steps.specs.SameViews.{FileAsked, IsSameFile, LooksAlike, Opens}
use Rattle.run_steps.proofs.LookLemmas.{alike_done, alike_naming, alike_taking, alike_then, opens_done, opens_naming}
use Rattle.run_steps.proofs.LookLemmas.{opens_opening, opens_taking, opens_then}
use Rattle.file_commands.specs.Generate.{GenerateSteps, MadeSteps, generate_uses, summary, generating}
use Rattle.run_steps.specs.Run.{Uses}
use Rattle.descriptions.specs.Sound.{IsSound, Spares}
use Rattle.file_commands.specs.WritingRefused.{WritingMayRefuse}
use Rattle.file_commands.proofs.GenerateStepLemmas.{generate_looks, generate_sure}

-- A report.

report_looks : (common : Common) (options : Options) (file : List ℕ) (invocation : Invocation)
    → LooksFirst true true (ReportSteps common options file invocation)
report_looks common options file invocation =
    looks_naming false true common.kind common.names _ (λ lines. (refl, λ value. tt))

report_sure : (common : Common) (options : Options) (file : List ℕ) (invocation : Invocation) (old : Outside)
    → CanReport common file old → IsSure (ReportSteps common options file invocation) old
report_sure common options file invocation old (lines, value, names, view) =
    let text = λ (lines : List NameLine). report_on lines file invocation.now options in
    sure_naming common.kind common.names
    (λ (lines : List NameLine). ShowingSteps common.kind (asked_of common.format) file (text lines)) lines old names
    (sure_opening common.kind (asked_of common.format) file
    (λ (value : QuotaValue). Doing (ToOut (text lines value)) Finish) value old view (λ middle follows. refl))

-- Acts of a step, and then nothing more.

acts_look : (takes : Bool) (outcome : Outcome (List Act))
    → LooksFirst true takes (Then outcome (λ (acts : List Act). DoingAll acts Finish))
acts_look takes outcome =
    looks_then false true takes outcome (λ (acts : List Act). DoingAll acts Finish)
    (λ acts. looks_done false true takes acts None)

acts_sure : (outcome : Outcome (List Act)) (acts : List Act) (old : Outside) → outcome ≡ Passed acts
    → IsSure (Then outcome (λ (acts : List Act). DoingAll acts Finish)) old
acts_sure outcome acts old passed =
    sure_then outcome (λ (acts : List Act). DoingAll acts Finish) acts old passed (sure_done acts old)

-- The usage of a listing.

usage_sure : (common : Common) (device : Option ℕ) (from : Option (List ℕ)) (file : List ℕ) (now : ℕ)
    (value : QuotaValue) (usage : UsageMap) (new : QuotaValue) (old : Outside)
    → input_said from (scan_step common.kind device from) old.files old.input ≡ Passed usage
    → checked value usage now ≡ Ok new → blocks_of new ≤ most_blocks
    → IsSure (UsageSteps common.kind device from file now value) old
usage_sure common device from file now value usage new old said fits few =
    sure_taking from (λ usage. true) (scan_step common.kind device from)
    (λ (u : UsageMap). ReplaceSteps file (checked value u now)) usage old said
    (λ left. acts_sure (replaced file (checked value usage now)) (Replace file new ∷ []) (record old { input = left })
    (ap (replaced file) fits ∙ room_for file new few))

usage_looks : (common : Common) (device : Option ℕ) (from : Option (List ℕ)) (file : List ℕ) (now : ℕ)
    (value : QuotaValue) → LooksFirst true true (UsageSteps common.kind device from file now value)
usage_looks common device from file now value =
    looks_taking false from (λ usage. true) (scan_step common.kind device from) _
    (λ takes usage. acts_look takes (replaced file (checked value usage now)))

check_looks : (common : Common) (fresh : Bool) (device : Option ℕ) (from : Option (List ℕ)) (file : List ℕ)
    (invocation : Invocation) → LooksFirst true true (CheckSteps common fresh device from file invocation)
check_looks common true device from file invocation = usage_looks common device from file invocation.now _
check_looks common false device from file invocation =
    (refl, λ value. usage_looks common device from file invocation.now value)

check_reads : (common : Common) (fresh : Bool) (device : Option ℕ) (from : Option (List ℕ)) (file : List ℕ)
    (invocation : Invocation) → IsTrue (is_none from)
    → ReadsToEnd (CheckSteps common fresh device from file invocation)
check_reads common true device None file invocation uses =
    reads_taking (λ usage. true) (scan_step common.kind device None) _ (λ usage. inl refl)
check_reads common false device None file invocation uses =
    λ value. reads_taking (λ usage. true) (scan_step common.kind device None) _ (λ usage. inl refl)
check_reads common fresh device (Some name) file invocation uses = never uses

check_sure : (common : Common) (fresh : Bool) (device : Option ℕ) (from : Option (List ℕ)) (file : List ℕ)
    (invocation : Invocation) (old : Outside) → CanCheck common fresh device from file invocation old
    → IsSure (CheckSteps common fresh device from file invocation) old
check_sure common true device from file invocation old (value, usage, new, is, said, fits, few) =
    usage_sure common device from file invocation.now _ usage new old said
    (ap (λ (v : QuotaValue). checked v usage invocation.now) (sym is) ∙ fits) few
check_sure common false device from file invocation old (value, usage, new, is, said, fits, few) =
    sure_opening common.kind (asked_of common.format) file (UsageSteps common.kind device from file invocation.now)
    value old is (usage_sure common device from file invocation.now value usage new old said fits few)

-- A conversion.

convert_looks : (kind : Kind) (before after : Format) (source target : List ℕ) (invocation : Invocation)
    → LooksFirst true true (ConvertSteps kind before after source target invocation)
convert_looks kind before after source target invocation = (
  inl refl,
  λ files. looks_then false true true (targeted source target files) _
      (λ apart. (refl, λ value. acts_look true (made source target (converted after value)))),
)

convert_sure : (kind : Kind) (before after : Format) (source target : List ℕ) (invocation : Invocation) (old : Outside)
    → CanConvert kind before after source target old
    → IsSure (ConvertSteps kind before after source target invocation) old
convert_sure kind before after source target invocation old (value, new, differ, none, view, fits, few) =
    let next = λ (v : QuotaValue). MakingSteps source target (converted after v) in
    sure_then (targeted source target old.files) (λ (_ : Unit {0}). Opening kind (InFormat before) source next) tt old
    (targets_free source target old.files differ none)
    (sure_opening kind (InFormat before) source next value old view
    (acts_sure (made source target (converted after value)) (Replace target new ∷ []) old
    (ap (made source target) fits ∙ room_for target new few)))

-- Their looks are alike.

acts_alike : (one other : World) (outcome : Outcome (List Act))
    → LooksAlike one other (Then outcome (λ (acts : List Act). DoingAll acts Finish))
acts_alike one other outcome =
    alike_then false one other outcome (λ (acts : List Act). DoingAll acts Finish)
    (λ acts. alike_done false one other acts None)

report_alike : (one other : World) (common : Common) (options : Options) (file : List ℕ) (invocation : Invocation)
    → IsSameFile one other common.names
    → LooksAlike one other (ReportSteps common options file invocation)
report_alike one other common options file invocation names =
    alike_naming false one other common.kind common.names _ names (λ lines value. tt)

usage_alike : (one other : World) (common : Common) (device : Option ℕ) (from : Option (List ℕ)) (file : List ℕ)
    (now : ℕ) (value : QuotaValue) → IsSameFile one other from
    → LooksAlike one other (UsageSteps common.kind device from file now value)
usage_alike one other common device from file now value input =
    alike_taking false one other from (λ usage. true) (scan_step common.kind device from) _ input
    (λ usage. acts_alike one other (replaced file (checked value usage now)))

check_alike : (one other : World) (common : Common) (fresh : Bool) (device : Option ℕ) (from : Option (List ℕ))
    (file : List ℕ) (invocation : Invocation) → IsSameFile one other from
    → LooksAlike one other (CheckSteps common fresh device from file invocation)
check_alike one other common true device from file invocation input =
    usage_alike one other common device from file invocation.now (new_value common.kind common.format) input
check_alike one other common false device from file invocation input =
    λ value. usage_alike one other common device from file invocation.now value input

-- there is a file of the name in both worlds, or in none of them
absent_alike : (target : List ℕ) (one other : Option (List ℕ)) → is_some one ≡ is_some other
    → absent target one ≡ absent target other
absent_alike target None None same = refl
absent_alike target (Some file) (Some another) same = refl
absent_alike target None (Some another) same = absurd (cc)
absent_alike target (Some file) None same = absurd (cc)

convert_alike : (one other : World) (kind : Kind) (before after : Format) (source target : List ℕ)
    (invocation : Invocation) → is_some (one target) ≡ is_some (other target)
    → LooksAlike one other (ConvertSteps kind before after source target invocation)
convert_alike one other kind before after source target invocation there =
    let opening = Opening kind (InFormat before) source
    (λ (value : QuotaValue). MakingSteps source target (converted after value)) in (
      inl (ap (λ (o : Outcome (Unit {0})). Then (and_then (apart source target) (λ (_ : Unit {0}). o))
          (λ (_ : Unit {0}). opening)) (absent_alike target (one target) (other target) there)),
      alike_then false one other (targeted source target one) (λ (_ : Unit {0}). opening)
          (λ apart value. acts_alike one other (made source target (converted after value))),
    )

-- what is done with a listing that is made rests on no file
made_alike : (one other : World) (lines : ℕ) (file : List ℕ) (now : ℕ) (new : Result QuotaValue NoRoomFor)
    → LooksAlike one other (MadeSteps lines file now new)
made_alike one other lines file now (Err out) = tt
made_alike one other lines file now (Ok new) =
    let told = Doing (ToOut (summary lines file now new)) Finish in
    alike_then false one other (replaced file (Ok new)) (λ (acts : List Act). DoingAll acts told)
    (λ acts. told_alike acts told tt)
  where
    told_alike : (acts : List Act) (told : Steps) → LooksAlike one other told
        → LooksAlike one other (DoingAll acts told)
    told_alike [] told alike = alike
    told_alike (act ∷ acts) told alike = told_alike acts told alike

generate_alike : (one other : World) (seed count : ℕ) (file : List ℕ) (now : ℕ)
    → LooksAlike one other (GenerateSteps seed count file now)
generate_alike one other seed count file now =
    let next = λ (usage : UsageMap). MadeSteps count file now (checked (new_value User (Some V2R1)) usage now) in
    alike_then false one other (scan_outcome file (scanned User None (generated seed count))) next
    (λ usage. made_alike one other count file now (checked (new_value User (Some V2R1)) usage now))

-- The file that they open.

-- it is the one of this name, for this kind and in the format that is asked for
abbrev pub IsFile : Kind → Asked → List ℕ → FileAsked → Type 0
IsFile kind asked name opened = Contains (record { kind = kind; asked = asked; name = name } ∷ []) opened

acts_open : (holds : Type 0) (outcome : Outcome (List Act)) (old : Outside) (opened : FileAsked)
    → Opens (Then outcome (λ (acts : List Act). DoingAll acts Finish)) old opened → holds
acts_open holds outcome old opened opens =
    opens_then holds outcome (λ (acts : List Act). DoingAll acts Finish) old opened
    (λ acts. opens_done holds acts None old opened) opens

report_opens : (common : Common) (options : Options) (file : List ℕ) (invocation : Invocation) (old : Outside)
    (opened : FileAsked) → Opens (ReportSteps common options file invocation) old opened
    → IsFile common.kind (asked_of common.format) file opened
report_opens common options file invocation old opened opens =
    let holds = IsFile common.kind (asked_of common.format) file opened in
    let text = λ (lines : List NameLine). report_on lines file invocation.now options in
    opens_naming holds common.kind common.names
    (λ (lines : List NameLine). ShowingSteps common.kind (asked_of common.format) file (text lines)) old
    opened (λ lines.
    opens_opening holds common.kind (asked_of common.format) file
    (λ (value : QuotaValue). Doing (ToOut (text lines value)) Finish) old opened (only_one _ opened)
    (λ value none. absurd none)) opens

usage_opens : (holds : Type 0) (common : Common) (device : Option ℕ) (from : Option (List ℕ)) (file : List ℕ) (now : ℕ)
    (value : QuotaValue) (old : Outside) (opened : FileAsked)
    → Opens (UsageSteps common.kind device from file now value) old opened → holds
usage_opens holds common device from file now value old opened opens =
    opens_taking holds from (λ usage. true) (scan_step common.kind device from)
    (λ (usage : UsageMap). ReplaceSteps file (checked value usage now)) old opened (λ usage.
    acts_open holds (replaced file (checked value usage now)) old opened) opens

-- a new file is made without opening one
check_opens : (common : Common) (fresh : Bool) (device : Option ℕ) (from : Option (List ℕ)) (file : List ℕ)
    (invocation : Invocation) (old : Outside) (opened : FileAsked)
    → Opens (CheckSteps common fresh device from file invocation) old opened
    → Contains (checking common fresh device from file).looks.opens opened
check_opens common true device from file invocation old opened opens =
    usage_opens _ common device from file invocation.now (new_value common.kind common.format) old opened opens
check_opens common false device from file invocation old opened opens =
    let holds = IsFile common.kind (asked_of common.format) file opened in
    opens_opening holds common.kind (asked_of common.format) file
    (UsageSteps common.kind device from file invocation.now) old opened (only_one _ opened) (λ value.
    usage_opens holds common device from file invocation.now value old opened) opens

convert_opens : (kind : Kind) (before after : Format) (source target : List ℕ) (invocation : Invocation) (old : Outside)
    (opened : FileAsked)
    → Opens (ConvertSteps kind before after source target invocation) old opened
    → IsFile kind (InFormat before) source opened
convert_opens kind before after source target invocation old opened opens =
    let holds = IsFile kind (InFormat before) source opened in
    let making = λ (value : QuotaValue). MakingSteps source target (converted after value) in
    opens_then holds (targeted source target old.files) (λ (_ : Unit {0}). Opening kind (InFormat before) source making)
    old opened (λ apart.
    opens_opening holds kind (InFormat before) source making old opened (only_one _ opened) (λ value.
    acts_open holds (made source target (converted after value)) old opened)) opens

made_opens : (holds : Type 0) (lines : ℕ) (file : List ℕ) (now : ℕ) (new : Result QuotaValue NoRoomFor) (old : Outside)
    (opened : FileAsked) → Opens (MadeSteps lines file now new) old opened → holds
made_opens holds lines file now (Err out) old opened opens = absurd opens
made_opens holds lines file now (Ok new) old opened opens =
    let told = Doing (ToOut (summary lines file now new)) Finish in
    opens_then holds (replaced file (Ok new)) (λ (acts : List Act). DoingAll acts told) old opened
    (λ acts. told_opens acts told (λ none. absurd none)) opens
  where
    told_opens : (acts : List Act) (told : Steps) → (Opens told old opened → holds)
        → Opens (DoingAll acts told) old opened → holds
    told_opens [] told none opens = none opens
    told_opens (act ∷ acts) told none opens = told_opens acts told none opens

-- a file of a listing that is made is opened only once it was written, which is no look at what was there
generate_opens : (holds : Type 0) (seed count : ℕ) (file : List ℕ) (now : ℕ) (old : Outside) (opened : FileAsked)
    → Opens (GenerateSteps seed count file now) old opened → holds
generate_opens holds seed count file now old opened opens =
    let next = λ (usage : UsageMap). MadeSteps count file now (checked (new_value User (Some V2R1)) usage now) in
    opens_then holds (scan_outcome file (scanned User None (generated seed count))) next old opened
    (λ usage. made_opens holds count file now (checked (new_value User (Some V2R1)) usage now) old opened) opens

-- A report.

spares_report : (uses : Uses) (common : Common) (file : List ℕ) → Spares uses (ReportMayRefuse common file)
spares_report uses common file cause name barred (inl may) = spares_names uses common.names cause name barred may
spares_report uses common file cause name barred (inr may) =
    spares_showing uses (asked_of common.format) file cause name barred may

pub report_sound : (common : Common) (options : Options) (file : List ℕ) → IsSound (reporting common options file)
report_sound common options file = record {
  looks_first = report_looks common options file;
  rooms = never;
  reads_to_end = λ invocation. never;
  sees_alike = λ one other invocation reads. report_alike one other common options file invocation reads.names;
  opens = report_opens common options file;
  full = λ invocation old acts new refusal blocks limit ends is. tt;
  sure = report_sure common options file;
  spares = spares_report showing_uses common file;
}

-- The usage of a listing.

spares_usage : (value : QuotaValue) (from : Option (List ℕ)) (file : List ℕ)
    → Spares (check_uses from) (UsageMayRefuse value from file)
spares_usage value from file cause name barred (inl may) =
    spares_input (check_uses from) AListing from refl cause name barred may
spares_usage value from file cause name barred (inr (inl may)) =
    spares_both (check_uses from) (UnfitMayRefuse value file) (λ name none may. may) (λ kind word name none may. may)
    cause name barred may
spares_usage value from file cause name barred (inr (inr may)) =
    spares_both (check_uses from) (WritingMayRefuse value.format file) (λ name none may. may)
    (λ kind word name none may. may) cause name barred may

spares_check : (common : Common) (fresh : Bool) (from : Option (List ℕ)) (file : List ℕ)
    → Spares (check_uses from) (CheckMayRefuse common fresh from file)
spares_check common true from file cause name barred may =
    spares_usage (new_value common.kind common.format) from file cause name barred may
spares_check common false from file cause name barred (inl may) =
    spares_opening (check_uses from) (asked_of common.format) file cause name barred may
spares_check common false from file cause name barred (inr (value, asked, kept, may)) =
    spares_usage value from file cause name barred may

pub check_sound : (common : Common) (fresh : Bool) (device : Option ℕ) (from : Option (List ℕ)) (file : List ℕ)
    → IsSound (checking common fresh device from file)
check_sound common fresh device from file = record {
  looks_first = check_looks common fresh device from file;
  rooms = never;
  reads_to_end = check_reads common fresh device from file;
  sees_alike = λ one other invocation reads. check_alike one other common fresh device from file invocation reads.input;
  opens = check_opens common fresh device from file;
  full = λ invocation old acts new refusal blocks limit ends is. tt;
  sure = check_sure common fresh device from file;
  spares = spares_check common fresh from file;
}

-- A conversion.

pub convert_sound : (kind : Kind) (before after : Format) (source target : List ℕ)
    → IsSound (converting kind before after source target)
convert_sound kind before after source target = record {
  looks_first = convert_looks kind before after source target;
  rooms = never;
  reads_to_end = λ invocation. never;
  sees_alike =
      λ one other invocation reads. convert_alike one other kind before after source target invocation reads.target;
  opens = convert_opens kind before after source target;
  full = λ invocation old acts new refusal blocks limit ends is. tt;
  sure = convert_sure kind before after source target;
  spares = spares_both (edit_uses false) (ConvertMayRefuse kind before after source target) (λ name none may. may)
      (λ kind word name none may. may);
}

-- A listing that is made.

pub generate_sound : (seed count : ℕ) (file : List ℕ) → IsSound (generating seed count file)
generate_sound seed count file = record {
  looks_first = λ invocation. generate_looks seed count file invocation.now;
  rooms = never;
  reads_to_end = λ invocation. never;
  sees_alike = λ one other invocation reads. generate_alike one other seed count file invocation.now;
  opens = λ invocation old opened opens. generate_opens _ seed count file invocation.now old opened opens;
  full = λ invocation old acts new refusal blocks limit ends is. tt;
  sure = λ invocation old few. generate_sure seed count file invocation.now old few;
  spares = spares_showing generate_uses AnyTree file;
}
