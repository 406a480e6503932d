-- What is shown of the commands of this crate: how their steps look, read and end, and that their descriptions are
-- sound.
use Rattle.std.proofs.Common.{inl, ℕ, Bool, true, false, IsTrue, List, ◌++◌, Option, None, Some, Ok, refl, ap, ◌≡◌, ◌⊎◌}
use Rattle.std.proofs.Common.{inr, arith}
use Rattle.std.specs.Prelude.{is_none, Contains}
use Rattle.quota_types.specs.declared.file_kind.Kind.{Kind}
use Rattle.quota_value.specs.QuotaValue.{QuotaValue}
use Rattle.outside.specs.World.{World}
use Rattle.quota_map.specs.Asked.{Asked, asked_of}
use Rattle.quota_map.specs.View.{IsView}
use Rattle.id_names.specs.NamesFile.{NameLine}
use Rattle.command_words.specs.declared.command.Common.{Common}
use Rattle.run_steps.specs.Act.{ToOut, InPlace, Act}
use Rattle.run_steps.specs.Done.{Outside}
use Rattle.run_steps.specs.Meaning.{IsSure}
use Rattle.run_steps.specs.Naming.{names_seen}
use Rattle.run_steps.specs.Numbers.{identifier_of, grace_read}
use Rattle.run_steps.specs.OneCommand.{LooksFirst, ReadsToEnd, AreSameSteps}
use Rattle.run_steps.specs.Changing.{edit_uses}
use Rattle.run_steps.specs.Showing.{ShowingSteps, ShowingMayRefuse, showing_uses}
use Rattle.run_steps.specs.Steps.{Doing, DoingAll, Finish, Looking, Then, Steps}
use Rattle.run_steps.specs.declared.invocation.Invocation.{Invocation}
use Rattle.run_steps.proofs.OneCommandLemmas.{looks_done, looks_naming, looks_taking, looks_then, reads_taking}
use Rattle.run_steps.proofs.OneCommandLemmas.{reads_then, sure_done, sure_naming, sure_opening, sure_taking, sure_then}
use Rattle.edit_commands.specs.declared.edit.EditWords.{EditWords}
use Rattle.edit_commands.specs.declared.edit.FileEdit.{FileEdit}
use Rattle.edit_commands.specs.declared.edit.FileEdit.TheVariants.{Limits as LimitsEdit, Grace as Periods}
use Rattle.edit_commands.specs.Apply.{ApplySteps, FormSteps, form_step, CanApply, ApplyMayRefuse, FormEditMayRefuse}
use Rattle.edit_commands.specs.Apply.{NamedApplyMayRefuse, apply_uses, applying}
use Rattle.edit_commands.specs.Edits.{EditSteps, FileEditSteps, said_acts, warnings, CanEdit, EditMayRefuse}
use Rattle.edit_commands.specs.Edits.{FileEditMayRefuse, NamedEditMayRefuse, editing}
use Rattle.edit_steps.specs.EditStep.{edit_step, ChangeMayRefuse}
use Rattle.edit_steps.specs.Fits.{Fits}
use Rattle.edit_commands.specs.EditWords.{edit_meant, edit_read, names_wanted, skipped_by, words_need_room, words_warn}
use Rattle.edit_commands.specs.Print.{PrintSteps, form_on, CanPrint, NamedPrintMayRefuse, PrintMayRefuse, printing}
use Rattle.descriptions.proofs.SoundLemmas.{never, only_one, spares_both, spares_input, spares_named, spares_opening}
use Rattle.descriptions.proofs.SoundLemmas.{spares_showing, spares_sink}
use Rattle.edit_commands.proofs.EditLemmas.{Saying}
use Rattle.edit_steps.proofs.EditLemmas.{change_acts, step_fits}
use Rattle.quota_types.specs.declared.record.Grace.{Grace as GracePeriods}
use Rattle.run_steps.specs.SameViews.{FileAsked, IsSameFile, LooksAlike, LooksAlikeBy, Opens}
use Rattle.run_steps.proofs.LookLemmas.{alike_done, alike_naming, alike_taking, alike_then, opens_done, opens_naming}
use Rattle.run_steps.proofs.LookLemmas.{opens_opening, opens_taking, opens_then}
use Rattle.descriptions.specs.Description.{file_given}
use Rattle.refusals.specs.Outcome.{Outcome, Passed, Refused, and_then}
use Rattle.edit_commands.specs.declared.edit.EditWords.TheVariants.{Grace, Limits, Copy, Times}
use Rattle.set_edit.specs.declared.limits.Limits.{Limits as FourLimits}
use Rattle.edit_commands.proofs.AlikeLemmas.{edit_steps_alike, step_same}
use Rattle.set_edit.specs.Editing.{Edit}
use Rattle.refusals.specs.declared.cause.Cause.{Cause}
use Rattle.refusals.specs.declared.cause.Cause.TheVariants.{SourceFault, Usage}
use Rattle.refusals.specs.declared.reason.Refusal.{Refusal}
use Rattle.refusals.specs.Refusals.{refusal_of}
use Rattle.refusals.specs.Status.{status_of}
use Rattle.run_steps.specs.Run.{Uses}
use Rattle.run_steps.specs.Taking.{AForm}
use Rattle.descriptions.specs.Sound.{IsBarred, IsSound, ReadsAlike, Spares}
use Rattle.edit_commands.proofs.FullLemmas.{form_full, words_full}
use Rattle.edit_commands.proofs.WordLemmas.{IsOfWord, edit_refusal, identifier_refusal, word_status}

-- They look first.

file_edit_looks : (takes : Bool) (kind : Kind) (asked : Asked) (edit : FileEdit) (file : List ℕ)
    (invocation : Invocation) → LooksFirst true takes (FileEditSteps kind asked edit file invocation)
file_edit_looks takes kind asked edit file invocation = (
  refl,
  λ value. (
    inl refl,
    λ files. looks_then false true takes (edit_step InPlace file (edit_meant edit invocation.now) (files file) value) _
        (λ acts.
        looks_done false true takes (acts ++ said_acts (warnings invocation.line (skipped_by edit value))) None),
  ),
)

edit_looks : (common : Common) (words : EditWords) (file : List ℕ) (invocation : Invocation)
    → LooksFirst true true (EditSteps common words file invocation)
edit_looks common words file invocation =
    looks_naming false true common.kind (names_wanted words common.names) _ (λ names.
    looks_then false true true (edit_read names words) _
    (λ edit. file_edit_looks true common.kind (asked_of common.format) edit file invocation))

print_looks : (common : Common) (word file : List ℕ) (invocation : Invocation)
    → LooksFirst true true (PrintSteps common word file invocation)
print_looks common word file invocation = looks_naming false true common.kind common.names _ (λ names.
    looks_then false true true (identifier_of names word) _ (λ id. (refl, λ value. tt)))

apply_looks : (common : Common) (from : Option (List ℕ)) (word file : List ℕ) (invocation : Invocation)
    → LooksFirst true true (ApplySteps common from word file invocation)
apply_looks common from word file invocation = looks_naming false true common.kind common.names _ (λ names.
    looks_then false true true (identifier_of names word) _ (λ id.
    looks_taking false from (λ limits. true) (form_step common.kind names file id from) _
    (λ takes limits.
    file_edit_looks takes common.kind (asked_of common.format) (LimitsEdit id limits) file invocation)))

-- They read the standard input to its end.

apply_reads : (common : Common) (from : Option (List ℕ)) (word file : List ℕ) (invocation : Invocation)
    → IsTrue (is_none from) → ReadsToEnd (ApplySteps common from word file invocation)
apply_reads common None word file invocation uses = λ files.
    reads_then (names_seen common.kind common.names files) _ (λ names.
    reads_then (identifier_of names word) _ (λ id.
    reads_taking (λ limits. true) (form_step common.kind names file id None) _ (λ limits. inl refl)))
apply_reads common (Some name) word file invocation uses = never uses

-- They are sure.

file_edit_sure : (kind : Kind) (asked : Asked) (edit : FileEdit) (file : List ℕ) (invocation : Invocation)
    (value new : QuotaValue) (old : Outside)
    → IsView (old.files file) kind asked (Ok value) → Fits (edit_meant edit invocation.now) (old.files file) value new
    → IsSure (FileEditSteps kind asked edit file invocation) old
file_edit_sure kind asked edit file invocation value new old view fits =
    let meant = edit_meant edit invocation.now in
    let lines = λ (v : QuotaValue). warnings invocation.line (skipped_by edit v) in
    sure_opening kind asked file
    (λ v. Looking (λ (files : World). Saying (edit_step InPlace file meant (files file) v) (lines v))) value old view
    (sure_then (edit_step InPlace file meant (old.files file) value)
    (λ acts. DoingAll (acts ++ said_acts (lines value)) Finish) (change_acts InPlace file new (meant.is_idle value)) old
    (step_fits InPlace file meant (old.files file) value new fits)
    (sure_done (change_acts InPlace file new (meant.is_idle value) ++ said_acts (lines value)) old))

edit_sure : (common : Common) (words : EditWords) (file : List ℕ) (invocation : Invocation) (old : Outside)
    → CanEdit common words file invocation old → IsSure (EditSteps common words file invocation) old
edit_sure common words file invocation old (names, edit, value, new, seen, read, view, fits) =
    let next = λ (e : FileEdit). FileEditSteps common.kind (asked_of common.format) e file invocation in
    sure_naming common.kind (names_wanted words common.names) (λ n. Then (edit_read n words) next) names old seen
    (sure_then (edit_read names words) next edit old read
    (file_edit_sure common.kind (asked_of common.format) edit file invocation value new old view fits))

print_sure : (common : Common) (word file : List ℕ) (invocation : Invocation) (old : Outside)
    → CanPrint common word file old → IsSure (PrintSteps common word file invocation) old
print_sure common word file invocation old (names, id, value, seen, read, view) =
    let next = λ (n : List NameLine) (i : ℕ).
    ShowingSteps common.kind (asked_of common.format) file (form_on common.kind n file i) in
    sure_naming common.kind common.names (λ n. Then (identifier_of n word) (next n)) names old seen
    (sure_then (identifier_of names word) (next names) id old read
    (sure_opening common.kind (asked_of common.format) file
    (λ v. Doing (ToOut (form_on common.kind names file id v)) Finish) value old view (λ middle follows. refl)))

apply_sure : (common : Common) (from : Option (List ℕ)) (word file : List ℕ) (invocation : Invocation) (old : Outside)
    → CanApply common from word file invocation old → IsSure (ApplySteps common from word file invocation) old
apply_sure common from word file invocation old (names, id, limits, value, new, seen, read, said, view, fits) =
    let next = λ (n : List NameLine) (i : ℕ). FormSteps common.kind (asked_of common.format) n from i file invocation in
    sure_naming common.kind common.names (λ n. Then (identifier_of n word) (next n)) names old seen
    (sure_then (identifier_of names word) (next names) id old read
    (sure_taking from (λ limits. true) (form_step common.kind names file id from)
    (λ four. FileEditSteps common.kind (asked_of common.format) (LimitsEdit id four) file invocation) limits old said
    (λ left. file_edit_sure common.kind (asked_of common.format) (LimitsEdit id limits) file invocation value new
    (record old { input = left }) view fits)))

-- what comes of an edit
abbrev Edited : FileEdit → List ℕ → Invocation → QuotaValue → List Act → Steps
Edited edit file invocation value acts =
    DoingAll (acts ++ said_acts (warnings invocation.line (skipped_by edit value))) Finish

-- Their looks are alike.

file_edit_alike : (rooms : Bool) (one other : World) (kind : Kind) (asked : Asked) (edit : FileEdit) (file : List ℕ)
    (invocation : Invocation)
    → ((value : QuotaValue)
    → AreSameSteps rooms
    (Then (edit_step InPlace file (edit_meant edit invocation.now) (one file) value)
    (Edited edit file invocation value))
    (Then (edit_step InPlace file (edit_meant edit invocation.now) (other file) value)
    (Edited edit file invocation value)))
    → LooksAlikeBy rooms one other (FileEditSteps kind asked edit file invocation)
file_edit_alike rooms one other kind asked edit file invocation same = λ value. (
  same value,
  alike_then rooms one other (edit_step InPlace file (edit_meant edit invocation.now) (one file) value)
      (Edited edit file invocation value)
      (λ acts. alike_done rooms one other (acts ++ said_acts (warnings invocation.line (skipped_by edit value))) None),
)

-- of an edit, except for lack of room
room_edit_alike : (one other : World) (kind : Kind) (asked : Asked) (edit : FileEdit) (file : List ℕ)
    (invocation : Invocation) → LooksAlikeBy true one other (FileEditSteps kind asked edit file invocation)
room_edit_alike one other kind asked edit file invocation =
    file_edit_alike true one other kind asked edit file invocation
    (λ value. edit_steps_alike file (edit_meant edit invocation.now) (one file) (other file) value
    (Edited edit file invocation value))

edit_alike : (one other : World) (common : Common) (words : EditWords) (file : List ℕ) (invocation : Invocation)
    → IsSameFile one other (names_wanted words common.names)
    → LooksAlikeBy true one other (EditSteps common words file invocation)
edit_alike one other common words file invocation names =
    alike_naming true one other common.kind (names_wanted words common.names) _ names (λ lines.
    alike_then true one other (edit_read lines words) _
    (λ edit. room_edit_alike one other common.kind (asked_of common.format) edit file invocation))

-- of new grace periods, which need no room
periods_alike : (one other : World) (kind : Kind) (asked : Asked) (file : List ℕ) (invocation : Invocation)
    (read : Outcome GracePeriods)
    → LooksAlike one other
    (Then (and_then read (λ (grace : GracePeriods). Passed (Periods grace)))
    (λ (edit : FileEdit). FileEditSteps kind asked edit file invocation))
periods_alike one other kind asked file invocation (Passed grace) =
    file_edit_alike false one other kind asked (Periods grace) file invocation (λ value.
    inl (ap (λ (o : Outcome (List Act)). Then o (Edited (Periods grace) file invocation value))
    (step_same file (edit_meant (Periods grace) invocation.now) (one file) (other file) value refl)))
periods_alike one other kind asked file invocation (Refused refusal) = tt

grace_alike : (one other : World) (common : Common) (block inode file : List ℕ) (invocation : Invocation)
    → LooksAlike one other (EditSteps common (Grace block inode) file invocation)
grace_alike one other common block inode file invocation =
    (inl refl, periods_alike one other common.kind (asked_of common.format) file invocation (grace_read block inode))

print_alike : (one other : World) (common : Common) (word file : List ℕ) (invocation : Invocation)
    → IsSameFile one other common.names → LooksAlike one other (PrintSteps common word file invocation)
print_alike one other common word file invocation names =
    alike_naming false one other common.kind common.names _ names (λ lines.
    alike_then false one other (identifier_of lines word) _ (λ id value. tt))

apply_alike : (one other : World) (common : Common) (from : Option (List ℕ)) (word file : List ℕ)
    (invocation : Invocation) → IsSameFile one other common.names → IsSameFile one other from
    → LooksAlikeBy true one other (ApplySteps common from word file invocation)
apply_alike one other common from word file invocation names input =
    alike_naming true one other common.kind common.names _ names (λ lines.
    alike_then true one other (identifier_of lines word) _ (λ id.
    alike_taking true one other from (λ limits. true) (form_step common.kind lines file id from) _ input
    (λ limits. room_edit_alike one other common.kind (asked_of common.format) (LimitsEdit id limits) file invocation)))

-- The file that they open.

-- it is the one of this name, for the kind and in the format that are asked for
abbrev pub IsFileOf : Common → List ℕ → FileAsked → Type 0
IsFileOf common file opened = Contains (file_given common file) opened

file_edit_opens : (common : Common) (edit : FileEdit) (file : List ℕ) (invocation : Invocation) (old : Outside)
    (opened : FileAsked) → Opens (FileEditSteps common.kind (asked_of common.format) edit file invocation) old opened
    → IsFileOf common file opened
file_edit_opens common edit file invocation old opened opens =
    let is = IsFileOf common file opened in
    let seen = λ (files : World) (value : QuotaValue).
    edit_step InPlace file (edit_meant edit invocation.now) (files file) value in
    let edited = seen old.files in
    opens_opening is common.kind (asked_of common.format) file
    (λ (value : QuotaValue). Looking (λ (files : World). Then (seen files value) (Edited edit file invocation value)))
    old opened (only_one _ opened) (λ value.
    opens_then is (edited value) (Edited edit file invocation value) old opened (λ acts.
    opens_done is (acts ++ said_acts (warnings invocation.line (skipped_by edit value))) None old opened)) opens

edit_opens : (common : Common) (words : EditWords) (file : List ℕ) (invocation : Invocation) (old : Outside)
    (opened : FileAsked) → Opens (EditSteps common words file invocation) old opened → IsFileOf common file opened
edit_opens common words file invocation old opened opens =
    let is = IsFileOf common file opened in
    let next = λ (edit : FileEdit). FileEditSteps common.kind (asked_of common.format) edit file invocation in
    opens_naming is common.kind (names_wanted words common.names)
    (λ (lines : List NameLine). Then (edit_read lines words) next) old opened (λ lines.
    opens_then is (edit_read lines words) next old opened
    (λ edit. file_edit_opens common edit file invocation old opened)) opens

print_opens : (common : Common) (word file : List ℕ) (invocation : Invocation) (old : Outside) (opened : FileAsked)
    → Opens (PrintSteps common word file invocation) old opened → IsFileOf common file opened
print_opens common word file invocation old opened opens =
    let is = IsFileOf common file opened in
    let next = λ (lines : List NameLine) (id : ℕ).
    ShowingSteps common.kind (asked_of common.format) file (form_on common.kind lines file id) in
    opens_naming is common.kind common.names (λ (lines : List NameLine). Then (identifier_of lines word) (next lines))
    old opened (λ lines.
    opens_then is (identifier_of lines word) (next lines) old opened (λ id.
    opens_opening is common.kind (asked_of common.format) file
    (λ (value : QuotaValue). Doing (ToOut (form_on common.kind lines file id value)) Finish) old opened
    (only_one _ opened) (λ value none. absurd none))) opens

apply_opens : (common : Common) (from : Option (List ℕ)) (word file : List ℕ) (invocation : Invocation) (old : Outside)
    (opened : FileAsked) → Opens (ApplySteps common from word file invocation) old opened
    → IsFileOf common file opened
apply_opens common from word file invocation old opened opens =
    let is = IsFileOf common file opened in
    let next =
    λ (lines : List NameLine) (id : ℕ). FormSteps common.kind (asked_of common.format) lines from id file invocation in
    opens_naming is common.kind common.names (λ (lines : List NameLine). Then (identifier_of lines word) (next lines))
    old opened (λ lines.
    opens_then is (identifier_of lines word) (next lines) old opened (λ id.
    opens_taking is from (λ limits. true) (form_step common.kind lines file id from)
    (λ (limits : FourLimits). FileEditSteps common.kind (asked_of common.format) (LimitsEdit id limits) file invocation)
    old opened (λ limits.
    file_edit_opens common (LimitsEdit id limits) file invocation old opened))) opens

-- For which causes they are not refused.

-- such a cause has another status than that of a word which names nothing or is no number
other_status : (uses : Uses) (cause : Cause) → IsBarred uses cause → status_of cause ≡ 1 → ⊥
other_status uses SourceFault barred one = omega (arith, one)
other_status uses (Usage kind word) barred one = omega (arith, one)
other_status uses _ barred one = barred

-- words are read, and then comes what their value allows
spares_read : {V : Type 0} (uses : Uses) (outcome : Outcome V) (may : V → Cause → List ℕ → Type 0)
    → ((refusal : Refusal) → outcome ≡ Refused refusal → IsOfWord refusal) → ((value : V) → Spares uses (may value))
    → Spares uses (λ (cause : Cause) (name : List ℕ).
    (outcome ≡ Refused (refusal_of cause name)) ⊎ ((value : V) × (outcome ≡ Passed value) × may value cause name))
spares_read uses outcome may word each cause name barred (inl read) =
    other_status uses cause barred (word_status (refusal_of cause name) (word (refusal_of cause name) read))
spares_read uses outcome may word each cause name barred (inr (value, read, refused)) =
    each value cause name barred refused

spares_change : (uses : Uses) (asked : Asked) (edit : Edit) (file : List ℕ)
    → Spares uses (ChangeMayRefuse asked edit file)
spares_change uses asked edit file =
    spares_both uses (ChangeMayRefuse asked edit file) (λ name none may. may) (λ kind word name none may. may)

spares_file : (uses : Uses) (asked : Asked) (edit : FileEdit) (file : List ℕ)
    → Spares uses (FileEditMayRefuse asked edit file)
spares_file uses asked edit file cause name barred (inl (now, may)) =
    spares_change uses asked (edit_meant edit now) file cause name barred may
spares_file uses asked edit file cause name barred (inr (inl may)) =
    spares_opening uses asked file cause name barred may
spares_file uses asked edit file cause name barred (inr (inr (warns, is))) = spares_sink uses cause barred is

spares_edit : (uses : Uses) (common : Common) (words : EditWords) (file : List ℕ)
    → Spares uses (EditMayRefuse common words file)
spares_edit uses common words file =
    let asked = asked_of common.format in
    spares_named uses (names_wanted words common.names) (NamedEditMayRefuse asked words file) (λ names.
    spares_read uses (edit_read names words) (λ (edit : FileEdit). FileEditMayRefuse asked edit file)
    (edit_refusal names words) (λ edit. spares_file uses asked edit file))

-- the word of an identifier is read
spares_word : (uses : Uses) (word : List ℕ) (names : List NameLine) (may : ℕ → Cause → List ℕ → Type 0)
    → ((id : ℕ) → Spares uses (may id))
    → Spares uses (λ (cause : Cause) (name : List ℕ). (identifier_of names word ≡ Refused (refusal_of cause name))
    ⊎ ((id : ℕ) × (identifier_of names word ≡ Passed id) × may id cause name))
spares_word uses word names may each =
    spares_read uses (identifier_of names word) may (identifier_refusal names word) each

spares_print : (uses : Uses) (common : Common) (word file : List ℕ) → Spares uses (PrintMayRefuse common word file)
spares_print uses common word file =
    let asked = asked_of common.format in
    spares_named uses common.names (NamedPrintMayRefuse asked word file) (λ names.
    spares_word uses word names (λ (id : ℕ). ShowingMayRefuse asked file) (λ id. spares_showing uses asked file))

spares_form : (asked : Asked) (from : Option (List ℕ)) (id : ℕ) (file : List ℕ)
    → Spares (apply_uses from) (FormEditMayRefuse asked from id file)
spares_form asked from id file cause name barred (inl may) =
    spares_input (apply_uses from) AForm from refl cause name barred may
spares_form asked from id file cause name barred (inr (limits, may)) =
    spares_file (apply_uses from) asked (LimitsEdit id limits) file cause name barred may

spares_apply : (common : Common) (from : Option (List ℕ)) (word file : List ℕ)
    → Spares (apply_uses from) (ApplyMayRefuse common from word file)
spares_apply common from word file =
    let asked = asked_of common.format in
    spares_named (apply_uses from) common.names (NamedApplyMayRefuse asked from word file) (λ names.
    spares_word (apply_uses from) word names (λ (id : ℕ). FormEditMayRefuse asked from id file)
    (λ id. spares_form asked from id file))

-- New limits, those of another identifier, grace periods, and times.

-- new grace periods rest on no room
words_alike : (common : Common) (words : EditWords) (file : List ℕ) (one other : World) (invocation : Invocation)
    → ReadsAlike (editing common words file).looks one other
    → LooksAlikeBy (words_need_room words) one other (EditSteps common words file invocation)
words_alike common (Grace block inode) file one other invocation reads =
    grace_alike one other common block inode file invocation
words_alike common (Limits name limits) file one other invocation reads =
    edit_alike one other common (Limits name limits) file invocation reads.names
words_alike common (Copy proto name) file one other invocation reads =
    edit_alike one other common (Copy proto name) file invocation reads.names
words_alike common (Times name block inode) file one other invocation reads =
    edit_alike one other common (Times name block inode) file invocation reads.names

pub edit_sound : (common : Common) (words : EditWords) (file : List ℕ) → IsSound (editing common words file)
edit_sound common words file = record {
  looks_first = edit_looks common words file;
  rooms = never;
  reads_to_end = λ invocation. never;
  sees_alike = words_alike common words file;
  opens = edit_opens common words file;
  full = words_full common words file;
  sure = edit_sure common words file;
  spares = spares_edit (edit_uses (words_warn words)) common words file;
}

-- Forms.

pub print_sound : (common : Common) (word file : List ℕ) → IsSound (printing common word file)
print_sound common word file = record {
  looks_first = print_looks common word file;
  rooms = never;
  reads_to_end = λ invocation. never;
  sees_alike = λ one other invocation reads. print_alike one other common word file invocation reads.names;
  opens = print_opens common word file;
  full = λ invocation old acts new refusal blocks limit ends is. tt;
  sure = print_sure common word file;
  spares = spares_print showing_uses common word file;
}

pub apply_sound : (common : Common) (from : Option (List ℕ)) (word file : List ℕ)
    → IsSound (applying common from word file)
apply_sound common from word file = record {
  looks_first = apply_looks common from word file;
  rooms = never;
  reads_to_end = apply_reads common from word file;
  sees_alike =
      λ one other invocation reads. apply_alike one other common from word file invocation reads.names reads.input;
  opens = apply_opens common from word file;
  full = form_full common from word file;
  sure = apply_sure common from word file;
  spares = spares_apply common from word file;
}
