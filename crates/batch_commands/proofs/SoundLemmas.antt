-- What is shown of edits of lines: how their steps look, read and end, and that their description is sound.
use Rattle.std.proofs.Common.{◌≡◌, ◌⊎◌, inl, inr, ℕ, Bool, true, IsTrue, List, [], ◌∷◌, Option, None, Some, Result}
use Rattle.std.proofs.Common.{refl, sym, ap, subst}
use Rattle.std.specs.Prelude.{is_none, Contains}
use Rattle.quota_types.specs.declared.field.Field.{Field}
use Rattle.quota_value.specs.QuotaValue.{QuotaValue}
use Rattle.quota_map.specs.Asked.{asked_of, Asked}
use Rattle.command_words.specs.declared.command.Common.{Common}
use Rattle.refusals.specs.declared.reason.Refusal.{Refusal}
use Rattle.run_steps.specs.Act.{Act, Way}
use Rattle.run_steps.specs.Done.{Outside}
use Rattle.run_steps.specs.Meaning.{IsSure}
use Rattle.run_steps.specs.Naming.{names_seen}
use Rattle.run_steps.specs.OneCommand.{LooksFirstBy, ReadsToEnd}
use Rattle.run_steps.specs.Steps.{DoingAll, Opening}
use Rattle.run_steps.specs.declared.invocation.Invocation.{Invocation}
use Rattle.run_steps.proofs.OneCommandLemmas.{looks_naming, looks_taking, looks_then, reads_taking, reads_then}
use Rattle.run_steps.proofs.OneCommandLemmas.{sure_naming, sure_opening, sure_taking, sure_then}
use Rattle.batch_commands.specs.declared.batch_line.LineEdit.{LineEdit}
use Rattle.batch_commands.specs.Batch.{Applying, BatchSteps, EditsThen, ReadSteps, batch_step, edit_of, is_to_end}
use Rattle.batch_commands.specs.Batch.{met_at, way_behind, way_of, AskedEdits, BatchMayRefuse, LineMayRefuse}
use Rattle.batch_commands.specs.Batch.{NamedBatchMayRefuse, batch_uses}
use Rattle.descriptions.proofs.SoundLemmas.{never, only_one, spares_both, spares_input, spares_named, spares_opening}
use Rattle.batch_commands.specs.BatchReading.{LineSteps}
use Rattle.edit_steps.specs.EditStep.{value_left, edit_step, ChangeMayRefuse}
use Rattle.batch_commands.specs.FullForLines.{AllFit}
use Rattle.run_steps.proofs.LookingLemmas.{looks_doing, reads_doing, sure_doing, alike_doing, opens_doing}
use Rattle.batch_commands.proofs.AlikeLemmas.{line_steps_alike}
use Rattle.edit_steps.proofs.EditLemmas.{change_acts, step_fits}
use Rattle.batch_commands.specs.AtOnce.{CanEditLines, editing_lines}
use Rattle.outside.specs.World.{World}
use Rattle.id_names.specs.NamesFile.{NameLine}
use Rattle.run_steps.specs.SameViews.{FileAsked, IsSameFile, LooksAlikeBy, Opens}
use Rattle.run_steps.proofs.LookLemmas.{alike_naming, alike_taking, alike_then, opens_naming, opens_opening}
use Rattle.run_steps.proofs.LookLemmas.{opens_taking, opens_then}
use Rattle.descriptions.specs.Description.{file_given}
use Rattle.set_edit.specs.Edits.{limits_edit}
use Rattle.run_steps.specs.Taking.{Lines, input_name}
use Rattle.descriptions.specs.Sound.{IsSound, Spares}
use Rattle.batch_commands.proofs.FullLemmas.{lines_full}

-- They look first.

-- what comes of the looks of lines rests on no file, except for lack of room
lines_look : (looks takes : Bool) (way : Way) (file : List ℕ) (now : ℕ) (lines : List LineEdit) (value : QuotaValue)
    (behind : Option Refusal) → LooksFirstBy true looks takes (EditsThen way file now lines value behind)
lines_look looks takes way file now [] value behind = tt
lines_look looks takes way file now (line ∷ lines) value behind =
    let edit = edit_of line now in
    let left = value_left (edit.edited value) value in
    let after = way_behind way (edit.is_idle value) in
    let rest = EditsThen after file now lines left behind in
    let next = λ (acts : List Act). DoingAll acts rest in (
      inr (λ one other. line_steps_alike way file edit (one file) (other file) value line.number next),
      λ files. looks_then true looks takes (met_at line.number (edit_step way file edit (files file) value)) next
          (λ acts.
          looks_doing true looks takes acts rest (λ may. lines_look may takes after file now lines left behind)),
    )

batch_looks : (common : Common) (from : Option (List ℕ)) (file : List ℕ) (invocation : Invocation)
    → LooksFirstBy true true true (BatchSteps common from file invocation)
batch_looks common from file invocation = looks_naming true true common.kind common.names _ (λ names. (
  refl,
  λ value.
      looks_taking true from is_to_end (batch_step names from) _
      (λ takes asked. lines_look true takes (way_of asked.edits) file invocation.now asked.edits value asked.refusal),
))

-- They read the standard input to its end.

-- edits behind which a refusal comes never pass
lines_stopped : (way : Way) (file : List ℕ) (now : ℕ) (lines : List LineEdit) (value : QuotaValue) (refusal : Refusal)
    → ReadsToEnd (EditsThen way file now lines value (Some refusal))
lines_stopped way file now [] value refusal = tt
lines_stopped way file now (line ∷ lines) value refusal = λ files.
    let edit = edit_of line now in
    let after = way_behind way (edit.is_idle value) in
    let rest = EditsThen after file now lines (value_left (edit.edited value) value) (Some refusal) in
    reads_then (met_at line.number (edit_step way file edit (files file) value))
    (λ (acts : List Act). DoingAll acts rest) (λ acts.
    reads_doing acts rest (lines_stopped after file now lines (value_left (edit.edited value) value) refusal))

-- edits are done behind an input that was read to its end, or end with the refusal of a line
ended_or_stopped : (way : Way) (file : List ℕ) (now : ℕ) (lines : List LineEdit) (value : QuotaValue)
    (behind : Option Refusal) → IsTrue (is_none behind) ⊎ ReadsToEnd (EditsThen way file now lines value behind)
ended_or_stopped way file now lines value None = inl refl
ended_or_stopped way file now lines value (Some refusal) = inr (lines_stopped way file now lines value refusal)

batch_reads : (common : Common) (from : Option (List ℕ)) (file : List ℕ) (invocation : Invocation)
    → IsTrue (is_none from) → ReadsToEnd (BatchSteps common from file invocation)
batch_reads common None file invocation uses = λ files.
    reads_then (names_seen common.kind common.names files) _ (λ names value.
    reads_taking is_to_end (batch_step names None) (Applying file invocation.now value) (λ asked.
    ended_or_stopped (way_of asked.edits) file invocation.now asked.edits value asked.refusal))
batch_reads common (Some name) file invocation uses = never uses

-- They are sure.

-- edits of lines that fit are not refused
pub lines_sure : (way : Way) (file : List ℕ) (now : ℕ) (lines : List LineEdit) (value : QuotaValue) (old : Outside)
    → AllFit way file now lines old.files value → IsSure (LineSteps way file now lines value) old
lines_sure way file now [] value old fit = refl
lines_sure way file now (line ∷ lines) value old fit =
    let edit = edit_of line now in
    let acts = change_acts way file fit.0 (edit.is_idle value) in
    let step = step_fits way file edit (old.files file) value fit.0 fit.1 in
    let left : fit.0 ≡ value_left (edit.edited value) value =
    sym (ap (λ (r : Result QuotaValue (Field × ℕ)). value_left r value) fit.1.0) in
    let after = way_behind way (edit.is_idle value) in
    let rest = LineSteps after file now lines (value_left (edit.edited value) value) in
    sure_then (met_at line.number (edit_step way file edit (old.files file) value)) (λ (a : List Act). DoingAll a rest)
    acts old (ap (met_at line.number) step)
    (sure_doing acts rest old (λ files follows.
    subst (λ (v : QuotaValue). IsSure (LineSteps after file now lines v) (record old { files = files })) left
    (lines_sure after file now lines fit.0 (record old { files = files }) (fit.2 acts files step follows))))

batch_sure : (common : Common) (from : Option (List ℕ)) (file : List ℕ) (invocation : Invocation) (old : Outside)
    → CanEditLines common from file invocation old → IsSure (BatchSteps common from file invocation) old
batch_sure common from file invocation old (names, value, asked, seen, view, said, none, fit) =
    sure_naming common.kind common.names
    (λ n. Opening common.kind (asked_of common.format) file (ReadSteps n from file invocation.now)) names old seen
    (sure_opening common.kind (asked_of common.format) file (ReadSteps names from file invocation.now) value old view
    (sure_taking from is_to_end (batch_step names from) (Applying file invocation.now value) asked old said
    (λ left. subst (λ (r : Option Refusal). IsSure
    (EditsThen (way_of asked.edits) file invocation.now asked.edits value r) (record old { input = left })) (sym none)
    (lines_sure (way_of asked.edits) file invocation.now asked.edits value (record old { input = left }) fit))))

lines_alike : (one other : World) (way : Way) (file : List ℕ) (now : ℕ) (lines : List LineEdit) (value : QuotaValue)
    (behind : Option Refusal) → LooksAlikeBy true one other (EditsThen way file now lines value behind)
lines_alike one other way file now [] value behind = tt
lines_alike one other way file now (line ∷ lines) value behind =
    let edit = edit_of line now in
    let after = way_behind way (edit.is_idle value) in
    let rest = EditsThen after file now lines (value_left (edit.edited value) value) behind in
    let next = λ (acts : List Act). DoingAll acts rest in (
      line_steps_alike way file edit (one file) (other file) value line.number next,
      alike_then true one other (met_at line.number (edit_step way file edit (one file) value)) next
          (λ acts. alike_doing true one other acts rest
          (lines_alike one other after file now lines (value_left (edit.edited value) value) behind)),
    )

batch_alike : (one other : World) (common : Common) (from : Option (List ℕ)) (file : List ℕ) (invocation : Invocation)
    → IsSameFile one other common.names → IsSameFile one other from
    → LooksAlikeBy true one other (BatchSteps common from file invocation)
batch_alike one other common from file invocation names input =
    alike_naming true one other common.kind common.names _ names (λ lines value.
    alike_taking true one other from is_to_end (batch_step lines from) _ input
    (λ asked. lines_alike one other (way_of asked.edits) file invocation.now asked.edits value asked.refusal))

-- edits of lines open none
lines_open : (holds : Type 0) (way : Way) (file : List ℕ) (now : ℕ) (lines : List LineEdit) (value : QuotaValue)
    (behind : Option Refusal) (old : Outside) (opened : FileAsked)
    → Opens (EditsThen way file now lines value behind) old opened → holds
lines_open holds way file now [] value behind old opened opens = absurd opens
lines_open holds way file now (line ∷ lines) value behind old opened opens =
    let edit = edit_of line now in
    let left = value_left (edit.edited value) value in
    let after = way_behind way (edit.is_idle value) in
    let rest = EditsThen after file now lines left behind in
    opens_then holds (met_at line.number (edit_step way file edit (old.files file) value))
    (λ (acts : List Act). DoingAll acts rest) old opened (λ acts more.
    lines_open holds after file now lines left behind old opened (opens_doing acts rest old opened more)) opens

applying_opens : (holds : Type 0) (file : List ℕ) (now : ℕ) (value : QuotaValue) (asked : AskedEdits) (old : Outside)
    (opened : FileAsked) → Opens (Applying file now value asked) old opened → holds
applying_opens holds file now value asked old opened opens =
    lines_open holds (way_of asked.edits) file now asked.edits value asked.refusal old opened opens

batch_opens : (common : Common) (from : Option (List ℕ)) (file : List ℕ) (invocation : Invocation) (old : Outside)
    (opened : FileAsked) → Opens (BatchSteps common from file invocation) old opened
    → Contains (file_given common file) opened
batch_opens common from file invocation old opened opens =
    let is = Contains (file_given common file) opened in
    let next = λ (lines : List NameLine).
    Opening common.kind (asked_of common.format) file (ReadSteps lines from file invocation.now) in
    opens_naming is common.kind common.names next old opened (λ lines.
    opens_opening is common.kind (asked_of common.format) file (ReadSteps lines from file invocation.now) old opened
    (only_one _ opened) (λ value.
    opens_taking is from is_to_end (batch_step lines from) (Applying file invocation.now value) old opened (λ asked.
    applying_opens is file invocation.now value asked old opened))) opens

spares_lines : (asked : Asked) (from : Option (List ℕ)) (file : List ℕ) (names : List NameLine)
    → Spares (batch_uses from) (NamedBatchMayRefuse asked from file names)
spares_lines asked from file names cause name barred (inl (inl (id, limits, now, may))) =
    spares_both (batch_uses from) (ChangeMayRefuse asked (limits_edit id limits now) file) (λ name none may. may)
    (λ kind word name none may. may) cause name barred may
spares_lines asked from file names cause name barred (inl (inr may)) =
    spares_opening (batch_uses from) asked file cause name barred may
spares_lines asked from file names cause name barred (inr (inl may)) =
    spares_input (batch_uses from) Lines from refl cause name barred may
spares_lines asked from file names cause name barred (inr (inr may)) =
    spares_both (batch_uses from) (LineMayRefuse names (input_name from)) (λ name none may. may)
    (λ kind word name none may. may) cause name barred may

spares_batch : (common : Common) (from : Option (List ℕ)) (file : List ℕ)
    → Spares (batch_uses from) (BatchMayRefuse common from file)
spares_batch common from file =
    let asked = asked_of common.format in
    spares_named (batch_uses from) common.names (NamedBatchMayRefuse asked from file) (spares_lines asked from file)

pub batch_sound : (common : Common) (from : Option (List ℕ)) (file : List ℕ) → IsSound (editing_lines common from file)
batch_sound common from file = record {
  looks_first = batch_looks common from file;
  rooms = λ reads. reads;
  reads_to_end = batch_reads common from file;
  sees_alike = λ one other invocation reads. batch_alike one other common from file invocation reads.names reads.input;
  opens = batch_opens common from file;
  full = lines_full common from file;
  sure = batch_sure common from file;
  spares = spares_batch common from file;
}
