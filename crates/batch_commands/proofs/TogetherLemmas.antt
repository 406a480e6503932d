-- Edits of lines that are made together: from what they made in memory of the file to what they did to it.
use Rattle.std.proofs.Common.{◌≡◌, ◌≢◌, inl, inr, ℕ, ◌+◌, ◌*◌, ◌≤◌, Bool, true, IsTrue, List, [], ◌∷◌}
use Rattle.std.proofs.Common.{length, Option, None, Some, Ok, Err, Result, refl, sym, ap, subst, ◌∙◌, arith}
use Rattle.std.specs.Prelude.{IfErr, IsSome, OnOk, unwrap_or}
use Rattle.std.proofs.lemmas.Result.{IfErr-weaker, on_ok_weaker}
use Rattle.std.specs.Str.{bytes_eq}
use Rattle.std.proofs.lemmas.Bool.{cases_Bool, false≢true}
use Rattle.std.proofs.lemmas.Option.{none-some, same_Some}
use Rattle.file_in_memory.specs.OneFile.{only_file}
use Rattle.outside.specs.Count.{Rose}
use Rattle.file_blocks.specs.Block.{file_of}
use Rattle.outside.specs.Frame.{OnlyReads}
use Rattle.outside.specs.ManyCalls.{ReplacesOne, replaced_files}
use Rattle.opened_file.specs.Load.{IsLoadFault}
use Rattle.opened_file.specs.declared.whole_file.LoadFault.{LoadFault}
use Rattle.opened_file.specs.declared.whole_file.LoadFault.TheVariants.{Store as NotRead, NoFile, TooLarge}
use Rattle.opened_file.specs.declared.whole_file.LoadFault.TheVariants.{Memory as Wanting}
use Rattle.quota_map.specs.Asked.{AnyTree, Asked, InFormat}
use Rattle.quota_map.specs.View.{IsView}
use Rattle.quota_types.specs.declared.file_kind.Format.TheVariants.{V1, V1R32, V2R0, V2R1}
use Rattle.quota_types.specs.declared.file_kind.Kind.{Kind}
use Rattle.run_steps.specs.Causes.{load_cause}
use Rattle.run_steps.specs.Opening.{MayRefuseOpening}
use Rattle.run_steps.proofs.ReasonLemmas.{reason_since}
use Rattle.quota_value.specs.QuotaValue.{QuotaValue}
use Rattle.opened_file.specs.Replace.{IsReplaceFault, OnNoMemory}
use Rattle.opened_file.specs.declared.replacement.ReplaceFault.{ReplaceFault}
use Rattle.opened_file.specs.declared.replacement.ReplaceFault.TheVariants.{Store as NotStored, Full}
use Rattle.opened_file.specs.declared.replacement.ReplaceFault.TheVariants.{Memory as NoMemory}
use Rattle.opened_file.proofs.ReplaceLemmas.{replacement_name-ne}
use Rattle.outside.specs.Replacement.{ReplacesOnly, replacement_name}
use Rattle.outside.specs.Seen.{StoreSeen}
use Rattle.outside.specs.World.{KeepsOthers, World, with_file}
use Rattle.outside.proofs.WorldLemmas.{KeepsOthers-with_file, bytes_eq-same, bytes_eq-true, with_file-at}
use Rattle.outside.proofs.WorldLemmas.{with_file-same}
use Rattle.refusals.specs.declared.cause.Cause.{Cause}
use Rattle.refusals.specs.declared.cause.Cause.TheVariants.{Memory as WantOfMemory, SinkFault, StoreFault}
use Rattle.refusals.specs.declared.reason.Refusal.{Refusal}
use Rattle.refusals.specs.Refusals.{refusal_of}
use Rattle.refusals.specs.Status.{group_of, status_of}
use Rattle.refusals.proofs.GroupLemmas.{by_group_of}
use Rattle.run_steps.specs.Act.{Follows, Together}
use Rattle.run_steps.specs.Done.{IsUnwritten, IsWorldTold, Outside, RunSeen, RunTells, outside_of, seen_of}
use Rattle.run_steps.specs.Meaning.{EndsBy, HasBegun}
use Rattle.run_steps.specs.Run.{HasReason, HasSteps, IsPlacedBy, Uses}
use Rattle.run_steps.specs.Carrying.{CarriesOut}
use Rattle.run_steps.specs.Steps.{Steps}
use Rattle.run_steps.specs.Writes.{WritesFor}
use Rattle.run_steps.proofs.MeaningLemmas.{ends_follow}
use Rattle.run_steps.proofs.OpeningLemmas.{outside_same, refused_so, store_later, with_store}
use Rattle.run_steps.proofs.PartLemmas.{carried_whole, nothing_begun, part_but_output, part_from, whole_begun}
use Rattle.batch_commands.specs.declared.batch_line.LineEdit.{LineEdit}
use Rattle.batch_commands.specs.declared.together.Attempt.{Attempt}
use Rattle.batch_commands.specs.declared.together.Attempt.TheVariants.{Ended, NotMade}
use Rattle.batch_commands.specs.declared.together.Edited.{Edited}
use Rattle.batch_commands.specs.Batch.{LineEditMayRefuse, line_uses, way_of}
use Rattle.batch_commands.specs.BatchReading.{LineSteps}
use Rattle.batch_commands.specs.Together.{IfEnded, IfNotMade, IsEditOf, IsMadeInMemory, IsOfEdit, IsOnlyRead}
use Rattle.batch_commands.specs.Together.{StandsAlone, memory_seen, refusal_in, replace_cause}
use Rattle.batch_commands.proofs.OverLemmas.{lines_over}
use Rattle.batch_commands.proofs.WantingLemmas.{unwritten_both}
use Rattle.batch_commands.proofs.FirstChangeLemmas.{lines_stop}

-- calls that only read replace nothing
pub replaces-read : {done : Bool} (file name : List ℕ) (old new : StoreSeen) → OnlyReads done name old new
    → ReplacesOnly file old.files new.files
replaces-read file name old new read = λ other differ apart. ap (λ (files : World). files other) read.files

-- What was made in memory.

-- the one file has its bytes
pub only_file-at : (name bytes : List ℕ) → only_file name bytes name ≡ Some bytes
only_file-at name bytes = with_file-at (λ _. None) name (Some bytes)

-- a world of one file whose other files are those of another one has that one's name
pub only_name_of : (name bytes other bytes' : List ℕ)
    → KeepsOthers name (only_file name bytes) (only_file other bytes') → other ≡ name
only_name_of name bytes other bytes' keeps =
    elim (cases_Bool (bytes_eq other name)) [
      | inl same ↦ bytes_eq-true other name same
      | inr differs ↦
          let apart : other ≢ name =
          λ is. false≢true (sym differs ∙ ap (λ (n : List ℕ). bytes_eq n name) is ∙ bytes_eq-same name) in
          absurd (none-some bytes'
          (sym (KeepsOthers-with_file (λ _. None) name (Some bytes) other apart) ∙ sym (keeps other apart)
          ∙ only_file-at other bytes'))
    ]

-- What was done to the store.

-- the file that was edited in memory takes the place of the one that was there
abbrev pub Takes : (old new : StoreSeen) (file bytes : List ℕ) → Type 0
Takes old new file bytes = new.files ≡ with_file old.files file (Some bytes)

-- what was written for it is allowed: nothing where its edits wrote nothing, and twelve calls of `write` at most for
-- each line
pub record IsAllowed (edited : Edited) (old new : StoreSeen) : Type 0 where
  pub none : edited.writes ≡ 0 → new.writes ≡ old.writes
  pub few : new.writes ≤ old.writes + 12 * edited.lines.made

-- what was done in memory was done to the file
pub steps_over : (others : ℕ) (file : List ℕ) (now : ℕ) (lines : List LineEdit) (value : QuotaValue) (bytes : List ℕ)
    (edited : Edited) (tells : RunTells) (old : RunSeen) (store : StoreSeen)
    → IsMadeInMemory (LineSteps (Together others) file now lines value) file bytes edited
    → old.store.files file ≡ Some bytes → Takes old.store store file edited.bytes.items
    → IsAllowed edited old.store store
    → HasSteps (LineSteps (Together others) file now lines value) tells (refusal_in edited.lines.ended) old
    (with_store old store)
steps_over others file now lines value bytes edited tells old store made there takes writes =
    let steps = LineSteps (Together others) file now lines value in
    let has = made old.input old.out old.err old.link tells in
    let new_there : store.files ≡ with_file old.store.files file (only_file file edited.bytes.items file) =
    takes
    ∙ ap (λ (f : Option (List ℕ)). with_file old.store.files file f) (sym (only_file-at file edited.bytes.items)) in
    let by = subst (λ (w : World). EndsBy steps (outside_of old) has.acts (record (outside_of old) { files = w })
    (refusal_in edited.lines.ended)) (sym new_there)
    (lines_over (Together others) file now lines value
    (outside_of (seen_of (memory_seen file bytes 0) old.input old.out old.err old.link)) (outside_of old)
    (outside_of (seen_of (memory_seen file edited.bytes.items edited.writes) old.input old.out old.err old.link))
    has.acts (refusal_in edited.lines.ended)
    (there ∙ sym (only_file-at file bytes)) has.by_steps) in
    record {
      acts = has.acts;
      by_steps = by;
      done = record {
        files = ends_follow steps (outside_of old) has.acts (outside_of (with_store old store))
            (refusal_in edited.lines.ended) by;
        out = has.done.out;
        err = has.done.err;
        answered = has.done.answered;
        started = has.done.started;
        writes = record {
          none = λ none. writes.none (has.done.writes.none none);
          few = λ none. omega (arith, has.counted, writes.few);
        };
      };
    }

-- a refusal of an edit says of no output that it failed
edit_other : (may : Cause → List ℕ → Type 0) (refusal : Refusal) → IsOfEdit may refusal
    → Some refusal.cause ≢ Some SinkFault
edit_other may refusal own is =
    let sink : refusal.cause ≡ SinkFault = same_Some _ _ is in
    let four : status_of refusal.cause ≡ 4 = ap status_of sink in
    let less = own.own in
    omega (arith, four, less)

-- edits that ended so were carried out where their steps were done
pub edits_carried : (steps : Steps) (may : Cause → List ℕ → Type 0) (tells : RunTells) (old : RunSeen)
    (store : StoreSeen) (ended : Result (Unit {0}) Refusal)
    → old.store.faults ≤ store.faults → IfErr ended (IsOfEdit may)
    → (IsWorldTold tells → HasSteps steps tells (refusal_in ended) old (with_store old store))
    → CarriesOut steps line_uses may tells old (with_store old store) ended
edits_carried steps may tells old store (Ok passed) later own has =
    carried_whole steps line_uses may tells old (with_store old store) passed has
    (λ only. absurd (false≢true (sym only))) (λ no. refl) (store_later old store later)
edits_carried steps may tells old store (Err refusal) later own has = record {
  done = tt;
  refused = by_group_of (group_of refusal.cause) _ _ (λ four. let less = own.own in absurd (omega (arith, four, less)))
      (λ not_four not_five. has);
  part = λ told. part_but_output steps tells old (with_store old store) (edit_other may refusal own)
      (whole_begun steps tells (Some refusal) old (with_store old store) (has told));
  may_refuse = own.allowed;
  placed = own.placed;
  only_reads = λ only. absurd (false≢true (sym only));
  all_or_nothing = λ whole. absurd (false≢true whole);
  quiet = λ no. refl;
  later = store_later old store later;
}

-- The replacement failed.

-- edits that were made in memory and not put back were carried out up to the fault of the store
pub stopped_carried : (others : ℕ) (file : List ℕ) (now : ℕ) (lines : List LineEdit) (value : QuotaValue)
    (bytes : List ℕ) (edited : Edited) (may : Cause → List ℕ → Type 0) (tells : RunTells) (old : RunSeen)
    (store : StoreSeen)
    → (edited.writes ≡ 0 → ⊥) → may StoreFault file
    → (IsTrue tells.store
    → StandsAlone old.store.files file bytes
    × IsMadeInMemory (LineSteps (Together others) file now lines value) file bytes edited)
    → store.files file ≡ old.store.files file → ReplacesOnly file old.store.files store.files
    → store.writes ≤ old.store.writes + 12 * (1 + others) → old.store.faults ≤ store.faults
    → Rose old.store.faults store.faults
    → CarriesOut (LineSteps (Together others) file now lines value) line_uses may tells old (with_store old store)
    (Err (refusal_of StoreFault file))
stopped_carried others file now lines value bytes edited may tells old store some allowed_so made same leaves few
    later rose = record {
      done = tt;
      refused = rose;
      part = λ told.
          let of = made told.store in
          let has = of.1 old.input old.out old.err old.link tells in
          lines_stop others file now lines value (Some StoreFault) tells old store has.acts _
          (refusal_in edited.lines.ended) (λ is. cc) same leaves few
          (lines_over (Together others) file now lines value
          (outside_of (seen_of (memory_seen file bytes 0) old.input old.out old.err old.link)) (outside_of old)
          (outside_of (seen_of (memory_seen file edited.bytes.items edited.writes) old.input old.out old.err old.link))
          has.acts (refusal_in edited.lines.ended)
          (of.0.named ∙ sym (only_file-at file bytes)) has.by_steps)
          (λ none. some (has.done.writes.none none));
      may_refuse = allowed_so;
      placed = record { line = λ no. refl; input_line = λ no. refl };
      only_reads = λ only. absurd (false≢true (sym only));
      all_or_nothing = λ whole. absurd (false≢true whole);
      quiet = λ no. refl;
      later = store_later old store later;
    }

-- The store was only read.

-- a call that only read wrote nothing
only_unwritten : {done : Bool} (old new : StoreSeen) → IsOnlyRead done old new → IsUnwritten old new
only_unwritten old new reads = record { files = reads.files; writes = reads.writes }

-- what was done from there was done
steps_read : {done : Bool} (steps : Steps) (tells : RunTells) (refusal : Option Refusal) (old : RunSeen)
    (store : StoreSeen) (new : RunSeen) → IsOnlyRead done old.store store
    → HasSteps steps tells refusal (with_store old store) new → HasSteps steps tells refusal old new
steps_read steps tells refusal old store new reads has = record {
  acts = has.acts;
  by_steps = subst (λ (o : Outside). EndsBy steps o has.acts (outside_of new) refusal)
      (outside_same old store reads.files) has.by_steps;
  done = record {
    files = subst (λ (w : World). Follows has.acts w new.store.files) reads.files has.done.files;
    out = has.done.out;
    err = has.done.err;
    answered = has.done.answered;
    started = has.done.started;
    writes = subst (λ (w : ℕ). WritesFor has.acts w new.store.writes) reads.writes has.done.writes;
  };
}

-- and what was carried out from there was carried out
pub carries_read : {done : Bool} (steps : Steps) (uses : Uses) (may : Cause → List ℕ → Type 0) (tells : RunTells)
    (old : RunSeen) (store : StoreSeen) (new : RunSeen) (result : Result (Unit {0}) Refusal)
    → IsOnlyRead done old.store store
    → CarriesOut steps uses may tells (with_store old store) new result → CarriesOut steps uses may tells old new result
carries_read steps uses may tells old store new result reads carries = record {
  done = on_ok_weaker result (λ has told. steps_read steps tells None old store new reads (has told)) carries.done;
  refused = IfErr-weaker result _ _
      (λ refusal reason. reason_since uses old new store old.input _ _ refusal.cause reads.later (omega arith)
      (λ stated told. steps_read steps tells (Some refusal) old store new reads (stated told)) reason) carries.refused;
  part = λ told. part_from steps steps tells old store old.input new reads.writes
      (λ done hand now by. subst (λ (o : Outside). HasBegun steps o done hand now) (outside_same old store reads.files)
      by) (carries.part told);
  may_refuse = carries.may_refuse;
  placed = carries.placed;
  only_reads =
      λ only. unwritten_both old.store store new.store (only_unwritten old.store store reads) (carries.only_reads only);
  all_or_nothing = λ whole. IfErr-weaker result _ _
      (λ refusal unless other. unwritten_both old.store store new.store (only_unwritten old.store store reads)
      (unless other)) (carries.all_or_nothing whole);
  quiet = carries.quiet;
  later = record {
    store = omega (arith, reads.later, carries.later.store);
    input = carries.later.input;
    out = carries.later.out;
    err = carries.later.err;
    link = carries.later.link;
  };
}

-- a fact where lines were not made, by another
pub not_made_weaker : (attempt : Attempt) (P Q : List ℕ → Type 0) → ((name : List ℕ) → P name → Q name)
    → IfNotMade attempt P → IfNotMade attempt Q
not_made_weaker (Ended result) P Q weaker is = tt
not_made_weaker (NotMade name) P Q weaker is = weaker name is

-- a fact however lines ended that were made
pub ended_any : (attempt : Attempt) (P : Result (Unit {0}) Refusal → Type 0)
    → ((result : Result (Unit {0}) Refusal) → P result) → IfEnded attempt P
ended_any (Ended result) P each = each result
ended_any (NotMade name) P each = tt

-- a fact where all was done, that rests on what is told
pub told_first : {T : Type 0} (P : Type 0) (result : Result (Unit {0}) Refusal) → (T → OnOk result P)
    → OnOk result (T → P)
told_first P (Ok passed) is = is
told_first P (Err refusal) is = tt

-- a fact where all was done
pub on_ok_any : (result : Result (Unit {0}) Refusal) (P : Type 0) → P → OnOk result P
on_ok_any (Ok passed) P is = is
on_ok_any (Err refusal) P is = tt

-- it was only read, and nothing was done
pub none_carried : {done : Bool} (steps : Steps) (uses : Uses) (may : Cause → List ℕ → Type 0) (tells : RunTells)
    (old : RunSeen) (store : StoreSeen) (refusal : Refusal) → Some refusal.cause ≢ Some SinkFault
    → IsOnlyRead done old.store store
    → HasReason uses old (with_store old store)
    (IsWorldTold tells → HasSteps steps tells (Some refusal) old (with_store old store)) refusal.cause
    → may refusal.cause refusal.name → IsPlacedBy uses refusal
    → CarriesOut steps uses may tells old (with_store old store) (Err refusal)
none_carried steps uses may tells old store refusal other reads reason allowed_so placed =
    refused_so steps uses may tells old (with_store old store) refusal (only_unwritten old.store store reads) refl
    (store_later old store reads.later)
    (λ told. nothing_begun steps tells old (with_store old store) other reads.files (λ told. refl) (λ told. refl) refl
    refl refl reads.writes) reason allowed_so placed

load_other : (fault : LoadFault) → Some (load_cause fault) ≢ Some SinkFault
load_other NotRead is = cc
load_other NoFile is = cc
load_other TooLarge is = cc
load_other Wanting is = cc

-- a file that has a value is there, and is no longer than it is
load_reason : (uses : Uses) (old : RunSeen) (store : StoreSeen) (tells : RunTells) (file : Option (List ℕ))
    (there : IsTrue tells.store → IsSome file) (stated : Type 0) (fault : LoadFault)
    → IsLoadFault old.store.faults store.faults tells.store file (length (unwrap_or file [])) fault
    → HasReason uses old (with_store old store) (IsWorldTold tells → stated) (load_cause fault)
load_reason uses old store tells file there stated NotRead cause = cause
load_reason uses old store tells None there stated NoFile cause = λ told. absurd (false≢true (there told.store))
load_reason uses old store tells (Some bytes) there stated NoFile cause =
    λ told. absurd (none-some bytes (sym (cause told.store)))
load_reason uses old store tells None there stated TooLarge cause = λ told. absurd (false≢true (there told.store))
load_reason uses old store tells (Some bytes) there stated TooLarge cause =
    λ told. let more = cause told.store in absurd (omega (arith, more))
load_reason uses old store tells file there stated Wanting cause = tt

load_may : (asked : Asked) (file : List ℕ) (fault : LoadFault) → MayRefuseOpening asked file (load_cause fault) file
load_may asked file NotRead = tt
load_may asked file NoFile = refl
load_may asked file TooLarge = refl
load_may asked file Wanting = tt

-- lines whose file was not read whole
pub unread_carried : {done : Bool} (steps : Steps) (asked : Asked) (file : List ℕ) (tells : RunTells) (old : RunSeen)
    (store : StoreSeen) (fault : LoadFault) → IsOnlyRead done old.store store
    → (IsTrue tells.store → IsSome (old.store.files file))
    → IsLoadFault old.store.faults store.faults tells.store (old.store.files file)
    (length (file_of old.store.files file)) fault
    → CarriesOut steps line_uses (LineEditMayRefuse asked file) tells old (with_store old store)
    (Err (refusal_of (load_cause fault) file))
unread_carried steps asked file tells old store fault reads there cause =
    none_carried steps line_uses (LineEditMayRefuse asked file) tells old store (refusal_of (load_cause fault) file)
    (load_other fault) reads
    (load_reason line_uses old store tells (old.store.files file) there _ fault cause) (inr (load_may asked file fault))
    (record { line = λ no. refl; input_line = λ no. refl })

-- a file that stands for a value is there
pub view_some : (file : Option (List ℕ)) (kind : Kind) (asked : Asked) (value : QuotaValue)
    → IsView file kind asked (Ok value) → IsSome file
view_some (Some bytes) kind asked value view = refl
view_some None kind asked value view = absurd (none_view kind asked value view)
  where
    none_view : (kind : Kind) (asked : Asked) (value : QuotaValue) → IsView None kind asked (Ok value) → ⊥
    none_view kind AnyTree value view = view.0
    none_view kind (InFormat V1) value view = view.0
    none_view kind (InFormat V1R32) value view = view.0
    none_view kind (InFormat V2R0) value view = view.0
    none_view kind (InFormat V2R1) value view = view.0

-- so it is of edits that were to be made together
pub ended_read : {done : Bool} (attempt : Attempt) (steps : Steps) (uses : Uses) (may : Cause → List ℕ → Type 0)
    (tells : RunTells) (old : RunSeen) (store : StoreSeen) (new : RunSeen) → IsOnlyRead done old.store store
    → IfEnded attempt (CarriesOut steps uses may tells (with_store old store) new)
    → IfEnded attempt (CarriesOut steps uses may tells old new)
ended_read (Ended result) steps uses may tells old store new reads carries =
    carries_read steps uses may tells old store new result reads carries
ended_read (NotMade name) steps uses may tells old store new reads carries = tt

-- The replacement.

-- nothing was done
pub only_read-none : {done : Bool} (old new : StoreSeen) → new ≡ old → IsOnlyRead done old new
only_read-none old new same = record {
  files = ap (λ (s : StoreSeen). s.files) same;
  later = omega (arith, ap (λ (s : StoreSeen). s.faults) same);
  writes = ap (λ (s : StoreSeen). s.writes) same;
  synced = λ so name is. subst (λ (s : StoreSeen). IsTrue (s.unsynced name)) same is;
}

-- there was not enough memory, and nothing was done
pub wanting_carried : {done : Bool} (steps : Steps) (asked : Asked) (file : List ℕ) (tells : RunTells) (old : RunSeen)
    (store : StoreSeen) → IsOnlyRead done old.store store
    → CarriesOut steps line_uses (LineEditMayRefuse asked file) tells old (with_store old store)
    (Err (refusal_of WantOfMemory file))
wanting_carried steps asked file tells old store reads =
    none_carried steps line_uses (LineEditMayRefuse asked file) tells old store (refusal_of WantOfMemory file)
    (λ is. cc) reads tt (inr tt) (record { line = λ no. refl; input_line = λ no. refl })

-- where the edits wrote nothing the file is as they left it
pub kept_takes : (file bytes : List ℕ) (edited : Edited) (old : StoreSeen) → old.files file ≡ Some bytes
    → edited.bytes.items ≡ bytes → Takes old old file edited.bytes.items
kept_takes file bytes edited old there same =
    sym (with_file-same old.files file (Some edited.bytes.items) (there ∙ ap (λ (b : List ℕ). Some b) (sym same)))

-- a file that was replaced, where none had its name with `.new` added
pub replaced_takes : (file bytes : List ℕ) (old new : StoreSeen) → old.files (replacement_name file) ≡ None
    → new.files ≡ replaced_files old.files file bytes → Takes old new file bytes
replaced_takes file bytes old new none is =
    is ∙ ap (λ (w : World). with_file w file (Some bytes)) (with_file-same old.files (replacement_name file) None none)

-- edits that were made in memory, which the file took over
pub put_carried : (others : ℕ) (file : List ℕ) (now : ℕ) (lines : List LineEdit) (value : QuotaValue) (bytes : List ℕ)
    (edited : Edited) (may : Cause → List ℕ → Type 0) (tells : RunTells) (old : RunSeen) (store : StoreSeen)
    → IsEditOf may (length lines) bytes edited
    → (IsTrue tells.store
    → StandsAlone old.store.files file bytes
    × IsMadeInMemory (LineSteps (Together others) file now lines value) file bytes edited)
    → (IsTrue tells.store → StandsAlone old.store.files file bytes → Takes old.store store file edited.bytes.items)
    → old.store.faults ≤ store.faults → IsAllowed edited old.store store
    → CarriesOut (LineSteps (Together others) file now lines value) line_uses may tells old (with_store old store)
    edited.lines.ended
put_carried others file now lines value bytes edited may tells old store edits made takes later writes =
    edits_carried (LineSteps (Together others) file now lines value) may tells old store edited.lines.ended later
    edits.refused (λ told.
    let of = made told.store in
    steps_over others file now lines value bytes edited tells old store of.1 of.0.named (takes told.store of.0) writes)

-- edits that were made in memory and not put back
pub refused_carried : (others : ℕ) (file : List ℕ) (now : ℕ) (lines : List LineEdit) (value : QuotaValue)
    (bytes : List ℕ) (edited : Edited) (asked : Asked) (tells : RunTells) (old : RunSeen) (store : StoreSeen)
    (fault : ReplaceFault)
    → (edited.writes ≡ 0 → ⊥)
    → (IsTrue tells.store
    → StandsAlone old.store.files file bytes
    × IsMadeInMemory (LineSteps (Together others) file now lines value) file bytes edited)
    → KeepsOthers (replacement_name file) old.store.files store.files → ReplacesOne file old.store store
    → store.writes ≤ old.store.writes + 12 * (1 + others)
    → IsReplaceFault old.store.faults store.faults fault → OnNoMemory fault (store ≡ old.store)
    → CarriesOut (LineSteps (Together others) file now lines value) line_uses (LineEditMayRefuse asked file) tells old
    (with_store old store) (Err (refusal_of (replace_cause fault) file))
refused_carried others file now lines value bytes edited asked tells old store NotStored some made keeps leaves
    few cause memory =
    stopped_carried others file now lines value bytes edited (LineEditMayRefuse asked file) tells old store some
    (inr tt) made (keeps file (λ is. replacement_name-ne file (sym is))) leaves.files few leaves.later cause
refused_carried others file now lines value bytes edited asked tells old store (Full blocks limit) some made keeps
    leaves few cause memory = absurd cause
refused_carried others file now lines value bytes edited asked tells old store NoMemory some made keeps leaves
    few cause memory =
    wanting_carried (LineSteps (Together others) file now lines value) asked file tells old store
    (only_read-none {done = true} old.store store memory)

-- Several lines are edited together.

pub way_many : (lines : List LineEdit) → 2 ≤ length lines
    → (others : ℕ) × (length lines ≡ 1 + others) × (way_of lines ≡ Together others)
way_many [] many = absurd (omega (arith, many))
way_many (line ∷ []) many = absurd (omega (arith, many))
way_many (line ∷ next ∷ lines) many = (length (next ∷ lines), omega arith, refl)
