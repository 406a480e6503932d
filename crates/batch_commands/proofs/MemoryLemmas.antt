-- Edits of lines of a file in memory: what was carried out there is what the lines do, and what is known of it whatever
-- the lines do.
use Rattle.std.proofs.Common.{◌≡◌, ◌≢◌, ℕ, Bool, true, false, List, [], Option, None, Some, Ok, Err, Result, inl, inr}
use Rattle.std.proofs.Common.{refl, sym, ap, subst, ◌∙◌, arith}
use Rattle.std.specs.Prelude.{◌<◌, ◌≤◌, IfErr, IsErrAnd}
use Rattle.std.proofs.lemmas.Bool.{false≢true}
use Rattle.std.proofs.lemmas.Option.{same_Some}
use Rattle.opened_file.specs.declared.quota_file.OpenFault.{OpenFault}
use Rattle.opened_file.specs.declared.quota_file.OpenFault.TheVariants.{Store as NotRead, Memory as NoMemory}
use Rattle.quota_map.specs.Asked.{Asked}
use Rattle.quota_map.proofs.SeenLemmas.{IsOfCall}
use Rattle.file_in_memory.specs.OneFile.{only_file}
use Rattle.opened_file.specs.EditsOne.{EditsOne, StaysUnlessWritten}
use Rattle.outside.specs.Count.{Rose}
use Rattle.outside.specs.Frame.{OnlyReads}
use Rattle.quota_value.specs.QuotaValue.{QuotaValue}
use Rattle.quota_map.specs.View.{IsView}
use Rattle.quota_types.specs.declared.file_kind.Kind.{Kind}
use Rattle.outside.specs.Seen.{LinkSeen, SinkSeen, SourceSeen, StoreSeen}
use Rattle.outside.specs.World.{KeepsOthers, World}
use Rattle.refusals.specs.declared.cause.Cause.{Cause}
use Rattle.refusals.specs.declared.cause.Cause.TheVariants.{LinkFault, Memory, SinkFault, SourceFault, StoreFault}
use Rattle.refusals.specs.declared.reason.Refusal.{Refusal}
use Rattle.refusals.specs.Status.{status_of}
use Rattle.run_steps.specs.Act.{Follows}
use Rattle.run_steps.specs.Done.{Outside, RunTells, seen_of, tells_of}
use Rattle.run_steps.specs.Meaning.{EndsBy}
use Rattle.run_steps.specs.Carrying.{CarriesOut}
use Rattle.run_steps.specs.Run.{HasReason}
use Rattle.run_steps.specs.Steps.{Steps}
use Rattle.run_steps.specs.Writes.{WritesFor}
use Rattle.batch_commands.specs.declared.batch.EditedLines.{EditedLines}
use Rattle.batch_commands.specs.declared.together.Edited.{Edited}
use Rattle.batch_commands.specs.Batch.{line_uses}
use Rattle.batch_commands.specs.Together.{HasBytes, HasMade, IfOwn, IsEditOf, IsMadeInMemory, IsOfEdit, is_of_call}
use Rattle.batch_commands.specs.Together.{memory_seen, refusal_in}
use Rattle.batch_commands.proofs.CountLemmas.{own_so}
use Rattle.batch_commands.proofs.TogetherLemmas.{only_file-at, only_name_of}

-- the files of what is met outside, with the rest of it
abbrev around : World → SourceSeen → LinkSeen → Outside
around files input link = record { files = files; input = input.left; datagrams = link.left }

-- Lines were edited, of stores with the same files and as many calls of `write`.
made_seen : (steps : Steps) (tells : RunTells) (refusal : Option Refusal) (made : ℕ) (old new old' new' : StoreSeen)
    (input : SourceSeen) (out err : SinkSeen) (link : LinkSeen)
    → old.files ≡ old'.files → old.writes ≡ old'.writes → new.files ≡ new'.files → new.writes ≡ new'.writes
    → HasMade steps tells refusal made (seen_of old input out err link) (seen_of new input out err link)
    → HasMade steps tells refusal made (seen_of old' input out err link) (seen_of new' input out err link)
made_seen steps tells refusal made old new old' new' input out err link files writes files' writes' has = record {
  acts = has.acts;
  by_steps =
      subst (λ (w : World). EndsBy steps (around w input link) has.acts (around new'.files input link) refusal) files
      (subst (λ (w : World). EndsBy steps (around old.files input link) has.acts (around w input link) refusal)
      files' has.by_steps);
  done = record {
    files = subst (λ (w : World). Follows has.acts w new'.files) files
        (subst (λ (w : World). Follows has.acts old.files w) files' has.done.files);
    out = has.done.out;
    err = has.done.err;
    answered = has.done.answered;
    started = has.done.started;
    writes = subst (λ (n : ℕ). WritesFor has.acts n new'.writes) writes
        (subst (λ (n : ℕ). WritesFor has.acts old.writes n) writes' has.done.writes);
  };
  counted = has.counted;
}

-- Lines were carried out over one file in memory, whatever else is seen.
abbrev pub CarriesInMemory : Steps → (may : Cause → List ℕ → Type 0) → (before after : StoreSeen)
    → Result (Unit {0}) Refusal → Type 0
CarriesInMemory steps may before after ended =
    (input : SourceSeen) (out err : SinkSeen) (link : LinkSeen) (input_tells out_tells err_tells link_tells : Bool)
    → CarriesOut steps line_uses may (tells_of true input_tells out_tells err_tells link_tells)
    (seen_of before input out err link) (seen_of after input out err link) ended

-- the one file has the same name as before
name_kept : (file bytes name : List ℕ) (before after : StoreSeen) (bytes' : List ℕ) → HasBytes file bytes before
    → after.files ≡ only_file name bytes' → KeepsOthers file before.files after.files → name ≡ file
name_kept file bytes name before after bytes' has is keeps =
    only_name_of file bytes name bytes'
    (subst (λ (w : World). KeepsOthers file w (only_file name bytes')) has.files
    (subst (λ (w : World). KeepsOthers file before.files w) is keeps))

-- Lines were edited over one file in memory, whatever else is seen, unless something failed.
abbrev pub MadeInMemory : Steps → (before after : StoreSeen) → EditedLines → Type 0
MadeInMemory steps before after lines =
    (input : SourceSeen) (out err : SinkSeen) (link : LinkSeen) (tells : RunTells)
    → IfOwn lines.ended
    (HasMade steps tells (refusal_in lines.ended) lines.made (seen_of before input out err link)
    (seen_of after input out err link))

pub memory_made : (steps : Steps) (file bytes name : List ℕ) (before after : StoreSeen) (edited : Edited)
    → HasBytes file bytes before → after.files ≡ only_file name edited.bytes.items
    → after.writes ≡ edited.writes → EditsOne file before after
    → IfErr edited.lines.ended (λ (refusal : Refusal). status_of refusal.cause < 4)
    → MadeInMemory steps before after edited.lines
    → IsMadeInMemory steps file bytes edited
memory_made steps file bytes name before after edited has is writes leaves own made = λ input out err link tells.
    let named = name_kept file bytes name before after edited.bytes.items has is leaves.files in
    made_seen steps tells (refusal_in edited.lines.ended) edited.lines.made before after (memory_seen file bytes 0)
    (memory_seen file edited.bytes.items edited.writes) input out err link has.files has.unwritten
    (is ∙ ap (λ (n : List ℕ). only_file n edited.bytes.items) named) writes
    (own_so edited.lines.ended _ own (made input out err link tells))

-- while nothing was written the file has its bytes
same_bytes : (file bytes name : List ℕ) (before after : StoreSeen) (bytes' : List ℕ) → HasBytes file bytes before
    → after.files ≡ only_file name bytes' → name ≡ file → StaysUnlessWritten before after → after.writes ≡ 0
    → bytes' ≡ bytes
same_bytes file bytes name before after bytes' has is named (inl same) none =
    same_Some bytes' bytes
    (sym (only_file-at file bytes') ∙ ap (λ (n : List ℕ). only_file n bytes' file) (sym named)
    ∙ ap (λ (w : World). w file) (sym is ∙ same.0 ∙ has.files) ∙ only_file-at file bytes)
same_bytes file bytes name before after bytes' has is named (inr rose) none = absurd (omega (arith, rose, none))

own_refused : (steps : Steps) (may : Cause → List ℕ → Type 0) (tells : RunTells) (before after : StoreSeen)
    (input : SourceSeen) (out err : SinkSeen) (link : LinkSeen) (ended : Result (Unit {0}) Refusal)
    → IfErr ended (λ (refusal : Refusal). status_of refusal.cause < 4)
    → CarriesOut steps line_uses may tells (seen_of before input out err link) (seen_of after input out err link) ended
    → IfErr ended (IsOfEdit may)
own_refused steps may tells before after input out err link (Ok passed) own carries = tt
own_refused steps may tells before after input out err link (Err refusal) own carries =
    record { allowed = carries.may_refuse; placed = carries.placed; own = own }

-- nothing is seen
abbrev pub no_source : SourceSeen
no_source = record { left = []; faults = 0 }

abbrev pub no_sink : SinkSeen
no_sink = record { written = []; faults = 0 }

abbrev pub no_link : LinkSeen
no_link = record { left = []; answers = []; started = record { times = 0; last = None }; faults = 0 }

pub memory_edit : (steps : Steps) (may : Cause → List ℕ → Type 0) (count : ℕ) (file bytes name : List ℕ)
    (before after : StoreSeen) (edited : Edited) → HasBytes file bytes before
    → after.files ≡ only_file name edited.bytes.items
    → after.writes ≡ edited.writes → edited.lines.made ≤ count → EditsOne file before after
    → IfErr edited.lines.ended (λ (refusal : Refusal). status_of refusal.cause < 4)
    → CarriesInMemory steps may before after edited.lines.ended → IsEditOf may count bytes edited
memory_edit steps may count file bytes name before after edited has is writes few leaves own carries =
    let named = name_kept file bytes name before after edited.bytes.items has is leaves.files in
    record {
      few = few;
      same = λ none.
          same_bytes file bytes name before after edited.bytes.items has is named leaves.written (writes ∙ none);
      refused = own_refused steps may (tells_of true true true true true) before after no_source no_sink no_sink no_link
          edited.lines.ended own (carries no_source no_sink no_sink no_link true true true true);
    }

-- a count that stands at 0 has not risen
unrisen : Rose 0 0 → ⊥
unrisen rose = omega (arith, rose)

-- the cause is a fault of the store, since nothing else is seen that could fail, and its count rose
fault_rose : (before after : StoreSeen) (stated : Type 0) (cause : Cause) → 4 ≤ status_of cause → cause ≢ Memory
    → HasReason line_uses (seen_of before no_source no_sink no_sink no_link)
    (seen_of after no_source no_sink no_sink no_link) stated cause → Rose before.faults after.faults
fault_rose before after stated StoreFault high other reason = reason
fault_rose before after stated SourceFault high other reason = absurd (unrisen reason)
fault_rose before after stated SinkFault high other (inl rose) = absurd (unrisen rose)
fault_rose before after stated SinkFault high other (inr warned) = absurd (false≢true warned.0)
fault_rose before after stated LinkFault high other reason = absurd (false≢true reason.0)
fault_rose before after stated Memory high other reason = absurd (other refl)
fault_rose before after stated _ high other reason = omega (arith, high)

-- Edits in memory that ended since something failed did so by a call on the file that failed.
pub memory_failed : (steps : Steps) (may : Cause → List ℕ → Type 0) (before after : StoreSeen)
    (ended : Result (Unit {0}) Refusal) → IsErrAnd ended (λ (refusal : Refusal). 4 ≤ status_of refusal.cause)
    → IfErr ended (λ (refusal : Refusal). refusal.cause ≢ Memory) → CarriesInMemory steps may before after ended
    → Rose before.faults after.faults
memory_failed steps may before after (Ok passed) failed other carries = absurd failed
memory_failed steps may before after (Err refusal) failed other carries =
    let one = carries no_source no_sink no_sink no_link true true true true in
    fault_rose before after _ refusal.cause failed other one.refused

-- The file in memory, once it was opened.

-- for another refusal than one of its bytes a file is not opened where the store failed, or there is not enough memory
pub of_call : (fault : OpenFault) → is_of_call fault ≡ false → IsOfCall fault → ⊥
of_call NotRead other is = false≢true (sym other)
of_call NoMemory other is = false≢true (sym other)
of_call _ other is = is

-- a new store of one file
abbrev pub fresh_file : (name bytes : List ℕ) → StoreSeen
fresh_file name bytes =
    record { files = only_file name bytes; unsynced = λ _. false; faults = 0; reads = 0; writes = 0 }

-- it has its bytes still where it was only read
pub opened_bytes : {done : Bool} (text name bytes : List ℕ) (memory opened : StoreSeen) → text ≡ name
    → memory ≡ fresh_file text bytes → OnlyReads done name memory opened → HasBytes name bytes opened
opened_bytes text name bytes memory opened named is reads = record {
  files = reads.files ∙ ap (λ (s : StoreSeen). s.files) is ∙ ap (λ (n : List ℕ). only_file n bytes) named;
  unwritten = reads.writes ∙ ap (λ (s : StoreSeen). s.writes) is;
}

-- and whoever opens it sees what its bytes stand for
pub opened_view : (text name bytes : List ℕ) (memory : StoreSeen) (kind : Kind) (asked : Asked) (value : QuotaValue)
    → text ≡ name → memory ≡ fresh_file text bytes → IsView (Some bytes) kind asked (Ok value)
    → IsView (memory.files name) kind asked (Ok value)
opened_view text name bytes memory kind asked value named is view =
    subst (λ (f : Option (List ℕ)). IsView f kind asked (Ok value))
    (sym (ap (λ (s : StoreSeen). s.files name) is ∙ ap (λ (n : List ℕ). only_file n bytes name) named
    ∙ only_file-at name bytes)) view
