-- Commands that put a file of another value in the place of one: what was done where it was replaced, and where it was
-- not.
use Rattle.std.proofs.Common.{◌≡◌, ℕ, ◌<◌, ◌≤◌, Bool, false, IsTrue, List, [], ◌∷◌, None, Ok, Err, Result, refl, sym}
use Rattle.std.proofs.Common.{ap, subst, ◌∙◌, arith}
use Rattle.std.proofs.lemmas.Bool.{false≢true, le-ltb, lt-ltb}
use Rattle.quota_types.specs.declared.field.NoRoom.{NoRoom}
use Rattle.quota_types.specs.declared.file_kind.Format.{Format}
use Rattle.outside.specs.Count.{Rose}
use Rattle.outside.specs.ManyCalls.{ReplacesOne}
use Rattle.quota_value.specs.Listed.{ids_of}
use Rattle.quota_value.specs.QuotaValue.{QuotaValue}
use Rattle.outside.specs.Replacement.{ReplacesOnly}
use Rattle.outside.specs.Seen.{StoreSeen}
use Rattle.quota_map.specs.Asked.{InFormat}
use Rattle.quota_map.specs.Size.{blocks_needed, blocks_of}
use Rattle.opened_file.specs.declared.replacement.ReplaceFault.{ReplaceFault}
use Rattle.opened_file.specs.declared.replacement.ReplaceFault.TheVariants.{Store, Full as NoBlocks, Memory as NoMemory}
use Rattle.outside.specs.World.{World}
use Rattle.quota_map.specs.Replacing.{IsReplaceFileFault, IsReplacedBy, UnlessStore, built_size}
use Rattle.quota_map.specs.View.{IsView, most_blocks}
use Rattle.convert.proofs.ValueLemmas.{ids_listed}
use Rattle.file_commands.specs.declared.file_value.FileValue.{FileValue}
use Rattle.refusals.specs.declared.cause.Cause.{Cause}
use Rattle.refusals.specs.declared.cause.Cause.TheVariants.{StoreFault, Full, Memory}
use Rattle.refusals.specs.declared.reason.Refusal.{Refusal}
use Rattle.run_steps.specs.Act.{Act, Replace}
use Rattle.run_steps.specs.Done.{RunSeen, RunTells}
use Rattle.run_steps.specs.Carrying.{CarriesOut, AreDoneThen}
use Rattle.run_steps.specs.Steps.{DoingAll, Finish, Then}
use Rattle.file_commands.specs.Check.{ReplaceSteps, replaced}
use Rattle.run_steps.specs.Changing.{edit_uses, if_room}
use Rattle.file_commands.specs.FileValue.{IsInOrder, IsMadeAnew, replace_cause, value_in}
use Rattle.file_commands.specs.WritingRefused.{WritingMayRefuse}
use Rattle.refusals.specs.Outcome.{Outcome, Passed, Refused}
use Rattle.refusals.specs.Refusals.{refusal_of}
use Rattle.run_steps.proofs.DoingLemmas.{AreWritten, done_of, done_steps, part_of, written_yet}
use Rattle.run_steps.proofs.OpeningLemmas.{store_later, with_store}
use Rattle.run_steps.proofs.PartLemmas.{acts_in_part, carried_whole}
use Rattle.run_steps.proofs.PhaseLemmas.{nothing_carried, stop_carried}
use Rattle.run_steps.proofs.WritesLemmas.{writes_for-replacement}
use Rattle.quota_map.proofs.SizeLemmas.{no_flat_blocks}

-- how many blocks a file of a value needs, by its list
pub needed_of : (value : FileValue) → IsInOrder value
    → blocks_of (value_in value) ≡ blocks_needed value.format (ids_of value.entries.items)
needed_of value order =
    ap (λ (ids : List ℕ). blocks_needed value.format ids) (ids_listed value.entries.items order.ascends)

-- The steps.

-- where there is room, the one act is the change
pub room_for : (name : List ℕ) (new : QuotaValue) → blocks_of new ≤ most_blocks
    → replaced name (Ok new) ≡ Passed (Replace name new ∷ [])
room_for name new few =
    ap (λ (large : Bool). if_room name (blocks_of new) large (Replace name new))
    (le-ltb most_blocks (blocks_of new) few)

-- and otherwise the value is refused
pub no_room_for : (name : List ℕ) (new : QuotaValue) (blocks limit : ℕ) → most_blocks < blocks_of new
    → blocks ≡ blocks_of new → limit ≡ most_blocks
    → replaced name (Ok new) ≡ Refused (refusal_of (Full blocks limit) name)
no_room_for name new blocks limit passes needs is =
    ap (λ (large : Bool). if_room name (blocks_of new) large (Replace name new))
    (lt-ltb most_blocks (blocks_of new) passes)
    ∙ ap (λ (b : ℕ). Refused (refusal_of (Full b most_blocks) name)) (sym needs)
    ∙ ap (λ (l : ℕ). Refused (refusal_of (Full blocks l) name)) (sym is)

-- what was carried out is known by the outcome of the step
by_outcome : (name : List ℕ) (new : QuotaValue) (outcome : Outcome (List Act)) (may : Cause → List ℕ → Type 0)
    (tells : RunTells) (old to : RunSeen) (result : Result (Unit {0}) Refusal) → replaced name (Ok new) ≡ outcome
    → CarriesOut (Then outcome (λ (acts : List Act). DoingAll acts Finish)) (edit_uses false) may tells old to result
    → CarriesOut (ReplaceSteps name (Ok new)) (edit_uses false) may tells old to result
by_outcome name new outcome may tells old to result is carries =
    subst (λ (o : Outcome (List Act)). CarriesOut (Then o (λ (acts : List Act). DoingAll acts Finish)) (edit_uses false)
    may tells old to result) (sym is) carries

-- the change of one file was written
change_written : (name : List ℕ) (new : QuotaValue) (old store : StoreSeen)
    → IsView (store.files name) new.kind (InFormat new.format) (Ok new) → ReplacesOnly name old.files store.files
    → AreWritten (Replace name new ∷ []) old store
change_written name new old store view leaves = record {
  files = (store.files, (view, leaves), refl);
  writes = writes_for-replacement name new [] old.writes store.writes;
  out = refl;
  err = refl;
  answered = refl;
  started = λ before. refl;
}

-- the file was replaced
pub replace_made : (name : List ℕ) (new : QuotaValue) (may : Cause → List ℕ → Type 0) (tells : RunTells) (old : RunSeen)
    (store : StoreSeen)
    → (IsTrue tells.store → IsView (store.files name) new.kind (InFormat new.format) (Ok new))
    → ReplacesOnly name old.store.files store.files → old.store.faults ≤ store.faults → blocks_of new ≤ most_blocks
    → CarriesOut (ReplaceSteps name (Ok new)) (edit_uses false) may tells old (with_store old store) (Ok tt)
replace_made name new may tells old store seen leaves later few =
    let acts = Replace name new ∷ [] in
    by_outcome name new (Passed acts) may tells old (with_store old store) (Ok tt) (room_for name new few)
    (carried_whole (AreDoneThen acts None) (edit_uses false) may tells old (with_store old store) tt
    (λ told. done_steps acts None tells old (with_store old store) refl refl
    (done_of acts tells old store (change_written name new old.store store (seen told.store) leaves)))
    (λ only. absurd (false≢true (sym only))) (λ no. refl) (store_later old store later))

-- the store failed
pub replace_failed : (name : List ℕ) (new : QuotaValue) (may : Cause → List ℕ → Type 0) (tells : RunTells)
    (old : RunSeen) (store : StoreSeen)
    → Rose old.store.faults store.faults → store.files name ≡ old.store.files name
    → ReplacesOnly name old.store.files store.files → old.store.faults ≤ store.faults → blocks_of new ≤ most_blocks
    → may StoreFault name
    → CarriesOut (ReplaceSteps name (Ok new)) (edit_uses false) may tells old (with_store old store)
    (Err (refusal_of StoreFault name))
replace_failed name new may tells old store rose same leaves later few allowed =
    let acts = Replace name new ∷ [] in
    by_outcome name new (Passed acts) may tells old (with_store old store) (Err (refusal_of StoreFault name))
    (room_for name new few) (record {
      done = tt;
      refused = rose;
      part = λ told. acts_in_part acts None tells old (with_store old store) refl
          (part_of [] acts tells old old.store store (written_yet old.store) (same, leaves)
          (writes_for-replacement name new [] old.store.writes store.writes))
          (λ is told. absurd (cc));
      may_refuse = allowed;
      placed = record { line = λ no. refl; input_line = λ no. refl };
      only_reads = λ only. absurd (false≢true (sym only));
      all_or_nothing = λ whole other. absurd (other refl);
      quiet = λ no. refl;
      later = store_later old store later;
    })

-- there was no room
pub replace_full : (name : List ℕ) (new : QuotaValue) (may : Cause → List ℕ → Type 0) (tells : RunTells) (old : RunSeen)
    (store : StoreSeen) (blocks limit : ℕ)
    → store ≡ old.store → most_blocks < blocks_of new → blocks ≡ blocks_of new → limit ≡ most_blocks
    → may (Full blocks limit) name
    → CarriesOut (ReplaceSteps name (Ok new)) (edit_uses false) may tells old (with_store old store)
    (Err (refusal_of (Full blocks limit) name))
replace_full name new may tells old store blocks limit same passes needs is allowed =
    let refusal = refusal_of (Full blocks limit) name in
    subst (λ (s : StoreSeen).
    CarriesOut (ReplaceSteps name (Ok new)) (edit_uses false) may tells old (with_store old s) (Err refusal)) (sym same)
    (by_outcome name new (Refused refusal) may tells old old (Err refusal)
    (no_room_for name new blocks limit passes needs is)
    (stop_carried (edit_uses false) may tells old refusal (λ is. cc) (λ stated fact. fact) allowed (record {
      line = λ no. refl;
      input_line = λ no. refl;
    })))

-- there was not enough memory
pub replace_wanting : (name : List ℕ) (new : Result QuotaValue NoRoom) (may : Cause → List ℕ → Type 0)
    (tells : RunTells) (old : RunSeen) (store : StoreSeen) → store ≡ old.store → may Memory name
    → CarriesOut (ReplaceSteps name new) (edit_uses false) may tells old (with_store old store)
    (Err (refusal_of Memory name))
replace_wanting name new may tells old store same allowed =
    subst (λ (s : StoreSeen). CarriesOut (ReplaceSteps name new) (edit_uses false) may tells old (with_store old s)
    (Err (refusal_of Memory name))) (sym same)
    (nothing_carried (ReplaceSteps name new) (edit_uses false) may tells old (refusal_of Memory name) (λ is. cc) tt
    allowed (record { line = λ no. refl; input_line = λ no. refl }))

-- the file was not replaced
pub replace_refused : (name : List ℕ) (value : FileValue) (tells : RunTells) (old : RunSeen) (store : StoreSeen)
    (fault : ReplaceFault) → IsInOrder value
    → IsReplaceFileFault old.store.faults store.faults (blocks_needed value.format (ids_of value.entries.items))
    most_blocks fault
    → UnlessStore fault (store ≡ old.store) → store.files name ≡ old.store.files name → ReplacesOne name old.store store
    → CarriesOut (ReplaceSteps name (Ok (value_in value))) (edit_uses false) (WritingMayRefuse value.format name) tells
    old (with_store old store) (Err (refusal_of (replace_cause fault) name))
replace_refused name value tells old store Store order cause unwritten same leaves =
    replace_failed name (value_in value) (WritingMayRefuse value.format name) tells old store cause.0 same leaves.files
    leaves.later (rw (needed_of value order) cause.1) tt
replace_refused name value tells old store (NoBlocks blocks limit) order cause unwritten same leaves =
    let needed = needed_of value order in
    replace_full name (value_in value) (WritingMayRefuse value.format name) tells old store blocks limit unwritten
    (rw needed cause.0) (cause.1 ∙ sym needed) cause.2 (
      no_flat_blocks value.format (ids_of value.entries.items) most_blocks cause.0,
      cause.2,
      omega (arith, cause.0, cause.1, cause.2),
      refl,
    )
replace_refused name value tells old store NoMemory order cause unwritten same leaves =
    replace_wanting name (Ok (value_in value)) (WritingMayRefuse value.format name) tells old store unwritten tt

-- a file that was replaced was made anew
pub made_anew : (name : List ℕ) (value : FileValue) (old new : World) → IsInOrder value
    → IsReplacedBy name (value_in value) (ids_of value.entries.items)
    (built_size value.format (ids_of value.entries.items)) old new
    → IsMadeAnew value.kind (λ (format : Format). format ≡ value.format) name old new
made_anew name value old new order replaced = record {
  value = value_in value;
  kind_is = refl;
  format_is = refl;
  replaced = subst (λ (ids : List ℕ). IsReplacedBy name (value_in value) ids (built_size value.format ids) old new)
      (sym (ids_listed value.entries.items order.ascends)) replaced;
}
