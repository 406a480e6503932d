use Rattle.std.proofs.Common.{ℕ, List, Ok, IsTrue, sym, subst, arith, false, [], append-nil}
use Rattle.quota_types.specs.declared.record.Entry.{Entry}
use Rattle.quota_value.specs.Listed.{ids_of, value_of}
use Rattle.outside.proofs.FrameLemmas.{syncs-all, syncs-then}
use Rattle.opened_file.proofs.ReplaceLemmas.{replacement_name-ne}
use Rattle.quota_map.specs.Asked.{InFormat}
use Rattle.quota_map.specs.Replacing.{flags_in}
use Rattle.quota_map.specs.View.{IsView}
use Rattle.quota_map.proofs.ReplacedLemmas.{replaced-refused, replaced-synced, replaced-only, replaced_until}
use Rattle.quota_map.specs.Size.{blocks_needed}
use Rattle.run_steps.specs.Showing.{showing_uses}
use Rattle.file_commands.specs.FileValue.{value_in}
use Rattle.file_commands.proofs.GenerateLemmas.{carries_changed, put_refused, view_any}
use Rattle.file_commands.proofs.ReplacingLemmas.{needed_of}
use Rattle.std.proofs.lemmas.Bool.{false≢true}
use Rattle.std.specs.Result.{is_ok}
use Rattle.outside.specs.ManyCalls.{replaced_files}
use Rattle.outside.specs.Replacement.{ReplacesOnly}
use Rattle.outside.specs.World.{World}
use Rattle.run_steps.specs.Done.{Outside}
use Rattle.run_steps.proofs.CommittedLemmas.{comes_same}
use Rattle.file_commands.specs.Causes.{WrittenSteps}
use Rattle.file_commands.proofs.CommittedLemmas.{StandsBuilt, built_seen, comes_replaced, replaced_committed}
use Rattle.file_commands.proofs.generate.write_made.Goals as goal

pub returns-in-Ok-clause-carries : goal.returns-in-Ok-clause-carries
returns-in-Ok-clause-carries g c = λ input err link input_tells err_tells link_tells.
    let file = c.as_str.ensures in
    let made = c.in-Ok.ensures in
    let value = c.args.value.now in
    let store = g.S.Store.seen c.replace_file.new.store in
    let view = λ (told : IsTrue g.S.Store.tells).
    subst (λ (n : List ℕ). IsView (store.files n) value.kind (InFormat value.format) (Ok (value_in value))) file
    (subst (λ (l : List Entry). IsView (store.files c.as_str.result.now) value.kind (InFormat value.format)
    (Ok (value_of value.kind value.format value.grace (flags_in value.format value.flags) l)))
    c.as_slice.ensures.value (made.seen told (omega arith))) in
    carries_changed c.args.file (value_in value) _ showing_uses _ _ _ store _ _
    (λ told. (view told, rw file at made.leaves.files))
    made.leaves.later
    (c.tell_made.ensures.carries input err link input_tells err_tells link_tells
    (λ told. view_any (store.files c.args.file) value.kind value.format (value_in value) c.requires.kind
    c.requires.format (view told)))

pub returns-in-Ok-clause-synced : goal.returns-in-Ok-clause-synced
returns-in-Ok-clause-synced g c = λ told.
    let made = c.in-Ok.ensures in
    syncs-then _ _ _
    (syncs-all _ _ made.leaves.later (replaced-synced c.as_str.result.now _ _ (made.synced told) made.leaves))
    c.tell_made.ensures.synced

pub returns-in-Err-clause-synced : goal.returns-in-Err-clause-synced
returns-in-Err-clause-synced g c = λ told.
    replaced-refused _ _ _ _ c.in-Err.fault c.in-Err.ensures.leaves.later c.in-Err.ensures.refused
    c.in-Err.ensures.unwritten

pub returns-in-Err-clause-carries : goal.returns-in-Err-clause-carries
returns-in-Err-clause-carries g c = λ input err link input_tells err_tells link_tells.
    let file = c.as_str.ensures in
    let left = c.in-Err.ensures in
    let value = c.args.value.now in
    rw (c.of.ensures, c.replace_cause.ensures)
    (put_refused c.args.file _ (value_in value) _ _ _
    (blocks_needed value.format (ids_of value.entries.items)) c.in-Err.fault
    (rw (needed_of value c.requires.writable.in_order) at c.requires.few)
    (rw c.as_slice.ensures.value at left.refused) left.unwritten
    ((rw file at left.unchanged) c.args.file (λ same. replacement_name-ne c.args.file (sym same)))
    (rw file at left.leaves))

pub returns-in-Ok-clause-commits : goal.returns-in-Ok-clause-commits
returns-in-Ok-clause-commits g c = λ input datagrams told.
    let S = g.S.Store in
    let file = c.as_str.ensures in
    let list = c.as_slice.ensures.value in
    let value = c.args.value.now in
    let made = c.in-Ok.ensures in
    let old : Outside = record { files = (S.seen c.args.store.now).files; input = input; datagrams = datagrams } in
    let between = (S.seen c.replace_file.new.store).files in
    let new = (S.seen c.tell_made.new.store).files in
    let same = c.tell_made.ensures.unwritten.files in
    let only : ReplacesOnly c.args.file old.files between = rw file at made.leaves.files in
    replaced_committed (is_ok c.tell_made.result) (WrittenSteps c.args.count c.args.file c.args.now (value_in value))
    c.args.file (StandsBuilt value c.as_slice.result.now) old new
    (λ worlds. S.commits worlds c.args.store.now c.tell_made.new.store)
    (λ worlds. g.met.S.Store.commits_more worlds _ _)
    (λ bytes stands. comes_replaced c.args.file (value_in value) _ old (replaced_files old.files c.args.file bytes)
    (built_seen value c.as_slice.result.now bytes c.args.file old.files list stands)
    (replaced-only old.files c.args.file bytes))
    (λ well. comes_same (WrittenSteps c.args.count c.args.file c.args.now (value_in value)) old between new
    (comes_replaced c.args.file (value_in value) _ old between
    (subst (λ (n : List ℕ). IsView (between n) value.kind (InFormat value.format) (Ok (value_in value))) file
    (subst (λ (l : List Entry). IsView (between c.as_str.result.now) value.kind (InFormat value.format)
    (Ok (value_of value.kind value.format value.grace (flags_in value.format value.flags) l))) list
    (made.seen told (omega arith)))) only) same)
    (subst (λ (files : World). ReplacesOnly c.args.file old.files files) (sym same) only)
    (replaced_until (is_ok c.tell_made.result) c.args.file (StandsBuilt value c.as_slice.result.now)
    old.files between new
    (λ worlds. S.commits worlds c.args.store.now c.replace_file.new.store)
    (λ worlds. S.commits worlds c.args.store.now c.tell_made.new.store) same
    (λ worlds some. subst (λ (w : List World). S.commits w c.args.store.now c.tell_made.new.store) (append-nil worlds)
    (S.commits_on worlds [] _ _ _ some c.tell_made.ensures.commits))
    (rw file at made.commits told))

pub returns-in-Err-clause-commits : goal.returns-in-Err-clause-commits
returns-in-Err-clause-commits g c = λ input datagrams told.
    let S = g.S.Store in
    let file = c.as_str.ensures in
    let list = c.as_slice.ensures.value in
    let value = c.args.value.now in
    let made = c.in-Err.ensures in
    let old : Outside = record { files = (S.seen c.args.store.now).files; input = input; datagrams = datagrams } in
    let new = (S.seen c.replace_file.new.store).files in
    replaced_committed false (WrittenSteps c.args.count c.args.file c.args.now (value_in value)) c.args.file
    (StandsBuilt value c.as_slice.result.now) old new
    (λ worlds. S.commits worlds c.args.store.now c.replace_file.new.store)
    (λ worlds. g.met.S.Store.commits_more worlds _ _)
    (λ bytes stands. comes_replaced c.args.file (value_in value) _ old (replaced_files old.files c.args.file bytes)
    (built_seen value c.as_slice.result.now bytes c.args.file old.files list stands)
    (replaced-only old.files c.args.file bytes))
    (λ well. absurd (false≢true well)) (rw file at made.leaves.files) (rw file at made.commits told)
