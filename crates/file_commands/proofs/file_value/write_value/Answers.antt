use Rattle.std.proofs.Common.{ℕ, List, Ok, sym, subst, arith, true, false}
use Rattle.outside.proofs.FrameLemmas.{syncs-all}
use Rattle.quota_types.specs.declared.record.Entry.{Entry}
use Rattle.quota_value.specs.Listed.{value_of}
use Rattle.opened_file.proofs.ReplaceLemmas.{replacement_name-ne}
use Rattle.quota_map.specs.Asked.{InFormat}
use Rattle.quota_map.specs.Replacing.{flags_in}
use Rattle.quota_map.specs.View.{IsView}
use Rattle.quota_map.proofs.ReplacedLemmas.{replaced-refused, replaced-synced, replaced-only}
use Rattle.file_commands.specs.FileValue.{value_in}
use Rattle.file_commands.proofs.ReplacingLemmas.{made_anew, needed_of, replace_made, replace_refused}
use Rattle.std.proofs.lemmas.Bool.{false≢true}
use Rattle.outside.specs.ManyCalls.{replaced_files}
use Rattle.run_steps.specs.Done.{Outside}
use Rattle.file_commands.specs.Check.{ReplaceSteps}
use Rattle.file_commands.proofs.CommittedLemmas.{StandsBuilt, built_few, built_seen, comes_fitting, replaced_committed}
use Rattle.file_commands.proofs.file_value.write_value.Goals as goal

pub returns-in-Ok-clause-carries : goal.returns-in-Ok-clause-carries
returns-in-Ok-clause-carries g c = λ input out err link input_tells out_tells err_tells link_tells.
    let file = c.as_str.ensures in
    let list = c.as_slice.ensures.value in
    let done = c.in-Ok.ensures in
    let value = c.args.value.now in
    let files = (g.S.Store.seen c.replace_file.new.store).files in
    replace_made c.args.file (value_in value) _ _ _ _
    (λ told.
    subst (λ (n : List ℕ). IsView (files n) value.kind (InFormat value.format) (Ok (value_in value))) file
    (subst (λ (l : List Entry). IsView (files c.as_str.result.now) value.kind (InFormat value.format)
    (Ok (value_of value.kind value.format value.grace (flags_in value.format value.flags) l))) list
    (done.seen told (omega arith)))) (rw file at done.leaves.files) done.leaves.later
    (rw (needed_of value c.requires.in_order) (rw list at done.few))

pub returns-in-Err-clause-named : goal.returns-in-Err-clause-named
returns-in-Err-clause-named g c =
    rw c.as_str.ensures at (c.in-Err.ensures.unchanged) c.args.file (λ same. replacement_name-ne c.args.file (sym same))

pub returns-in-Err-clause-carries : goal.returns-in-Err-clause-carries
returns-in-Err-clause-carries g c = λ input out err link input_tells out_tells err_tells link_tells.
    let file = c.as_str.ensures in
    let left = c.in-Err.ensures in
    rw (c.of.ensures, c.replace_cause.ensures)
    (replace_refused c.args.file c.args.value.now _ _ _ c.in-Err.fault c.requires.in_order
    (rw c.as_slice.ensures.value at left.refused)
    left.unwritten
    ((rw file at left.unchanged) c.args.file (λ same. replacement_name-ne c.args.file (sym same)))
    (rw file at left.leaves))

pub returns-in-Ok-clause-anew : goal.returns-in-Ok-clause-anew
returns-in-Ok-clause-anew g c = λ told.
    made_anew c.args.file c.args.value.now _ _ c.requires.in_order
    (rw c.as_slice.ensures.value at rw c.as_str.ensures at c.in-Ok.ensures.replaced told)

pub returns-in-Ok-clause-synced : goal.returns-in-Ok-clause-synced
returns-in-Ok-clause-synced g c = λ told.
    syncs-all _ _ c.in-Ok.ensures.leaves.later
    (replaced-synced c.as_str.result.now _ _ (c.in-Ok.ensures.synced told) c.in-Ok.ensures.leaves)

pub returns-in-Err-clause-synced : goal.returns-in-Err-clause-synced
returns-in-Err-clause-synced g c = λ told.
    replaced-refused _ _ _ _ c.in-Err.fault c.in-Err.ensures.leaves.later c.in-Err.ensures.refused
    c.in-Err.ensures.unwritten

pub returns-in-Ok-clause-commits : goal.returns-in-Ok-clause-commits
returns-in-Ok-clause-commits g c = λ input datagrams told.
    let S = g.S.Store in
    let file = c.as_str.ensures in
    let list = c.as_slice.ensures.value in
    let value = c.args.value.now in
    let made = c.in-Ok.ensures in
    let old : Outside = record { files = (S.seen c.args.store.now).files; input = input; datagrams = datagrams } in
    let new = (S.seen c.replace_file.new.store).files in
    replaced_committed true (ReplaceSteps c.args.file (Ok (value_in value))) c.args.file
    (StandsBuilt value c.as_slice.result.now) old new
    (λ worlds. S.commits worlds c.args.store.now c.replace_file.new.store)
    (λ worlds. g.met.S.Store.commits_more worlds _ _)
    (λ bytes stands. comes_fitting c.args.file (value_in value) old (replaced_files old.files c.args.file bytes)
    (built_few value c.as_slice.result.now bytes c.requires.in_order list stands)
    (built_seen value c.as_slice.result.now bytes c.args.file old.files list stands)
    (replaced-only old.files c.args.file bytes))
    (λ well.
    comes_fitting c.args.file (value_in value) old new (rw (needed_of value c.requires.in_order) (rw list at made.few))
    (subst (λ (n : List ℕ). IsView (new n) value.kind (InFormat value.format) (Ok (value_in value))) file
    (subst (λ (l : List Entry). IsView (new c.as_str.result.now) value.kind (InFormat value.format)
    (Ok (value_of value.kind value.format value.grace (flags_in value.format value.flags) l))) list
    (made.seen told (omega arith)))) (rw file at made.leaves.files))
    (rw file at made.leaves.files) (rw file at made.commits told)

pub returns-in-Err-clause-commits : goal.returns-in-Err-clause-commits
returns-in-Err-clause-commits g c = λ input datagrams told.
    let S = g.S.Store in
    let file = c.as_str.ensures in
    let list = c.as_slice.ensures.value in
    let value = c.args.value.now in
    let made = c.in-Err.ensures in
    let old : Outside = record { files = (S.seen c.args.store.now).files; input = input; datagrams = datagrams } in
    let new = (S.seen c.replace_file.new.store).files in
    replaced_committed false (ReplaceSteps c.args.file (Ok (value_in value))) c.args.file
    (StandsBuilt value c.as_slice.result.now) old new
    (λ worlds. S.commits worlds c.args.store.now c.replace_file.new.store)
    (λ worlds. g.met.S.Store.commits_more worlds _ _)
    (λ bytes stands. comes_fitting c.args.file (value_in value) old (replaced_files old.files c.args.file bytes)
    (built_few value c.as_slice.result.now bytes c.requires.in_order list stands)
    (built_seen value c.as_slice.result.now bytes c.args.file old.files list stands)
    (replaced-only old.files c.args.file bytes))
    (λ well. absurd (false≢true well))
    (rw file at made.leaves.files) (rw file at made.commits told)
