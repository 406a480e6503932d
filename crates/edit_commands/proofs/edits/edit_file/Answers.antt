use Rattle.std.proofs.Common.{ℕ, IsTrue, List, inl, inr, refl, sym, ap, ◌∙◌}
use Rattle.std.proofs.lemmas.Bool.{false≢true}
use Rattle.outside.specs.World.{World}
use Rattle.outside.proofs.FrameLemmas.{syncs-after_read, syncs-less, syncs-read}
use Rattle.opened_file.proofs.CommittedLemmas.{once_behind}
use Rattle.quota_map.specs.Asked.{asked_of}
use Rattle.quota_map.specs.AnyFile.{any_seen}
use Rattle.quota_map.specs.View.{fresh_seen}
use Rattle.edit_steps.specs.EditStep.{edit_cause}
use Rattle.set_edit.proofs.EditingLemmas.{edits-syncs}
use Rattle.edit_commands.specs.Edits.{warnings}
use Rattle.edit_commands.specs.EditWords.{edit_meant, skipped_by}
use Rattle.edit_steps.proofs.CommittedLemmas.{made_stepped, refused_stepped}
use Rattle.edit_steps.proofs.EditFileLemmas.{any_cause, any_made, any_refused, edit_may}
use Rattle.edit_commands.proofs.EditFileLemmas.{any_left_for, file_edit_may, keeps_format, skips_quiet, skips_warn}
use Rattle.edit_commands.proofs.EditLemmas.{edit_made, edit_unsaid}
use Rattle.edit_commands.proofs.RefusedEditLemmas.{edit_unmade, left_for-read}
use Rattle.run_steps.specs.Act.{InPlace}
use Rattle.run_steps.proofs.LookingLemmas.{carries_looking}
use Rattle.run_steps.proofs.OpeningLemmas.{not_opened}
use Rattle.run_steps.proofs.PhaseLemmas.{carries_opening}
use Rattle.edit_commands.proofs.AloneLemmas.{edits_alone-after, edits_alone-edits, edits_alone-read}
use Rattle.edit_commands.proofs.CommittedLemmas.{comes_stepped, made_committed, read_committed, refused_committed}
use Rattle.edit_commands.proofs.MadeLemmas.{makes_opened}
use Rattle.edit_commands.proofs.edits.edit_file.Goals as goal

pub returns-in-Ok-write_warnings-clause-carries : goal.returns-in-Ok-write_warnings-clause-carries
returns-in-Ok-write_warnings-clause-carries g c = λ input out link input_tells out_tells link_tells.
    let opened = c.in-Ok.ensures in
    let name = c.as_str.ensures in
    let was = opened.fresh ∙ ap (λ (n : List ℕ). fresh_seen n (any_seen c.in-Ok.opened).format) name in
    let made = c.in-Ok-make_edit.ensures in
    let said = c.in-Ok-write_warnings.ensures in
    carries_opening c.args.file c.args.kind (asked_of c.args.format) _ _ _ _ _ _
    (g.S.Store.seen c.open_file.new.store) _ _
    (rw name at opened.leaves) (λ told. rw name at (opened.seen told)) (λ cause may allowed. allowed) (λ value view.
    let held = λ (told : IsTrue g.S.Store.tells). opened.held told value (rw (sym name) at (view told)) in
    carries_looking _ _ _ _ _ _ _ (edit_made c.args.file (edit_meant c.args.edit.now c.args.invocation.now) value
    (warnings c.args.invocation.line (skipped_by c.args.edit.now value)) _ _ _ _ _ _
    (any_made _ _ _ _ _ _ _ _ value c.in-Ok-make_edit.skipped (keeps_format c.args.edit.now c.args.invocation.now) was
    held made.edits)
    (λ told err_told. rw (made.skipped value (held told)) at (said.ok err_told))
    (λ no. ap (λ e. g.E.Sink.seen e) (said.quiet (skips_quiet c.args.edit.now c.in-Ok-make_edit.skipped made.skips no)))
    said.later))

pub returns-in-Err-write_warnings-clause-carries : goal.returns-in-Err-write_warnings-clause-carries
returns-in-Err-write_warnings-clause-carries g c = λ input out link input_tells out_tells link_tells.
    let opened = c.in-Ok.ensures in
    let name = c.as_str.ensures in
    let was = opened.fresh ∙ ap (λ (n : List ℕ). fresh_seen n (any_seen c.in-Ok.opened).format) name in
    let made = c.in-Ok-make_edit.ensures in
    let said = c.in-Err-write_warnings.ensures in
    let warns = skips_warn c.args.edit.now c.in-Ok-make_edit.skipped made.skips said.some in
    rw c.of.ensures
    (carries_opening c.args.file c.args.kind (asked_of c.args.format) _ _ _ _ _ _
    (g.S.Store.seen c.open_file.new.store) _ _
    (rw name at opened.leaves) (λ told. rw name at (opened.seen told)) (λ cause may allowed. allowed) (λ value view.
    let held = λ (told : IsTrue g.S.Store.tells). opened.held told value (rw (sym name) at (view told)) in
    carries_looking _ _ _ _ _ _ _ (edit_unsaid c.args.file (edit_meant c.args.edit.now c.args.invocation.now) value
    (warnings c.args.invocation.line (skipped_by c.args.edit.now value)) _ _ _ _ _ _
    (any_made _ _ _ _ _ _ _ _ value c.in-Ok-make_edit.skipped (keeps_format c.args.edit.now c.args.invocation.now) was
    held made.edits)
    (λ told err_told. rw (made.skipped value (held told)) at (said.fault err_told)) warns said.cause said.later
    (inr (inr (warns, refl))))))

pub returns-in-Err-make_edit-clause-carries : goal.returns-in-Err-make_edit-clause-carries
returns-in-Err-make_edit-clause-carries g c = λ input out link input_tells out_tells link_tells.
    let opened = c.in-Ok.ensures in
    let name = c.as_str.ensures in
    let was = opened.fresh ∙ ap (λ (n : List ℕ). fresh_seen n (any_seen c.in-Ok.opened).format) name in
    let made = c.in-Err-make_edit.ensures in
    let keeps = keeps_format c.args.edit.now c.args.invocation.now in
    rw (c.of-in-Err-make_edit.ensures, c.edit_cause.ensures)
    (carries_opening c.args.file c.args.kind (asked_of c.args.format) _ _ _ _ _ _
    (g.S.Store.seen c.open_file.new.store) _ _
    (rw name at opened.leaves) (λ told. rw name at (opened.seen told)) (λ cause may allowed. allowed) (λ value view.
    let held = λ (told : IsTrue g.S.Store.tells). opened.held told value (rw (sym name) at (view told)) in
    carries_looking _ _ _ _ _ _ _ (edit_unmade c.args.file (edit_meant c.args.edit.now c.args.invocation.now) value
    (warnings c.args.invocation.line (skipped_by c.args.edit.now value)) _ _ _ _ _ _ c.in-Err-make_edit.fault held
    (any_refused c.args.file _ _ _ _ _ _ _ value c.in-Err-make_edit.fault keeps was held made.edits)
    (any_cause _ _ _ _ _ _ c.args.file _ c.in-Err-make_edit.fault keeps was made.edits)
    (file_edit_may (asked_of c.args.format) c.args.edit.now c.args.file c.args.invocation.now
    (edit_cause c.in-Err-make_edit.fault) c.args.file
    (edit_may (asked_of c.args.format) c.args.file _ _ _ _ _ _ (any_seen c.in-Ok.opened).format c.in-Err-make_edit.fault
    was opened.as_asked made.edits)))))

pub returns-in-Err-clause-carries : goal.returns-in-Err-clause-carries
returns-in-Err-clause-carries g c = λ input out link input_tells out_tells link_tells.
    rw (c.of-in-Err.ensures, c.opening_cause.ensures)
    (not_opened c.args.kind (asked_of c.args.format) c.args.file _ _ _ _ _ _ c.in-Err.fault
    (rw c.as_str.ensures at c.in-Err.ensures.refused) (rw c.as_str.ensures at c.in-Err.ensures.leaves)
    (λ cause may. inr (inl may)))

pub returns-in-Err-write_warnings-clause-named : goal.returns-in-Err-write_warnings-clause-named
returns-in-Err-write_warnings-clause-named g c = λ no.
    absurd (false≢true
    (sym no ∙ skips_warn c.args.edit.now c.in-Ok-make_edit.skipped c.in-Ok-make_edit.ensures.skips
    c.in-Err-write_warnings.ensures.some))

pub returns-in-Err-make_edit-clause-named : goal.returns-in-Err-make_edit-clause-named
returns-in-Err-make_edit-clause-named g c = λ no told.
    let opened = c.in-Ok.ensures in
    let file = c.as_str.ensures in
    let was = opened.fresh ∙ ap (λ (n : List ℕ). fresh_seen n (any_seen c.in-Ok.opened).format) file in
    let view = opened.seen told in
    rw (c.of-in-Err-make_edit.ensures, c.edit_cause.ensures)
    (left_for-read (edit_cause c.in-Err-make_edit.fault) _ _ _ (ap (λ (w : World). w c.args.file) opened.leaves.files)
    (any_left_for c.args.file _ _ _ _ _ _ _ view.0 c.in-Err-make_edit.fault
    (keeps_format c.args.edit.now c.args.invocation.now) was (opened.held told view.0 view.1)
    c.in-Err-make_edit.ensures.edits))

pub returns-in-Err-clause-named : goal.returns-in-Err-clause-named
returns-in-Err-clause-named g c = λ no told. inl (ap (λ (w : World). w c.args.file) c.in-Err.ensures.leaves.files)

pub returns-in-Ok-write_warnings-clause-synced : goal.returns-in-Ok-write_warnings-clause-synced
returns-in-Ok-write_warnings-clause-synced g c = λ told.
    syncs-after_read _ _ _ _ c.in-Ok.ensures.leaves (edits-syncs _ _ _ _ _ c.in-Ok-make_edit.ensures.edits told)

pub returns-in-Err-write_warnings-clause-synced : goal.returns-in-Err-write_warnings-clause-synced
returns-in-Err-write_warnings-clause-synced g c = λ told.
    syncs-less _ _
    (syncs-after_read _ _ _ _ c.in-Ok.ensures.leaves (edits-syncs _ _ _ _ _ c.in-Ok-make_edit.ensures.edits told))

pub returns-in-Err-make_edit-clause-synced : goal.returns-in-Err-make_edit-clause-synced
returns-in-Err-make_edit-clause-synced g c = λ told.
    syncs-after_read _ _ _ _ c.in-Ok.ensures.leaves (edits-syncs _ _ _ _ _ c.in-Err-make_edit.ensures.edits told)

pub returns-in-Err-clause-synced : goal.returns-in-Err-clause-synced
returns-in-Err-clause-synced g c = λ told. syncs-read _ _ _ c.in-Err.ensures.leaves

pub returns-in-Ok-write_warnings-clause-quiet : goal.returns-in-Ok-write_warnings-clause-quiet
returns-in-Ok-write_warnings-clause-quiet g c = λ no.
    c.in-Ok-write_warnings.ensures.quiet
    (skips_quiet c.args.edit.now c.in-Ok-make_edit.skipped c.in-Ok-make_edit.ensures.skips no)

pub returns-in-Err-write_warnings-clause-quiet : goal.returns-in-Err-write_warnings-clause-quiet
returns-in-Err-write_warnings-clause-quiet g c = λ no.
    absurd (false≢true
    (sym no ∙ skips_warn c.args.edit.now c.in-Ok-make_edit.skipped c.in-Ok-make_edit.ensures.skips
    c.in-Err-write_warnings.ensures.some))

pub returns-in-Ok-write_warnings-clause-alone : goal.returns-in-Ok-write_warnings-clause-alone
returns-in-Ok-write_warnings-clause-alone g c =
    let opened = c.in-Ok.ensures in
    let was = opened.fresh ∙ ap (λ (n : List ℕ). fresh_seen n (any_seen c.in-Ok.opened).format) c.as_str.ensures in
    edits_alone-after c.args.file _ _ _ _ opened.leaves
    (edits_alone-edits c.args.file _ _ _ _ _ _ _ _ was c.in-Ok-make_edit.ensures.edits)

pub returns-in-Err-write_warnings-clause-alone : goal.returns-in-Err-write_warnings-clause-alone
returns-in-Err-write_warnings-clause-alone g c =
    let opened = c.in-Ok.ensures in
    let was = opened.fresh ∙ ap (λ (n : List ℕ). fresh_seen n (any_seen c.in-Ok.opened).format) c.as_str.ensures in
    edits_alone-after c.args.file _ _ _ _ opened.leaves
    (edits_alone-edits c.args.file _ _ _ _ _ _ _ _ was c.in-Ok-make_edit.ensures.edits)

pub returns-in-Err-make_edit-clause-alone : goal.returns-in-Err-make_edit-clause-alone
returns-in-Err-make_edit-clause-alone g c =
    let opened = c.in-Ok.ensures in
    let was = opened.fresh ∙ ap (λ (n : List ℕ). fresh_seen n (any_seen c.in-Ok.opened).format) c.as_str.ensures in
    edits_alone-after c.args.file _ _ _ _ opened.leaves
    (edits_alone-edits c.args.file _ _ _ _ _ _ _ _ was c.in-Err-make_edit.ensures.edits)

pub returns-in-Err-clause-alone : goal.returns-in-Err-clause-alone
returns-in-Err-clause-alone g c = edits_alone-read c.args.file _ _ _ c.in-Err.ensures.leaves

pub returns-in-Ok-write_warnings-clause-made : goal.returns-in-Ok-write_warnings-clause-made
returns-in-Ok-write_warnings-clause-made g c = λ told value view busy.
    let opened = c.in-Ok.ensures in
    let name = c.as_str.ensures in
    let was = opened.fresh ∙ ap (λ (n : List ℕ). fresh_seen n (any_seen c.in-Ok.opened).format) name in
    makes_opened c.args.file _ _ _ _ _ _ _ value _ c.in-Ok-make_edit.skipped was opened.leaves.files
    (opened.held told value (rw (sym name) at view)) busy
    c.in-Ok-make_edit.ensures.edits

pub returns-in-Ok-write_warnings-clause-commits : goal.returns-in-Ok-write_warnings-clause-commits
returns-in-Ok-write_warnings-clause-commits g c = λ input datagrams told.
    let opened = c.in-Ok.ensures in
    let name = c.as_str.ensures in
    let was = opened.fresh ∙ ap (λ (n : List ℕ). fresh_seen n (any_seen c.in-Ok.opened).format) name in
    let made = c.in-Ok-make_edit.ensures in
    let view = opened.seen told in
    let alone = edits_alone-after c.args.file _ _ _ _ opened.leaves
    (edits_alone-edits c.args.file _ _ _ _ _ _ _ _ was made.edits) in
    made_committed _ _ c.args.file _ _ _ _ (λ worlds. g.met.S.Store.commits_more worlds _ _)
    (once_behind g.S.Store.commits g.S.Store.commits_on _ _ _ _ _ _ opened.commits made.commits (λ whole. whole))
    (comes_stepped c.args.kind (asked_of c.args.format) c.args.edit.now c.args.file c.args.invocation _ _ _ view.0
    opened.leaves.files (rw name at view.1)
    (made_stepped InPlace c.args.file _ _ _ _ _ _ _ view.0 c.in-Ok-make_edit.skipped
    (keeps_format c.args.edit.now c.args.invocation.now) was told
    (opened.held told view.0 view.1) made.edits))
    alone.others

pub returns-in-Err-write_warnings-clause-commits : goal.returns-in-Err-write_warnings-clause-commits
returns-in-Err-write_warnings-clause-commits g c = λ input datagrams told.
    let opened = c.in-Ok.ensures in
    let name = c.as_str.ensures in
    let was = opened.fresh ∙ ap (λ (n : List ℕ). fresh_seen n (any_seen c.in-Ok.opened).format) name in
    let made = c.in-Ok-make_edit.ensures in
    let view = opened.seen told in
    let alone = edits_alone-after c.args.file _ _ _ _ opened.leaves
    (edits_alone-edits c.args.file _ _ _ _ _ _ _ _ was made.edits) in
    made_committed _ _ c.args.file _ _ _ _ (λ worlds. g.met.S.Store.commits_more worlds _ _)
    (once_behind g.S.Store.commits g.S.Store.commits_on _ _ _ _ _ _ opened.commits made.commits (λ whole. whole))
    (comes_stepped c.args.kind (asked_of c.args.format) c.args.edit.now c.args.file c.args.invocation _ _ _ view.0
    opened.leaves.files (rw name at view.1)
    (made_stepped InPlace c.args.file _ _ _ _ _ _ _ view.0 c.in-Ok-make_edit.skipped
    (keeps_format c.args.edit.now c.args.invocation.now) was told
    (opened.held told view.0 view.1) made.edits))
    alone.others

pub returns-in-Err-make_edit-clause-commits : goal.returns-in-Err-make_edit-clause-commits
returns-in-Err-make_edit-clause-commits g c = λ input datagrams told.
    let opened = c.in-Ok.ensures in
    let name = c.as_str.ensures in
    let was = opened.fresh ∙ ap (λ (n : List ℕ). fresh_seen n (any_seen c.in-Ok.opened).format) name in
    let made = c.in-Err-make_edit.ensures in
    let view = opened.seen told in
    let alone = edits_alone-after c.args.file _ _ _ _ opened.leaves
    (edits_alone-edits c.args.file _ _ _ _ _ _ _ _ was made.edits) in
    refused_committed _ c.args.file _ _ _ _ (λ worlds. g.met.S.Store.commits_more worlds _ _)
    (once_behind g.S.Store.commits g.S.Store.commits_on _ _ _ _ _ _ opened.commits made.commits (λ whole. whole))
    (λ whole. comes_stepped c.args.kind (asked_of c.args.format) c.args.edit.now c.args.file c.args.invocation _ _ _
    view.0 opened.leaves.files (rw name at view.1)
    (refused_stepped InPlace c.args.file _ _ _ _ _ _ _ view.0 c.in-Err-make_edit.fault
    (keeps_format c.args.edit.now c.args.invocation.now) was told
    (opened.held told view.0 view.1) made.edits whole))
    alone.others

pub returns-in-Err-clause-commits : goal.returns-in-Err-clause-commits
returns-in-Err-clause-commits g c = λ input datagrams told.
    read_committed _ c.args.file _ _ _ (λ worlds. g.met.S.Store.commits_more worlds _ _) c.in-Err.ensures.commits
    c.in-Err.ensures.leaves.files
