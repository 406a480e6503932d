use Rattle.std.proofs.Common.{◌≡◌, inl, inr, sym, ap, subst, ◌∙◌, false, [], refl}
use Rattle.std.specs.Prelude.{⊤}
use Rattle.std.proofs.lemmas.Result.{on_ok_weaker}
use Rattle.quota_types.specs.declared.file_kind.Format.{Format}
use Rattle.quota_types.specs.declared.file_kind.Kind.{Kind}
use Rattle.opened_file.specs.FileSeen.{FileSeen}
use Rattle.outside.proofs.FrameLemmas.{only_reads-then, syncs-after_read, syncs-read}
use Rattle.quota_map.specs.Asked.{asked_of}
use Rattle.quota_map.specs.AnyFile.{any_seen}
use Rattle.quota_map.specs.View.{IsOpenedAs}
use Rattle.quota_map.proofs.SeenLemmas.{view_kind}
use Rattle.file_commands.specs.Check.{UsageMayRefuse, UsageSteps}
use Rattle.file_commands.specs.FileValue.{value_in}
use Rattle.file_commands.proofs.CheckLemmas.{anew_since, carries_same, not_read_whole}
use Rattle.run_steps.proofs.OpeningLemmas.{not_opened}
use Rattle.run_steps.proofs.PhaseLemmas.{carries_as, carries_opening}
use Rattle.std.specs.Result.{is_ok}
use Rattle.quota_value.specs.QuotaValue.{QuotaValue}
use Rattle.run_steps.specs.Committed.{ComesTo}
use Rattle.run_steps.specs.Done.{Outside}
use Rattle.run_steps.specs.Steps.{Opening}
use Rattle.run_steps.proofs.CommittedLemmas.{comes_opened, looked_committed}
use Rattle.file_commands.proofs.CommittedLemmas.{committed_since}
use Rattle.file_commands.proofs.check.check_opened.Goals as goal

pub returns-in-Ok-read_value-clause-carries : goal.returns-in-Ok-read_value-clause-carries
returns-in-Ok-read_value-clause-carries g c = λ out err link out_tells err_tells link_tells.
    let opened = c.in-Ok.ensures in
    let read = c.in-Ok-read_value.ensures in
    let found = c.in-Ok-read_value.value in
    let file = c.as_str.ensures in
    let as_asked : IsOpenedAs (asked_of c.args.format) found.format =
    subst (λ (f : Format). IsOpenedAs (asked_of c.args.format) f) (sym read.format)
    opened.as_asked in
    carries_opening c.args.file c.args.kind (asked_of c.args.format)
    (UsageSteps c.args.kind c.args.device c.args.from c.args.file c.args.now) _
    (UsageMayRefuse (value_in found) c.args.from c.args.file) _ _ _ (g.S.Store.seen c.read_value.new.store) _ _
    (only_reads-then c.args.file _ _ _ (rw file at opened.leaves)
    (rw (ap (λ (s : FileSeen). s.name) opened.fresh ∙ file) at read.leaves))
    (λ told. rw file at (opened.seen told)) (λ cause said allowed. inr (value_in found, as_asked, read.kept, allowed))
    (λ value view. carries_same c.args.file (UsageSteps c.args.kind c.args.device c.args.from c.args.file c.args.now)
    (value_in found) value
    _ _ _ _ _ _
    (λ told. read.value value (opened.held told value (rw (sym file) at (view told)))
    (view_kind _ c.args.kind (asked_of c.args.format) value (view told)))
    (carries_as _ _ _ _ _ _ _ _
    (ap (λ (k : Kind). UsageSteps k c.args.device c.args.from c.args.file c.args.now (value_in found))
    read.kind)
    (c.check_value.ensures.carries out err link out_tells err_tells link_tells)))

pub returns-in-Ok-read_value-clause-synced : goal.returns-in-Ok-read_value-clause-synced
returns-in-Ok-read_value-clause-synced g c = λ told.
    syncs-after_read _ _ _ _ c.in-Ok.ensures.leaves
    (syncs-after_read _ _ _ _ c.in-Ok-read_value.ensures.leaves (c.check_value.ensures.synced told))

pub returns-in-Err-read_value-clause-synced : goal.returns-in-Err-read_value-clause-synced
returns-in-Err-read_value-clause-synced g c = λ told.
    syncs-after_read _ _ _ _ c.in-Ok.ensures.leaves (syncs-read _ _ _ c.in-Err-read_value.ensures.leaves)

pub returns-in-Err-clause-synced : goal.returns-in-Err-clause-synced
returns-in-Err-clause-synced g c = λ told. syncs-read _ _ _ c.in-Err.ensures.leaves

pub returns-in-Err-read_value-clause-carries : goal.returns-in-Err-read_value-clause-carries
returns-in-Err-read_value-clause-carries g c = λ out err link out_tells err_tells link_tells.
    let opened = c.in-Ok.ensures in
    let read = c.in-Err-read_value.ensures in
    let file = c.as_str.ensures in
    rw (c.of.ensures, c.file_cause.ensures)
    (not_read_whole c.args.kind (asked_of c.args.format) c.args.file
    (UsageSteps c.args.kind c.args.device c.args.from c.args.file c.args.now) _ _ _ _
    _
    (any_seen c.in-Ok.opened).format _ _ c.in-Err-read_value.fault opened.as_asked
    (only_reads-then c.args.file _ _ _ (rw file at opened.leaves)
    (rw (ap (λ (s : FileSeen). s.name) opened.fresh ∙ file) at read.leaves))
    opened.leaves.later
    (λ told none. let good = opened.seen told in none good.0 (opened.held told good.0 good.1))
    read.refused read.may (λ cause may. inl may))

pub returns-in-Err-clause-carries : goal.returns-in-Err-clause-carries
returns-in-Err-clause-carries g c = λ out err link out_tells err_tells link_tells.
    rw (c.of-in-Err.ensures, c.opening_cause.ensures)
    (not_opened c.args.kind (asked_of c.args.format) c.args.file
    (UsageSteps c.args.kind c.args.device c.args.from c.args.file c.args.now) _ _ _ _ _
    c.in-Err.fault
    (rw c.as_str.ensures at c.in-Err.ensures.refused) (rw c.as_str.ensures at c.in-Err.ensures.leaves)
    (λ cause may. inl may))

pub returns-in-Ok-read_value-clause-anew : goal.returns-in-Ok-read_value-clause-anew
returns-in-Ok-read_value-clause-anew g c =
    let opened = c.in-Ok.ensures in
    let read = c.in-Ok-read_value.ensures in
    let file = c.as_str.ensures in
    on_ok_weaker c.check_value.result
    (λ anew told.
    anew_since c.in-Ok-read_value.value.kind c.args.kind (λ (f : Format). f ≡ c.in-Ok-read_value.value.format)
    (IsOpenedAs (asked_of c.args.format)) c.args.file c.args.file _ _ (g.S.Store.seen c.check_value.new.store)
    (only_reads-then c.args.file _ _ _ (rw file at opened.leaves)
    (rw (ap (λ (s : FileSeen). s.name) opened.fresh ∙ file) at read.leaves))
    read.kind
    (λ f is. subst (λ (g : Format). IsOpenedAs (asked_of c.args.format) g) (sym (is ∙ read.format)) opened.as_asked)
    (anew told))
    c.check_value.ensures.anew

pub returns-in-Ok-read_value-clause-commits : goal.returns-in-Ok-read_value-clause-commits
returns-in-Ok-read_value-clause-commits g c = λ datagrams told input_told.
    let S = g.S.Store in
    let opened = c.in-Ok.ensures in
    let read = c.in-Ok-read_value.ensures in
    let found = c.in-Ok-read_value.value in
    let file = c.as_str.ensures in
    let left = (g.I.Source.seen c.args.input.now).left in
    let old : Outside = record { files = (S.seen c.args.store.now).files; input = left; datagrams = datagrams } in
    let next = UsageSteps c.args.kind c.args.device c.args.from c.args.file c.args.now in
    let value = (rw file at (opened.seen told)).0 in
    let view = (rw file at (opened.seen told)).1 in
    let is : value_in found ≡ value = read.value value (opened.held told value (rw (sym file) at view))
    (view_kind _ c.args.kind (asked_of c.args.format) value view) in
    committed_since (is_ok c.check_value.result)
    (UsageSteps found.kind c.args.device c.args.from c.args.file c.args.now (value_in found))
    (Opening c.args.kind (asked_of c.args.format) c.args.file next) c.args.file
    (record { files = (S.seen c.read_value.new.store).files; input = left; datagrams = datagrams }) old _ _ _
    (read.leaves.files ∙ opened.leaves.files)
    (λ worlds. g.met.S.Store.commits_behind_none worlds _ _ _
    (g.met.S.Store.commits_behind_none [] _ _ _ opened.commits read.commits))
    (λ world to. comes_opened c.args.kind (asked_of c.args.format) c.args.file next old value world view
    (subst (λ (v : QuotaValue). ComesTo (next v) old world) is
    (subst (λ (k : Kind).
    ComesTo (UsageSteps k c.args.device c.args.from c.args.file c.args.now (value_in found)) old world) read.kind to)))
    (c.check_value.ensures.commits datagrams told input_told)

pub returns-in-Err-read_value-clause-commits : goal.returns-in-Err-read_value-clause-commits
returns-in-Err-read_value-clause-commits g c = λ datagrams told input_told.
    let S = g.S.Store in
    looked_committed ⊤ false _ _ _ _ _ (λ worlds. g.met.S.Store.commits_more worlds _ _)
    (g.met.S.Store.commits_behind_none [] _ _ _ c.in-Ok.ensures.commits c.in-Err-read_value.ensures.commits)
    (c.in-Err-read_value.ensures.leaves.files ∙ c.in-Ok.ensures.leaves.files) (λ other differ differs. refl)

pub returns-in-Err-clause-commits : goal.returns-in-Err-clause-commits
returns-in-Err-clause-commits g c = λ datagrams told input_told.
    looked_committed ⊤ false _ _ _ _ _ (λ worlds. g.met.S.Store.commits_more worlds _ _) c.in-Err.ensures.commits
    c.in-Err.ensures.leaves.files (λ other differ differs. refl)
