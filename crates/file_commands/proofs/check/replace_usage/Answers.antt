use Rattle.std.proofs.Common.{ap, inr, sym, false, [], refl, subst}
use Rattle.std.specs.Prelude.{Result, ⊤}
use Rattle.outside.proofs.FrameLemmas.{syncs-none}
use Rattle.quota_types.specs.declared.field.NoRoom.{NoRoom}
use Rattle.quota_value.specs.QuotaValue.{QuotaValue}
use Rattle.file_commands.specs.Check.{ReplaceSteps, with_applied}
use Rattle.file_commands.specs.FileValue.{value_in}
use Rattle.file_commands.proofs.CheckLemmas.{ReplacingMayRefuse, apply_refused}
use Rattle.run_steps.proofs.PhaseLemmas.{carries_as, carries_more}
use Rattle.std.specs.Result.{is_ok}
use Rattle.outside.specs.Replacement.{ReplacesOnly}
use Rattle.run_steps.specs.Committed.{CommitsSteps}
use Rattle.run_steps.specs.Done.{Outside}
use Rattle.run_steps.proofs.CommittedLemmas.{looked_committed}
use Rattle.file_commands.proofs.check.replace_usage.Goals as goal

pub returns-in-Ok-clause-carries : goal.returns-in-Ok-clause-carries
returns-in-Ok-clause-carries g c = λ input out err link input_tells out_tells err_tells link_tells.
    carries_as _ _ _ _ _ _ _ _
    (ap (λ (r : Result QuotaValue NoRoom). ReplaceSteps c.args.file r)
    (sym (ap (with_applied (value_in c.args.value)) (rw c.as_slice.ensures.value at c.in-Ok.ensures.applied))))
    (carries_more _ _ _ (ReplacingMayRefuse (value_in c.args.value) c.args.file) _ _ _ c.write_value.result
    (λ cause said may. inr may)
    (c.write_value.ensures.carries input out err link input_tells out_tells err_tells link_tells))

pub returns-clause-carries : goal.returns-clause-carries
returns-clause-carries g c = λ input out err link input_tells out_tells err_tells link_tells.
    rw (c.of.ensures, c.apply_cause.ensures)
    (apply_refused c.args.file (value_in c.args.value) c.args.usage c.args.now c.in-Err.fault _ _
    (rw c.as_slice.ensures.value at c.in-Err.ensures.refused))

pub returns-clause-synced : goal.returns-clause-synced
returns-clause-synced g c = λ told. syncs-none _

pub returns-in-Ok-clause-commits : goal.returns-in-Ok-clause-commits
returns-in-Ok-clause-commits g c = λ input datagrams told.
    let S = g.S.Store in
    let old : Outside = record { files = (S.seen c.args.store.now).files; input = input; datagrams = datagrams } in
    subst (λ (r : Result QuotaValue NoRoom).
    CommitsSteps ⊤ (is_ok c.write_value.result) (ReplaceSteps c.args.file r) (ReplacesOnly c.args.file old.files) old
    (S.seen c.write_value.new.store).files (λ worlds. S.commits worlds c.args.store.now c.write_value.new.store))
    (sym (ap (with_applied (value_in c.args.value)) (rw c.as_slice.ensures.value at c.in-Ok.ensures.applied)))
    (c.write_value.ensures.commits input datagrams told)

pub returns-clause-commits : goal.returns-clause-commits
returns-clause-commits g c = λ input datagrams told.
    looked_committed ⊤ false _ _ _ _ _ (λ worlds. g.met.S.Store.commits_more worlds _ _)
    (g.S.Store.commits_nothing [] _) refl (λ other differ differs. refl)
