use Rattle.std.proofs.Common.{inr, refl, sym, false, [], subst}
use Rattle.std.specs.Prelude.{⊤}
use Rattle.outside.proofs.FrameLemmas.{syncs-none}
use Rattle.refusals.specs.declared.cause.Cause.TheVariants.{Memory}
use Rattle.refusals.specs.Refusals.{refusal_of}
use Rattle.run_steps.proofs.PhaseLemmas.{carries_as, memory_no_output, nothing_carried}
use Rattle.file_commands.specs.Generate.{generate_uses}
use Rattle.std.specs.Result.{is_ok}
use Rattle.outside.specs.Replacement.{ReplacesOnly}
use Rattle.run_steps.specs.Committed.{CommitsSteps}
use Rattle.run_steps.specs.Done.{Outside}
use Rattle.run_steps.specs.Steps.{Steps}
use Rattle.run_steps.proofs.CommittedLemmas.{looked_committed}
use Rattle.file_commands.proofs.generate.generate_file.Goals as goal

pub returns-in-Ok-clause-carries : goal.returns-in-Ok-clause-carries
returns-in-Ok-clause-carries g c = λ input err link input_tells err_tells link_tells.
    carries_as _ _ _ _ _ _ _ _ (sym (c.in-Ok.ensures.steps c.args.file))
    (c.write_made.ensures.carries input err link input_tells err_tells link_tells)

pub returns-in-Err-clause-carries : goal.returns-in-Err-clause-carries
returns-in-Err-clause-carries g c = λ input err link input_tells err_tells link_tells.
    rw (c.of.ensures, c.in-Err.ensures.refused)
    (nothing_carried _ generate_uses _ _ _ (refusal_of Memory c.args.file) memory_no_output tt (inr tt)
    (record { line = λ no. refl; input_line = λ no. refl }))

pub returns-in-Err-clause-synced : goal.returns-in-Err-clause-synced
returns-in-Err-clause-synced g c = λ told. syncs-none _

pub returns-in-Ok-clause-commits : goal.returns-in-Ok-clause-commits
returns-in-Ok-clause-commits g c = λ input datagrams told.
    let S = g.S.Store in
    let old : Outside = record { files = (S.seen c.args.store.now).files; input = input; datagrams = datagrams } in
    subst (λ (steps : Steps). CommitsSteps ⊤ (is_ok c.write_made.result) steps (ReplacesOnly c.args.file old.files) old
    (S.seen c.write_made.new.store).files
    (λ worlds. S.commits worlds c.args.store.now c.write_made.new.store))
    (sym (c.in-Ok.ensures.steps c.args.file)) (c.write_made.ensures.commits input datagrams told)

pub returns-in-Err-clause-commits : goal.returns-in-Err-clause-commits
returns-in-Err-clause-commits g c = λ input datagrams told.
    looked_committed ⊤ false _ _ _ _ _ (λ worlds. g.met.S.Store.commits_more worlds _ _)
    (g.S.Store.commits_nothing [] _) refl (λ other differ differs. refl)
