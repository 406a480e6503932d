use Rattle.std.proofs.Common.{inl, inr}
use Rattle.outside.proofs.FrameLemmas.{syncs-after_read, syncs-read}
use Rattle.run_steps.proofs.PhaseLemmas.{carries_naming, naming_refused}
use Rattle.file_commands.proofs.report.report_file.Goals as goal

pub returns-in-Ok-clause-carries : goal.returns-in-Ok-clause-carries
returns-in-Ok-clause-carries g c = λ input err link input_tells err_tells link_tells line.
    let read = c.in-Ok.ensures in
    carries_naming _ c.args.common.kind c.args.common.names c.in-Ok.names _ _ _ _ _ _ _ _ _ read.leaves read.read
    (λ cause said may. inr may)
    (c.report_opened.ensures.carries input err link input_tells err_tells link_tells)

pub returns-in-Err-clause-carries : goal.returns-in-Err-clause-carries
returns-in-Err-clause-carries g c = λ input err link input_tells err_tells link_tells line.
    let read = c.in-Err.ensures in
    naming_refused c.args.common.kind c.args.common.names _ _ _ _ _ _ _ read.leaves read.refused read.may
    (λ may. inl may) read.placed

pub returns-in-Ok-clause-synced : goal.returns-in-Ok-clause-synced
returns-in-Ok-clause-synced g c = syncs-after_read _ _ _ _ c.in-Ok.ensures.leaves c.report_opened.ensures.synced

pub returns-in-Err-clause-synced : goal.returns-in-Err-clause-synced
returns-in-Err-clause-synced g c = syncs-read _ _ _ c.in-Err.ensures.leaves
