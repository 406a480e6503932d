use Rattle.std.proofs.Common.{◌^◌, ◌<◌, ◌≤◌, ap, subst, ◌∙◌, refl, arith}
use Rattle.quota_value.specs.Listed.{records_of}
use Rattle.quota_value.specs.QuotaValue.{QuotaValue}
use Rattle.outside.specs.Seen.{SourceSeen}
use Rattle.quota_map.specs.View.{most_blocks}
use Rattle.inode_scan.specs.GeneratedLeft.{generated_left}
use Rattle.quota_map.specs.Size.{blocks_of}
use Rattle.refusals.specs.declared.cause.Cause.TheVariants.{SourceFault}
use Rattle.file_commands.specs.FileValue.{value_in}
use Rattle.file_commands.specs.Causes.{WrittenSteps}
use Rattle.file_commands.proofs.GenerateStepLemmas.{apply_memory, scan_memory, steps_of, usage_is, value_made}
use Rattle.file_commands.proofs.GeneratedValueLemmas.{few-generated}
use Rattle.file_commands.proofs.generate.generated_value.Goals as goal

pub returns-in-Ok-apply-clause-steps : goal.returns-in-Ok-apply-clause-steps
returns-in-Ok-apply-clause-steps c = λ file.
    let fits : c.args.count < 2 ^ 32 = omega arith in
    let left = ap (λ (s : SourceSeen). s.left) c.new.ensures in
    steps_of c.args.seed c.args.count c.args.now file fits
    ∙ ap (WrittenSteps c.args.count file c.args.now)
    (value_made c.args.seed c.args.count c.args.now (value_in c.new-value.result)
    (records_of c.in-Ok-apply.entries.items) c.in-Ok.usage (generated_left c.new.result)
    fits left (c.in-Ok.ensures.usage refl) c.new-value.ensures.value
    (rw c.as_slice.ensures.value at c.in-Ok-apply.ensures.applied))

pub returns-in-Ok-apply-clause-few : goal.returns-in-Ok-apply-clause-few
returns-in-Ok-apply-clause-few c =
    let fits : c.args.count < 2 ^ 32 = omega arith in
    let left = ap (λ (s : SourceSeen). s.left) c.new.ensures in
    subst (λ (v : QuotaValue). blocks_of v ≤ most_blocks)
    (value_made c.args.seed c.args.count c.args.now (value_in c.new-value.result)
    (records_of c.in-Ok-apply.entries.items) c.in-Ok.usage (generated_left c.new.result)
    fits left (c.in-Ok.ensures.usage refl) c.new-value.ensures.value
    (rw c.as_slice.ensures.value at c.in-Ok-apply.ensures.applied))
    (few-generated c.args.seed c.args.count c.args.now fits)

pub returns-in-Err-apply-clause-refused : goal.returns-in-Err-apply-clause-refused
returns-in-Err-apply-clause-refused c =
    let fits : c.args.count < 2 ^ 32 = omega arith in
    let left = ap (λ (s : SourceSeen). s.left) c.new.ensures in
    c.apply_cause.ensures
    ∙ apply_memory c.args.seed c.args.count c.args.now (value_in c.new-value.result) c.in-Ok.usage c.in-Err-apply.fault
    fits c.new-value.ensures.value
    (usage_is c.args.seed c.args.count (generated_left c.new.result) c.in-Ok.usage fits left
    (c.in-Ok.ensures.usage refl))
    (rw c.as_slice.ensures.value at c.in-Err-apply.ensures.refused)

pub returns-in-Err-clause-refused : goal.returns-in-Err-clause-refused
returns-in-Err-clause-refused c =
    let fits : c.args.count < 2 ^ 32 = omega arith in
    let left = ap (λ (s : SourceSeen). s.left) c.new.ensures in
    c.scan_cause.ensures
    ∙ scan_memory 0 SourceFault (generated_left c.new.result) c.args.seed c.args.count c.in-Err.fault fits left
    c.in-Err.ensures.refused
