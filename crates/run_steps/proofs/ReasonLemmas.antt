-- Reasons for which a command is refused.
use Rattle.std.proofs.Common.{◌⊎◌, ◌≤◌, Bool, IsTrue, inl, inr, arith}
use Rattle.outside.specs.Count.{Rose}
use Rattle.outside.specs.Seen.{SourceSeen, StoreSeen}
use Rattle.refusals.specs.declared.cause.Cause.{Cause}
use Rattle.refusals.specs.declared.cause.Cause.TheVariants.{StoreFault, SourceFault, SinkFault, LinkFault}
use Rattle.refusals.specs.Status.{group_of}
use Rattle.refusals.proofs.GroupLemmas.{by_group}
use Rattle.run_steps.specs.Done.{IsLater, RunSeen}
use Rattle.run_steps.specs.Run.{HasFailed, HasReason, Uses}
use Rattle.run_steps.proofs.OpeningLemmas.{with_input, with_store}

-- a reason does not rest on what is stated of other causes
pub reason_but_stated : (uses : Uses) (old new : RunSeen) (stated stated' : Type 0) (cause : Cause) → (stated → stated')
    → HasReason uses old new stated cause → HasReason uses old new stated' cause
reason_but_stated uses old new stated stated' cause so reason =
    by_group (group_of cause) _ _ stated stated' (λ failed. failed) so reason

sink_failed : (warns : Bool) (old middle new : RunSeen) → IsLater old middle
    → Rose middle.out.faults new.out.faults ⊎ (IsTrue warns × Rose middle.err.faults new.err.faults)
    → Rose old.out.faults new.out.faults ⊎ (IsTrue warns × Rose old.err.faults new.err.faults)
sink_failed warns old middle new later (inl failed) = inl (omega (arith, later.out, failed))
sink_failed warns old middle new later (inr failed) = inr (failed.0, omega (arith, later.err, failed.1))

-- what failed since a later moment failed since an earlier one
failed_before : (warns link : Bool) (old middle new : RunSeen) (cause : Cause) → IsLater old middle
    → HasFailed warns link middle new cause → HasFailed warns link old new cause
failed_before warns link old middle new StoreFault later failed = omega (arith, later.store, failed)
failed_before warns link old middle new SourceFault later failed = omega (arith, later.input, failed)
failed_before warns link old middle new SinkFault later failed = sink_failed warns old middle new later failed
failed_before warns link old middle new LinkFault later failed = (failed.0, omega (arith, later.link, failed.1))
failed_before warns link old middle new _ later failed = absurd failed

-- a reason since a later moment is one since an earlier one
pub reason_before : (uses : Uses) (old middle new : RunSeen) (stated stated' : Type 0) (cause : Cause)
    → IsLater old middle → (stated → stated') → HasReason uses middle new stated cause
    → HasReason uses old new stated' cause
reason_before uses old middle new stated stated' cause later so reason =
    by_group (group_of cause) _ _ stated stated'
    (failed_before uses.warns uses.link old middle new cause later) so reason

-- so where nothing but the store and the input may have failed meanwhile
pub reason_since : (uses : Uses) (old new : RunSeen) (store : StoreSeen) (input : SourceSeen) (stated stated' : Type 0)
    (cause : Cause) → old.store.faults ≤ store.faults → old.input.faults ≤ input.faults → (stated → stated')
    → HasReason uses (with_input (with_store old store) input) new stated cause → HasReason uses old new stated' cause
reason_since uses old new store input stated stated' cause le taken so reason =
    reason_before uses old (with_input (with_store old store) input) new stated stated' cause
    (record { store = le; input = taken; out = omega arith; err = omega arith; link = omega arith }) so reason
