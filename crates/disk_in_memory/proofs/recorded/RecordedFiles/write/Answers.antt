use Rattle.std.proofs.Common.{length, refl, ◌≤◌, ℕ, ◌∙◌}
use Rattle.disk.specs.DiskSeen.{ChangesNothing}
use Rattle.disk_in_memory.specs.Told.{told_of}
use Rattle.disk_in_memory.proofs.ToldLemmas.{on_err_any, told_nothing}
use Rattle.disk.proofs.TakesStepLemmas.{step_wider, tears_nothing}
use Rattle.disk_in_memory.proofs.recorded.RecordedFiles.write.Goals as goal

pub returns-in_err-call-clause-leaves : goal.returns-in_err-call-clause-leaves
returns-in_err-call-clause-leaves c =
    λ failed later less. tears_nothing c.args.name.now c.args.at (length c.args.bytes.now) _ _
    (told_nothing _ _ _ _ _ _ _ _ failed later refl refl refl less)

pub returns-in_err-change-clause-fault : goal.returns-in_err-change-clause-fault
returns-in_err-change-clause-fault c = on_err_any _ c.in_err-change.ensures.err

pub returns-in_err-change-clause-leaves : goal.returns-in_err-change-clause-leaves
returns-in_err-change-clause-leaves c =
    λ failed later less. tears_nothing c.args.name.now c.args.at (length c.args.bytes.now) _ _
    (c.in_err-change.ensures.err failed later less)

pub returns-clause-ok : goal.returns-clause-ok
returns-clause-ok c = c.in_ok-change.ensures.files ∙ c.in_ok-call.ensures.done _

pub returns-clause-leaves : goal.returns-clause-leaves
returns-clause-leaves c =
    λ failed later less. step_wider _ _ _ _ (λ before after makes. (c.in_ok-call.ensures.left _ before after).0 makes)
    (c.in_ok-change.ensures.ok failed later less)

pub returns-in_err-call-clause-fault : goal.returns-in_err-call-clause-fault
returns-in_err-call-clause-fault c =
    let same : (failed later : ℕ) → failed ≤ later
    → ChangesNothing (told_of c.args.self.now failed) (told_of c.args.self.now later) =
    λ failed later less. told_nothing _ _ _ _ _ _ _ _ failed later refl refl refl less in
    on_err_any _ same

pub returns-clause-any : goal.returns-clause-any
returns-clause-any c =
    λ failed later before after left step.
    c.in_ok-change.ensures.any failed later before after left ((c.in_ok-call.ensures.left _ before after).1 step)
