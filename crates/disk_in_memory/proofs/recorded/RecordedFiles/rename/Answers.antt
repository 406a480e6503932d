use Rattle.std.proofs.Common.{◌≤◌, ℕ, refl, inr, ◌∙◌}
use Rattle.disk.specs.DiskSeen.{ChangesNothing, TakesStep}
use Rattle.disk.specs.DiskCalls.{IsRenamed}
use Rattle.disk_in_memory.specs.Told.{told_of}
use Rattle.disk_in_memory.proofs.ToldLemmas.{on_err_any, told_nothing}
use Rattle.disk.proofs.TakesStepLemmas.{renames_nothing, step_wider}
use Rattle.disk_in_memory.proofs.recorded.RecordedFiles.rename.Goals as goal
use Rattle.disk_in_memory.proofs.recorded.RecordedFiles.rename.Goals.{In_ok-hand_over}

-- the file has its new name in each image
renamed : (c : In_ok-hand_over) (failed later : ℕ) → failed ≤ later
    → TakesStep (IsRenamed c.args.from.now c.args.to.now) (told_of c.args.self.now failed)
    (told_of c.hand_over.new.self later)
renamed c failed later less =
    step_wider _ _ _ _ (λ before after makes. (c.in_ok-call.ensures.left _ before after).0 makes)
    (c.in_ok-hand_over.ensures.ok failed later less)

pub returns-in_err-call-clause-leaves : goal.returns-in_err-call-clause-leaves
returns-in_err-call-clause-leaves c =
    λ failed later less.
    renames_nothing c.args.from.now c.args.to.now _ _ (told_nothing _ _ _ _ _ _ _ _ failed later refl refl refl less)

pub returns-in_err-hand_over-clause-fault : goal.returns-in_err-hand_over-clause-fault
returns-in_err-hand_over-clause-fault c = on_err_any _ c.in_err-hand_over.ensures.err

pub returns-in_err-hand_over-clause-leaves : goal.returns-in_err-hand_over-clause-leaves
returns-in_err-hand_over-clause-leaves c =
    λ failed later less.
    renames_nothing c.args.from.now c.args.to.now _ _ (c.in_err-hand_over.ensures.err failed later less)

pub returns-clause-ok : goal.returns-clause-ok
returns-clause-ok c = c.in_ok-hand_over.ensures.files ∙ c.in_ok-call.ensures.done _

pub returns-clause-done : goal.returns-clause-done
returns-clause-done c = λ failed later less. (renamed c failed later less).follows

pub returns-clause-leaves : goal.returns-clause-leaves
returns-clause-leaves c =
    λ failed later less. step_wider _ _ _ _ (λ before after is. inr is) (renamed c failed later less)

pub returns-in_err-call-clause-fault : goal.returns-in_err-call-clause-fault
returns-in_err-call-clause-fault c =
    let same : (failed later : ℕ) → failed ≤ later
    → ChangesNothing (told_of c.args.self.now failed) (told_of c.args.self.now later) =
    λ failed later less. told_nothing _ _ _ _ _ _ _ _ failed later refl refl refl less in
    on_err_any _ same

pub returns-clause-any : goal.returns-clause-any
returns-clause-any c =
    λ failed later before after left step.
    c.in_ok-hand_over.ensures.any failed later before after left ((c.in_ok-call.ensures.left _ before after).1 step)
