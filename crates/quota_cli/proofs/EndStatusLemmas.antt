-- What follows from the status with which a run ends.
use Rattle.std.proofs.Common.{◌≡◌, ◌≢◌, ℕ, List, Option, None, Some, Ok, Err}
use Rattle.std.proofs.Common.{Result, ◌⊎◌, inl, inr, refl, sym, subst, ◌∙◌, arith}
use Rattle.std.specs.Prelude.{◌↔◌, IfErr, IfSome, IsErrAnd, OnErr, OnOk, is_ok}
use Rattle.std.specs.Result.{result_err}
use Rattle.outside.specs.Count.{Rose}
use Rattle.outside.specs.Frame.{AreSynced}
use Rattle.outside.specs.ManyCalls.{Syncs}
use Rattle.outside.specs.Seen.{StoreSeen}
use Rattle.refusals.specs.declared.cause.Cause.{Cause}
use Rattle.refusals.specs.declared.cause.Cause.TheVariants.{Memory}
use Rattle.refusals.specs.declared.reason.Refusal.{Refusal}
use Rattle.refusals.specs.Status.{end_status, group_of, status_of}
use Rattle.refusals.proofs.GroupLemmas.{status_in-some}

zero_not_2 : (status : ℕ) → status ≡ 0 → status ≡ 2 → ⊥
zero_not_2 status is two = omega (arith, is, two)

-- no refusal has status 0
pub no_status_0 : (cause : Cause) → status_of cause ≡ 0 → ⊥
no_status_0 cause is = status_in-some (group_of cause) is

-- status 2 is that of a refusal with status 2
pub status_2 : (result : Result (Unit {0}) Refusal) (status : ℕ) → status ≡ end_status (result_err result)
    → (status ≡ 2) ↔ IsErrAnd result (λ (refusal : Refusal). status_of refusal.cause ≡ 2)
status_2 (Ok value) status is = (λ two. absurd (zero_not_2 status is two), λ none. absurd none)
status_2 (Err refusal) status is = (λ two. sym is ∙ two, λ two. is ∙ two)

-- a file that is replaced as a whole stays with every status but 0
pub run_named : (replaced : Option (List ℕ)) (same : List ℕ → Type 0) (result : Result (Unit {0}) Refusal) (status : ℕ)
    → status ≡ end_status (result_err result)
    → IfSome replaced (λ (file : List ℕ). OnErr result (same file))
    → IfSome replaced (λ (file : List ℕ). status ≢ 0 → same file)
run_named None same result status is kept = tt
run_named (Some file) same (Ok value) status is kept = λ other. absurd (other is)
run_named (Some file) same (Err refusal) status is kept = λ other. kept

-- a file that is edited is left so by the status with which the run ends
pub run_edited : (edited : Option (List ℕ)) (left : ℕ → List ℕ → Type 0)
    (result : Result (Unit {0}) Refusal) (status : ℕ)
    → status ≡ end_status (result_err result)
    → ((file : List ℕ) → left 0 file)
    → IfSome edited (λ (file : List ℕ). IfErr result (λ (refusal : Refusal). left (status_of refusal.cause) file))
    → IfSome edited (left status)
run_edited None left result status is done kept = tt
run_edited (Some file) left (Ok value) status is done kept = subst (λ (s : ℕ). left s file) (sym is) (done file)
run_edited (Some file) left (Err refusal) status is done kept = subst (λ (s : ℕ). left s file) (sym is) kept

-- a cause with status 5 is lack of memory
memory_alone : (cause : Cause) → status_of cause ≡ 5 → cause ≡ Memory
memory_alone Memory five = refl
memory_alone _ five = absurd (omega (arith, five))

-- what holds where there was not enough memory holds with status 5
pub run_wanting : (holds : Type 0) (result : Result (Unit {0}) Refusal) (status : ℕ)
    → status ≡ end_status (result_err result)
    → IfErr result (λ (refusal : Refusal). refusal.cause ≡ Memory → holds) → status ≡ 5 → holds
run_wanting holds (Ok value) status is kept five = absurd (omega (arith, is, five))
run_wanting holds (Err refusal) status is kept five = kept (memory_alone refusal.cause (sym is ∙ five))

-- what holds where it was done holds with status 0
pub run_held : (holds : Type 0) (result : Result (Unit {0}) Refusal) (status : ℕ)
    → status ≡ end_status (result_err result)
    → OnOk result holds → status ≡ 0 → holds
run_held holds (Ok value) status is done = λ zero. done
run_held holds (Err refusal) status is done = λ zero. absurd (no_status_0 refusal.cause (sym is ∙ zero))

-- what was written has been synced with status 0, and with any other one where no call on the store failed
pub run_synced : (result : Result (Unit {0}) Refusal) (status : ℕ) (old new : StoreSeen)
    → status ≡ end_status (result_err result) → Syncs (is_ok result) old new
    → (status ≡ 0) ⊎ (¬ (Rose old.faults new.faults)) → AreSynced old new
run_synced (Ok value) status old new is syncs so = syncs.synced (inl refl)
run_synced (Err refusal) status old new is syncs (inl zero) = absurd (no_status_0 refusal.cause (sym is ∙ zero))
run_synced (Err refusal) status old new is syncs (inr none) = syncs.synced (inr none)

-- what holds with a refusal of status 5 holds with that status
pub run_untaken : (same : Type 0) (result : Result (Unit {0}) Refusal) (status : ℕ)
    → status ≡ end_status (result_err result)
    → IfErr result (λ (refusal : Refusal). status_of refusal.cause ≡ 5 → same) → status ≡ 5 → same
run_untaken same (Ok value) status is kept five = absurd (omega (arith, is, five))
run_untaken same (Err refusal) status is kept five = kept (sym is ∙ five)
