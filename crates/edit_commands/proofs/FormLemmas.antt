-- Forms: why one was not read, and which limits it asks for.
use Rattle.std.proofs.Common.{◌≡◌, ℕ, Bool, IsTrue, List, Result, sym, ap, subst}
use Rattle.outside.specs.Count.{Rose}
use Rattle.input_text.specs.declared.line_reader.LineFault.TheVariants.{Source}
use Rattle.set_edit.specs.FormFaults.{IsFormFault}
use Rattle.set_edit.specs.declared.form_reading.FormFault.{FormFault}
use Rattle.set_edit.specs.declared.form_reading.FormFault.TheVariants.{Lines}
use Rattle.set_edit.specs.declared.limits.Limits.{Limits as FourLimits}
use Rattle.refusals.specs.declared.cause.Cause.TheVariants.{StoreFault}
use Rattle.refusals.specs.declared.reason.Refusal.{Refusal}
use Rattle.run_steps.specs.Causes.{IsInputFault}
use Rattle.edit_commands.specs.Apply.{form_cause, form_outcome}
use Rattle.refusals.specs.Refusals.{refusal_of}

-- a form in a file that gave no limits
pub form_unread_of : (name : List ℕ) (read : Result FourLimits FormFault) (before now : ℕ) (tells : Bool)
    (fault : FormFault) → IsFormFault before now tells read fault
    → IsInputFault (Rose before now) ⊥ (IsTrue tells) (form_outcome name read)
    (refusal_of (form_cause StoreFault fault) name) (form_cause StoreFault fault)
form_unread_of name read before now tells (Lines Source) is = is
form_unread_of name read before now tells _ is = λ told. ap (form_outcome name) (is told)

-- why a form was not read, by the refusal that says so
pub form_unread_at : (name : List ℕ) (read : Result FourLimits FormFault) (before now : ℕ) (tells : Bool)
    (fault : FormFault) (refusal : Refusal) → IsFormFault before now tells read fault
    → refusal ≡ refusal_of (form_cause StoreFault fault) name
    → IsInputFault (Rose before now) ⊥ (IsTrue tells) (form_outcome name read) refusal refusal.cause
form_unread_at name read before now tells fault refusal is same =
    subst (λ (r : Refusal). IsInputFault (Rose before now) ⊥ (IsTrue tells) (form_outcome name read) r r.cause)
    (sym same) (form_unread_of name read before now tells fault is)
