-- Where there was not enough memory nothing was written.
use Rattle.std.proofs.Common.{◌≢◌, ℕ, List, Ok, Err, Result, subst, ◌∙◌}
use Rattle.std.specs.Prelude.{IfErr, IfSome}
use Rattle.id_names.specs.NamesFile.{NameLine}
use Rattle.opened_file.specs.QuotaFile.{WantsNoMemory}
use Rattle.outside.specs.Seen.{StoreSeen}
use Rattle.opened_file.specs.declared.quota_file.FileFault.TheVariants.{Store, Damage, Full, Memory as NoMemory}
use Rattle.set_edit.specs.EditFault.{file_fault}
use Rattle.set_edit.specs.declared.edit_fault.EditFault.{EditFault}
use Rattle.set_edit.specs.declared.edit_fault.EditFault.TheVariants.{File, NoRoom as Unfit}
use Rattle.refusals.specs.declared.cause.Cause.{Cause}
use Rattle.refusals.specs.declared.cause.Cause.TheVariants.{Memory}
use Rattle.refusals.specs.declared.reason.Refusal.{Refusal}
use Rattle.run_steps.specs.Done.{IsUnwritten}
use Rattle.edit_steps.specs.EditStep.{edit_cause}
use Rattle.batch_commands.specs.Batch.{LineMayRefuse}
use Rattle.batch_commands.specs.Together.{IfWanting}

-- an edit in place is not refused for lack of memory
pub wants_none : (fault : EditFault) → IfSome (file_fault fault) WantsNoMemory → edit_cause fault ≢ Memory
wants_none (File Store) wants is = cc
wants_none (File (Damage damage)) wants is = cc
wants_none (File (Full blocks limit)) wants is = cc
wants_none (File NoMemory) wants is = absurd wants
wants_none (Unfit out) wants is = cc

-- what was not refused for lack of memory
pub wanting_never : (result : Result (Unit {0}) Refusal) (fact : Type 0)
    → IfErr result (λ (refusal : Refusal). refusal.cause ≢ Memory) → IfWanting fact result
wanting_never (Ok passed) fact none = tt
wanting_never (Err refusal) fact none = λ is. absurd (none is)

-- nothing was written, and then again nothing
pub unwritten_both : (old middle new : StoreSeen) → IsUnwritten old middle → IsUnwritten middle new
    → IsUnwritten old new
unwritten_both old middle new first then =
    record { files = then.files ∙ first.files; writes = then.writes ∙ first.writes }

-- nothing was written before either
pub wanting_since : (result : Result (Unit {0}) Refusal) (old middle new : StoreSeen) → IsUnwritten old middle
    → IfWanting (IsUnwritten middle new) result → IfWanting (IsUnwritten old new) result
wanting_since (Ok passed) old middle new first wanting = tt
wanting_since (Err refusal) old middle new first wanting = λ is. unwritten_both old middle new first (wanting is)

-- a line is not refused for lack of memory
pub line_wants : (names : List NameLine) (place : List ℕ) (cause : Cause) (said : List ℕ)
    → LineMayRefuse names place cause said → cause ≢ Memory
line_wants names place cause said may is = subst (λ (c : Cause). LineMayRefuse names place c said) is may
