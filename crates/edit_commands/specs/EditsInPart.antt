-- What holds where an edit, or what it says, was done in part.
use Rattle.std.specs.Prelude.{◌≡◌, ◌⊎◌, ℕ, List, ◌∷◌, ◌++◌, Option, Result, Ok, Err, ⊤}
use Rattle.std.specs.List.{concat}
use Rattle.quota_value.specs.QuotaValue.{QuotaValue}
use Rattle.outside.specs.Text.{AppendsPrefix}
use Rattle.set_edit.specs.declared.edit_fault.EditFault.{EditFault}
use Rattle.set_edit.specs.declared.skipped.Skipped.{Skipped}
use Rattle.refusals.specs.declared.cause.Cause.{Cause}
use Rattle.refusals.specs.Status.{status_of}
use Rattle.run_steps.specs.Act.{MayBeLeft}
use Rattle.edit_commands.specs.EditWords.{skips_none}
use Rattle.edit_commands.specs.declared.edit.FileEdit.{FileEdit}
use Rattle.edit_commands.specs.declared.edit.FileEdit.TheVariants.{Times}

-- Lines were said up to one of them, of which a prefix may have been said too.
pub record IsSaidInPart (lines : List (List ℕ)) (old new : List ℕ) : Type 0 where
  pub said : List (List ℕ)
  pub unsaid : List (List ℕ)
  pub whole : lines ≡ said ++ unsaid
  pub line : List ℕ
  pub more : List (List ℕ)
  pub next : unsaid ≡ line ∷ more
  pub written : AppendsPrefix (old ++ concat said) new line

-- What holds of a file whose edit was refused for this cause: it is as it was, or, where something outside failed, what
-- an edit of it to some value that failed may leave.
abbrev pub IsLeftFor : Cause → (old left : Option (List ℕ)) → Type 0
IsLeftFor cause old left = (left ≡ old) ⊎ ((status_of cause ≡ 4) × ((value : QuotaValue) × MayBeLeft value old left))

-- the answer of an edit that skips no time
abbrev pub unskipped : Result (Unit {0}) EditFault → Result Skipped EditFault
unskipped (Ok done) = Ok skips_none
unskipped (Err fault) = Err fault

-- times that an edit may skip, whatever is told: only one that sets times skips some
abbrev pub MaySkip : FileEdit → Skipped → Type 0
MaySkip (Times id block inode) skipped = ⊤
MaySkip _ skipped = skipped ≡ skips_none
