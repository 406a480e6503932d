-- What holds by the group of a cause.
use Rattle.std.proofs.Common.{◌≡◌, ◌≢◌, ℕ, refl, arith}
use Rattle.refusals.specs.declared.cause.Cause.{Cause}
use Rattle.refusals.specs.declared.cause.Cause.TheVariants.{Usage}
use Rattle.refusals.specs.declared.cause.CauseGroup.{CauseGroup}
use Rattle.refusals.specs.declared.cause.CauseGroup.TheVariants.{Denied, Fault, NoMemory}
use Rattle.refusals.specs.declared.cause.UsageKind.{UsageKind}
use Rattle.refusals.specs.Status.{ByGroup, status_in, status_of}

-- The cases of a group: a fault, lack of memory, or another one, whose status is neither 4 nor 5.
pub data GroupCase (group : CauseGroup) (failed stated : Type 0) : Type 0 where
  ByFault : status_in group ≡ 4 → failed → GroupCase group failed stated
  ByMemory : status_in group ≡ 5 → GroupCase group failed stated
  ByStep : status_in group ≢ 4 → status_in group ≢ 5 → stated → GroupCase group failed stated

pub group_case : (group : CauseGroup) (failed stated : Type 0) → ByGroup group failed stated
    → GroupCase group failed stated
group_case Fault failed stated by = ByFault refl by
group_case NoMemory failed stated by = ByMemory refl
group_case _ failed stated by = ByStep (λ e. omega (arith, e)) (λ e. omega (arith, e)) by

-- what holds by a group holds where what failed and what is stated do
pub by_group : (group : CauseGroup) (failed failed' stated stated' : Type 0) → (failed → failed') → (stated → stated')
    → ByGroup group failed stated → ByGroup group failed' stated'
by_group Fault failed failed' stated stated' fails states by = fails by
by_group NoMemory failed failed' stated stated' fails states by = tt
by_group _ failed failed' stated stated' fails states by = states by

-- what holds by a group where it is a fault, and where it is neither that nor lack of memory
pub by_group_of : (group : CauseGroup) (failed stated : Type 0) → (status_in group ≡ 4 → failed)
    → (status_in group ≢ 4 → status_in group ≢ 5 → stated) → ByGroup group failed stated
by_group_of Fault failed stated fails states = fails refl
by_group_of NoMemory failed stated fails states = tt
by_group_of _ failed stated fails states = states (λ e. omega (arith, e)) (λ e. omega (arith, e))

-- no group has status 0
pub status_in-some : (group : CauseGroup) → status_in group ≢ 0
status_in-some Denied e = omega (arith, e)
status_in-some _ e = omega (arith, e)

-- a cause with status 2 is one of the words
pub words_alone : (cause : Cause) → status_of cause ≡ 2 → (kind : UsageKind) × (word : ℕ) × (cause ≡ Usage kind word)
words_alone (Usage kind word) two = (kind, word, refl)
words_alone _ two = absurd (omega (arith, two))
