-- Which data blocks were read, one after another.
use Rattle.std.proofs.Common.{ℕ, ◌+◌, ◌<◌, ◌≤◌, Bool, List, [], ◌∷◌, ◌++◌, length, subst, inl, inr, arith}
use Rattle.std.proofs.Common.{length-append}
use Rattle.std.proofs.lemmas.Bool.{cases_lt}
use Rattle.std.proofs.lemmas.List.{append_assoc}
use Rattle.quota_types.specs.Times.{times}
use Rattle.quota_types.proofs.TimesLemmas.{times-append, times_cases}
use Rattle.file_blocks.specs.BlockSet.{AreFlagsOf}
use Rattle.file_blocks.proofs.MarkedLemmas.{marked_fit}
use Rattle.file_blocks.specs.CheckFault.{IsCheckFault, IsStepFault}
use Rattle.file_blocks.specs.declared.check_fault.CheckFault.{CheckFault}
use Rattle.file_blocks.specs.declared.check_fault.CheckFault.TheVariants.{Store, Damage as Damaged, Memory}
use Rattle.quota_types.specs.declared.damage.Damage.{Damage}
use Rattle.big_endian_files.specs.ReadBig.{AreReadUpTo}

-- no more were read than are not marked before
pub reads_fit : (blocks : ℕ) (flags : List Bool) (numbers : List ℕ) (last before now : ℕ)
    → AreReadUpTo blocks flags numbers last before now → now + length numbers ≤ before + blocks
reads_fit blocks flags numbers last before now so_far =
    omega (
      arith,
      so_far.few,
      marked_fit blocks flags (numbers ++ so_far.more) so_far.marked,
      length-append numbers so_far.more,
    )

-- a block past all of them that is marked was so before
pub marked_before : (blocks : ℕ) (flags : List Bool) (numbers : List ℕ) (last before now number : ℕ)
    → (so_far : AreReadUpTo blocks flags numbers last before now) → last < number
    → 1 ≤ times (numbers ++ so_far.more) number → 1 ≤ times numbers number
marked_before blocks flags numbers last before now number so_far past marked =
    elim (cases_lt 0 (times so_far.more number)) [
      | inl some ↦ absurd (omega (arith, past, so_far.low number some))
      | inr none ↦ omega (arith, none, marked, times-append numbers so_far.more number)
    ]

-- one more was marked and read
pub one_more : (blocks : ℕ) (flags next : List Bool) (numbers : List ℕ) (last before between now number : ℕ)
    → (so_far : AreReadUpTo blocks flags numbers last before between) → last ≤ number
    → AreFlagsOf blocks next ((numbers ++ so_far.more) ++ number ∷ []) → now ≤ between + 1
    → AreReadUpTo blocks next numbers number before now
one_more blocks flags next numbers last before between now number so_far past marked one = record {
  more = so_far.more ++ number ∷ [];
  marked = subst (λ (all : List ℕ). AreFlagsOf blocks next all) (append_assoc numbers so_far.more (number ∷ [])) marked;
  few = omega (arith, so_far.few, one, length-append so_far.more (number ∷ []));
  low = λ n stands. elim (times_cases number [] n) [
    | inl same ↦ omega (arith, same.0)
    | inr other ↦ omega (
      arith,
      past,
      so_far.low n (omega (arith, stands, other.1, times-append so_far.more (number ∷ []) n)),
    )
  ];
}

-- nor with one more
pub one_more_fits : (blocks : ℕ) (flags next : List Bool) (numbers : List ℕ) (last before between now number : ℕ)
    → (so_far : AreReadUpTo blocks flags numbers last before between)
    → AreFlagsOf blocks next ((numbers ++ so_far.more) ++ number ∷ []) → now ≤ between + 1
    → now + length numbers ≤ before + blocks
one_more_fits blocks flags next numbers last before between now number so_far marked one =
    omega (
      arith,
      so_far.few,
      one,
      marked_fit blocks next ((numbers ++ so_far.more) ++ number ∷ []) marked,
      length-append (numbers ++ so_far.more) (number ∷ []),
      length-append numbers so_far.more,
    )

-- a refusal of a later call, which says as much of a damage
pub refused_later : (before between now : ℕ) (P Q : Damage → Type 0) (fault : CheckFault) → before ≤ between
    → ((damage : Damage) → P damage → Q damage) → IsCheckFault between now P fault → IsCheckFault before now Q fault
refused_later before between now P Q Store later more is = omega (arith, later, is)
refused_later before between now P Q (Damaged damage) later more is = (is.0, more damage is.1)
refused_later before between now P Q Memory later more is = tt

-- and a refusal of a call that uses no store
pub refused_step : (before now : ℕ) (P Q : Damage → Type 0) (fault : CheckFault)
    → ((damage : Damage) → P damage → Q damage) → IsStepFault P fault → IsCheckFault before now Q fault
refused_step before now P Q Store more is = absurd is
refused_step before now P Q (Damaged damage) more is = (is.0, more damage is.1)
refused_step before now P Q Memory more is = tt
