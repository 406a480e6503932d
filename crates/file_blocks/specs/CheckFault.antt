-- Why a step of a check was refused.
use Rattle.std.specs.Prelude.{ℕ, ⊤}
use Rattle.quota_types.specs.declared.damage.Damage.{Damage}
use Rattle.outside.specs.Count.{Rose}
use Rattle.file_blocks.specs.declared.check_fault.CheckFault.{CheckFault}
use Rattle.file_blocks.specs.declared.check_fault.CheckFault.TheVariants.{Store, Damage as Damaged, Memory}
use Rattle.quota_types.specs.Damage.{NamesItsId}

-- A check was refused where the store's count of faults rose, where there was not enough memory, or for a damage of a
-- kind that tree files have, of which a fact holds. It names an identifier only where its kind does.
abbrev pub IsCheckFault : ℕ → ℕ → (Damage → Type 0) → CheckFault → Type 0
IsCheckFault before now defect Store = Rose before now
IsCheckFault before now defect Memory = ⊤
IsCheckFault before now defect (Damaged damage) = NamesItsId damage.kind damage.id × defect damage

-- A step that calls no store was refused for lack of memory, or for a damage that is one. It names an identifier only
-- where its kind does.
abbrev pub IsStepFault : (Damage → Type 0) → CheckFault → Type 0
IsStepFault defect Store = ⊥
IsStepFault defect Memory = ⊤
IsStepFault defect (Damaged damage) = NamesItsId damage.kind damage.id × defect damage
