-- Why a walk down the tree of a file was refused.
use Rattle.std.specs.Prelude.{ℕ, ⊤}
use Rattle.quota_types.specs.declared.damage.Damage.{Damage}
use Rattle.quota_types.specs.Damage.{NamesItsId}
use Rattle.outside.specs.Count.{Rose}
use Rattle.quota_radix.specs.declared.walk_fault.WalkFault.{WalkFault}
use Rattle.quota_radix.specs.declared.walk_fault.WalkFault.TheVariants.{Store, Damage as Damaged}

-- A walk was refused where the store's count of faults rose, or for a damage of a kind that tree files have, of which a
-- fact holds. It names an identifier only where its kind does.
abbrev pub IsWalkFault : ℕ → ℕ → (Damage → Type 0) → WalkFault → Type 0
IsWalkFault before now defect Store = Rose before now
IsWalkFault before now defect (Damaged damage) = NamesItsId damage.kind damage.id × defect damage

-- A fact holds of the damage for which a walk was refused, where that was no fault of the store.
abbrev pub IfDamaged : (Damage → Type 0) → WalkFault → Type 0
IfDamaged fact Store = ⊤
IfDamaged fact (Damaged damage) = fact damage
