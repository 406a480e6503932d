-- Why a step of a change was refused.
use Rattle.std.specs.Prelude.{ℕ, ⊤}
use Rattle.quota_types.specs.Damage.{NamesItsId}
use Rattle.outside.specs.Count.{Rose}
use Rattle.quota_radix.specs.declared.walk_fault.WalkFault.{WalkFault}
use Rattle.quota_radix.specs.declared.walk_fault.WalkFault.TheVariants.{Store as WalkStore, Damage as WalkDamage}
use Rattle.free_chains.specs.declared.chain_fault.ChainFault.{ChainFault}
use Rattle.free_chains.specs.declared.chain_fault.ChainFault.TheVariants.{Store as ChainStore, Damage as ChainDamage}
use Rattle.tree_change.specs.declared.change_fault.ChangeFault.{ChangeFault}
use Rattle.tree_change.specs.declared.change_fault.ChangeFault.TheVariants.{Store, Damage as Damaged, Full}

-- A step was refused where the store's count of faults rose, for a damage, of a kind that tree files have, where
-- something is wrong with the file, or since it is full. A damage names an identifier only where its kind does.
abbrev pub IsChangeFault : (before now : ℕ) → (wrong : Type 0) → (full : ℕ → ℕ → Type 0) → ChangeFault → Type 0
IsChangeFault before now wrong full Store = Rose before now
IsChangeFault before now wrong full (Damaged damage) = NamesItsId damage.kind damage.id × wrong
IsChangeFault before now wrong full (Full blocks limit) = full blocks limit

-- the fault of a step whose call on the lists, or on the tree, was refused
abbrev pub of_chain_fault : ChainFault → ChangeFault
of_chain_fault ChainStore = Store
of_chain_fault (ChainDamage damage) = Damaged damage

abbrev pub of_walk_fault : WalkFault → ChangeFault
of_walk_fault WalkStore = Store
of_walk_fault (WalkDamage damage) = Damaged damage

-- A step that takes no block was refused: the file is never full for it.
abbrev pub IsStepFault : (before now : ℕ) → (wrong : Type 0) → ChangeFault → Type 0
IsStepFault before now wrong fault = IsChangeFault before now wrong (λ blocks limit. ⊥) fault

-- where a step was refused since the file is full, something holds
abbrev pub IfFull : (holds : Type 0) → ChangeFault → Type 0
IfFull holds Store = ⊤
IfFull holds (Damaged damage) = ⊤
IfFull holds (Full blocks limit) = holds
