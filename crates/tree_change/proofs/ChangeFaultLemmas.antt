-- Why a step of a change was refused, by the fault of the call that was.
use Rattle.std.proofs.Common.{ℕ, ◌≤◌, sym, subst, arith}
use Rattle.quota_types.specs.Damage.{NamesItsId}
use Rattle.quota_types.specs.declared.damage.Damage.{Damage}
use Rattle.quota_types.specs.declared.damage.DamageKind.{DamageKind}
use Rattle.quota_radix.specs.WalkFault.{IsWalkFault}
use Rattle.quota_radix.specs.declared.walk_fault.WalkFault.{WalkFault}
use Rattle.quota_radix.specs.declared.walk_fault.WalkFault.TheVariants.{Store as WalkStore, Damage as WalkDamaged}
use Rattle.free_chains.specs.ChainFault.{IsChainFault}
use Rattle.free_chains.specs.declared.chain_fault.ChainFault.{ChainFault}
use Rattle.free_chains.specs.declared.chain_fault.ChainFault.TheVariants.{Store, Damage as Damaged}
use Rattle.tree_change.specs.declared.change_fault.ChangeFault.{ChangeFault}
use Rattle.tree_change.specs.declared.change_fault.ChangeFault.TheVariants.{Store as NoStore, Damage as Damages}
use Rattle.tree_change.specs.declared.change_fault.ChangeFault.TheVariants.{Full as Fills}
use Rattle.tree_change.specs.ChangeFault.{IfFull, IsChangeFault, of_chain_fault, of_walk_fault}

-- A call on the lists was refused: a number past the last block shows that something is wrong.
pub of_chain : (blocks before now : ℕ) (which : ℕ → Type 0) (wrong : Type 0) (full : ℕ → ℕ → Type 0)
    (fault : ChainFault)
    → ((number : ℕ) → blocks ≤ number → which number → wrong) → IsChainFault blocks before now which fault
    → IsChangeFault before now wrong full (of_chain_fault fault)
of_chain blocks before now which wrong full Store shows rose = rose
of_chain blocks before now which wrong full (Damaged damage) shows h = (
  subst (λ (kind : DamageKind). NamesItsId kind damage.id) (sym h.0.kind) h.0.no_id,
  shows damage.block h.0.out h.1,
)

-- A step behind others was refused: what is wrong then was wrong before, and so is there no room.
pub of_later : (before between now : ℕ) (wrong was_wrong : Type 0) (full was_full : ℕ → ℕ → Type 0)
    (fault : ChangeFault)
    → before ≤ between → (wrong → was_wrong) → ((blocks limit : ℕ) → full blocks limit → was_full blocks limit)
    → IsChangeFault between now wrong full fault → IsChangeFault before now was_wrong was_full fault
of_later before between now wrong was_wrong full was_full NoStore later wrongly fully h = omega (arith, later, h)
of_later before between now wrong was_wrong full was_full (Damages damage) later wrongly fully h = (h.0, wrongly h.1)
of_later before between now wrong was_wrong full was_full (Fills blocks limit) later wrongly fully h =
    fully blocks limit h

-- A walk down the tree was refused: a damage shows that something is wrong.
pub of_walk : (before now : ℕ) (defect : Damage → Type 0) (wrong : Type 0) (full : ℕ → ℕ → Type 0) (fault : WalkFault)
    → ((damage : Damage) → defect damage → wrong) → IsWalkFault before now defect fault
    → IsChangeFault before now wrong full (of_walk_fault fault)
of_walk before now defect wrong full WalkStore shows rose = rose
of_walk before now defect wrong full (WalkDamaged damage) shows h = (h.0, shows damage h.1)

-- What holds of a step that was refused since the file is full: it holds in any case, or follows from what that fault
-- says.
pub if_full : (holds : Type 0) (fault : ChangeFault) → holds → IfFull holds fault
if_full holds NoStore h = tt
if_full holds (Damages damage) h = tt
if_full holds (Fills blocks limit) h = h

pub of_full : (before now : ℕ) (wrong : Type 0) (full : ℕ → ℕ → Type 0) (holds : Type 0) (fault : ChangeFault)
    → ((blocks limit : ℕ) → full blocks limit → holds) → IsChangeFault before now wrong full fault → IfFull holds fault
of_full before now wrong full holds NoStore fully h = tt
of_full before now wrong full holds (Damages damage) fully h = tt
of_full before now wrong full holds (Fills blocks limit) fully h = fully blocks limit h

pub full_then : (was holds : Type 0) (fault : ChangeFault) → (was → holds) → IfFull was fault → IfFull holds fault
full_then was holds NoStore then h = tt
full_then was holds (Damages damage) then h = tt
full_then was holds (Fills blocks limit) then h = then h

-- a walk down the tree is not refused for that
pub walk_not_full : (holds : Type 0) (fault : WalkFault) → IfFull holds (of_walk_fault fault)
walk_not_full holds WalkStore = tt
walk_not_full holds (WalkDamaged damage) = tt
