-- Why a call on the lists of a file was refused.
use Rattle.std.specs.Prelude.{◌≡◌, ℕ, ◌≤◌, ⊤}
use Rattle.quota_types.specs.declared.damage.Damage.{Damage}
use Rattle.quota_types.specs.declared.damage.DamageKind.TheVariants.{ChainOut}
use Rattle.outside.specs.Count.{Rose}
use Rattle.free_chains.specs.declared.chain_fault.ChainFault.{ChainFault}
use Rattle.free_chains.specs.declared.chain_fault.ChainFault.TheVariants.{Store, Damage as Damaged}

-- The damage of a list that leads past the last block has the number to which it leads.
pub record LeadsOut (blocks : ℕ) (damage : Damage) : Type 0 where
  pub kind : damage.kind ≡ ChainOut
  pub no_id : damage.id ≡ 0
  pub out : blocks ≤ damage.block

-- A call on the lists was refused where the store's count of faults rose, or for a number past the last block, of which
-- a fact holds.
abbrev pub IsChainFault : (blocks before now : ℕ) → (ℕ → Type 0) → ChainFault → Type 0
IsChainFault blocks before now which Store = Rose before now
IsChainFault blocks before now which (Damaged damage) = LeadsOut blocks damage × which damage.block

-- A fact holds of the number for which a call on the lists was refused, where that was no fault of the store.
abbrev pub IfOut : (ℕ → Type 0) → ChainFault → Type 0
IfOut which Store = ⊤
IfOut which (Damaged damage) = which damage.block
