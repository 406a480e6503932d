-- How many blocks a file would have that is told to be full where blocks are taken.
use Rattle.std.proofs.Common.{◌≡◌, ℕ, ◌<◌, ◌≤◌, max, inl, inr, arith}
use Rattle.std.proofs.lemmas.Bool.Decides.{eqb_tells}
use Rattle.free_chains.specs.FreeList.{TakesHead}
use Rattle.free_chains.specs.declared.chain_fault.ChainFault.{ChainFault}
use Rattle.free_chains.specs.declared.chain_fault.ChainFault.TheVariants.{Store as ChainStore, Damage as ChainDamage}
use Rattle.free_chains.specs.declared.heads.Heads.{Heads}
use Rattle.tree_change.specs.ChangeFault.{of_chain_fault}
use Rattle.tree_change.specs.Fresh.{TellsOneMore}
use Rattle.tree_change.specs.declared.change_fault.ChangeFault.{ChangeFault}
use Rattle.tree_change.specs.declared.change_fault.ChangeFault.TheVariants.{Store, Damage as Damaged, Full}

-- a call on a list tells no file to be full
pub chain_tells : (heads : Heads) (limit : ℕ) (fault : ChainFault) → TellsOneMore heads limit (of_chain_fault fault)
chain_tells heads limit ChainStore = tt
chain_tells heads limit (ChainDamage damage) = tt

-- there are no more blocks than before, or than there may be, once one was taken while there were fewer
pub takes_most : (limit : ℕ) (heads now : Heads) (block : ℕ) → TakesHead heads now block
    → (heads.free ≡ 0 → heads.blocks < limit) → now.blocks ≤ max heads.blocks limit
takes_most limit heads now block takes low = elim (eqb_tells heads.free 0) [
  | inl none ↦ omega (arith, (takes.none none.1).blocks, low none.1)
  | inr some ↦ omega (arith, (takes.some some.1).blocks)
]

-- so a later block tells what the first one would
pub tells_since : (heads now : Heads) (limit : ℕ) (fault : ChangeFault) → heads.blocks ≤ now.blocks
    → now.blocks ≤ max heads.blocks limit → TellsOneMore now limit fault → TellsOneMore heads limit fault
tells_since heads now limit Store more few tells = tt
tells_since heads now limit (Damaged damage) more few tells = tt
tells_since heads now limit (Full blocks most) more few tells = omega (arith, more, few, tells)
