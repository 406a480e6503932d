-- What the search for the leaves was refused for.
use Rattle.std.proofs.Common.{ℕ, Bool, IsTrue, List, [], ◌∷◌}
use Rattle.file_blocks.specs.BlockSet.{AreFlagsOf}
use Rattle.file_blocks.specs.CheckFault.{IsCheckFault}
use Rattle.file_blocks.specs.declared.check_fault.CheckFault.{CheckFault}
use Rattle.file_blocks.specs.declared.check_fault.CheckFault.TheVariants.{Store, Damage as Damaged, Memory}
use Rattle.byte_order.specs.declared.order.Order.TheVariants.{Big}
use Rattle.byte_order.specs.Words.{in_order}
use Rattle.quota_radix.specs.Levels.{IsTreeFault}
use Rattle.tree_check.specs.Found.{IsRoleDefect}
use Rattle.tree_check.proofs.RoleLemmas.{tree_refused}

-- a damage that it answers is one of the file, whatever the head of its free list
pub leaves_refused : (before now : ℕ) (tells : Bool) (file : List ℕ) (blocks : ℕ) (flags : List Bool)
    (fault : CheckFault) → AreFlagsOf blocks flags (0 ∷ [])
    → IsCheckFault before now
    (λ damage. IsTrue tells → (numbers : List ℕ) → AreFlagsOf blocks flags numbers
    → IsTreeFault (in_order Big file) blocks numbers damage) fault
    → IsCheckFault before now
    (λ damage. IsTrue tells → (free_head : ℕ) → IsRoleDefect Big file blocks free_head damage) fault
leaves_refused before now tells file blocks flags Store are is = is
leaves_refused before now tells file blocks flags (Damaged damage) are is = (
  is.0,
  λ told free_head. (tree_refused before now tells Big file blocks free_head flags (Damaged damage) are is).1 told,
)
leaves_refused before now tells file blocks flags Memory are is = tt
