-- What leads to a block.
use Rattle.std.proofs.Common.{ℕ, ◌<◌, IsTrue, arith}
use Rattle.std.proofs.lemmas.Bool.Decides.{nat_tests}
use Rattle.file_blocks.specs.Block.{leads}

-- what leads to a block is the number of one, and not 0
pub leads_within : (blocks reference : ℕ) → IsTrue (leads blocks reference) → (0 < reference) × (reference < blocks)
leads_within blocks reference h = grind (arith, nat_tests)

pub leads_from : (blocks reference : ℕ) → 0 < reference → reference < blocks → IsTrue (leads blocks reference)
leads_from blocks reference some low = grind (arith, nat_tests)

-- what leads to a block is below the number of blocks
pub leads_below : (blocks reference : ℕ) → IsTrue (leads blocks reference) → reference < blocks
leads_below blocks reference h = grind (arith, nat_tests)
