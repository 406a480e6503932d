use Rattle.std.proofs.Common.{◌≡◌, ℕ, ◌+◌, ◌^◌, length}
use Rattle.tree_build.specs.NewFile.{AreBelow}
use Rattle.tree_build.proofs.DataAddedLemmas.{HasParts}
use Rattle.tree_build.proofs.new_data.add_data.Given as goal

abbrev pub invariant-loop-rest : goal.invariant-loop-rest
invariant-loop-rest l = record {
  count : ℕ;
  blocks : l.file.blocks ≡ l.fn.file.blocks + count;
  parts : HasParts l.format l.list l.fn.file.blocks l.fn.file.bytes.items l.file.bytes.items
      l.leaves.items l.rest count;
  below : AreBelow (2 ^ 32) l.leaves.items;
}

abbrev pub decreases-loop-rest : goal.decreases-loop-rest
decreases-loop-rest l = length l.rest
