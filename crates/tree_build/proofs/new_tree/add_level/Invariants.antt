use Rattle.std.proofs.Common.{◌≡◌, ◌+◌, length}
use Rattle.tree_build.proofs.LevelAddedLemmas.{HasLevel}
use Rattle.tree_build.proofs.new_tree.add_level.Given as goal

abbrev pub invariant-loop-first : goal.invariant-loop-first
invariant-loop-first l = record {
  blocks : l.file.blocks ≡ l.fn.file.blocks + length l.parents.items;
  level : HasLevel l.children l.fn.file.blocks l.fn.file.bytes.items l.file.bytes.items l.parents.items l.rest;
}

abbrev pub decreases-loop-first : goal.decreases-loop-first
decreases-loop-first l = length l.rest
