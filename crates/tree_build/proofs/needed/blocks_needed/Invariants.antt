use Rattle.std.proofs.Common.{take}
use Rattle.quota_value.specs.Listed.{ids_of}
use Rattle.tree_build.specs.Needed.{HasMet}
use Rattle.tree_build.proofs.needed.blocks_needed.Given as goal

abbrev pub invariant-loop-entry : goal.invariant-loop-entry
invariant-loop-entry l = HasMet (ids_of (take l.entry-index l.list)) l.needed
