use Rattle.std.proofs.Common.{◌≡◌, ◌∷◌, get_or, take}
use Rattle.free_chains.specs.Walk.{linked_blocks, previous_in}
use Rattle.tree_check.proofs.data.first_bad_previous.Given as goal

abbrev pub invariant-loop-link : goal.invariant-loop-link
invariant-loop-link l = record {
  before : l.before ≡ get_or (0 ∷ linked_blocks l.links) l.link-index 0;
  in_order : previous_in (take l.link-index l.links) ≡ take l.link-index (0 ∷ linked_blocks l.links);
}
