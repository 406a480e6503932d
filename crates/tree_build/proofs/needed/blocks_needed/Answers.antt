use Rattle.std.proofs.Common.{sym, subst, List, ℕ}
use Rattle.tree_build.specs.Needed.{HasMet}
use Rattle.tree_build.proofs.NeededLemmas.{after_met, ids_more}
use Rattle.tree_build.proofs.needed.blocks_needed.Goals as goal

pub add-requires : goal.add-requires
add-requires c =
    after_met c.args.list.now c.loop-entry.entry-index c.loop-entry.needed c.requires.ascending c.loop-entry-test.true
    c.loop-entry.invariant

pub loop-entry-preserved : goal.loop-entry-preserved
loop-entry-preserved c =
    subst (λ (ids : List ℕ). HasMet ids c.add.new.self)
    (sym (ids_more c.args.list.now c.loop-entry.entry-index c.loop-entry-test.true))
    (c.add.ensures.met _ c.loop-entry.invariant)
