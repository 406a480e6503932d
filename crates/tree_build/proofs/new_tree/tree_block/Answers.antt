use Rattle.std.proofs.Common.{refl, arith}
use Rattle.tree_build.proofs.TreeBlockLemmas.{filled_steps, inside_of, references_more, references_none}
use Rattle.tree_build.proofs.new_tree.tree_block.Goals as goal

pub loop-path-init : goal.loop-path-init
loop-path-init c = references_none c.args.paths.now

pub loop-path-preserved : goal.loop-path-preserved
loop-path-preserved c =
    references_more c.loop-path.block c.set_le32.new.block c.args.paths.now c.loop-path.path-index _ refl
    c.loop-path-test.true
    c.set_le32.ensures.written c.set_le32.ensures.others c.loop-path.invariant

pub returns-clause-onward : goal.returns-clause-onward
returns-clause-onward c = λ file blocks path is rising siblings leading.
    filled_steps file c.loop-path.block blocks c.loop-path.path-index path c.args.paths.now is (omega arith)
    (omega arith) rising siblings leading c.loop-path.invariant

pub returns-clause-inside : goal.returns-clause-inside
returns-clause-inside c = λ blocks digit some leading.
    inside_of c.loop-path.block c.args.paths.now c.loop-path.path-index blocks digit (omega arith) some leading
    c.loop-path.invariant
