use Rattle.std.proofs.Common.{arith}
use Rattle.byte_order.proofs.SwapLemmas.{all_turned, none_turned, one_more_turned}
use Rattle.byte_order.proofs.words.turn.Goals as goal

pub loop-word-init : goal.loop-word-init
loop-word-init c = none_turned c.args.block.now

pub loop-word-preserved : goal.loop-word-preserved
loop-word-preserved c =
    one_more_turned c.loop-word.word c.args.block.now c.loop-word.block c.turn_word.new.block c.loop-word.invariant
    (omega arith) c.turn_word.ensures

pub returns : goal.returns
returns c =
    all_turned c.loop-word.word 256 c.args.block.now c.loop-word.block (omega arith) (omega arith) c.loop-word.invariant
