use Rattle.byte_order.proofs.SwapLemmas.{AreTurned}
use Rattle.byte_order.proofs.words.turn.Given as goal

abbrev pub invariant-loop-word : goal.invariant-loop-word
invariant-loop-word l = AreTurned l.word l.initial.block l.block
