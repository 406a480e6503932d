use Rattle.byte_order.proofs.ZeroLemmas.{zeros_in_order}
use Rattle.byte_order.proofs.laws.zeros_are_zeros_in_each_order.Goals as goal

pub returns : goal.returns
returns c = zeros_in_order
