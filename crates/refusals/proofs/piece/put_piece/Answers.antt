use Rattle.std.proofs.Common.{◌∙◌}
use Rattle.refusals.proofs.piece.put_piece.Goals as goal

pub returns-in-Number-clause-fault : goal.returns-in-Number-clause-fault
returns-in-Number-clause-fault g c =
    rw c.in-Number.is (rw (c.as_bytes.ensures.value ∙ c.format.ensures.text) at c.put-in-Number.ensures.fault)
