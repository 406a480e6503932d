use Rattle.std.proofs.Common.{arith}
use Rattle.rquota_xdr.proofs.SpellingLemmas.{are_numbers}
use Rattle.rquota_xdr.proofs.reply.put.Goals as goal

pub returns-clause-numbers : goal.returns-clause-numbers
returns-clause-numbers c = are_numbers c.args.units.now (λ at. omega (arith, c.type_inv.units at))
