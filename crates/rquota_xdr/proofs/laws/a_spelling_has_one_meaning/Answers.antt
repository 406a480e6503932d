use Rattle.rquota_xdr.proofs.ReplyLemmas.{one_meaning}
use Rattle.rquota_xdr.proofs.laws.a_spelling_has_one_meaning.Goals as goal

pub returns : goal.returns
returns c = one_meaning
