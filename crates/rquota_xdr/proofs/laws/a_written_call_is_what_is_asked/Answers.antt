use Rattle.rquota_xdr.proofs.QuestionLemmas.{question_asks}
use Rattle.rquota_xdr.proofs.laws.a_written_call_is_what_is_asked.Goals as goal

pub returns : goal.returns
returns c = question_asks
