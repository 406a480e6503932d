use Rattle.client_laws.proofs.ServedLemmas.{has_replies}
use Rattle.client_laws.proofs.each_reply_of_rquotad_is_one_to_its_own_call.Goals as goal

pub returns : goal.returns
returns c = has_replies
