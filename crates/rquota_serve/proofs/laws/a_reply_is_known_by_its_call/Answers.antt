use Rattle.rquota_serve.proofs.XidLemmas.{known_by_call}
use Rattle.rquota_serve.proofs.laws.a_reply_is_known_by_its_call.Goals as goal

pub returns-clause-xid : goal.returns-clause-xid
returns-clause-xid c = λ exported datagram now reply same. (known_by_call exported datagram now reply same).0

pub returns-clause-fits : goal.returns-clause-fits
returns-clause-fits c = λ exported datagram now reply few same. (known_by_call exported datagram now reply same).1 few
