use Rattle.rquota_xdr.proofs.XidLemmas.{asked_with}
use Rattle.rquota_xdr.proofs.laws.what_is_asked_has_the_xid_of_the_datagram.Goals as goal

pub returns : goal.returns
returns c = asked_with
