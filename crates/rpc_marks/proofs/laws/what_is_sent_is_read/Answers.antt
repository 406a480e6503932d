use Rattle.rpc_marks.proofs.MarkedLemmas.{reads_sent}
use Rattle.rpc_marks.proofs.laws.what_is_sent_is_read.Goals as goal

pub returns : goal.returns
returns c = reads_sent
