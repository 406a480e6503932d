use Rattle.std.proofs.Common.{◌∙◌}
use Rattle.rpc_marks.proofs.FrontLemmas.{head-bytes}
use Rattle.rpc_marks.proofs.marker.number_of.Goals as goal

pub returns : goal.returns
returns c = c.from_be_bytes.ensures ∙ head-bytes c.args.fragment.now
