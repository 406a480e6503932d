use Rattle.std.proofs.Common.{◌∙◌}
use Rattle.rquota_xdr.proofs.UnitLemmas.{unit_at-bytes}
use Rattle.rquota_xdr.proofs.units.unit_at.Goals as goal

pub returns : goal.returns
returns c = c.from_be_bytes.ensures ∙ unit_at-bytes c.args.bytes.now c.args.at
