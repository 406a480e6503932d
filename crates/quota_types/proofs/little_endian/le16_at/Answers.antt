use Rattle.std.proofs.lemmas.List.{take_rest}
use Rattle.quota_types.proofs.NumberLemmas.{little_number-drop}
use Rattle.quota_types.proofs.little_endian.le16_at.Goals as goal

pub returns : goal.returns
returns c = rw (c.read_u16.ensures, take_rest) (little_number-drop 2 c.args.at c.args.bytes.now)
