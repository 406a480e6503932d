use Rattle.std.proofs.lemmas.List.{take_rest}
use Rattle.quota_types.proofs.NumberLemmas.{little_number-drop}
use Rattle.quota_types.proofs.little_endian.le32_at.Goals as goal

pub returns : goal.returns
returns c = rw (c.read_u32.ensures, take_rest) (little_number-drop 4 c.args.at c.args.bytes.now)
