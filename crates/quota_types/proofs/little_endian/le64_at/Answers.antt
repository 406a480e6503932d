use Rattle.std.proofs.lemmas.List.{take_rest}
use Rattle.quota_types.proofs.NumberLemmas.{little_number-drop}
use Rattle.quota_types.proofs.little_endian.le64_at.Goals as goal

pub returns : goal.returns
returns c = rw (c.read_u64.ensures, take_rest) (little_number-drop 8 c.args.at c.args.bytes.now)
