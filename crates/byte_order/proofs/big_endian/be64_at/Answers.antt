use Rattle.std.proofs.lemmas.List.{take_rest}
use Rattle.byte_order.proofs.BigLemmas.{big_number-drop}
use Rattle.byte_order.proofs.big_endian.be64_at.Goals as goal

pub returns : goal.returns
returns c = rw (c.read_u64.ensures, take_rest) (big_number-drop 8 c.args.at c.args.bytes.now)
