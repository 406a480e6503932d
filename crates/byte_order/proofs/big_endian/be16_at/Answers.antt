use Rattle.std.proofs.lemmas.List.{take_rest}
use Rattle.byte_order.proofs.BigLemmas.{big_number-drop}
use Rattle.byte_order.proofs.big_endian.be16_at.Goals as goal

pub returns : goal.returns
returns c = rw (c.read_u16.ensures, take_rest) (big_number-drop 2 c.args.at c.args.bytes.now)
