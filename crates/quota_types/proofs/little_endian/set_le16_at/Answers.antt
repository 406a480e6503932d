use Rattle.std.proofs.Common.{◌-◌, length, arith}
use Rattle.quota_types.proofs.NumberLemmas.{keeps-with_number, number_at-with_number, written_at}
use Rattle.quota_types.proofs.little_endian.set_le16_at.Goals as goal

pub returns-clause-written : goal.returns-clause-written
returns-clause-written c =
    rw (written_at 2 c.args.at (length c.args.bytes.now - c.args.at) c.args.value c.args.bytes.now c.write_u16.new.buf
    (omega arith) c.write_u16.ensures)
    (number_at-with_number 2 c.args.at c.args.value c.args.bytes.now (omega arith) (omega arith))

pub returns-clause-others : goal.returns-clause-others
returns-clause-others c =
    rw (written_at 2 c.args.at (length c.args.bytes.now - c.args.at) c.args.value c.args.bytes.now c.write_u16.new.buf
    (omega arith) c.write_u16.ensures)
    (keeps-with_number 2 c.args.at c.args.value c.args.bytes.now (omega arith))
