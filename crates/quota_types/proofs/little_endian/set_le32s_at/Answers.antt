use Rattle.std.proofs.Common.{arith}
use Rattle.quota_types.proofs.NumberLemmas.{keeps-with_numbers, number_at-with_numbers, written_all}
use Rattle.quota_types.proofs.little_endian.set_le32s_at.Goals as goal

pub returns-clause-written : goal.returns-clause-written
returns-clause-written c = λ k lt.
    rw (written_all 4 c.args.at c.args.values.now c.args.bytes.now c.write_u32_into.new.dst c.write_u32_into.ensures)
    (number_at-with_numbers 4 c.args.at c.args.values.now c.args.bytes.now k (omega arith) lt (λ i _. omega (
      arith,
      c.type_inv.values i,
    )))

pub returns-clause-others : goal.returns-clause-others
returns-clause-others c =
    rw (written_all 4 c.args.at c.args.values.now c.args.bytes.now c.write_u32_into.new.dst c.write_u32_into.ensures)
    (keeps-with_numbers 4 c.args.at c.args.values.now c.args.bytes.now (omega arith))
