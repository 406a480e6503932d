use Rattle.std.proofs.Common.{◌∙◌, arith}
use Rattle.quota_types.proofs.NumberLemmas.{number_before}
use Rattle.entry_codec.proofs.entry.write_v2r0.Goals as goal

pub returns-clause-id : goal.returns-clause-id
returns-clause-id c =
    number_before 4 0 _ _ _ _ c.set_le64s_at.ensures.others (omega arith)
    ∙ c.set_le32s_at.ensures.written 0 (omega arith)

pub returns-clause-stored : goal.returns-clause-stored
returns-clause-stored c =
    let first = c.set_le32s_at.ensures.written in
    let rest = c.set_le64s_at.ensures.written in
    let keeps = c.set_le64s_at.ensures.others in
    λ i. record {
      ihard = (number_before 4 4 _ _ _ _ keeps (omega arith) ∙ first 1 (omega arith)) i;
      isoft = (number_before 4 8 _ _ _ _ keeps (omega arith) ∙ first 2 (omega arith)) i;
      inodes = (number_before 4 12 _ _ _ _ keeps (omega arith) ∙ first 3 (omega arith)) i;
      bhard = (number_before 4 16 _ _ _ _ keeps (omega arith) ∙ first 4 (omega arith)) i;
      bsoft = (number_before 4 20 _ _ _ _ keeps (omega arith) ∙ first 5 (omega arith)) i;
      space = rest 0 (omega arith) i;
      btime = rest 1 (omega arith) i;
      itime = rest 2 (omega arith) i;
    }
