use Rattle.std.proofs.Common.{◌∙◌, arith}
use Rattle.quota_types.proofs.NumberLemmas.{number_before}
use Rattle.entry_codec.proofs.entry.write_v2r1.Goals as goal

pub returns-clause-id : goal.returns-clause-id
returns-clause-id c =
    number_before 4 0 _ _ _ _ c.set_le64s_at.ensures.others (omega arith)
    ∙ c.set_le32s_at.ensures.written 0 (omega arith)

pub returns-clause-padding : goal.returns-clause-padding
returns-clause-padding c =
    number_before 4 4 _ _ _ _ c.set_le64s_at.ensures.others (omega arith)
    ∙ c.set_le32s_at.ensures.written 1 (omega arith)

pub returns-clause-stored : goal.returns-clause-stored
returns-clause-stored c =
    let rest = c.set_le64s_at.ensures.written in
    λ i. record {
      ihard = rest 0 (omega arith) i;
      isoft = rest 1 (omega arith) i;
      inodes = rest 2 (omega arith) i;
      bhard = rest 3 (omega arith) i;
      bsoft = rest 4 (omega arith) i;
      space = rest 5 (omega arith) i;
      btime = rest 6 (omega arith) i;
      itime = rest 7 (omega arith) i;
    }
