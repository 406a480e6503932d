use Rattle.std.proofs.Common.{refl, ◌∙◌, arith}
use Rattle.quota_types.proofs.NumberLemmas.{number_before}
use Rattle.quota_v1.proofs.slot.record_bytes.Goals as goal

pub returns-clause-stored : goal.returns-clause-stored
returns-clause-stored c =
    let numbers = c.write_numbers.ensures in
    let times = c.write_times.ensures in
    rw (
      number_before 4 _ _ _ _ _ times.kept (omega arith) ∙ numbers.bhard,
      number_before 4 _ _ _ _ _ times.kept (omega arith) ∙ numbers.bsoft,
      number_before 4 _ _ _ _ _ times.kept (omega arith) ∙ numbers.space,
      number_before 4 _ _ _ _ _ times.kept (omega arith) ∙ numbers.ihard,
      number_before 4 _ _ _ _ _ times.kept (omega arith) ∙ numbers.isoft,
      number_before 4 _ _ _ _ _ times.kept (omega arith) ∙ numbers.inodes,
      times.block,
      times.inode,
    ) refl
