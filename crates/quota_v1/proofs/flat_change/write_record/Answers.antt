use Rattle.std.proofs.Common.{◌∙◌, arith}
use Rattle.std.proofs.lemmas.Bool.Decides.{nat_tests}
use Rattle.quota_types.proofs.NumberLemmas.{number_before}
use Rattle.quota_v1.proofs.RecordLemmas.{written_record}
use Rattle.quota_v1.proofs.flat_change.write_record.Goals as goal

pub returns-clause-written : goal.returns-clause-written
returns-clause-written c =
    let numbers = c.write_numbers.ensures in
    let times = c.write_times.ensures in
    written_record (record {
      flat = c.requires.flat;
      place = c.record_start-start.ensures.place;
      other = grind (arith, nat_tests);
      kept = c.requires.kept.again;
      bhard = number_before 4 _ _ _ _ _ times.kept (omega arith) ∙ numbers.bhard;
      bsoft = number_before 4 _ _ _ _ _ times.kept (omega arith) ∙ numbers.bsoft;
      space = number_before 4 _ _ _ _ _ times.kept (omega arith) ∙ numbers.space;
      ihard = number_before 4 _ _ _ _ _ times.kept (omega arith) ∙ numbers.ihard;
      isoft = number_before 4 _ _ _ _ _ times.kept (omega arith) ∙ numbers.isoft;
      inodes = number_before 4 _ _ _ _ _ times.kept (omega arith) ∙ numbers.inodes;
      btime = times.block;
      itime = times.inode;
    })
