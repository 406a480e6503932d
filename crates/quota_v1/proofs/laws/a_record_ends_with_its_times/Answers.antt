use Rattle.std.proofs.Common.{arith}
use Rattle.quota_v1.proofs.PlaceLemmas.{start_of_next, times_fill}
use Rattle.quota_v1.proofs.laws.a_record_ends_with_its_times.Goals as goal

pub returns-clause-inode : goal.returns-clause-inode
returns-clause-inode c = λ format id. omega arith

pub returns-clause-end : goal.returns-clause-end
returns-clause-end c = λ format flat id. omega (arith, times_fill format flat, start_of_next format id)
