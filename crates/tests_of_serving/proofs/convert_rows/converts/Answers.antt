use Rattle.std.proofs.Common.{ap, arith, length}
use Rattle.outside.specs.Replacement.{replacement_name}
use Rattle.tests_of_serving.proofs.convert_rows.converts.Goals as goal

pub convert-answer-requires : goal.convert-answer-requires
unfolding replacement_name
convert-answer-requires c = λ same. omega (arith, ap length same)
