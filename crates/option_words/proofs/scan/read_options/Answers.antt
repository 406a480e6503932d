use Rattle.std.proofs.Common.{◌<◌, get_or, length, arith}
use Rattle.std.proofs.lemmas.Bool.Decides.{nat_tests}
use Rattle.std.proofs.lemmas.Str.{IsCharBoundary-after_ascii}
use Rattle.option_words.proofs.ItemLemmas.{no_operand-options}
use Rattle.option_words.proofs.scan.read_options.Goals as goal

pub range_from-requires : goal.range_from-requires
range_from-requires c = λ _.
    let inside : 0 < length c.args.text.now = grind (arith, nat_tests) in
    let low : get_or c.args.text.now 0 0 < 128 = grind (arith, nat_tests) in
    IsCharBoundary-after_ascii c.args.text.now 0 c.utf8.text inside low

pub returns-then-as_bytes-eq45-clause-none : goal.returns-then-as_bytes-eq45-clause-none
returns-then-as_bytes-eq45-clause-none c = no_operand-options c.args.tool c.args.word c.args.text.now

pub returns-else-as_bytes-eq45-clause-none : goal.returns-else-as_bytes-eq45-clause-none
returns-else-as_bytes-eq45-clause-none c = no_operand-options c.args.tool c.args.word c.args.text.now
