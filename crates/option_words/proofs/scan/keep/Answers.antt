use Rattle.std.proofs.Common.{◌≤◌, length, arith}
use Rattle.std.proofs.lemmas.Bool.Decides.{nat_tests}
use Rattle.option_words.proofs.KeepLemmas.{full_keeps, kept_more}
use Rattle.option_words.proofs.scan.keep.Goals as goal

pub returns-then-is_full : goal.returns-then-is_full
returns-then-is_full c = λ behind.
    let full : 7 ≤ length c.args.operands.now.items = grind (arith, nat_tests) in
    full_keeps c.args.operands.now.items behind _ full

pub returns : goal.returns
returns c = λ behind. kept_more _ _ _ behind c.push.ensures.items
