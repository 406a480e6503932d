use Rattle.std.proofs.Common.{arith}
use Rattle.std.proofs.lemmas.Result.{err_from_is_err_and}
use Rattle.option_words.specs.Given.{given_options}
use Rattle.command_words.proofs.OperandLemmas.{limits_formed, limits_ok}
use Rattle.command_words.proofs.building.limits.Goals as goal

pub returns-in_err-word_of : goal.returns-in_err-word_of
returns-in_err-word_of c =
    let p = err_from_is_err_and c.from_residual-in_err-word_of.result c.from_residual-in_err-word_of.ensures.1 in
    rw (p.1, p.2)
    (limits_ok (given_options c.args.given.now) c.args.words c.args.operands.now _ (omega arith) c.in_ok-named.ensures)

pub returns-in_err-word_of-2 : goal.returns-in_err-word_of-2
returns-in_err-word_of-2 c =
    let p = err_from_is_err_and c.from_residual-in_err-word_of-2.result c.from_residual-in_err-word_of-2.ensures.1 in
    rw (p.1, p.2)
    (limits_ok (given_options c.args.given.now) c.args.words c.args.operands.now _ (omega arith) c.in_ok-named.ensures)

pub returns-in_err-word_of-3 : goal.returns-in_err-word_of-3
returns-in_err-word_of-3 c =
    let p = err_from_is_err_and c.from_residual-in_err-word_of-3.result c.from_residual-in_err-word_of-3.ensures.1 in
    rw (p.1, p.2)
    (limits_ok (given_options c.args.given.now) c.args.words c.args.operands.now _ (omega arith) c.in_ok-named.ensures)

pub returns-in_err-word_of-4 : goal.returns-in_err-word_of-4
returns-in_err-word_of-4 c =
    let p = err_from_is_err_and c.from_residual-in_err-word_of-4.result c.from_residual-in_err-word_of-4.ensures.1 in
    rw (p.1, p.2)
    (limits_ok (given_options c.args.given.now) c.args.words c.args.operands.now _ (omega arith) c.in_ok-named.ensures)

pub returns-in_err-word_of-5 : goal.returns-in_err-word_of-5
returns-in_err-word_of-5 c =
    let p = err_from_is_err_and c.from_residual-in_err-word_of-5.result c.from_residual-in_err-word_of-5.ensures.1 in
    rw (p.1, p.2)
    (limits_ok (given_options c.args.given.now) c.args.words c.args.operands.now _ (omega arith) c.in_ok-named.ensures)

pub returns-in_err-word_of-6 : goal.returns-in_err-word_of-6
returns-in_err-word_of-6 c =
    let p = err_from_is_err_and c.from_residual-in_err-word_of-6.result c.from_residual-in_err-word_of-6.ensures.1 in
    rw (p.1, p.2)
    (limits_ok (given_options c.args.given.now) c.args.words c.args.operands.now _ (omega arith) c.in_ok-named.ensures)

pub returns : goal.returns
returns c =
    rw (
      c.in_ok-common_of.ensures,
      c.in_ok-word_of.ensures,
      c.in_ok-word_of-2.ensures,
      c.in_ok-word_of-3.ensures,
      c.in_ok-word_of-4.ensures,
      c.in_ok-word_of-5.ensures,
      c.in_ok-word_of-6.ensures,
    )
    (limits_formed (given_options c.args.given.now) c.args.words c.args.operands.now _ (omega arith)
    c.in_ok-named.ensures)
