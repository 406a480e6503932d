use Rattle.std.proofs.Common.{sym, arith}
use Rattle.std.proofs.lemmas.Fmt.{length-decimal-le}
use Rattle.itoa.proofs.Decimal.{length_one, length_pair, length_two}
use Rattle.report_text.proofs.page.+count_digits.Goals as goal

pub returns-in-0-to-9-clause-digits : goal.returns-in-0-to-9-clause-digits
returns-in-0-to-9-clause-digits _ c = sym (length_one c.args.number (omega (arith, c.in-0-to-9)))

pub returns-in-10-to-99-clause-digits : goal.returns-in-10-to-99-clause-digits
returns-in-10-to-99-clause-digits _ c =
    sym (length_two c.args.number (omega (arith, c.in-10-to-99)) (omega (arith, c.in-10-to-99)))

pub returns-in_default-clause-digits : goal.returns-in_default-clause-digits
returns-in_default-clause-digits _ c =
    omega (arith, c.count_digits.ensures.digits, length_pair c.args.number (omega (arith, c.in_default)) (omega arith))

pub returns-in_default-clause-few : goal.returns-in_default-clause-few
returns-in_default-clause-few _ c =
    omega (
      arith,
      c.count_digits.ensures.digits,
      length_pair c.args.number (omega (arith, c.in_default)) (omega arith),
      length-decimal-le 10 c.args.number (omega arith) (omega arith) (omega arith),
    )
