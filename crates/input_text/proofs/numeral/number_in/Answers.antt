use Rattle.std.proofs.Common.{◌≡◌, ◌^◌, true, get_or, length, sym, ◌∙◌, arith}
use Rattle.std.proofs.lemmas.Bool.Decides.{nat_tests}
use Rattle.std.specs.Char.{is_ascii_digit}
use Rattle.quota_types.proofs.DigitsLemmas.{IsReadBelow-more, digit_value-digit}
use Rattle.input_text.proofs.NumeralLemmas.{number_of-spoilt, number_of-too_large, number_of-read}
use Rattle.input_text.proofs.numeral.number_in.Goals as goal

pub returns-then-not-is_ascii_digit : goal.returns-then-not-is_ascii_digit
returns-then-not-is_ascii_digit c =
    sym (number_of-spoilt c.args.word.now c.loop-digit.digit-index c.loop-digit-test.true
    (sym c.is_ascii_digit.ensures.value ∙ c.if-not-is_ascii_digit.true))

pub returns-in_err-checked_mul : goal.returns-in_err-checked_mul
returns-in_err-checked_mul c =
    c.from_residual.ensures
    ∙ sym (number_of-too_large c.args.word.now c.loop-digit.digit-index c.loop-digit.number c.loop-digit.invariant
    c.loop-digit-test.true
    (omega (arith, c.in_err-checked_mul.ensures)))

pub returns-in_err-number : goal.returns-in_err-number
returns-in_err-number c =
    let digit : is_ascii_digit (get_or c.args.word.now c.loop-digit.digit-index 0) ≡ true =
    sym c.is_ascii_digit.ensures.value ∙ c.if-not-is_ascii_digit.false in
    c.from_residual-in_err-number.ensures
    ∙ sym (number_of-too_large c.args.word.now c.loop-digit.digit-index c.loop-digit.number c.loop-digit.invariant
    c.loop-digit-test.true
    (omega (
      arith,
      c.in_ok-checked_mul.ensures,
      c.in_err-number.ensures,
      digit_value-digit (get_or c.args.word.now c.loop-digit.digit-index 0) digit,
    )))

pub loop-digit-preserved : goal.loop-digit-preserved
loop-digit-preserved c =
    let digit : is_ascii_digit (get_or c.args.word.now c.loop-digit.digit-index 0) ≡ true =
    sym c.is_ascii_digit.ensures.value ∙ c.if-not-is_ascii_digit.false in
    IsReadBelow-more (2 ^ 64) c.args.word.now c.loop-digit.digit-index c.loop-digit.number c.in_ok-number.number
    c.loop-digit.invariant c.loop-digit-test.true digit
    (omega (
      arith,
      c.in_ok-checked_mul.ensures,
      c.in_ok-number.ensures,
      digit_value-digit (get_or c.args.word.now c.loop-digit.digit-index 0) digit,
    ))
    (omega (arith, c.in_ok-number.ensures))

pub returns : goal.returns
returns c =
    let at_end : c.loop-digit.digit-index ≡ length c.args.word.now = omega arith in
    let read = rw at_end at c.loop-digit.invariant in
    sym (number_of-read c.args.word.now c.loop-digit.number read (grind (arith, nat_tests)) (omega arith))
