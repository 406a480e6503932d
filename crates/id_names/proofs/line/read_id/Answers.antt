use Rattle.std.proofs.Common.{◌≡◌, true, get_or, length, sym, ◌∙◌, arith, ◌^◌}
use Rattle.std.proofs.lemmas.Bool.Decides.{nat_tests}
use Rattle.std.specs.Char.{is_ascii_digit}
use Rattle.quota_types.proofs.DigitsLemmas.{digit_value-digit, IsReadBelow-more}
use Rattle.id_names.proofs.IdLemmas.{id_of_field-spoilt, id_of_field-too_large, id_of_field-read}
use Rattle.id_names.proofs.line.read_id.Goals as goal

pub returns-then-not-is_ascii_digit : goal.returns-then-not-is_ascii_digit
returns-then-not-is_ascii_digit c =
    sym (id_of_field-spoilt c.args.field.now c.loop-digit.digit-index c.loop-digit-test.true
    (sym c.is_ascii_digit.ensures.value ∙ c.if-not-is_ascii_digit.true))

pub returns-in_err-checked_mul : goal.returns-in_err-checked_mul
returns-in_err-checked_mul c =
    c.from_residual.ensures
    ∙ sym (id_of_field-too_large c.args.field.now c.loop-digit.digit-index c.loop-digit.id c.loop-digit.invariant
    c.loop-digit-test.true
    (omega (arith, c.in_err-checked_mul.ensures)))

pub returns-in_err-id : goal.returns-in_err-id
returns-in_err-id c =
    let digit : is_ascii_digit (get_or c.args.field.now c.loop-digit.digit-index 0) ≡ true =
    sym c.is_ascii_digit.ensures.value ∙ c.if-not-is_ascii_digit.false in
    c.from_residual-in_err-id.ensures
    ∙ sym (id_of_field-too_large c.args.field.now c.loop-digit.digit-index c.loop-digit.id c.loop-digit.invariant
    c.loop-digit-test.true
    (omega (
      arith,
      c.in_ok-checked_mul.ensures,
      c.in_err-id.ensures,
      digit_value-digit (get_or c.args.field.now c.loop-digit.digit-index 0) digit,
    )))

pub loop-digit-preserved : goal.loop-digit-preserved
loop-digit-preserved c =
    let digit : is_ascii_digit (get_or c.args.field.now c.loop-digit.digit-index 0) ≡ true =
    sym c.is_ascii_digit.ensures.value ∙ c.if-not-is_ascii_digit.false in
    IsReadBelow-more (2 ^ 32) c.args.field.now c.loop-digit.digit-index c.loop-digit.id c.in_ok-id.id
    c.loop-digit.invariant c.loop-digit-test.true digit
    (omega (
      arith,
      c.in_ok-checked_mul.ensures,
      c.in_ok-id.ensures,
      digit_value-digit (get_or c.args.field.now c.loop-digit.digit-index 0) digit,
    ))
    (omega (arith, c.in_ok-id.ensures))

pub returns : goal.returns
returns c =
    let at_end : c.loop-digit.digit-index ≡ length c.args.field.now = omega arith in
    let read = rw at_end at c.loop-digit.invariant in
    sym (id_of_field-read c.args.field.now c.loop-digit.id read (grind (arith, nat_tests)))
