use Rattle.std.proofs.Common.{◌≡◌, ◌<◌, true, get_or, length, sym, ◌∙◌, arith}
use Rattle.std.proofs.lemmas.Bool.Decides.{nat_tests}
use Rattle.std.specs.Char.{is_ascii_digit}
use Rattle.quota_types.proofs.DigitsLemmas.{digit_value-digit}
use Rattle.run_steps.proofs.IdentifierLemmas.{identifier_of-spoilt, identifier_of-read, identifier_of-past}
use Rattle.run_steps.proofs.IdentifierLemmas.{read_up_to_more}
use Rattle.run_steps.proofs.numbers.identifier_from.Goals as goal

pub returns-then-not-is_ascii_digit : goal.returns-then-not-is_ascii_digit
returns-then-not-is_ascii_digit c =
    rw (identifier_of-spoilt c.args.names.now c.args.word.now c.loop-digit.digit-index c.loop-digit-test.true
    (sym c.is_ascii_digit.ensures.value ∙ c.if-not-is_ascii_digit.true)) c.told_by-then-not-is_ascii_digit.ensures

pub loop-digit-preserved : goal.loop-digit-preserved
loop-digit-preserved c =
    let digit : is_ascii_digit (get_or c.args.word.now c.loop-digit.digit-index 0) ≡ true =
    sym c.is_ascii_digit.ensures.value ∙ c.if-not-is_ascii_digit.false in
    let unit = digit_value-digit (get_or c.args.word.now c.loop-digit.digit-index 0) digit in
    read_up_to_more c.args.word.now c.loop-digit.digit-index c.loop-digit.number _ c.loop-digit.invariant
    c.loop-digit-test.true digit
    (λ b. omega (arith, c.min-number.ensures, c.from-unit.ensures, unit, b))
    (λ p. omega (arith, c.min-number.ensures, c.from-unit.ensures, unit, p))

pub returns-then-number-lt-PAST_IDENTIFIERS : goal.returns-then-number-lt-PAST_IDENTIFIERS
returns-then-number-lt-PAST_IDENTIFIERS c =
    let at_end : c.loop-digit.digit-index ≡ length c.args.word.now = omega arith in
    let read = rw at_end at c.loop-digit.invariant in
    let some : 0 < length c.args.word.now = grind (arith, nat_tests) in
    identifier_of-read c.args.names.now c.args.word.now c.loop-digit.number read some (omega arith)

pub returns-else-number-lt-PAST_IDENTIFIERS : goal.returns-else-number-lt-PAST_IDENTIFIERS
returns-else-number-lt-PAST_IDENTIFIERS c =
    let at_end : c.loop-digit.digit-index ≡ length c.args.word.now = omega arith in
    let read = rw at_end at c.loop-digit.invariant in
    let some : 0 < length c.args.word.now = grind (arith, nat_tests) in
    identifier_of-past c.args.names.now c.args.word.now c.loop-digit.number read some (omega arith)
