-- Words of digits, digit by digit from the left.
use Rattle.std.proofs.Common.{◌≡◌, ℕ, ◌+◌, ◌*◌, ◌^◌, ◌<◌, ◌≤◌, Bool, true, false, List, length, take, get_or, Some}
use Rattle.std.proofs.Common.{None, refl, sym, ◌∙◌, arith, rules}
use Rattle.std.specs.Char.{digit_value, is_ascii_digit}
use Rattle.std.specs.Str.{all_ascii_digits}
use Rattle.std.specs.Str.Parse.{digits_value}
use Rattle.std.proofs.lemmas.Bool.Decides.{nat_tests}
use Rattle.std.proofs.lemmas.Str.Parse.{IsNumeralModel, numerals_by_weight, tells_all_ascii_digits}
use Rattle.std.proofs.lemmas.Str.Parse.{digits_value-take-le}
use Rattle.std.proofs.lemmas.Int.Digits.{digits_value_more}
use Rattle.quota_types.proofs.DigitsLemmas.{IsReadBelow, IsReadBelow-whole, all_ascii_digits-spoilt}
use Rattle.input_text.specs.Numeral.{value_of, number_of}

-- `value_of` is the value of decimal digits as std has it
pub IsNumeralModel-value_of : IsNumeralModel (λ ds. all_ascii_digits ds ≡ true) value_of
IsNumeralModel-value_of =
    numerals_by_weight (λ ds. all_ascii_digits ds ≡ true) tells_all_ascii_digits value_of (search rules)

-- a byte that is no digit spoils a number
pub number_of-spoilt : (word : List ℕ) (at : ℕ) → at < length word → is_ascii_digit (get_or word at 0) ≡ false
    → number_of word ≡ None
unfolding number_of
number_of-spoilt word at in_word other =
    let no = all_ascii_digits-spoilt word at in_word other in
    grind arith

-- a number that is too large somewhere before the end of the word is too large
past_end : (word : List ℕ) (at : ℕ) → 2 ^ 64 ≤ digits_value 10 (take at word) → all_ascii_digits word ≡ true
    → 2 ^ 64 ≤ value_of word
past_end word at past all =
    omega (
      arith,
      digits_value-take-le 10 word at (omega arith),
      IsNumeralModel-value_of.same word (IsNumeralModel-value_of.to word all),
    )

number_of-past : (word : List ℕ) (all : Bool) → all ≡ all_ascii_digits word → (all ≡ true → 2 ^ 64 ≤ value_of word)
    → number_of word ≡ None
unfolding number_of
number_of-past word true e h = let past = h refl in grind (arith, nat_tests)
number_of-past word false e h = grind arith

-- one more digit makes the number too large
pub number_of-too_large : (word : List ℕ) (at number : ℕ) → IsReadBelow (2 ^ 64) word at number → at < length word
    → 2 ^ 64 ≤ number * 10 + digit_value (get_or word at 0) → number_of word ≡ None
number_of-too_large word at number read in_word past =
    number_of-past word (all_ascii_digits word) refl
    (past_end word (at + 1) (omega (arith, digits_value_more 10 word at in_word, read.value)))

-- all is read
pub number_of-read : (word : List ℕ) (number : ℕ) → IsReadBelow (2 ^ 64) word (length word) number → 0 < length word
    → length word ≤ 20 → number_of word ≡ Some number
unfolding number_of
number_of-read word number read some few =
    let whole = IsReadBelow-whole (2 ^ 64) word number read in
    let all : all_ascii_digits word ≡ true = whole.0 in
    let value : number ≡ value_of word =
    whole.1 ∙ sym (IsNumeralModel-value_of.same word (IsNumeralModel-value_of.to word all)) in
    let fits = read.fits in
    grind (arith, nat_tests)
