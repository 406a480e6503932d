-- Words of digits, digit by digit from the left.
use Rattle.std.proofs.Common.{◌≡◌, ℕ, ◌+◌, ◌-◌, ◌*◌, ◌<◌, true, false, List, length, take, get_or, ap, ◌∙◌, subst}
use Rattle.std.proofs.Common.{arith}
use Rattle.std.specs.Char.{digit_value, is_ascii_digit}
use Rattle.std.specs.Str.{all_ascii_digits}
use Rattle.std.specs.Str.Parse.{AllDigits, digits_value}
use Rattle.std.proofs.lemmas.Bool.{false_from_ne_true}
use Rattle.std.proofs.lemmas.Bool.Decides.{nat_tests}
use Rattle.std.proofs.lemmas.Int.Digits.{digits_value_more, digits_more}
use Rattle.std.proofs.lemmas.List.{take_all}
use Rattle.std.proofs.lemmas.Str.Parse.{IsNumeralModel, numerals_by_value, tells_all_ascii_digits, digit_at}

-- `all_ascii_digits` tells the words of digits
pub IsNumeralModel-digits_value : IsNumeralModel (λ ds. all_ascii_digits ds ≡ true) (digits_value 10)
IsNumeralModel-digits_value = numerals_by_value (λ ds. all_ascii_digits ds ≡ true) tells_all_ascii_digits

-- a byte that is no digit spoils the word
pub all_ascii_digits-spoilt : (word : List ℕ) (at : ℕ) → at < length word → is_ascii_digit (get_or word at 0) ≡ false
    → all_ascii_digits word ≡ false
all_ascii_digits-spoilt word at in_word other = false_from_ne_true _ (λ all.
    let digit = digit_at word at (IsNumeralModel-digits_value.to word all) in_word in
    grind (arith, nat_tests))

-- what a digit counts
pub digit_value-digit : (byte : ℕ) → is_ascii_digit byte ≡ true → digit_value byte ≡ byte - 48
digit_value-digit byte digit = grind (arith, nat_tests)

-- the digits before a place make this number, which is below a bound
pub record IsReadBelow (bound : ℕ) (word : List ℕ) (at number : ℕ) : Type 0 where
  pub digits : AllDigits 10 (take at word)
  pub value : number ≡ digits_value 10 (take at word)
  pub fits : number < bound

-- one more digit
pub IsReadBelow-more : (bound : ℕ) (word : List ℕ) (at number more : ℕ) → IsReadBelow bound word at number
    → at < length word → is_ascii_digit (get_or word at 0) ≡ true
    → more ≡ number * 10 + digit_value (get_or word at 0) → more < bound → IsReadBelow bound word (at + 1) more
IsReadBelow-more bound word at number more read in_word digit e fits = record {
  digits = digits_more 10 word at in_word read.digits (grind (arith, nat_tests));
  value = e ∙ (omega (arith, digits_value_more 10 word at in_word, read.value));
  fits = fits;
}

-- all is read
pub IsReadBelow-whole : (bound : ℕ) (word : List ℕ) (number : ℕ) → IsReadBelow bound word (length word) number
    → (all_ascii_digits word ≡ true) × (number ≡ digits_value 10 word)
IsReadBelow-whole bound word number read =
    let whole = take_all (length word) word (omega arith) in (
      IsNumeralModel-digits_value.from word (subst (AllDigits 10) whole read.digits),
      read.value ∙ ap (digits_value 10) whole,
    )
