-- The identifier that a word names, digit by digit from the left.
use Rattle.std.proofs.Common.{◌≡◌, ℕ, ◌+◌, ◌*◌, ◌^◌, ◌<◌, ◌≤◌, true, false, List, length, take, get_or, inl, inr, sym}
use Rattle.std.proofs.Common.{ap, ◌∙◌, subst, arith}
use Rattle.std.specs.Char.{digit_value, is_ascii_digit}
use Rattle.std.specs.Str.{all_ascii_digits}
use Rattle.std.specs.Str.Parse.{AllDigits, digits_value}
use Rattle.std.proofs.lemmas.Bool.{cases_lt}
use Rattle.std.proofs.lemmas.Bool.Decides.{nat_tests}
use Rattle.std.proofs.lemmas.List.{take_all}
use Rattle.std.proofs.lemmas.Int.Digits.{digits_value_more, digits_more}
use Rattle.quota_types.proofs.DigitsLemmas.{all_ascii_digits-spoilt}
use Rattle.input_text.specs.Numeral.{value_of}
use Rattle.input_text.proofs.NumeralLemmas.{IsNumeralModel-value_of}
use Rattle.refusals.specs.declared.cause.Cause.TheVariants.{BadNumber}
use Rattle.id_names.specs.FirstMatch.{first_id}
use Rattle.id_names.specs.NamesFile.{NameLine}
use Rattle.run_steps.specs.Numbers.{identifier_of, known}
use Rattle.refusals.specs.Outcome.{Passed, Refused}
use Rattle.refusals.specs.Refusals.{refusal_of}

-- a number in place of a value, which is 2^32 where that is no identifier
pub data IsUpTo (value number : ℕ) : Type 0 where
  Below : number ≡ value → value < 2 ^ 32 → IsUpTo value number
  Past : number ≡ 2 ^ 32 → 2 ^ 32 ≤ value → IsUpTo value number

-- the digits before a place make this number, or one that is no identifier
pub record IsReadUpTo (word : List ℕ) (at number : ℕ) : Type 0 where
  pub digits : AllDigits 10 (take at word)
  pub value : IsUpTo (digits_value 10 (take at word)) number

value_more : (value number digit value' more : ℕ) → IsUpTo value number → value' ≡ value * 10 + digit
    → (number * 10 + digit < 2 ^ 32 → more ≡ number * 10 + digit) → (2 ^ 32 ≤ number * 10 + digit → more ≡ 2 ^ 32)
    → IsUpTo value' more
value_more value number digit value' more (Below is low) grown below past =
    elim (cases_lt (number * 10 + digit) (2 ^ 32)) [
      | inl b ↦ Below (below b ∙ omega arith) (omega arith)
      | inr p ↦ Past (past p) (omega arith)
    ]
value_more value number digit value' more (Past is high) grown below past = Past (past (omega arith)) (omega arith)

-- one more digit
pub read_up_to_more : (word : List ℕ) (at number more : ℕ) → IsReadUpTo word at number → at < length word
    → is_ascii_digit (get_or word at 0) ≡ true
    → (number * 10 + digit_value (get_or word at 0) < 2 ^ 32 → more ≡ number * 10 + digit_value (get_or word at 0))
    → (2 ^ 32 ≤ number * 10 + digit_value (get_or word at 0) → more ≡ 2 ^ 32) → IsReadUpTo word (at + 1) more
read_up_to_more word at number more read in_word digit low high = record {
  digits = digits_more 10 word at in_word read.digits (grind (arith, nat_tests));
  value = value_more _ number (digit_value (get_or word at 0)) _ more read.value
      (digits_value_more 10 word at in_word) low high;
}

value_below : (value number : ℕ) → IsUpTo value number → number < 2 ^ 32 → number ≡ value
value_below value number (Below is low) few = is
value_below value number (Past is high) few = absurd (omega arith)

value_past : (value number : ℕ) → IsUpTo value number → 2 ^ 32 ≤ number → 2 ^ 32 ≤ value
value_past value number (Below is low) past = absurd (omega arith)
value_past value number (Past is high) past = high

-- a byte that is no digit makes the word a name
pub identifier_of-spoilt : (names : List NameLine) (word : List ℕ) (at : ℕ) → at < length word
    → is_ascii_digit (get_or word at 0) ≡ false → identifier_of names word ≡ known (first_id names word) word
identifier_of-spoilt names word at in_word other =
    let no = all_ascii_digits-spoilt word at in_word other in
    grind arith

-- all digits are read
read_all : (word : List ℕ) (number : ℕ) → IsReadUpTo word (length word) number
    → (all_ascii_digits word ≡ true) × IsUpTo (value_of word) number
read_all word number read =
    let whole = take_all (length word) word (omega arith) in
    let digits : AllDigits 10 word = subst (AllDigits 10) whole read.digits in (
      IsNumeralModel-value_of.from word digits,
      subst (λ (v : ℕ). IsUpTo v number)
          (ap (digits_value 10) whole ∙ sym (IsNumeralModel-value_of.same word digits)) read.value,
    )

-- all is read, and is an identifier
pub identifier_of-read : (names : List NameLine) (word : List ℕ) (number : ℕ) → IsReadUpTo word (length word) number
    → 0 < length word → number < 2 ^ 32 → identifier_of names word ≡ Passed number
identifier_of-read names word number read some few =
    let so = read_all word number read in
    let value : number ≡ value_of word = value_below _ _ so.1 few in
    let all : all_ascii_digits word ≡ true = so.0 in
    let low : value_of word < 2 ^ 32 = omega arith in
    grind (arith, nat_tests)

-- all is read, and is too large
pub identifier_of-past : (names : List NameLine) (word : List ℕ) (number : ℕ) → IsReadUpTo word (length word) number
    → 0 < length word → 2 ^ 32 ≤ number → identifier_of names word ≡ Refused (refusal_of BadNumber word)
identifier_of-past names word number read some past =
    let so = read_all word number read in
    let all : all_ascii_digits word ≡ true = so.0 in
    let high : 2 ^ 32 ≤ value_of word = value_past _ _ so.1 past in
    grind (arith, nat_tests)
