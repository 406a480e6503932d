-- Identifiers, digit by digit from the left.
use Rattle.std.proofs.Common.{◌≡◌, ℕ, ◌+◌, ◌*◌, ◌^◌, ◌<◌, ◌≤◌, true, false, List, length, get_or, Some, None, arith}
use Rattle.std.specs.Char.{digit_value, is_ascii_digit}
use Rattle.std.specs.Str.{all_ascii_digits}
use Rattle.std.specs.Str.Parse.{digits_value}
use Rattle.std.proofs.lemmas.Bool.Decides.{nat_tests}
use Rattle.std.proofs.lemmas.Str.Parse.{digits_value-take-le}
use Rattle.std.proofs.lemmas.Int.Digits.{digits_value_more}
use Rattle.quota_types.proofs.DigitsLemmas.{IsReadBelow, IsReadBelow-whole, all_ascii_digits-spoilt}
use Rattle.id_names.specs.NamesFile.{id_of_field}

-- a byte that is no digit spoils an identifier
pub id_of_field-spoilt : (field : List ℕ) (at : ℕ) → at < length field → is_ascii_digit (get_or field at 0) ≡ false
    → id_of_field field ≡ None
id_of_field-spoilt field at in_field other =
    let fails : all_ascii_digits field ≡ false = all_ascii_digits-spoilt field at in_field other in
    grind arith

-- a number that is too large somewhere before the end of the field is too large
id_of_field-past : (field : List ℕ) → 2 ^ 32 ≤ digits_value 10 field → id_of_field field ≡ None
id_of_field-past field past = grind (arith, nat_tests)

-- one more digit makes the number too large
pub id_of_field-too_large : (field : List ℕ) (at number : ℕ) → IsReadBelow (2 ^ 32) field at number → at < length field
    → 2 ^ 32 ≤ number * 10 + digit_value (get_or field at 0) → id_of_field field ≡ None
id_of_field-too_large field at number read in_field past =
    let more = digits_value_more 10 field at in_field in
    let front = digits_value-take-le 10 field (at + 1) (omega arith) in
    id_of_field-past field (omega (arith, more, front, read.value))

-- all is read
pub id_of_field-read : (field : List ℕ) (number : ℕ) → IsReadBelow (2 ^ 32) field (length field) number
    → 0 < length field → id_of_field field ≡ Some number
id_of_field-read field number read some =
    let whole = IsReadBelow-whole (2 ^ 32) field number read in
    let all : all_ascii_digits field ≡ true = whole.0 in
    let value : number ≡ digits_value 10 field = whole.1 in
    let fits = read.fits in
    grind (arith, nat_tests)
