-- Numbers as words of decimal digits. A word is its bytes. Source: the bounds are this project's own.
use Rattle.std.specs.Prelude.{ℕ, ◌+◌, ◌*◌, ◌^◌, Bool, ◌&&◌, nat_lt, nat_le, if◌then◌else◌, List, [], ◌∷◌, length}
use Rattle.std.specs.Prelude.{Option, Some, None}
use Rattle.std.specs.Char.{digit_value}
use Rattle.std.specs.Str.{all_ascii_digits}

-- the number that digits spell: each counts ten times for each digit behind it
abbrev pub value_of : List ℕ → ℕ
value_of [] = 0
value_of (digit ∷ behind) = digit_value digit * 10 ^ length behind + value_of behind

-- the word consists of 1 to 20 decimal digits; those in front may be zeros
abbrev pub is_numeral : List ℕ → Bool
is_numeral word = nat_lt 0 (length word) && nat_le (length word) 20 && all_ascii_digits word

-- the number, where it is below 2^64
abbrev pub within_64_bits : ℕ → Option ℕ
within_64_bits number = if nat_lt number (2 ^ 64) then Some number else None

-- the number that a word spells, where it consists of 1 to 20 digits with a value below 2^64
unfoldable pub number_of : List ℕ → Option ℕ
number_of word = if is_numeral word then within_64_bits (value_of word) else None
