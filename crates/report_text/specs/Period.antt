-- The text of a period of time, as the quota tools print grace periods: to the nearest minute, and in whole days from
-- 48 hours on.
use Rattle.std.specs.Prelude.{ℕ, ◌+◌, ◌/◌, ◌%◌, nat_le, if◌then◌else◌, List, [], ◌∷◌, ◌++◌, codes, decimal}

-- a number below 100 in two digits
abbrev pub two_digits : ℕ → List ℕ
two_digits n = (48 + n / 10) ∷ (48 + n % 10) ∷ []

-- a number of minutes: whole days from 48 hours on, else hours and minutes
abbrev pub text_of_minutes : ℕ → List ℕ
text_of_minutes minutes =
    if nat_le 48 (minutes / 60) then decimal (minutes / 60 / 24) ++ codes "days"
    else two_digits (minutes / 60) ++ codes ":" ++ two_digits (minutes % 60)

-- a number of seconds, to the nearest minute
unfoldable pub period_of : ℕ → List ℕ
period_of seconds = text_of_minutes ((seconds + 30) / 60)
