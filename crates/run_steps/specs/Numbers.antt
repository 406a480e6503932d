-- What the words say that stand for identifiers, limits and times. Source: the manual pages of setquota and edquota;
-- that a word of digits is a number and no name is this project's own.
use Rattle.std.specs.Prelude.{ℕ, ◌^◌, Bool, true, false, ◌&&◌, nat_lt, if◌then◌else◌, List, [], ◌∷◌, length, Option}
use Rattle.std.specs.Prelude.{Some, None, codes}
use Rattle.std.specs.Str.{all_ascii_digits, bytes_eq}
use Rattle.id_names.specs.FirstMatch.{first_id}
use Rattle.id_names.specs.NamesFile.{NameLine}
use Rattle.quota_types.specs.declared.record.Grace.{Grace}
use Rattle.input_text.specs.Numeral.{number_of, value_of}
use Rattle.set_edit.specs.Number.{limit_of}
use Rattle.set_edit.specs.declared.limits.Limits.{Limits}
use Rattle.set_edit.specs.declared.time_word.TimeWord.{TimeWord}
use Rattle.set_edit.specs.declared.time_word.TimeWord.TheVariants.{Seconds, Unset}
use Rattle.refusals.specs.declared.cause.Cause.TheVariants.{UnknownName, BadNumber}
use Rattle.refusals.specs.Outcome.{Outcome, Passed, Refused, and_then}
use Rattle.refusals.specs.Refusals.{refusal_of}

-- the identifier that a word is known to name, or the refusal of that word
abbrev pub known : Option ℕ → List ℕ → Outcome ℕ
known (Some id) word = Passed id
known None word = Refused (refusal_of UnknownName word)

-- The identifier that a word names: one or more digits stand for their value, which is below 2^32, and another word for
-- the identifier of the first of the names that it is.
abbrev pub identifier_of : List NameLine → List ℕ → Outcome ℕ
identifier_of names word =
    if nat_lt 0 (length word) && all_ascii_digits word
    then (if nat_lt (value_of word) (2 ^ 32) then Passed (value_of word) else Refused (refusal_of BadNumber word))
    else known (first_id names word) word

-- the number that a word was read as, or the refusal of that word
abbrev pub number_or_refused : List ℕ → Option ℕ → Outcome ℕ
number_or_refused word (Some number) = Passed number
number_or_refused word None = Refused (refusal_of BadNumber word)

-- the limit of blocks, or else of inodes, that a word spells
abbrev pub limit_read : Bool → List ℕ → Outcome ℕ
limit_read blocks word = number_or_refused word (limit_of blocks word)

-- the four limits that words spell, read from left to right: the soft and the hard limit of blocks, then those of
-- inodes
abbrev pub limits_read : List (List ℕ) → Outcome Limits
limits_read (bsoft ∷ bhard ∷ isoft ∷ ihard ∷ []) =
    and_then (limit_read true bsoft) (λ (b : ℕ).
    and_then (limit_read true bhard) (λ (bh : ℕ).
    and_then (limit_read false isoft) (λ (i : ℕ).
    and_then (limit_read false ihard) (λ (ih : ℕ).
    Passed (record { bsoft = b; bhard = bh; isoft = i; ihard = ih })))))
limits_read _ = Refused (refusal_of BadNumber [])

-- the number of seconds that a word spells
abbrev pub seconds_read : List ℕ → Outcome ℕ
seconds_read word = number_or_refused word (number_of word)

-- the two grace periods that words spell, those of blocks first
abbrev pub grace_read : List ℕ → List ℕ → Outcome Grace
grace_read block inode =
    and_then (seconds_read block) (λ (b : ℕ).
    and_then (seconds_read inode) (λ (i : ℕ).
    Passed (record { block = b; inode = i })))

-- the time that a word spells: a number of seconds, or `unset`
abbrev pub time_read : List ℕ → Outcome TimeWord
time_read word =
    if bytes_eq word (codes "unset") then Passed Unset
    else and_then (seconds_read word) (λ (seconds : ℕ). Passed (Seconds seconds))
