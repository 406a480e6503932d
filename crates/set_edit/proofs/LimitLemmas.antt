-- A limit by its last byte.
use Rattle.std.proofs.Common.{◌≡◌, ℕ, Bool, true, false, ◌&&◌, List, [], ◌∷◌, ◌++◌, length, Option, Some, None, refl}
use Rattle.std.proofs.Common.{sym, ap, ◌∙◌, subst, append_assoc, append-nil, arith}
use Rattle.std.specs.Char.{is_ascii_digit}
use Rattle.std.specs.List.{prefix_len}
use Rattle.std.specs.Str.{all_ascii_digits}
use Rattle.std.proofs.lemmas.Bool.{false≢true, and_parts, and_from, and_left, and_right, false_from_ne_true}
use Rattle.std.proofs.lemmas.Bool.Decides.{nat_tests}
use Rattle.std.proofs.Math.Seq.{take-append_seam, drop-append_seam}
use Rattle.input_text.specs.Numeral.{number_of}
use Rattle.set_edit.specs.Number.{limit_of, factor_of, product_of}

-- the limit of a number and what stands behind it
abbrev limit_from : Bool → List ℕ → List ℕ → Option ℕ
limit_from blocks front behind = product_of (number_of front) (factor_of blocks behind)

-- the number of digits, times a factor
abbrev pub times : List ℕ → ℕ → Option ℕ
times digits factor = product_of (number_of digits) (Some factor)

-- the list does not begin with a digit
abbrev BeginsOther : List ℕ → Type 0
BeginsOther behind = prefix_len is_ascii_digit behind ≡ 0

prefix_len-digits : (front behind : List ℕ) → all_ascii_digits front ≡ true → BeginsOther behind
    → prefix_len is_ascii_digit (front ++ behind) ≡ length front
prefix_len-digits [] behind all other = other
prefix_len-digits (digit ∷ front) behind all other =
    let parts = and_parts (is_ascii_digit digit) (all_ascii_digits front) all in
    let first : is_ascii_digit digit ≡ true = parts.0 in
    let rest = prefix_len-digits front behind parts.1 other in
    rw first (omega (arith, rest))

begins_other : (byte : ℕ) (more : List ℕ) → is_ascii_digit byte ≡ false → BeginsOther (byte ∷ more)
begins_other byte more other = rw other

-- a limit in its two parts
limit_of-parts : (blocks : Bool) (front behind : List ℕ) → all_ascii_digits front ≡ true → BeginsOther behind
    → limit_of blocks (front ++ behind) ≡ limit_from blocks front behind
unfolding limit_of
limit_of-parts blocks front behind all other =
    let at = prefix_len-digits front behind all other in
    rw (at, take-append_seam front behind, drop-append_seam front behind)

-- the digits in front of a list that has another byte, that byte, and what is behind it
record HasOther (word : List ℕ) : Type 0 where
  front : List ℕ
  byte : ℕ
  behind : List ℕ
  parts : word ≡ front ++ byte ∷ behind
  digits : all_ascii_digits front ≡ true
  other : is_ascii_digit byte ≡ false

has_other_by : (byte : ℕ) (word : List ℕ) (digit : Bool) → is_ascii_digit byte ≡ digit → (digit ≡ true → HasOther word)
    → HasOther (byte ∷ word)
has_other_by byte word true e h =
    let later = h refl in
    record {
      front = byte ∷ later.front;
      byte = later.byte;
      behind = later.behind;
      parts = ap (λ (w : List ℕ). byte ∷ w) later.parts;
      digits = and_from _ _ e later.digits;
      other = later.other;
    }
has_other_by byte word false e h = record {
  front = [];
  byte = byte;
  behind = word;
  parts = refl;
  digits = refl;
  other = e;
}

has_other : (word : List ℕ) → all_ascii_digits word ≡ false → HasOther word
has_other [] none = absurd (false≢true (sym none))
has_other (byte ∷ word) none =
    has_other_by byte word (is_ascii_digit byte) refl
    (λ digit. has_other word (let P : Bool → Type 0 = λ b. (b && all_ascii_digits word) ≡ false in subst P digit none))

-- nothing longer than one byte is a suffix
factor_of-long : (blocks : Bool) (one two : ℕ) (more : List ℕ) → factor_of blocks (one ∷ two ∷ more) ≡ None
factor_of-long true one two more = grind arith
factor_of-long false one two more = grind arith

factor_of-behind : (blocks : Bool) (one : ℕ) (more : List ℕ) (last : ℕ)
    → factor_of blocks (one ∷ (more ++ last ∷ [])) ≡ None
factor_of-behind blocks one [] last = factor_of-long blocks one last []
factor_of-behind blocks one (two ∷ more) last = factor_of-long blocks one two (more ++ last ∷ [])

-- a digit is no suffix
factor_of-digit : (blocks : Bool) (byte : ℕ) → is_ascii_digit byte ≡ true → factor_of blocks (byte ∷ []) ≡ None
factor_of-digit true byte digit = grind (arith, nat_tests)
factor_of-digit false byte digit = grind (arith, nat_tests)

factor_of-none : (blocks : Bool) → factor_of blocks [] ≡ Some 1
factor_of-none true = refl
factor_of-none false = refl

limit_from-none : (blocks : Bool) (front behind : List ℕ) (number : Option ℕ) → number ≡ number_of front
    → factor_of blocks behind ≡ None → limit_from blocks front behind ≡ None
limit_from-none blocks front behind None e f = rw (← e)
limit_from-none blocks front behind (Some n) e f = rw (← e, f)

limit_from-times : (blocks : Bool) (front behind : List ℕ) (factor : ℕ) → factor_of blocks behind ≡ Some factor
    → limit_from blocks front behind ≡ times front factor
limit_from-times blocks front behind factor f = rw f

number_of-other : (word : List ℕ) → all_ascii_digits word ≡ false → number_of word ≡ None
unfolding number_of
number_of-other word none = grind arith

all_ascii_digits-push : (digits : List ℕ) (last : ℕ)
    → all_ascii_digits (digits ++ last ∷ []) ≡ (all_ascii_digits digits && is_ascii_digit last)
all_ascii_digits-push [] last = grind arith
all_ascii_digits-push (digit ∷ digits) last = let e = all_ascii_digits-push digits last in grind arith

-- a word with a byte before the last one that is no digit is no limit
limit_of-other : (blocks : Bool) (digits : List ℕ) (last : ℕ) → all_ascii_digits digits ≡ false
    → limit_of blocks (digits ++ last ∷ []) ≡ None
limit_of-other blocks digits last none =
    let h = has_other digits none in
    let whole : digits ++ last ∷ [] ≡ h.front ++ (h.byte ∷ (h.behind ++ last ∷ [])) =
    ap (λ (w : List ℕ). w ++ last ∷ []) h.parts ∙ append_assoc h.front (h.byte ∷ h.behind) (last ∷ []) in
    ap (limit_of blocks) whole
    ∙ limit_of-parts blocks h.front (h.byte ∷ (h.behind ++ last ∷ [])) h.digits
    (begins_other h.byte (h.behind ++ last ∷ []) h.other)
    ∙ limit_from-none blocks h.front (h.byte ∷ (h.behind ++ last ∷ [])) (number_of h.front) refl
    (factor_of-behind blocks h.byte h.behind last)

times-none : (digits : List ℕ) (factor : ℕ) → all_ascii_digits digits ≡ false → None ≡ times digits factor
times-none digits factor none = let e = number_of-other digits none in rw e

suffix_by : (blocks : Bool) (digits : List ℕ) (suffix factor : ℕ) → factor_of blocks (suffix ∷ []) ≡ Some factor
    → (all : Bool) → all_ascii_digits digits ≡ all → limit_of blocks (digits ++ suffix ∷ []) ≡ times digits factor
suffix_by blocks digits suffix factor f true all =
    let other : is_ascii_digit suffix ≡ false =
    false_from_ne_true _ (λ digit. let none = factor_of-digit blocks suffix digit in cc) in
    limit_of-parts blocks digits (suffix ∷ []) all (begins_other suffix [] other)
    ∙ limit_from-times blocks digits (suffix ∷ []) factor f
suffix_by blocks digits suffix factor f false none =
    limit_of-other blocks digits suffix none ∙ times-none digits factor none

-- a word that ends in a suffix
pub limit_of-suffix : (blocks : Bool) (digits : List ℕ) (suffix factor : ℕ)
    → factor_of blocks (suffix ∷ []) ≡ Some factor → limit_of blocks (digits ++ suffix ∷ []) ≡ times digits factor
limit_of-suffix blocks digits suffix factor f = suffix_by blocks digits suffix factor f (all_ascii_digits digits) refl

plain_by : (blocks : Bool) (digits : List ℕ) (last : ℕ) → factor_of blocks (last ∷ []) ≡ None → (all digit : Bool)
    → all_ascii_digits digits ≡ all → is_ascii_digit last ≡ digit
    → limit_of blocks (digits ++ last ∷ []) ≡ times (digits ++ last ∷ []) 1
plain_by blocks digits last f true true all digit =
    let word = digits ++ last ∷ [] in
    ap (limit_of blocks) (sym (append-nil word))
    ∙ limit_of-parts blocks word [] (all_ascii_digits-push digits last ∙ and_from _ _ all digit) refl
    ∙ limit_from-times blocks word [] 1 (factor_of-none blocks)
plain_by blocks digits last f true false all other =
    limit_of-parts blocks digits (last ∷ []) all (begins_other last [] other)
    ∙ limit_from-none blocks digits (last ∷ []) (number_of digits) refl f
    ∙ times-none (digits ++ last ∷ []) 1 (all_ascii_digits-push digits last ∙ and_right _ _ other)
plain_by blocks digits last f false digit none e =
    limit_of-other blocks digits last none
    ∙ times-none (digits ++ last ∷ []) 1 (all_ascii_digits-push digits last ∙ and_left _ _ none)

-- a word that does not end in a suffix
pub limit_of-plain : (blocks : Bool) (digits : List ℕ) (last : ℕ) → factor_of blocks (last ∷ []) ≡ None
    → limit_of blocks (digits ++ last ∷ []) ≡ times (digits ++ last ∷ []) 1
limit_of-plain blocks digits last f =
    plain_by blocks digits last f (all_ascii_digits digits) (is_ascii_digit last) refl refl
