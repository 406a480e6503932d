-- The words of a line, one after another.
use Rattle.std.proofs.Common.{◌≡◌, ℕ, suc, ◌+◌, ◌<◌, ◌≤◌, Bool, true, false, not, List, [], ◌∷◌, ◌++◌, length, take}
use Rattle.std.proofs.Common.{drop, Some, None, refl, sym, ap, subst, ◌∙◌, arith, append-nil}
use Rattle.std.specs.List.{filter, onto_first, position, position_or_len, slice_split}
use Rattle.std.proofs.lemmas.Bool.Decides.{nat_tests}
use Rattle.std.proofs.lemmas.List.Elements.{filter-append}
use Rattle.std.proofs.lemmas.List.{length-take-le}
use Rattle.std.proofs.Math.Seq.{drop-length}
use Rattle.std.proofs.lemmas.List.Sums.{prefix_len-le-length}
use Rattle.std.proofs.lemmas.Option.{none-some, same_Some}
use Rattle.std.specs.Str.{bytes_eq}
use Rattle.input_text.specs.Words.{is_blank, is_word, words_behind, words_eq, words_of}

pub words_of-nil : words_of [] ≡ []
unfolding words_of
words_of-nil = refl

-- a blank in front is of no word
pub words_of-blank : (byte : ℕ) (line : List ℕ) → is_blank byte ≡ true → words_of (byte ∷ line) ≡ words_of line
unfolding words_of
words_of-blank byte line blank = rw blank

-- the place of the first blank
abbrev blank_at : List ℕ → ℕ
blank_at line = position_or_len is_blank line

-- a line is its first part, and what is behind it has the words of the other parts
record IsSplit (line : List ℕ) (at : ℕ) : Type 0 where
  more : List (List ℕ)
  parts : slice_split is_blank line ≡ take at line ∷ more
  words : words_of (drop at line) ≡ filter is_word more

split_blank : (byte : ℕ) (line : List ℕ) → is_blank byte ≡ true → IsSplit (byte ∷ line) 0
unfolding words_of
split_blank byte line e = record {
  more = slice_split is_blank line;
  parts = rw e;
  words = rw e;
}

split_more : (byte : ℕ) (line : List ℕ) (at : ℕ) → is_blank byte ≡ false → IsSplit line at
    → IsSplit (byte ∷ line) (suc at)
split_more byte line at e s = record {
  more = s.more;
  parts = rw (e, s.parts);
  words = s.words;
}

split_by : (byte : ℕ) (line : List ℕ) (blank : Bool) → is_blank byte ≡ blank → IsSplit line (blank_at line)
    → IsSplit (byte ∷ line) (blank_at (byte ∷ line))
split_by byte line true e s = rw e (split_blank byte line e)
split_by byte line false e s =
    let one_more : 1 + blank_at line ≡ suc (blank_at line) = omega arith in
    rw (e, one_more) (split_more byte line (blank_at line) e s)

split : (line : List ℕ) → IsSplit line (blank_at line)
unfolding words_of
split [] = record { more = []; parts = refl; words = refl }
split (byte ∷ line) = split_by byte line (is_blank byte) refl (split line)

-- the first word of a line that begins with one
pub first_word : (line : List ℕ) → 0 < position_or_len is_blank line
    → words_of line ≡ take (position_or_len is_blank line) line ∷ words_of (drop (position_or_len is_blank line) line)
unfolding words_of
first_word line some =
    let s = split line in
    let at = blank_at line in
    let within : at ≤ length line = prefix_len-le-length (λ byte. not (is_blank byte)) line in
    let long : length (take at line) ≡ at = length-take-le at line within in
    let word : is_word (take at line) ≡ true = grind (arith, nat_tests) in
    ap (filter is_word) s.parts ∙ rw (word, s.words)

-- blanks in front are of no word
abbrev word_at : List ℕ → ℕ
word_at line = position_or_len (λ byte. not (is_blank byte)) line

behind_by : (byte : ℕ) (line : List ℕ) (blank : Bool) → is_blank byte ≡ blank
    → words_of (drop (word_at line) line) ≡ words_of line
    → words_of (drop (word_at (byte ∷ line)) (byte ∷ line)) ≡ words_of (byte ∷ line)
behind_by byte line true e same =
    let one_more : 1 + word_at line ≡ suc (word_at line) = omega arith in
    rw (e, one_more) (same ∙ sym (words_of-blank byte line e))
behind_by byte line false e same = rw e

pub words_of-behind : (line : List ℕ)
    → words_of (drop (position_or_len (λ byte. not (is_blank byte)) line) line) ≡ words_of line
words_of-behind [] = refl
words_of-behind (byte ∷ line) = behind_by byte line (is_blank byte) refl (words_of-behind line)

-- behind the blanks in front stands a word, unless there is nothing
word_by : (byte : ℕ) (line : List ℕ) (blank : Bool) → is_blank byte ≡ blank
    → (word_at line < length line → 0 < blank_at (drop (word_at line) line))
    → word_at (byte ∷ line) < length (byte ∷ line) → 0 < blank_at (drop (word_at (byte ∷ line)) (byte ∷ line))
word_by byte line true e word =
    let one_more : 1 + word_at line ≡ suc (word_at line) = omega arith in
    rw (e, one_more) (λ within. word (omega arith))
word_by byte line false e word = rw (e, e) (λ within. omega arith)

pub word-behind : (line : List ℕ) → position_or_len (λ byte. not (is_blank byte)) line < length line
    → 0 < position_or_len is_blank (drop (position_or_len (λ byte. not (is_blank byte)) line) line)
word-behind [] within = omega arith
word-behind (byte ∷ line) within = word_by byte line (is_blank byte) refl (word-behind line) within

-- the place that `position` tells
pub place-some : (p : ℕ → Bool) (line : List ℕ) (place : ℕ) → position p line ≡ Some place
    → (place ≡ position_or_len p line) × (place < length line)
place-some p line place is = grind (arith, nat_tests)

pub place-none : (p : ℕ → Bool) (line : List ℕ) → position p line ≡ None → length line ≡ position_or_len p line
place-none p line none = let within = prefix_len-le-length (λ byte. not (p byte)) line in grind (arith, nat_tests)

-- a line of blanks has no word
pub no_word : (line : List ℕ) → position (λ byte. not (is_blank byte)) line ≡ None → words_of line ≡ []
no_word line none =
    let at_end = place-none (λ byte. not (is_blank byte)) line none in
    sym (words_of-behind line) ∙ ap words_of (rw (← at_end) (drop-length line)) ∙ words_of-nil

-- words that begin with others are these and more where what is behind is more
front_step : (front word : List ℕ) (more words others rest : List (List ℕ)) (same : Bool) → bytes_eq word front ≡ same
    → (words_behind more words ≡ Some rest → words_eq words (more ++ others) ≡ words_eq rest others)
    → words_behind (front ∷ more) (word ∷ words) ≡ Some rest
    → words_eq (word ∷ words) (front ∷ (more ++ others)) ≡ words_eq rest others
front_step front word more words others rest true e same is = rw e (same (rw e at is))
front_step front word more words others rest false e same is = absurd (none-some rest (rw e at is))

pub words_eq_front : (front others words rest : List (List ℕ)) → words_behind front words ≡ Some rest
    → words_eq words (front ++ others) ≡ words_eq rest others
words_eq_front [] others words rest is = ap (λ (w : List (List ℕ)). words_eq w others) (same_Some words rest is)
words_eq_front (front ∷ more) others [] rest is = absurd (none-some rest is)
words_eq_front (front ∷ more) others (word ∷ words) rest is =
    front_step front word more words others rest (bytes_eq word front) refl (words_eq_front more others words rest) is

none_step : (front word : List ℕ) (more words others : List (List ℕ)) (same : Bool) → bytes_eq word front ≡ same
    → (words_behind more words ≡ None → words_eq words (more ++ others) ≡ false)
    → words_behind (front ∷ more) (word ∷ words) ≡ None → words_eq (word ∷ words) (front ∷ (more ++ others)) ≡ false
none_step front word more words others true e same is = rw e (same (rw e at is))
none_step front word more words others false e same is = rw e

-- words that do not begin with others are not those and more
pub words_eq_front_none : (front others words : List (List ℕ)) → words_behind front words ≡ None
    → words_eq words (front ++ others) ≡ false
words_eq_front_none [] others words none = absurd (none-some words (sym none))
words_eq_front_none (front ∷ more) others [] none = refl
words_eq_front_none (front ∷ more) others (word ∷ words) none =
    none_step front word more words others (bytes_eq word front) refl (words_eq_front_none more others words) none

pub words_eq_behind : (front words rest : List (List ℕ)) → words_behind front words ≡ Some rest
    → words_eq words front ≡ words_eq rest []
words_eq_behind front words rest is =
    ap (words_eq words) (sym (append-nil front)) ∙ words_eq_front front [] words rest is

pub words_eq_none : (front words : List (List ℕ)) → words_behind front words ≡ None → words_eq words front ≡ false
words_eq_none front words none = ap (words_eq words) (sym (append-nil front)) ∙ words_eq_front_none front [] words none

parts_step : (byte : ℕ) (front : List ℕ) (more : List (List ℕ))
    → onto_first byte (slice_split is_blank front ++ more) ≡ onto_first byte (slice_split is_blank front) ++ more
parts_step byte front more =
    let s = split front in
    subst (λ (parts : List (List ℕ)). onto_first byte (parts ++ more) ≡ onto_first byte parts ++ more)
    (sym s.parts) refl

parts_by : (byte blank : ℕ) (front behind : List ℕ) (is : Bool) → is_blank byte ≡ is
    → slice_split is_blank (front ++ blank ∷ behind) ≡ slice_split is_blank front ++ slice_split is_blank behind
    → slice_split is_blank (byte ∷ (front ++ blank ∷ behind))
    ≡ slice_split is_blank (byte ∷ front) ++ slice_split is_blank behind
parts_by byte blank front behind true e same = rw e (ap (λ (parts : List (List ℕ)). [] ∷ parts) same)
parts_by byte blank front behind false e same =
    rw e (ap (onto_first byte) same ∙ parts_step byte front (slice_split is_blank behind))

parts-append : (front : List ℕ) (blank : ℕ) (behind : List ℕ) → is_blank blank ≡ true
    → slice_split is_blank (front ++ blank ∷ behind) ≡ slice_split is_blank front ++ slice_split is_blank behind
parts-append [] blank behind is = rw is
parts-append (byte ∷ front) blank behind is =
    parts_by byte blank front behind (is_blank byte) refl (parts-append front blank behind is)

-- the words in front of a blank and those behind it are the words of a line
pub words_of-append : (front : List ℕ) (blank : ℕ) (behind : List ℕ) → is_blank blank ≡ true
    → words_of (front ++ blank ∷ behind) ≡ words_of front ++ words_of behind
unfolding words_of
words_of-append front blank behind is =
    ap (filter is_word) (parts-append front blank behind is)
    ∙ filter-append is_word (slice_split is_blank front) (slice_split is_blank behind)
