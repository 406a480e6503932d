-- What the lines of a listing that is made say.
use Rattle.std.proofs.Common.{◌≡◌, ℕ, suc, ◌+◌, ◌-◌, ◌^◌, ◌<◌, ◌≤◌, inl, Bool, true, false, cond, List, [], ◌∷◌, ◌++◌}
use Rattle.std.proofs.Common.{length, take, drop, codes, decimal, Some, None, refl, sym, ap, ◌∙◌, arith, append_assoc}
use Rattle.std.proofs.Common.{length-append}
use Rattle.std.specs.Prelude.{not, ◌||◌, filter}
use Rattle.std.specs.Int.{IsInRange}
use Rattle.std.specs.List.{AllByRecursion, list_any, position_or_len}
use Rattle.std.specs.Str.{all_ascii_digits}
use Rattle.std.specs.Str.Parse.{AllDigits, digits_value}
use Rattle.std.proofs.lemmas.Bool.Decides.{nat_tests}
use Rattle.std.proofs.lemmas.Fmt.{decimal_nonempty, digits_decimal, digits_value-decimal, length-decimal-le}
use Rattle.std.proofs.lemmas.List.{drop_at, take_at}
use Rattle.std.proofs.lemmas.List.Elements.{All-from_recursion}
use Rattle.std.proofs.lemmas.List.Folds.{list_any-append}
use Rattle.std.proofs.lemmas.List.Splits.{slice_split_none}
use Rattle.std.proofs.lemmas.Str.Parse.{IsNumeralModel, digit_from_value, numerals_by_value, tells_digits}
use Rattle.input_text.specs.InputLines.{InputLines, NoLine, LineThen, input_lines, lines_from}
use Rattle.input_text.specs.Lines.{NextLine, Line, is_newline, next_line_of}
use Rattle.input_text.specs.Numeral.{number_of, value_of}
use Rattle.input_text.specs.Words.{is_blank, is_word, words_of}
use Rattle.input_text.proofs.InputLinesLemmas.{input_lines-step}
use Rattle.input_text.proofs.LinesLemmas.{next-end, next-line}
use Rattle.input_text.proofs.WordsLemmas.{words_of-append}
use Rattle.input_text.proofs.NumeralLemmas.{IsNumeralModel-value_of}
use Rattle.inode_scan.specs.declared.row.Row.{Row}
use Rattle.inode_scan.specs.Generated.{lines_text, row_text}
use Rattle.inode_scan.specs.Line.{number_below, row_in, row_of}
use Rattle.inode_scan.specs.Scan.{end_fault, read_lines}

-- Numbers in decimal.

digits : IsNumeralModel (AllDigits 10) (digits_value 10)
digits = numerals_by_value (AllDigits 10) tells_digits

all_digits : (n : ℕ) → n < 2 ^ 64 → AllDigits 10 (decimal n)
all_digits n small = digits_decimal digits n small

number_of-decimal : (n : ℕ) → n < 2 ^ 64 → number_of (decimal n) ≡ Some n
unfolding number_of
number_of-decimal n small =
    let some : 0 < length (decimal n) = decimal_nonempty n small in
    let few : length (decimal n) ≤ 20 = length-decimal-le 20 n (omega arith) (omega arith) small in
    let all : all_ascii_digits (decimal n) ≡ true = digits_decimal IsNumeralModel-value_of n small in
    let value : value_of (decimal n) ≡ n = digits_value-decimal IsNumeralModel-value_of n small in
    grind (arith, nat_tests)

number_below-decimal : (n : ℕ) → n < 2 ^ 32 → number_below (2 ^ 32) (decimal n) ≡ Some n
unfolding number_below
number_below-decimal n small =
    let is : number_of (decimal n) ≡ Some n = number_of-decimal n (omega arith) in
    rw is (grind (arith, nat_tests))

-- digits are no blanks and no newlines
no_blanks : (ds : List ℕ) → AllDigits 10 ds → AllByRecursion (λ b. is_blank b ≡ false) ds
no_blanks [] all = tt
no_blanks (c ∷ cs) all =
    let in_range : IsInRange 48 57 c = digit_from_value c all.0 in
    (grind (arith, nat_tests), no_blanks cs all.1)

no_newlines : (ds : List ℕ) → AllDigits 10 ds → list_any is_newline ds ≡ false
no_newlines [] all = refl
no_newlines (c ∷ cs) all =
    let in_range : IsInRange 48 57 c = digit_from_value c all.0 in
    let none : is_newline c ≡ false = grind (arith, nat_tests) in
    ap (λ b. b || list_any is_newline cs) none ∙ no_newlines cs all.1

-- The words of a row.

one_word : (word : List ℕ) → AllDigits 10 word → 0 < length word → words_of word ≡ word ∷ []
unfolding words_of
one_word word all some =
    let is : is_word word ≡ true = grind (arith, nat_tests) in
    ap (filter is_word)
    (slice_split_none is_blank word (All-from_recursion (λ b. is_blank b ≡ false) word (no_blanks word all)))
    ∙ ap (λ b. cond b (word ∷ []) []) is

word_behind : (front : List ℕ) (n : ℕ) → n < 2 ^ 64
    → words_of (front ++ codes " " ++ decimal n) ≡ words_of front ++ decimal n ∷ []
word_behind front n small =
    ap words_of (append_assoc front (codes " ") (decimal n))
    ∙ words_of-append front 32 (decimal n) refl
    ∙ ap (λ ws. words_of front ++ ws) (one_word (decimal n) (all_digits n small) (decimal_nonempty n small))

-- the numbers of a row are in their ranges
pub record IsInRanges (row : Row) : Type 0 where
  pub owner : row.owner < 2 ^ 32
  pub group : row.group < 2 ^ 32
  pub device : row.device < 2 ^ 64
  pub inode : row.inode < 2 ^ 64
  pub blocks : row.blocks < 2 ^ 64

words_of-row : (row : Row) → IsInRanges row
    → words_of (row_text row)
    ≡ decimal row.owner ∷ decimal row.group ∷ decimal row.device ∷ decimal row.inode ∷ decimal row.blocks ∷ []
unfolding row_text
words_of-row row ranges =
    let one : List ℕ = decimal row.owner in
    let two : List ℕ = one ++ codes " " ++ decimal row.group in
    let three : List ℕ = two ++ codes " " ++ decimal row.device in
    let four : List ℕ = three ++ codes " " ++ decimal row.inode in
    let owner : row.owner < 2 ^ 64 = omega (arith, ranges.owner) in
    let group : row.group < 2 ^ 64 = omega (arith, ranges.group) in
    word_behind four row.blocks ranges.blocks
    ∙ ap (λ ws. ws ++ decimal row.blocks ∷ [])
    (word_behind three row.inode ranges.inode
    ∙ ap (λ ws. ws ++ decimal row.inode ∷ [])
    (word_behind two row.device ranges.device
    ∙ ap (λ ws. ws ++ decimal row.device ∷ [])
    (word_behind one row.group group
    ∙ ap (λ ws. ws ++ decimal row.group ∷ [])
    (one_word one (all_digits row.owner owner) (decimal_nonempty row.owner owner)))))

-- a row as a line says the row
pub row_in-text : (row : Row) → IsInRanges row → row_in (row_text row) ≡ Some row
unfolding row_in
row_in-text row ranges =
    ap row_of (words_of-row row ranges)
    ∙ rw (
      number_below-decimal row.owner ranges.owner,
      number_below-decimal row.group ranges.group,
      number_of-decimal row.device ranges.device,
      number_of-decimal row.inode ranges.inode,
      number_of-decimal row.blocks ranges.blocks,
    ) refl

-- Lines of a text.

-- a line has no newline, and is not too long
pub record IsShortLine (line : List ℕ) : Type 0 where
  pub none : list_any is_newline line ≡ false
  pub short : length line ≤ 104

none_behind : (front : List ℕ) (n : ℕ) → n < 2 ^ 64 → list_any is_newline front ≡ false
    → list_any is_newline (front ++ codes " " ++ decimal n) ≡ false
none_behind front n small none =
    list_any-append is_newline (front ++ codes " ") (decimal n)
    ∙ ap (λ b. b || list_any is_newline (decimal n))
    (list_any-append is_newline front (codes " ") ∙ ap (λ b. b || false) none)
    ∙ no_newlines (decimal n) (all_digits n small)

short_behind : (front : List ℕ) (n most : ℕ) → n < 2 ^ 64 → length front ≤ most
    → length (front ++ codes " " ++ decimal n) ≤ most + 21
short_behind front n most small short =
    let few : length (decimal n) ≤ 20 = length-decimal-le 20 n (omega arith) (omega arith) small in
    omega (arith, length-append (front ++ codes " ") (decimal n), length-append front (codes " "))

pub row_line : (row : Row) → IsInRanges row → IsShortLine (row_text row)
unfolding row_text
row_line row ranges =
    let one : List ℕ = decimal row.owner in
    let two : List ℕ = one ++ codes " " ++ decimal row.group in
    let three : List ℕ = two ++ codes " " ++ decimal row.device in
    let four : List ℕ = three ++ codes " " ++ decimal row.inode in
    let owner : row.owner < 2 ^ 64 = omega (arith, ranges.owner) in
    let group : row.group < 2 ^ 64 = omega (arith, ranges.group) in
    record {
      none = none_behind four row.blocks ranges.blocks
          (none_behind three row.inode ranges.inode
          (none_behind two row.device ranges.device (none_behind one row.group group
          (no_newlines one (all_digits row.owner owner)))));
      short = short_behind four row.blocks 83 ranges.blocks
          (short_behind three row.inode 62 ranges.inode
          (short_behind two row.device 41 ranges.device (short_behind one row.group 20 group
          (length-decimal-le 20 row.owner (omega arith) (omega arith) owner))));
    }

-- lines, one after another, up to the end
abbrev pub listed : List (List ℕ) → InputLines
listed [] = NoLine
listed (line ∷ lines) = LineThen line (listed lines)

newline_behind : (line rest : List ℕ) → list_any is_newline line ≡ false
    → position_or_len is_newline (line ++ 10 ∷ rest) ≡ length line
newline_behind [] rest none = refl
newline_behind (c ∷ cs) rest none = by (is_newline c) none (newline_behind cs rest)
  where
    by : (b : Bool) → (b || list_any is_newline cs) ≡ false
        → (list_any is_newline cs ≡ false → position_or_len is_newline (cs ++ 10 ∷ rest) ≡ length cs)
        → cond (not b) (1 + position_or_len is_newline (cs ++ 10 ∷ rest)) 0 ≡ suc (length cs)
    by true none behind = absurd (cc)
    by false none behind =
        let same : position_or_len is_newline (cs ++ 10 ∷ rest) ≡ length cs = behind none in omega arith

next_is : (room : ℕ) (line rest : List ℕ) → list_any is_newline line ≡ false → length line ≤ 256 → length line < room
    → next_line_of 256 room (line ++ 10 ∷ rest) ≡ Line line rest
next_is room line rest none short fits =
    let all : List ℕ = line ++ 10 ∷ rest in
    let at : position_or_len is_newline all ≡ length line = newline_behind line rest none in
    let some : 0 < length all = omega (arith, length-append line (10 ∷ rest)) in
    next-line 256 room all (omega (arith, at)) (omega (arith, at)) (inl (omega (arith, at))) some
    ∙ ap (λ (n : ℕ). Line (take n all) (drop (n + 1) all)) at
    ∙ ap (λ (front : List ℕ). Line front (drop (length line + 1) all)) (take_at line (10 ∷ rest) (length line) refl)
    ∙ ap (λ (behind : List ℕ). Line line behind)
    (ap (drop (length line + 1)) (sym (append_assoc line (10 ∷ []) rest))
    ∙ drop_at (line ++ 10 ∷ []) rest (length line + 1) (length-append line (10 ∷ [])))

-- the lines of a text that has each with its newline
pub lines_of_text : (room : ℕ) (lines : List (List ℕ)) → AllByRecursion IsShortLine lines
    → length (lines_text lines) ≤ room → input_lines 256 room (lines_text lines) ≡ listed lines
lines_of_text room [] all fits =
    input_lines-step 256 room []
    ∙ ap (λ (next : NextLine). lines_from next (λ behind. input_lines 256 (room - (0 - length behind)) behind))
    (next-end 256 room)
lines_of_text room (line ∷ lines) all fits =
    let rest : List ℕ = lines_text lines in
    let text : List ℕ = line ++ codes "\n" ++ rest in
    let same : text ≡ line ++ 10 ∷ rest = append_assoc line (10 ∷ []) rest in
    let long : length text ≡ length line + 1 + length rest =
    omega (arith, length-append (line ++ codes "\n") rest, length-append line (codes "\n")) in
    let short : length line ≤ 256 = omega (arith, all.0.short) in
    input_lines-step 256 room text
    ∙ ap
    (λ (next : NextLine). lines_from next (λ behind. input_lines 256 (room - (length text - length behind)) behind))
    (ap (next_line_of 256 room) same ∙ next_is room line rest all.0.none short (omega (arith, long)))
    ∙ ap (λ (more : InputLines). LineThen line more)
    (lines_of_text (room - (length text - length rest)) lines all.1 (omega (arith, long)))

pub read_lines-listed : (lines : List (List ℕ)) → read_lines (listed lines) ≡ lines
read_lines-listed [] = refl
read_lines-listed (line ∷ lines) = ap (λ ls. line ∷ ls) (read_lines-listed lines)

pub end_fault-listed : (number : ℕ) (lines : List (List ℕ)) → end_fault number (listed lines) ≡ None
end_fault-listed number [] = refl
end_fault-listed number (line ∷ lines) = end_fault-listed (number + 1) lines
