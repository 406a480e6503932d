-- The first lines of inodes, where one more line counts.
use Rattle.std.proofs.Common.{◌≡◌, ℕ, ◌<◌, ◌+◌, Bool, true, false, cond, List, [], ◌∷◌, ◌++◌, length, Option, Some}
use Rattle.std.proofs.Common.{None, refl, sym, ap, ◌∙◌, subst, arith}
use Rattle.std.specs.Prelude.{not, is_some, if◌then◌else◌, IsSome, IfSome, filter, find}
use Rattle.std.specs.List.{AllByRecursion, cons_option, enumerate_from, filter_map}
use Rattle.std.specs.Option.{option_map, option_or}
use Rattle.std.proofs.lemmas.Bool.Decides.{nat_tests}
use Rattle.std.proofs.lemmas.List.Elements.{filter-append, filter_map-append}
use Rattle.std.proofs.lemmas.List.Folds.{find-append}
use Rattle.quota_types.proofs.ListLemmas.{AllByRecursion-weaker}
use Rattle.inode_scan.specs.declared.scan_fault.ScanFault.TheVariants.{Conflict}
use Rattle.inode_scan.specs.declared.row.Row.{Row}
use Rattle.inode_scan.specs.Listing.{Counted, conflict_of, counted_line, counted_lines, counted_row, first_lines}
use Rattle.inode_scan.specs.Listing.{first_of, has_number, is_agreed, is_first, is_same_inode}
use Rattle.inode_scan.specs.Tally.{AreBefore}
use Rattle.inode_scan.proofs.ListLemmas.{enumerate_from-append, filter_same}

same_itself : (row : Row) → is_same_inode row row ≡ true
same_itself row = grind (arith, nat_tests)

pub first_of-append : (lines more : List Counted) (row : Row)
    → first_of (lines ++ more) row ≡ option_or (first_of lines row) (first_of more row)
unfolding first_of
first_of-append lines more row = find-append (λ (line : Counted). is_same_inode row line.row) lines more

first_of-itself : (line : Counted) → first_of (line ∷ []) line.row ≡ Some line
unfolding first_of
first_of-itself line = ap (λ b. cond b (Some line) None) (same_itself line.row)

first_of-behind : (line : Counted) (lines : List Counted) (row : Row) → IsSome (first_of lines row)
    → IsSome (first_of (line ∷ lines) row)
unfolding first_of
first_of-behind line lines row found = by (is_same_inode row line.row)
  where
    by : (b : Bool) → IsSome (cond b (Some line) (find (λ (line : Counted). is_same_inode row line.row) lines))
    by true = refl
    by false = found

first_of-front : (line : Counted) (lines : List Counted) → IsSome (first_of (line ∷ lines) line.row)
unfolding first_of
first_of-front line lines =
    subst (λ b. IsSome (cond b (Some line) (find (λ (other : Counted). is_same_inode line.row other.row) lines)))
    (sym (same_itself line.row)) refl

-- each line's inode has a first line
pub all_found : (lines : List Counted) → AllByRecursion (λ line. IsSome (first_of lines line.row)) lines
all_found [] = tt
all_found (line ∷ lines) = (
  first_of-front line lines,
  AllByRecursion-weaker (λ (other : Counted). IsSome (first_of lines other.row))
      (λ (other : Counted). IsSome (first_of (line ∷ lines) other.row)) lines
      (λ other found. first_of-behind line lines other.row found) (all_found lines),
)

some_or : {X : Type 0} (one other : Option X) → IsSome one → option_or one other ≡ one
some_or (Some x) other some = refl
some_or None other some = absurd (cc)

-- and keeps it where more lines stand behind
pub first_of-kept : (lines more : List Counted) (row : Row) → IsSome (first_of lines row)
    → first_of (lines ++ more) row ≡ first_of lines row
first_of-kept lines more row found =
    first_of-append lines more row ∙ some_or (first_of lines row) (first_of more row) found

-- a line that is found stands before what they all stand before
found_before : (number : ℕ) (lines : List Counted) (row : Row) → AreBefore number lines
    → IfSome (first_of lines row) (λ first. first.number < number)
unfolding first_of
found_before number [] row before = tt
found_before number (line ∷ lines) row before = by (is_same_inode row line.row) (found_before number lines row before.1)
  where
    by : (b : Bool)
        → IfSome (find (λ (line : Counted). is_same_inode row line.row) lines) (λ first. first.number < number)
        → IfSome (cond b (Some line) (find (λ (line : Counted). is_same_inode row line.row) lines))
        (λ first. first.number < number)
    by true behind = before.0
    by false behind = behind

-- the last line is the first of its inode where no line before it is of that
last_is : (line : Counted) (first : Option Counted) → IfSome first (λ first. first.number < line.number)
    → has_number line.number (option_or first (Some line)) ≡ not (is_some first)
last_is line None before = grind (arith, nat_tests)
last_is line (Some first) before = grind (arith, nat_tests)

pub first_lines-push : (lines : List Counted) (line : Counted) → AreBefore line.number lines
    → first_lines (lines ++ line ∷ [])
    ≡ first_lines lines ++ (if is_some (first_of lines line.row) then [] else line ∷ [])
unfolding first_lines
first_lines-push lines line before =
    let all : List Counted = lines ++ line ∷ [] in
    let front : filter (is_first all) lines ≡ filter (is_first lines) lines =
    filter_same (is_first all) (is_first lines) lines
    (AllByRecursion-weaker (λ (other : Counted). IsSome (first_of lines other.row))
    (λ (other : Counted). is_first all other ≡ is_first lines other) lines
    (λ other found. ap (has_number other.number) (first_of-kept lines (line ∷ []) other.row found))
    (all_found lines)) in
    let last : is_first all line ≡ not (is_some (first_of lines line.row)) =
    ap (has_number line.number)
    (first_of-append lines (line ∷ []) line.row ∙ ap (option_or (first_of lines line.row)) (first_of-itself line))
    ∙ last_is line (first_of lines line.row) (found_before line.number lines line.row before) in
    filter-append (is_first all) lines (line ∷ [])
    ∙ ap (λ kept. kept ++ filter (is_first all) (line ∷ [])) front
    ∙ ap (λ b. filter (is_first lines) lines ++ cond b (line ∷ []) []) last
    ∙ ap (λ kept. filter (is_first lines) lines ++ kept) (turned (is_some (first_of lines line.row)))
  where
    turned : (b : Bool) → cond (not b) (line ∷ []) [] ≡ (if b then [] else line ∷ [])
    turned true = refl
    turned false = refl

agreed_itself : (row : Row) → is_agreed row row ≡ true
agreed_itself row = grind (arith, nat_tests)

-- the first line of an inode conflicts with nothing
pub conflict_of-first : (lines : List Counted) (line : Counted) → first_of lines line.row ≡ None
    → conflict_of (lines ++ line ∷ []) line ≡ None
conflict_of-first lines line none =
    let own : first_of (lines ++ line ∷ []) line.row ≡ Some line =
    first_of-append lines (line ∷ []) line.row ∙ ap (λ first. option_or first (first_of (line ∷ []) line.row)) none
    ∙ first_of-itself line in
    rw (own, agreed_itself) refl

-- and a later one with it where it says something else
pub conflict_of-later : (lines : List Counted) (line first : Counted) → first_of lines line.row ≡ Some first
    → conflict_of (lines ++ line ∷ []) line
    ≡ (if is_agreed first.row line.row then None else Some (Conflict line.number first.number))
conflict_of-later lines line first found =
    let own : first_of (lines ++ line ∷ []) line.row ≡ Some first =
    first_of-append lines (line ∷ []) line.row ∙ ap (λ o. option_or o (first_of (line ∷ []) line.row)) found in
    rw own refl

-- The lines that count, where one more line stands behind the others.

pub counted_lines-append : (device : Option ℕ) (lines more : List (List ℕ))
    → counted_lines device (lines ++ more)
    ≡ counted_lines device lines ++ filter_map (counted_line device) (enumerate_from (1 + length lines) more)
unfolding counted_lines
counted_lines-append device lines more =
    ap (filter_map (counted_line device)) (enumerate_from-append 1 lines more)
    ∙ filter_map-append (counted_line device) (enumerate_from 1 lines) (enumerate_from (1 + length lines) more)

before_by : (device : Option ℕ) (number : ℕ) (lines : List (List ℕ))
    → AreBefore (number + length lines) (filter_map (counted_line device) (enumerate_from number lines))
before_by device number [] = tt
before_by device number (line ∷ lines) =
    by (counted_row device line)
    (AllByRecursion-weaker (λ (other : Counted). other.number < number + 1 + length lines)
    (λ (other : Counted). other.number < number + length (line ∷ lines)) _
    (λ other lt. omega (arith, lt)) (before_by device (number + 1) lines))
  where
    by : (row : Option Row)
        → AreBefore (number + length (line ∷ lines))
        (filter_map (counted_line device) (enumerate_from (number + 1) lines))
        → AreBefore (number + length (line ∷ lines))
        (cons_option (option_map (λ (row : Row). record { number = number; row = row }) row)
        (filter_map (counted_line device) (enumerate_from (number + 1) lines)))
    by None rest = rest
    by (Some row) rest = (omega arith, rest)

-- the lines that count have numbers up to that of the last line
pub counted_before : (device : Option ℕ) (lines : List (List ℕ))
    → AreBefore (1 + length lines) (counted_lines device lines)
unfolding counted_lines
counted_before device lines = before_by device 1 lines
