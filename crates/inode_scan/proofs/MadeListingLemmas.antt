-- That nothing is wrong with a listing that is made, and how much its lines add up to at most.
use Rattle.std.proofs.Common.{◌≡◌, ℕ, zero, suc, ◌+◌, ◌-◌, ◌*◌, ◌^◌, ◌<◌, ◌≤◌, Bool, true, false, cond, List, [], ◌∷◌}
use Rattle.std.proofs.Common.{◌++◌, length, codes, Option, Some, None, Ok, refl, sym, ap, subst, ◌∙◌, arith}
use Rattle.std.proofs.Common.{length-append}
use Rattle.std.specs.Prelude.{if◌then◌else◌, IfSome, slice_get}
use Rattle.std.specs.List.{AllByRecursion, cons_option, enumerate_from, filter_map, find as first_that}
use Rattle.std.specs.Option.{option_and_then, option_map, option_to_list}
use Rattle.std.proofs.lemmas.Bool.Decides.{nat_tests}
use Rattle.quota_types.specs.declared.file_kind.Kind.TheVariants.{User}
use Rattle.inode_scan.specs.declared.scan_fault.ScanFault.{ScanFault}
use Rattle.inode_scan.specs.declared.scan_fault.ScanFault.TheVariants.{BadLine, Conflict}
use Rattle.inode_scan.specs.declared.row.Row.{Row}
use Rattle.inode_scan.specs.Faults.{unless}
use Rattle.inode_scan.specs.Generated.{first_alike, generated, generated_lines, lines_text, next_number, number_of_line}
use Rattle.inode_scan.specs.Generated.{repeats, row_made, row_text}
use Rattle.inode_scan.specs.Line.{is_bad, row_in}
use Rattle.inode_scan.specs.Listing.{Counted, conflict_of, counted_line, counted_lines, fault_of, faults_of, first_of}
use Rattle.inode_scan.specs.Listing.{is_agreed, is_same_inode, usage_of}
use Rattle.inode_scan.specs.Scan.{end_fault, first_fault, read_lines, scanned, scanned_lines}
use Rattle.inode_scan.specs.Usage.{UsageMap}
use Rattle.inode_scan.proofs.GeneratedLemmas.{IsInRanges, IsShortLine, end_fault-listed, lines_of_text, listed}
use Rattle.inode_scan.proofs.GeneratedLemmas.{read_lines-listed, row_in-text, row_line}

-- Rows that are made.

-- the row of a line that repeats none
abbrev pub made_at : (seed line : ℕ) → Row
made_at seed line = row_made (number_of_line seed line) line

-- a row is one of a line that repeats none, of the first `most`
pub record IsMade (seed most : ℕ) (row : Row) : Type 0 where
  pub line : ℕ
  pub within : line ≤ most
  pub is : row ≡ made_at seed line

-- a line is made of the same number as the one that it repeats
same_number : (seed line : ℕ) → number_of_line seed (suc line) ≡ number_of_line seed (first_alike (suc line))
same_number seed line = by (repeats (suc line)) refl
  where
    by : (b : Bool) → repeats (suc line) ≡ b
        → number_of_line seed (suc line) ≡ number_of_line seed (if b then suc line - 1 else suc line)
    by true is =
        let before : line ≡ suc line - 1 = omega arith in
        ap (λ (b : Bool). if b then number_of_line seed line else next_number (number_of_line seed line)) is
        ∙ ap (number_of_line seed) before
    by false is = refl

alike-le : (line : ℕ) → first_alike line ≤ line
alike-le line = by (repeats line)
  where
    by : (b : Bool) → (if b then line - 1 else line) ≤ line
    by true = omega arith
    by false = omega arith

line_made : (seed before most : ℕ) → suc before ≤ most
    → IsMade seed most (row_made (number_of_line seed (suc before)) (first_alike (suc before)))
line_made seed before most within = record {
  line = first_alike (suc before);
  within = omega (arith, alike-le (suc before));
  is = ap (λ (x : ℕ). row_made x (first_alike (suc before))) (same_number seed before);
}

-- what a line of a made listing says at most
pub record IsSmall (row : Row) : Type 0 where
  pub low : 1000 ≤ row.owner
  pub high : row.owner < 6000
  pub blocks : row.blocks ≤ 504

made_small : (seed line : ℕ) → IsSmall (made_at seed line)
made_small seed line = record { low = omega arith; high = omega arith; blocks = omega arith }

made_ranges : (seed line : ℕ) → line < 2 ^ 32 → IsInRanges (made_at seed line)
made_ranges seed line few =
    record { owner = omega arith; group = omega arith; device = omega arith; inode = omega arith; blocks = omega arith }

-- rows of one inode are one
made_agree : (seed most : ℕ) (one other : Row) → IsMade seed most one → IsMade seed most other
    → is_same_inode one other ≡ true → is_agreed other one ≡ true
made_agree seed most one other made made_other same =
    let inode : one.inode ≡ other.inode = grind (arith, nat_tests) in
    let line : made.line ≡ made_other.line =
    omega (arith, inode, ap (λ (row : Row). row.inode) made.is, ap (λ (row : Row). row.inode) made_other.is) in
    let row : other ≡ one = made_other.is ∙ ap (made_at seed) (sym line) ∙ sym made.is in
    subst (λ (r : Row). is_agreed other r ≡ true) row (grind (arith, nat_tests))

-- The lines of the listing.

-- a line is the text of a row that is made
pub record IsLine (seed most : ℕ) (line : List ℕ) : Type 0 where
  pub row : Row
  pub made : IsMade seed most row
  pub text : line ≡ row_text row

pub all_lines : (seed before count most : ℕ) → before + count ≤ most
    → AllByRecursion (IsLine seed most) (generated_lines seed before count)
all_lines seed before zero most few = tt
all_lines seed before (suc count) most few = (
  record {
    row = row_made (number_of_line seed (suc before)) (first_alike (suc before));
    made = line_made seed before most (omega arith);
    text = refl;
  },
  all_lines seed (suc before) count most (omega arith),
)

pub length-lines : (seed before count : ℕ) → length (generated_lines seed before count) ≡ count
length-lines seed before zero = refl
length-lines seed before (suc count) = ap suc (length-lines seed (suc before) count)

row_ranges : (seed most : ℕ) (row : Row) → most < 2 ^ 32 → IsMade seed most row → IsInRanges row
row_ranges seed most row few made =
    subst IsInRanges (sym made.is) (made_ranges seed made.line (omega (arith, made.within)))

pub row_small : (seed most : ℕ) (row : Row) → IsMade seed most row → IsSmall row
row_small seed most row made = subst IsSmall (sym made.is) (made_small seed made.line)

line_says : (seed most : ℕ) (line : List ℕ) → most < 2 ^ 32 → (is : IsLine seed most line) → row_in line ≡ Some is.row
line_says seed most line few is = ap row_in is.text ∙ row_in-text is.row (row_ranges seed most is.row few is.made)

all_short : (seed most : ℕ) (lines : List (List ℕ)) → most < 2 ^ 32 → AllByRecursion (IsLine seed most) lines
    → AllByRecursion IsShortLine lines
all_short seed most [] few all = tt
all_short seed most (line ∷ lines) few all = (
  subst IsShortLine (sym all.0.text) (row_line all.0.row (row_ranges seed most all.0.row few all.0.made)),
  all_short seed most lines few all.1,
)

length-text : (lines : List (List ℕ)) → AllByRecursion IsShortLine lines
    → length (lines_text lines) ≤ 105 * length lines
length-text [] all = omega arith
length-text (line ∷ lines) all =
    omega (
      arith,
      length-append (line ++ codes "\n") (lines_text lines),
      length-append line (codes "\n"),
      all.0.short,
      length-text lines all.1,
    )

-- Nothing is wrong with them.

-- a row that counts is made
abbrev pub Made : (seed most : ℕ) → Counted → Type 0
Made seed most line = IsMade seed most line.row

pub all_counted : (seed most number : ℕ) (lines : List (List ℕ)) → most < 2 ^ 32
    → AllByRecursion (IsLine seed most) lines
    → AllByRecursion (Made seed most) (filter_map (counted_line None) (enumerate_from number lines))
all_counted seed most number [] few all = tt
all_counted seed most number (line ∷ lines) few all =
    let rest : List Counted = filter_map (counted_line None) (enumerate_from (number + 1) lines) in
    subst (λ (o : Option Row). AllByRecursion (Made seed most)
    (cons_option (option_map (λ (row : Row). record { number = number; row = row })
    (option_and_then (λ (row : Row). Some row) o)) rest))
    (sym (line_says seed most line few all.0)) (all.0.made, all_counted seed most (number + 1) lines few all.1)

found_made : (seed most : ℕ) (lines : List Counted) (row : Row) → AllByRecursion (Made seed most) lines
    → IfSome (first_that (λ (line : Counted). is_same_inode row line.row) lines)
    (λ first. IsMade seed most first.row × (is_same_inode row first.row ≡ true))
found_made seed most [] row all = tt
found_made seed most (line ∷ lines) row all =
    by (is_same_inode row line.row) refl (found_made seed most lines row all.1)
  where
    by : (b : Bool) → is_same_inode row line.row ≡ b
        → IfSome (first_that (λ (line : Counted). is_same_inode row line.row) lines)
        (λ first. IsMade seed most first.row × (is_same_inode row first.row ≡ true))
        → IfSome (cond b (Some line) (first_that (λ (line : Counted). is_same_inode row line.row) lines))
        (λ first. IsMade seed most first.row × (is_same_inode row first.row ≡ true))
    by true is behind = (all.0, is)
    by false is behind = behind

no_conflict : (seed most : ℕ) (lines : List Counted) (line : Counted) → AllByRecursion (Made seed most) lines
    → Made seed most line → conflict_of lines line ≡ None
unfolding first_of
no_conflict seed most lines line all made = by (first_of lines line.row) (found_made seed most lines line.row all)
  where
    by : (first : Option Counted)
        → IfSome first (λ first. IsMade seed most first.row × (is_same_inode line.row first.row ≡ true))
        → option_and_then
        (λ (first : Counted). if is_agreed first.row line.row then None else Some (Conflict line.number first.number))
        first ≡ None
    by None found = refl
    by (Some first) found =
        ap (λ b. if b then None else Some (Conflict line.number first.number))
        (made_agree seed most line.row first.row made found.0 found.1)

no_faults : (seed most number : ℕ) (lines : List (List ℕ)) (counted : List Counted) → most < 2 ^ 32
    → AllByRecursion (Made seed most) counted → AllByRecursion (IsLine seed most) lines
    → filter_map (fault_of None counted) (enumerate_from number lines) ≡ []
no_faults seed most number [] counted few made all = refl
no_faults seed most number (line ∷ lines) counted few made all =
    let says : row_in line ≡ Some all.0.row = line_says seed most line few all.0 in
    let good : is_bad line ≡ false = rw says (grind arith) in
    let none : fault_of None counted (number, line) ≡ None =
    ap (λ b.
    if b then Some (BadLine number) else option_and_then (conflict_of counted) (counted_line None (number, line))) good
    ∙ ap (λ (o : Option Row). option_and_then (conflict_of counted)
    (option_map (λ (row : Row). record { number = number; row = row }) (option_and_then (λ (row : Row). Some row) o)))
    says
    ∙ no_conflict seed most counted (record { number = number; row = all.0.row }) made all.0.made in
    ap (λ (o : Option ScanFault).
    cons_option o (filter_map (fault_of None counted) (enumerate_from (number + 1) lines))) none
    ∙ no_faults seed most (number + 1) lines counted few made all.1

-- the usage of users that a made listing adds up to
unfoldable pub generated_usage : (seed count : ℕ) → UsageMap
generated_usage seed count = usage_of User (counted_lines None (generated_lines seed 0 count))

pub scanned-generated : (seed count : ℕ) → count < 2 ^ 32
    → scanned User None (generated seed count) ≡ Ok (generated_usage seed count)
unfolding scanned generated faults_of counted_lines generated_usage
scanned-generated seed count few =
    let lines : List (List ℕ) = generated_lines seed 0 count in
    let all : AllByRecursion (IsLine seed count) lines = all_lines seed 0 count count (omega arith) in
    let short : AllByRecursion IsShortLine lines = all_short seed count lines few all in
    let long : length (lines_text lines) ≤ 1099511627776 =
    omega (arith, length-text lines short, length-lines seed 0 count) in
    let counted : List Counted = counted_lines None lines in
    let clean : faults_of None lines ≡ [] =
    no_faults seed count 1 lines counted few (all_counted seed count 1 lines few all) all in
    let none : first_fault None (listed lines) ≡ None =
    ap (λ (ls : List (List ℕ)). slice_get (faults_of None ls ++ option_to_list (end_fault 1 (listed lines))) 0)
    (read_lines-listed lines)
    ∙ ap (λ (faults : List ScanFault). slice_get (faults ++ option_to_list (end_fault 1 (listed lines))) 0) clean
    ∙ ap (λ (o : Option ScanFault). slice_get (option_to_list o) 0) (end_fault-listed 1 lines) in
    ap (scanned_lines User None) (lines_of_text 1099511627776 lines short long)
    ∙ ap (λ (o : Option ScanFault). unless o (usage_of User (counted_lines None (read_lines (listed lines))))) none
    ∙ ap (λ (ls : List (List ℕ)). Ok (usage_of User (counted_lines None ls))) (read_lines-listed lines)
