-- What is kept of the lines that were read, where one more is.
use Rattle.std.proofs.Common.{◌≡◌, ℕ, ◌+◌, Bool, true, false, cond, List, [], ◌∷◌, ◌++◌, length, Option, Some, None}
use Rattle.std.proofs.Common.{Result, Ok, Err, refl, sym, ap, ◌∙◌, subst, arith, append-nil}
use Rattle.std.specs.Prelude.{◌&&◌, if◌then◌else◌, is_none, is_some, not, map, IfErr, OnOk}
use Rattle.std.specs.FinMap as fin
use Rattle.std.specs.FinMap.{from_entries}
use Rattle.std.specs.List.{cons_option}
use Rattle.std.specs.Ordering.{nat_cmp}
use Rattle.std.specs.Option.{option_and_then, option_map, option_or, option_to_list}
use Rattle.std.proofs.lemmas.Bool.Decides.{nat_tests}
use Rattle.input_text.specs.Words.{words_eq, words_of}
use Rattle.inode_scan.specs.declared.scan_fault.ScanFault.{ScanFault}
use Rattle.inode_scan.specs.declared.scan_fault.ScanFault.TheVariants.{Source, TooLarge, BadLine, LongLine, Conflict}
use Rattle.inode_scan.specs.declared.scan_fault.ScanFault.TheVariants.{Memory}
use Rattle.inode_scan.specs.declared.inode.Inode.{Inode}
use Rattle.inode_scan.specs.declared.inode.FirstLine.{FirstLine}
use Rattle.inode_scan.specs.declared.row.Row.{Row}
use Rattle.inode_scan.specs.declared.tally.Tally.{Tally}
use Rattle.quota_types.specs.declared.file_kind.Kind.{Kind}
use Rattle.quota_types.proofs.ListLemmas.{option_or-none}
use Rattle.inode_scan.specs.Firsts.{inode_eq, kept_in, kept_or}
use Rattle.inode_scan.specs.Line.{is_bad, row_in, row_of}
use Rattle.inode_scan.specs.Listing.{Counted, conflict_of, counted_line, counted_lines, counted_row, fault_of}
use Rattle.inode_scan.specs.Listing.{faults_of, first_lines, first_of, is_asked, is_same_inode, owned, owner_of}
use Rattle.inode_scan.specs.Listing.{usage_of, used_in}
use Rattle.inode_scan.specs.Tally.{AreBefore, ConflictsAs, IsOf, IsRefusedLine, IsRefusedRow, KeepsLines, TakesRow}
use Rattle.inode_scan.specs.Tally.{agrees, counted_at, first_kept, row_at}
use Rattle.inode_scan.specs.Usage.{UsageMap}
use Rattle.inode_scan.specs.UsageSums.{with_inode}
use Rattle.inode_scan.proofs.FaultLemmas.{faults_of-push}
use Rattle.inode_scan.proofs.FirstLemmas.{conflict_of-first, conflict_of-later, counted_before, counted_lines-append}
use Rattle.inode_scan.proofs.FirstLemmas.{first_lines-push, first_of-append}
use Rattle.inode_scan.proofs.RowLemmas.{no_words}
use Rattle.inode_scan.proofs.SumLemmas.{usage_of-none, usage_of-push}

-- the inode of a row
abbrev pub inode_of : Row → Inode
inode_of row = record { device = row.device; number = row.inode }

-- the first line of a row's inode is that of the inode
at_inode : (lines : List Counted) (row : Row) → first_of lines (row_at (inode_of row)) ≡ first_of lines row
unfolding first_of
at_inode lines row = refl

none_mapped : {X Y : Type 0} (f : X → Y) (o : Option X) → option_map f o ≡ None → o ≡ None
none_mapped f None e = refl
none_mapped f (Some x) e = absurd (cc)

-- what is kept says whether the row's inode has a first line
kept_at : (tally : Tally) (lines : List Counted) (row : Row) → KeepsLines tally lines
    → kept_in tally.firsts (inode_of row) ≡ option_map first_kept (first_of lines row)
kept_at tally lines row keeps = keeps.firsts (inode_of row) ∙ ap (option_map first_kept) (at_inode lines row)

-- A later line of an inode.

checked : (lines : List Counted) (row : Row) (number : ℕ) (kept : FirstLine) (first : Option Counted)
    → first_of lines row ≡ first → option_map first_kept first ≡ Some kept
    → conflict_of (lines ++ counted_at number row ∷ []) (counted_at number row)
    ≡ (if agrees kept row then None else Some (Conflict number kept.number))
checked lines row number kept None found is = absurd (cc)
checked lines row number kept (Some first) found is =
    let same : first_kept first ≡ kept = cc in
    conflict_of-later lines (counted_at number row) first found
    ∙ ap (λ (k : FirstLine). if agrees k row then None else Some (Conflict number k.number)) same

pub conflict_by : (tally : Tally) (lines : List Counted) (row : Row) (number : ℕ) (kept : FirstLine)
    → KeepsLines tally lines → kept_in tally.firsts (inode_of row) ≡ Some kept
    → conflict_of (lines ++ counted_at number row ∷ []) (counted_at number row)
    ≡ (if agrees kept row then None else Some (Conflict number kept.number))
conflict_by tally lines row number kept keeps is =
    checked lines row number kept (first_of lines row) refl (sym (kept_at tally lines row keeps) ∙ is)

-- Inodes.

same_inode : (row : Row) (inode : Inode) → inode_eq (inode_of row) inode ≡ is_same_inode (row_at inode) row
same_inode row inode = grind (arith, nat_tests)

inode_is : (row : Row) (inode : Inode) → inode_eq (inode_of row) inode ≡ true → inode_of row ≡ inode
inode_is row inode same =
    let device : row.device ≡ inode.device = grind (arith, nat_tests) in
    let number : row.inode ≡ inode.number = grind (arith, nat_tests) in
    λ i. record { device = device i; number = number i }

one_line : (row : Row) (number : ℕ) (inode : Inode)
    → first_of (counted_at number row ∷ []) (row_at inode)
    ≡ cond (inode_eq (inode_of row) inode) (Some (counted_at number row)) None
unfolding first_of
one_line row number inode = ap (λ b. cond b (Some (counted_at number row)) None) (sym (same_inode row inode))

first_of-push : (lines : List Counted) (row : Row) (number : ℕ) (inode : Inode)
    → first_of (lines ++ counted_at number row ∷ []) (row_at inode)
    ≡ option_or (first_of lines (row_at inode))
    (cond (inode_eq (inode_of row) inode) (Some (counted_at number row)) None)
first_of-push lines row number inode =
    first_of-append lines (counted_at number row ∷ []) (row_at inode)
    ∙ ap (option_or (first_of lines (row_at inode))) (one_line row number inode)

-- the first lines stay where a line of an inode that has one is added
first_of-later : (lines : List Counted) (row : Row) (number : ℕ) (first : Counted) (inode : Inode)
    → first_of lines row ≡ Some first
    → first_of (lines ++ counted_at number row ∷ []) (row_at inode) ≡ first_of lines (row_at inode)
first_of-later lines row number first inode found =
    first_of-push lines row number inode ∙ by (inode_eq (inode_of row) inode) refl
  where
    by : (b : Bool) → inode_eq (inode_of row) inode ≡ b
        → option_or (first_of lines (row_at inode)) (cond b (Some (counted_at number row)) None)
        ≡ first_of lines (row_at inode)
    by false other = option_or-none (first_of lines (row_at inode))
    by true same =
        let here : first_of lines (row_at inode) ≡ Some first =
        ap (λ (i : Inode). first_of lines (row_at i)) (sym (inode_is row inode same)) ∙ at_inode lines row ∙ found in
        ap (λ o. option_or o (Some (counted_at number row))) here ∙ sym here

usage_same : (kind : Kind) (lines : List Counted) (line first : Counted) → AreBefore line.number lines
    → first_of lines line.row ≡ Some first → usage_of kind lines ≡ usage_of kind (lines ++ line ∷ [])
unfolding usage_of
usage_same kind lines line first before found =
    let firsts : first_lines (lines ++ line ∷ []) ≡ first_lines lines =
    first_lines-push lines line before
    ∙ ap (λ (o : Option Counted). first_lines lines ++ (if is_some o then [] else line ∷ [])) found
    ∙ append-nil (first_lines lines) in
    ap (λ (ls : List Counted). from_entries {R = nat_cmp}
    (map (λ (first : Counted). (owner_of kind first.row, used_in (owned kind ls (owner_of kind first.row)))) ls))
    (sym firsts)

-- what is kept is that of a later line, too
later_kept : (tally : Tally) (lines : List Counted) (row : Row) (number : ℕ) (kept : FirstLine) (first : Option Counted)
    → AreBefore number lines → KeepsLines tally lines
    → first_of lines row ≡ first → option_map first_kept first ≡ Some kept
    → KeepsLines tally (lines ++ counted_at number row ∷ [])
later_kept tally lines row number kept None before keeps found is = absurd (cc)
later_kept tally lines row number kept (Some first) before keeps found is = record {
  firsts = λ inode.
      keeps.firsts inode ∙ ap (option_map first_kept) (sym (first_of-later lines row number first inode found));
  sums = keeps.sums ∙ usage_same tally.kind lines (counted_at number row) first before found;
}

pub takes_later : (tally : Tally) (row : Row) (number : ℕ) (kept : FirstLine)
    → kept_in tally.firsts (inode_of row) ≡ Some kept → agrees kept row ≡ true → TakesRow tally tally row number
takes_later tally row number kept is agreed lines before keeps = (
  later_kept tally lines row number kept (first_of lines row) before keeps refl
      (sym (kept_at tally lines row keeps) ∙ is),
  conflict_by tally lines row number kept keeps is
      ∙ ap (λ b. if b then None else Some (Conflict number kept.number)) agreed,
)

pub conflicts_as : (tally : Tally) (row : Row) (number : ℕ) (kept : FirstLine)
    → kept_in tally.firsts (inode_of row) ≡ Some kept → agrees kept row ≡ false
    → ConflictsAs tally row number (Conflict number kept.number)
conflicts_as tally row number kept is differs lines keeps =
    conflict_by tally lines row number kept keeps is
    ∙ ap (λ b. if b then None else Some (Conflict number kept.number)) differs

-- nothing was wrong
abbrev right : Result (Unit {0}) ScanFault
right = Ok tt

-- what is kept of the first lines stays where a later line of an inode was looked up
pub stays_kept : (old : Tally) (row : Row) (line kept : FirstLine) (other : Inode)
    → kept_in old.firsts (inode_of row) ≡ Some kept
    → kept_or old.firsts (inode_of row) line other ≡ kept_in old.firsts other
stays_kept old row line kept other is = by (inode_eq (inode_of row) other) refl
  where
    by : (b : Bool) → inode_eq (inode_of row) other ≡ b
        → option_or (kept_in old.firsts other) (if b then Some line else None) ≡ kept_in old.firsts other
    by false differs = option_or-none (kept_in old.firsts other)
    by true same =
        let here : kept_in old.firsts other ≡ Some kept =
        ap (kept_in old.firsts) (sym (inode_is row other same)) ∙ is in
        ap (λ o. option_or o (Some line)) here ∙ sym here

-- a line is kept where it is the first one of its inode
pub new_kept : (old : Tally) (row : Row) (line : FirstLine) (other : Inode) → kept_in old.firsts (inode_of row) ≡ None
    → kept_or old.firsts (inode_of row) line other
    ≡ cond (inode_eq (inode_of row) other) (Some line) (kept_in old.firsts other)
new_kept old row line other none = by (inode_eq (inode_of row) other) refl
  where
    by : (b : Bool) → inode_eq (inode_of row) other ≡ b
        → option_or (kept_in old.firsts other) (if b then Some line else None)
        ≡ cond b (Some line) (kept_in old.firsts other)
    by false differs = option_or-none (kept_in old.firsts other)
    by true same = ap (λ o. option_or o (Some line)) (ap (kept_in old.firsts) (sym (inode_is row other same)) ∙ none)

-- what is kept of the lines is the same
pub record KeepsSame (old new : Tally) : Type 0 where
  pub firsts : (inode : Inode) → kept_in new.firsts inode ≡ kept_in old.firsts inode
  pub sums : new.sums ≡ old.sums
  pub kind : new.kind ≡ old.kind

keeps_same : (old new : Tally) (lines : List Counted) → KeepsSame old new → KeepsLines old lines → KeepsLines new lines
keeps_same old new lines same keeps = record {
  firsts = λ inode. same.firsts inode ∙ keeps.firsts inode;
  sums = same.sums ∙ keeps.sums ∙ ap (λ (kind : Kind). usage_of kind lines) (sym same.kind);
}

takes_again : (old new : Tally) (row : Row) (number : ℕ) (kept : FirstLine)
    → kept_in old.firsts (inode_of row) ≡ Some kept → KeepsSame old new → agrees kept row ≡ true
    → TakesRow old new row number
takes_again old new row number kept is same agreed lines before keeps = (
  keeps_same old new (lines ++ counted_at number row ∷ []) same
      (takes_later old row number kept is agreed lines before keeps).0,
  (takes_later old row number kept is agreed lines before keeps).1,
)

-- a row of an inode that has a first line is taken where they agree, and otherwise refused
pub taken_by : (old new : Tally) (row : Row) (number : ℕ) (kept : FirstLine) (result : Result (Unit {0}) ScanFault)
    → kept_in old.firsts (inode_of row) ≡ Some kept → KeepsSame old new
    → result ≡ (if agrees kept row then right else Err (Conflict number kept.number))
    → OnOk result (TakesRow old new row number)
taken_by old new row number kept result is same answers =
    subst (λ (r : Result (Unit {0}) ScanFault). OnOk r (TakesRow old new row number)) (sym answers)
    (by (agrees kept row) refl)
  where
    by : (b : Bool) → agrees kept row ≡ b
        → OnOk (if b then right else Err (Conflict number kept.number)) (TakesRow old new row number)
    by true agreed = takes_again old new row number kept is same agreed
    by false differs = tt

pub refused_by : (tally : Tally) (row : Row) (number : ℕ) (kept : FirstLine) (result : Result (Unit {0}) ScanFault)
    → kept_in tally.firsts (inode_of row) ≡ Some kept
    → result ≡ (if agrees kept row then right else Err (Conflict number kept.number))
    → IfErr result (IsRefusedRow tally row number)
refused_by tally row number kept result is answers =
    subst (λ (r : Result (Unit {0}) ScanFault). IfErr r (IsRefusedRow tally row number)) (sym answers)
    (by (agrees kept row) refl)
  where
    by : (b : Bool) → agrees kept row ≡ b
        → IfErr (if b then right else Err (Conflict number kept.number)) (IsRefusedRow tally row number)
    by true agreed = tt
    by false differs = conflicts_as tally row number kept is differs

-- The first line of an inode.

first_of-new : (lines : List Counted) (row : Row) (number : ℕ) (old new : Option FirstLine) (inode : Inode)
    → first_of lines row ≡ None → old ≡ option_map first_kept (first_of lines (row_at inode))
    → new ≡ cond (inode_eq (inode_of row) inode) (Some (first_kept (counted_at number row))) old
    → new ≡ option_map first_kept (first_of (lines ++ counted_at number row ∷ []) (row_at inode))
first_of-new lines row number old new inode none was is =
    is ∙ by (inode_eq (inode_of row) inode) refl
    ∙ ap (option_map first_kept) (sym (first_of-push lines row number inode))
  where
    by : (b : Bool) → inode_eq (inode_of row) inode ≡ b
        → cond b (Some (first_kept (counted_at number row))) old
        ≡ option_map first_kept (option_or (first_of lines (row_at inode)) (cond b (Some (counted_at number row)) None))
    by false other = was ∙ ap (option_map first_kept) (sym (option_or-none (first_of lines (row_at inode))))
    by true same =
        let here : first_of lines (row_at inode) ≡ None =
        ap (λ (i : Inode). first_of lines (row_at i)) (sym (inode_is row inode same)) ∙ at_inode lines row ∙ none in
        ap (λ (o : Option Counted). option_map first_kept (option_or o (Some (counted_at number row)))) (sym here)

-- what is kept once a row was added whose inode had no first line
pub record Adds (old new : Tally) (row : Row) (number : ℕ) : Type 0 where
  pub kind : new.kind ≡ old.kind
  pub firsts : (inode : Inode)
      → kept_in new.firsts inode
      ≡ cond (inode_eq (inode_of row) inode) (Some (first_kept (counted_at number row))) (kept_in old.firsts inode)
  pub sums : new.sums
      ≡ fin.insert old.sums (owner_of old.kind row) (with_inode (fin.get old.sums (owner_of old.kind row)) row.blocks)

pub takes_first : (old new : Tally) (row : Row) (number : ℕ) → kept_in old.firsts (inode_of row) ≡ None
    → Adds old new row number → TakesRow old new row number
takes_first old new row number absent adds lines before keeps =
    let none : first_of lines row ≡ None =
    none_mapped first_kept (first_of lines row) (sym (kept_at old lines row keeps) ∙ absent) in (
      record {
        firsts = λ inode. first_of-new lines row number (kept_in old.firsts inode) (kept_in new.firsts inode) inode none
            (keeps.firsts inode) (adds.firsts inode);
        sums =
            adds.sums
            ∙ ap (λ (u : UsageMap).
            fin.insert u (owner_of old.kind row) (with_inode (fin.get u (owner_of old.kind row)) row.blocks)) keeps.sums
            ∙ usage_of-push old.kind lines (counted_at number row) before none
            ∙ ap (λ (kind : Kind). usage_of kind (lines ++ counted_at number row ∷ [])) (sym adds.kind);
      },
      conflict_of-first lines (counted_at number row) none,
    )

-- Lines.

-- a line with no word is not bad, and says nothing
pub blank_row : (line : List ℕ) → words_eq (words_of line) [] ≡ true → row_in line ≡ None
unfolding row_in
blank_row line blank = ap row_of (no_words (words_of line) blank)

pub blank_good : (line : List ℕ) → words_eq (words_of line) [] ≡ true → is_bad line ≡ false
blank_good line blank = ap (λ b. not b && is_none (row_in line)) blank

pub row_good : (line : List ℕ) (row : Row) → row_in line ≡ Some row → is_bad line ≡ false
row_good line row is =
    ap (λ o. not (words_eq (words_of line) []) && is_none o) is ∙ otherright (not (words_eq (words_of line) []))
  where
    otherright : (b : Bool) → (b && false) ≡ false
    otherright true = refl
    otherright false = refl

pub counted_is : (device : Option ℕ) (line : List ℕ) (row : Row) → row_in line ≡ Some row
    → counted_row device line ≡ (if is_asked device row then Some row else None)
counted_is device line row is = ap (option_and_then (λ row. if is_asked device row then Some row else None)) is

counted_push : (device : Option ℕ) (lines : List (List ℕ)) (line : List ℕ) (number : ℕ) (row : Option Row)
    → length lines + 1 ≡ number → counted_row device line ≡ row
    → counted_lines device (lines ++ line ∷ [])
    ≡ counted_lines device lines ++ option_to_list (option_map (counted_at number) row)
counted_push device lines line number row is counts =
    counted_lines-append device lines (line ∷ [])
    ∙ ap (λ cs. counted_lines device lines ++ cs) (one (counted_line device (1 + length lines, line)))
    ∙ ap (λ n.
    counted_lines device lines ++ option_to_list (option_map (counted_at n) (counted_row device line))) (omega arith)
    ∙ ap (λ r. counted_lines device lines ++ option_to_list (option_map (counted_at number) r)) counts
  where
    one : (o : Option Counted) → cons_option o [] ≡ option_to_list o
    one None = refl
    one (Some c) = refl

-- a line that does not count and is not bad changes nothing
pub of_uncounted : (tally : Tally) (lines : List (List ℕ)) (line : List ℕ) (number : ℕ) → length lines + 1 ≡ number
    → is_bad line ≡ false → counted_row tally.device line ≡ None
    → IsOf tally lines → IsOf tally (lines ++ line ∷ [])
of_uncounted tally lines line number is good none of =
    let same : counted_lines tally.device (lines ++ line ∷ []) ≡ counted_lines tally.device lines =
    counted_push tally.device lines line number None is none ∙ append-nil (counted_lines tally.device lines) in
    let right : fault_of tally.device (counted_lines tally.device (lines ++ line ∷ [])) (number, line) ≡ None =
    rw (good, none) refl in
    record {
      kept = subst (KeepsLines tally) (sym same) of.kept;
      clean = faults_of-push tally.device lines line number is
          ∙ ap (λ faults. faults
          ++ option_to_list (fault_of tally.device (counted_lines tally.device (lines ++ line ∷ [])) (number, line)))
          of.clean ∙ ap option_to_list right;
    }

-- one that counts is taken
pub of_counted : (old new : Tally) (lines : List (List ℕ)) (line : List ℕ) (number : ℕ) (row : Row)
    → length lines + 1 ≡ number → new.device ≡ old.device → is_bad line ≡ false → counted_row old.device line ≡ Some row
    → TakesRow old new row number → IsOf old lines → IsOf new (lines ++ line ∷ [])
of_counted old new lines line number row is device good counts takes of =
    let more : counted_lines old.device (lines ++ line ∷ [])
    ≡ counted_lines old.device lines ++ counted_at number row ∷ [] =
    counted_push old.device lines line number (Some row) is counts in
    let before : AreBefore number (counted_lines old.device lines) =
    subst (λ n. AreBefore n (counted_lines old.device lines)) (omega arith) (counted_before old.device lines) in
    let taken = takes (counted_lines old.device lines) before of.kept in
    let right : fault_of old.device (counted_lines old.device (lines ++ line ∷ [])) (number, line) ≡ None =
    rw (good, counts, more) taken.1 in
    let clean : faults_of old.device (lines ++ line ∷ []) ≡ [] =
    faults_of-push old.device lines line number is
    ∙ ap (λ faults. faults
    ++ option_to_list (fault_of old.device (counted_lines old.device (lines ++ line ∷ [])) (number, line))) of.clean
    ∙ ap option_to_list right in
    record {
      kept = subst (KeepsLines new) (sym (ap (λ d. counted_lines d (lines ++ line ∷ [])) device ∙ more)) taken.0;
      clean = ap (λ d. faults_of d (lines ++ line ∷ [])) device ∙ clean;
    }

-- one that conflicts is wrong
pub wrong_conflict : (tally : Tally) (lines : List (List ℕ)) (line : List ℕ) (number : ℕ) (row : Row)
    (fault : ScanFault) → length lines + 1 ≡ number → is_bad line ≡ false → counted_row tally.device line ≡ Some row
    → ConflictsAs tally row number fault → IsOf tally lines
    → fault_of tally.device (counted_lines tally.device (lines ++ line ∷ [])) (number, line) ≡ Some fault
wrong_conflict tally lines line number row fault is good counts conflicts of =
    let more : counted_lines tally.device (lines ++ line ∷ [])
    ≡ counted_lines tally.device lines ++ counted_at number row ∷ [] =
    counted_push tally.device lines line number (Some row) is counts in
    rw (good, counts, more) (conflicts (counted_lines tally.device lines) of.kept)

pub uncounted_row : (device : Option ℕ) (line : List ℕ) → row_in line ≡ None → counted_row device line ≡ None
uncounted_row device line none = ap (option_and_then (λ row. if is_asked device row then Some row else None)) none

-- a row that is asked for counts, and another one does not
pub asked_row : (device : Option ℕ) (line : List ℕ) (row : Row) (asked : Bool) → row_in line ≡ Some row
    → asked ≡ is_asked device row → asked ≡ true → counted_row device line ≡ Some row
asked_row device line row asked is tells counts =
    counted_is device line row is ∙ ap (λ b. if b then Some row else None) (sym tells ∙ counts)

pub other_row : (device : Option ℕ) (line : List ℕ) (row : Row) (asked : Bool) → row_in line ≡ Some row
    → asked ≡ is_asked device row → asked ≡ false → counted_row device line ≡ None
other_row device line row asked is tells other =
    counted_is device line row is ∙ ap (λ b. if b then Some row else None) (sym tells ∙ other)

on_ok : {T E P Q : Type 0} (result : Result T E) → OnOk result P → (P → Q) → OnOk result Q
on_ok (Ok value) p next = next p
on_ok (Err fault) p next = tt

-- a line whose row was taken was taken
pub line_taken : (old new : Tally) (line : List ℕ) (number : ℕ) (row : Row) (result : Result (Unit {0}) ScanFault)
    → new.device ≡ old.device → row_in line ≡ Some row → counted_row old.device line ≡ Some row
    → OnOk result (TakesRow old new row number)
    → OnOk result ((lines : List (List ℕ)) → length lines + 1 ≡ number → IsOf old lines → IsOf new (lines ++ line ∷ []))
line_taken old new line number row result device is counts taken =
    on_ok result taken
    (λ takes lines at of. of_counted old new lines line number row at device (row_good line row is) counts takes of)

refused_as : (tally : Tally) (line : List ℕ) (number : ℕ) (row : Row) (fault : ScanFault) → row_in line ≡ Some row
    → counted_row tally.device line ≡ Some row
    → IsRefusedRow tally row number fault → IsRefusedLine tally line number fault
refused_as tally line number row Source is counts refused = refused
refused_as tally line number row TooLarge is counts refused = refused
refused_as tally line number row (BadLine named) is counts refused = absurd refused
refused_as tally line number row (LongLine named) is counts refused = refused
refused_as tally line number row (Conflict named first) is counts refused =
    λ lines at of.
    wrong_conflict tally lines line number row (Conflict named first) at (row_good line row is) counts refused of
refused_as tally line number row Memory is counts refused = tt

-- and one whose row was refused was refused
pub line_refused : (tally : Tally) (line : List ℕ) (number : ℕ) (row : Row) (result : Result (Unit {0}) ScanFault)
    → row_in line ≡ Some row → counted_row tally.device line ≡ Some row
    → IfErr result (IsRefusedRow tally row number) → IfErr result (IsRefusedLine tally line number)
line_refused tally line number row (Ok done) is counts refused = tt
line_refused tally line number row (Err fault) is counts refused =
    refused_as tally line number row fault is counts refused

-- the usage once a row was added to that of its owner
pub added_usage : (usage new : UsageMap) (row : Row) (id own : ℕ)
    → new ≡ fin.insert usage id (with_inode (fin.get usage id) row.blocks) → id ≡ own
    → new ≡ fin.insert usage own (with_inode (fin.get usage own) row.blocks)
added_usage usage new row id own is same =
    is ∙ ap (λ n. fin.insert usage n (with_inode (fin.get usage n) row.blocks)) same

-- where nothing was read
pub of_none : (tally : Tally) → ((inode : Inode) → kept_in tally.firsts inode ≡ None)
    → tally.sums ≡ fin.empty → IsOf tally []
unfolding counted_lines faults_of first_of
of_none tally firsts sums = record {
  kept = record { firsts = firsts; sums = sums ∙ sym (usage_of-none tally.kind) };
  clean = refl;
}
