-- What is wrong with the lines of a listing, where more lines stand behind.
use Rattle.std.proofs.Common.{◌≡◌, ℕ, ◌+◌, List, [], ◌∷◌, ◌++◌, length, Option, Some, None, refl, sym, ap, ◌∙◌, arith}
use Rattle.std.proofs.Common.{append_assoc}
use Rattle.std.specs.Prelude.{if◌then◌else◌, IsSome, IfSome, slice_get}
use Rattle.std.specs.List.{AllByRecursion, cons_option, enumerate_from, filter_map}
use Rattle.std.specs.Option.{option_and_then, option_to_list}
use Rattle.std.proofs.lemmas.List.Elements.{filter_map-append}
use Rattle.quota_types.proofs.ListLemmas.{AllByRecursion-weaker}
use Rattle.inode_scan.specs.declared.scan_fault.ScanFault.{ScanFault}
use Rattle.inode_scan.specs.Line.{is_bad}
use Rattle.inode_scan.specs.declared.scan_fault.ScanFault.TheVariants.{BadLine, Conflict}
use Rattle.inode_scan.specs.Listing.{Counted, conflict_of, counted_line, counted_lines, fault_of, faults_of, first_of}
use Rattle.inode_scan.specs.Listing.{is_agreed}
use Rattle.inode_scan.proofs.ListLemmas.{each_given, enumerate_from-append, filter_map_same}
use Rattle.inode_scan.proofs.FirstLemmas.{all_found, counted_lines-append, first_of-kept}

-- a line that counts among these lines has the same fault among more
conflict_kept : (lines more : List Counted) (line : Counted) → IsSome (first_of lines line.row)
    → conflict_of (lines ++ more) line ≡ conflict_of lines line
conflict_kept lines more line found =
    ap (option_and_then
    (λ first. if is_agreed first.row line.row then None else Some (Conflict line.number first.number)))
    (first_of-kept lines more line.row found)

fault_kept : (device : Option ℕ) (lines more : List Counted) (line : ℕ × List ℕ)
    → IfSome (counted_line device line) (λ counted. IsSome (first_of lines counted.row))
    → fault_of device (lines ++ more) line ≡ fault_of device lines line
fault_kept device lines more line found =
    ap (λ fault. if is_bad line.1 then Some (BadLine line.0) else fault) (by (counted_line device line) found)
  where
    by : (counted : Option Counted) → IfSome counted (λ counted. IsSome (first_of lines counted.row))
        → option_and_then (conflict_of (lines ++ more)) counted ≡ option_and_then (conflict_of lines) counted
    by None found = refl
    by (Some counted) found = conflict_kept lines more counted found

found_each : (device : Option ℕ) (lines : List (List ℕ))
    → AllByRecursion
    (λ line. IfSome (counted_line device line) (λ c. IsSome (first_of (counted_lines device lines) c.row)))
    (enumerate_from 1 lines)
unfolding counted_lines
found_each device lines =
    each_given (counted_line device)
    (λ (c : Counted). IsSome (first_of (filter_map (counted_line device) (enumerate_from 1 lines)) c.row))
    (enumerate_from 1 lines)
    (all_found (filter_map (counted_line device) (enumerate_from 1 lines)))

-- what is wrong with lines that stand behind others
abbrev pub faults_behind : Option ℕ → List (List ℕ) → List (List ℕ) → List ScanFault
faults_behind device lines more =
    filter_map (fault_of device (counted_lines device (lines ++ more))) (enumerate_from (1 + length lines) more)

pub faults_of-append : (device : Option ℕ) (lines more : List (List ℕ))
    → faults_of device (lines ++ more) ≡ faults_of device lines ++ faults_behind device lines more
unfolding faults_of
faults_of-append device lines more =
    let counted : List Counted = counted_lines device lines in
    let later : List Counted = filter_map (counted_line device) (enumerate_from (1 + length lines) more) in
    let all : counted_lines device (lines ++ more) ≡ counted ++ later = counted_lines-append device lines more in
    ap (filter_map (fault_of device (counted_lines device (lines ++ more)))) (enumerate_from-append 1 lines more)
    ∙ filter_map-append (fault_of device (counted_lines device (lines ++ more))) (enumerate_from 1 lines)
    (enumerate_from (1 + length lines) more)
    ∙ ap (λ faults. faults ++ faults_behind device lines more)
    (ap (λ context. filter_map (fault_of device context) (enumerate_from 1 lines)) all
    ∙ filter_map_same (fault_of device (counted ++ later)) (fault_of device counted) (enumerate_from 1 lines)
    (AllByRecursion-weaker
    (λ (line : ℕ × List ℕ). IfSome (counted_line device line) (λ c. IsSome (first_of counted c.row)))
    (λ (line : ℕ × List ℕ). fault_of device (counted ++ later) line ≡ fault_of device counted line)
    (enumerate_from 1 lines) (λ line found. fault_kept device counted later line found) (found_each device lines)))

one_given : {X Y : Type 0} (h : X → Option Y) (x : X) → filter_map h (x ∷ []) ≡ option_to_list (h x)
one_given {X} {Y} h x = by (h x)
  where
    by : (o : Option Y) → cons_option o [] ≡ option_to_list o
    by None = refl
    by (Some y) = refl

-- one more line
pub faults_of-push : (device : Option ℕ) (lines : List (List ℕ)) (line : List ℕ) (number : ℕ)
    → length lines + 1 ≡ number
    → faults_of device (lines ++ line ∷ [])
    ≡ faults_of device lines
    ++ option_to_list (fault_of device (counted_lines device (lines ++ line ∷ [])) (number, line))
faults_of-push device lines line number is =
    faults_of-append device lines (line ∷ [])
    ∙ ap (λ faults. faults_of device lines ++ faults)
    (one_given (fault_of device (counted_lines device (lines ++ line ∷ []))) (1 + length lines, line))
    ∙ ap (λ n. faults_of device lines
    ++ option_to_list (fault_of device (counted_lines device (lines ++ line ∷ [])) (n, line))) (omega arith)

-- the first fault of a listing is that of the first line that has one
pub first_fault_is : (device : Option ℕ) (lines more : List (List ℕ)) (line : List ℕ) (number : ℕ) (fault : ScanFault)
    (others : List ScanFault) → length lines + 1 ≡ number
    → faults_of device lines ≡ []
    → fault_of device (counted_lines device (lines ++ line ∷ [])) (number, line) ≡ Some fault
    → slice_get (faults_of device (lines ++ line ∷ more) ++ others) 0 ≡ Some fault
first_fault_is device lines more line number fault others is clean wrong =
    let here : faults_of device (lines ++ line ∷ []) ≡ fault ∷ [] =
    faults_of-push device lines line number is
    ∙ ap (λ faults. faults
    ++ option_to_list (fault_of device (counted_lines device (lines ++ line ∷ [])) (number, line))) clean
    ∙ ap option_to_list wrong in
    let all : faults_of device (lines ++ line ∷ more) ≡ fault ∷ faults_behind device (lines ++ line ∷ []) more =
    ap (faults_of device) (sym (append_assoc lines (line ∷ []) more))
    ∙ faults_of-append device (lines ++ line ∷ []) more
    ∙ ap (λ faults. faults ++ faults_behind device (lines ++ line ∷ []) more) here in
    ap (λ faults. slice_get (faults ++ others) 0) all
