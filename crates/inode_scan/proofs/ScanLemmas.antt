-- A listing, line by line.
use Rattle.std.proofs.Common.{◌≡◌, ℕ, ◌+◌, ◌-◌, ◌≤◌, Bool, true, false, List, [], ◌∷◌, ◌++◌, length, Option, Some, None}
use Rattle.std.proofs.Common.{Result, Ok, Err, IsTrue, refl, sym, ap, subst, ◌∙◌, arith, append-nil, append_assoc}
use Rattle.std.proofs.Common.{length-append}
use Rattle.std.specs.Prelude.{if◌then◌else◌, IfOk, IfErr, OnOk, slice_get}
use Rattle.std.specs.Option.{option_to_list}
use Rattle.quota_types.specs.declared.file_kind.Kind.{Kind}
use Rattle.input_text.specs.InputLines.{InputLines, NoLine, LineThen, LongNext, PastNext, input_lines}
use Rattle.input_text.specs.LineReading.{line_then, IsLineFault, LinesSeen, NamesLine, line_given}
use Rattle.input_text.specs.Lines.{next_line_of}
use Rattle.input_text.specs.declared.line_reader.LineFault.{LineFault}
use Rattle.input_text.specs.declared.line_reader.LineFault.TheVariants.{Source, Long, TooLarge}
use Rattle.input_text.proofs.InputLinesLemmas.{input_lines-long, input_lines-past, lines_left-next}
use Rattle.inode_scan.specs.declared.scan_fault.ScanFault.{ScanFault}
use Rattle.inode_scan.specs.declared.scan_fault.ScanFault.TheVariants as scan
use Rattle.inode_scan.specs.declared.tally.Tally.{Tally}
use Rattle.inode_scan.specs.Faults.{unless}
use Rattle.inode_scan.specs.Listing.{counted_lines, fault_of, faults_of, usage_of}
use Rattle.inode_scan.specs.Scan.{end_fault, first_fault, read_lines, scanned, scanned_lines}
use Rattle.inode_scan.specs.ListingFaults.{IsEndFault, IsScanFault, line_fault, listing_left}
use Rattle.inode_scan.specs.Tally.{IsBounded, IsOf, IsRefusedLine, IsWrongAs}
use Rattle.inode_scan.specs.Usage.{UsageMap}
use Rattle.inode_scan.proofs.FaultLemmas.{first_fault_is}

-- what a reader gives next is the next line of the listing
pub next-of : (result : Result Bool LineFault) (tells : Bool) (old new : LinesSeen) (left left_now line : List ℕ)
    → IfOk result (λ more. IsTrue tells
    → next_line_of 256 (1099511627776 - old.given) (old.held ++ left) ≡ line_given more line (new.held ++ left_now))
    → OnOk result (IsTrue tells → new.given + length (new.held ++ left_now) ≡ old.given + length (old.held ++ left))
    → IfOk result (λ more. IsTrue tells → listing_left old left ≡ line_then more line (listing_left new left_now))
next-of (Ok more) tells old new left left_now line next given =
    λ told. lines_left-next 256 1099511627776 old new left left_now more line (next told) (given told)
next-of (Err fault) tells old new left left_now line next given = tt

fault_by : (fault : LineFault) (before now : ℕ) (tells : Bool) (old : LinesSeen) (left : List ℕ)
    → IsLineFault before now tells (next_line_of 256 (1099511627776 - old.given) (old.held ++ left)) fault
    → NamesLine old.number fault
    → IsEndFault before now tells old.number (listing_left old left) fault
fault_by Source before now tells old left cause named = cause
fault_by (Long number) before now tells old left cause named =
    (named, λ told. input_lines-long 256 (1099511627776 - old.given) (old.held ++ left) (cause told))
fault_by TooLarge before now tells old left cause named =
    λ told. input_lines-past 256 (1099511627776 - old.given) (old.held ++ left) (cause told)

-- why a reader gives none is why the listing has none
pub fault-of : (result : Result Bool LineFault) (before now : ℕ) (tells : Bool) (old : LinesSeen) (left : List ℕ)
    → IfErr result (IsLineFault before now tells (next_line_of 256 (1099511627776 - old.given) (old.held ++ left)))
    → IfErr result (NamesLine old.number)
    → IfErr result (IsEndFault before now tells old.number (listing_left old left))
fault-of (Ok more) before now tells old left cause named = tt
fault-of (Err fault) before now tells old left cause named = fault_by fault before now tells old left cause named

-- some lines of a listing were read, and these are left
pub record IsBehind (all left : InputLines) (done : List (List ℕ)) : Type 0 where
  pub lines : read_lines all ≡ done ++ read_lines left
  pub end : end_fault 1 all ≡ end_fault (length done + 1) left

-- what is kept is that of the lines that were read, the last of which has the number before this one
pub record IsReadTo (tells : Bool) (all left : InputLines) (tally : Tally) (number : ℕ)
    (done : List (List ℕ)) : Type 0 where
  pub of : IsOf tally done
  pub last : length done + 1 ≡ number
  pub told : IsTrue tells → IsBehind all left done

pub behind_none : (all : InputLines) → IsBehind all all []
behind_none all = record { lines = refl; end = refl }

pub behind_more : (all left now : InputLines) (done : List (List ℕ)) (line : List ℕ) → IsBehind all left done
    → left ≡ LineThen line now → IsBehind all now (done ++ line ∷ [])
behind_more all left now done line behind is = record {
  lines = behind.lines ∙ ap (λ rest. done ++ read_lines rest) is ∙ sym (append_assoc done (line ∷ []) (read_lines now));
  end = behind.end ∙ ap (end_fault (length done + 1)) is
      ∙ ap (λ n. end_fault n now) (omega (arith, length-append done (line ∷ [])));
}

-- The listing as a whole.

-- nothing is wrong with the lines that were read, and no more come
pub whole : (kind : Kind) (all left : InputLines) (tally : Tally) (device : Option ℕ) (done : List (List ℕ))
    → tally.kind ≡ kind → tally.device ≡ device → IsOf tally done → IsBehind all left done → left ≡ NoLine
    → scanned_lines kind device all ≡ Ok tally.sums
whole kind all left tally device done same_kind same_device of behind is =
    let lines : read_lines all ≡ done = behind.lines ∙ ap (λ rest. done ++ read_lines rest) is ∙ append-nil done in
    let end : end_fault 1 all ≡ None = behind.end ∙ ap (end_fault (length done + 1)) is in
    let clean : faults_of device (read_lines all) ≡ [] =
    ap (faults_of device) lines ∙ ap (λ d. faults_of d done) (sym same_device) ∙ of.clean in
    let none : first_fault device all ≡ None =
    ap (λ faults. slice_get (faults ++ option_to_list (end_fault 1 all)) 0) clean
    ∙ ap (λ o. slice_get (option_to_list o) 0) end in
    ap (λ o. unless o (usage_of kind (counted_lines device (read_lines all)))) none
    ∙ ap (λ ls. Ok (usage_of kind (counted_lines device ls))) lines
    ∙ ap (λ d. Ok (usage_of kind (counted_lines d done))) (sym same_device)
    ∙ ap (λ k. Ok (usage_of k (counted_lines tally.device done))) (sym same_kind)
    ∙ ap Ok (sym of.kept.sums)

-- nothing is wrong with the lines that were read, and no more can be
pub ended : (kind : Kind) (all left : InputLines) (tally : Tally) (device : Option ℕ) (done : List (List ℕ))
    (fault : ScanFault) → tally.device ≡ device → IsOf tally done → IsBehind all left done
    → read_lines left ≡ [] → end_fault (length done + 1) left ≡ Some fault → scanned_lines kind device all ≡ Err fault
ended kind all left tally device done fault same_device of behind no_more is =
    let lines : read_lines all ≡ done = behind.lines ∙ ap (λ rest. done ++ rest) no_more ∙ append-nil done in
    let end : end_fault 1 all ≡ Some fault = behind.end ∙ is in
    let clean : faults_of device (read_lines all) ≡ [] =
    ap (faults_of device) lines ∙ ap (λ d. faults_of d done) (sym same_device) ∙ of.clean in
    ap (λ o. unless o (usage_of kind (counted_lines device (read_lines all))))
    (ap (λ faults. slice_get (faults ++ option_to_list (end_fault 1 all)) 0) clean
    ∙ ap (λ o. slice_get (option_to_list o) 0) end)

-- something is wrong with the next line
pub wrong : (kind : Kind) (all left now : InputLines) (tally : Tally) (device : Option ℕ) (done : List (List ℕ))
    (line : List ℕ) (number : ℕ) (fault : ScanFault) → tally.device ≡ device → IsOf tally done
    → length done + 1 ≡ number → IsBehind all left done → left ≡ LineThen line now → IsWrongAs tally line number fault
    → scanned_lines kind device all ≡ Err fault
wrong kind all left now tally device done line number fault same_device of is behind next found =
    let lines : read_lines all ≡ done ++ line ∷ read_lines now =
    behind.lines ∙ ap (λ rest. done ++ read_lines rest) next in
    let clean : faults_of device done ≡ [] = ap (λ d. faults_of d done) (sym same_device) ∙ of.clean in
    let here : fault_of device (counted_lines device (done ++ line ∷ [])) (number, line) ≡ Some fault =
    ap (λ d. fault_of d (counted_lines d (done ++ line ∷ [])) (number, line)) (sym same_device) ∙ found done is of in
    ap (λ o. unless o (usage_of kind (counted_lines device (read_lines all))))
    (ap (λ ls. slice_get (faults_of device ls ++ option_to_list (end_fault 1 all)) 0) lines
    ∙ first_fault_is device done (read_lines now) line number fault (option_to_list (end_fault 1 all)) is clean here)

scanned_is : (kind : Kind) (device : Option ℕ) (bytes : List ℕ)
    → scanned kind device bytes ≡ scanned_lines kind device (input_lines 256 1099511627776 bytes)
unfolding scanned
scanned_is kind device bytes = refl

-- What a reader begins with.

pub start_behind : (reader : LinesSeen) (bytes : List ℕ) → reader ≡ record { held = []; number = 1; given = 0 }
    → IsBehind (input_lines 256 1099511627776 bytes) (listing_left reader bytes) []
start_behind reader bytes is =
    subst (λ (r : LinesSeen). IsBehind (input_lines 256 1099511627776 bytes) (listing_left r bytes) []) (sym is)
    (behind_none (input_lines 256 1099511627776 bytes))

pub start_last : (reader : LinesSeen) → reader ≡ record { held = []; number = 1; given = 0 } → 0 + 1 ≡ reader.number
start_last reader is = sym (ap (λ (r : LinesSeen). r.number) is)

pub start_few : (reader : LinesSeen) → reader ≡ record { held = []; number = 1; given = 0 }
    → reader.number + (1099511627776 - reader.given) ≤ 1099511627777
start_few reader is = omega (arith, ap (λ (r : LinesSeen). r.number) is)

pub start_bounded : (reader : LinesSeen) (usage : UsageMap) → reader ≡ record { held = []; number = 1; given = 0 }
    → IsBounded 0 usage → IsBounded (reader.number - 1) usage
start_bounded reader usage is bounded = subst (λ (r : LinesSeen). IsBounded (r.number - 1) usage) (sym is) bounded

-- The answers.

pub is_whole : (kind : Kind) (device : Option ℕ) (bytes : List ℕ) (left : InputLines) (tally : Tally) (number : ℕ)
    (done : List (List ℕ)) (tells : Bool) → tally.kind ≡ kind → tally.device ≡ device
    → IsReadTo tells (input_lines 256 1099511627776 bytes) left tally number done → IsTrue tells → left ≡ NoLine
    → scanned kind device bytes ≡ Ok tally.sums
is_whole kind device bytes left tally number done tells same_kind same_device read told none =
    scanned_is kind device bytes
    ∙ whole kind (input_lines 256 1099511627776 bytes) left tally device done same_kind same_device read.of
    (read.told told) none

is_ended : (kind : Kind) (device : Option ℕ) (bytes : List ℕ) (left : InputLines) (tally : Tally) (number : ℕ)
    (done : List (List ℕ)) (tells : Bool) (fault : ScanFault) → tally.device ≡ device
    → IsReadTo tells (input_lines 256 1099511627776 bytes) left tally number done → IsTrue tells → read_lines left ≡ []
    → end_fault number left ≡ Some fault → scanned kind device bytes ≡ Err fault
is_ended kind device bytes left tally number done tells fault same_device read told no_more end =
    scanned_is kind device bytes
    ∙ ended kind (input_lines 256 1099511627776 bytes) left tally device done fault same_device read.of (read.told told)
    no_more (ap (λ n. end_fault n left) read.last ∙ end)

pub end_refused : (before mid now : ℕ) (kind : Kind) (device : Option ℕ) (bytes : List ℕ) (left : InputLines)
    (tally : Tally) (number : ℕ) (done : List (List ℕ)) (tells : Bool) (fault : LineFault)
    → before ≤ mid → tally.device ≡ device → IsReadTo tells (input_lines 256 1099511627776 bytes) left tally number done
    → IsEndFault mid now tells number left fault
    → IsScanFault before now tells (scanned kind device bytes) (line_fault fault)
end_refused before mid now kind device bytes left tally number done tells Source later same_device read cause =
    omega arith
end_refused before mid now kind device bytes left tally number done tells (Long named) later same_device read cause =
    λ told.
    let is : left ≡ LongNext = cause.1 told in
    is_ended kind device bytes left tally number done tells (scan.LongLine named) same_device read told
    (ap read_lines is) (ap (end_fault number) is ∙ ap (λ n. Some (scan.LongLine n)) (sym cause.0))
end_refused before mid now kind device bytes left tally number done tells TooLarge later same_device read cause =
    λ told.
    let is : left ≡ PastNext = cause told in
    is_ended kind device bytes left tally number done tells scan.TooLarge same_device read told (ap read_lines is)
    (ap (end_fault number) is)

is_wrong : (kind : Kind) (device : Option ℕ) (bytes : List ℕ) (left now : InputLines) (tally : Tally) (number : ℕ)
    (done : List (List ℕ)) (tells : Bool) (line : List ℕ) (fault : ScanFault) → tally.device ≡ device
    → IsReadTo tells (input_lines 256 1099511627776 bytes) left tally number done → IsTrue tells
    → left ≡ LineThen line now → IsWrongAs tally line number fault → scanned kind device bytes ≡ Err fault
is_wrong kind device bytes left now tally number done tells line fault same_device read told next found =
    scanned_is kind device bytes
    ∙ wrong kind (input_lines 256 1099511627776 bytes) left now tally device done line number fault same_device read.of
    read.last (read.told told) next found

pub line_refused : (before after : ℕ) (kind : Kind) (device : Option ℕ) (bytes : List ℕ) (left now : InputLines)
    (tally : Tally) (number : ℕ) (done : List (List ℕ)) (tells : Bool) (line : List ℕ) (fault : ScanFault)
    → tally.device ≡ device
    → IsReadTo tells (input_lines 256 1099511627776 bytes) left tally number done
    → (IsTrue tells → left ≡ LineThen line now) → IsRefusedLine tally line number fault
    → IsScanFault before after tells (scanned kind device bytes) fault
line_refused before after kind device bytes left now tally number done tells line scan.Source same_device read next
    refused = absurd refused
line_refused before after kind device bytes left now tally number done tells line scan.TooLarge same_device read next
    refused = absurd refused
line_refused before after kind device bytes left now tally number done tells line (scan.BadLine named) same_device read
    next refused = λ told.
    is_wrong kind device bytes left now tally number done tells line (scan.BadLine named) same_device read told
    (next told) refused
line_refused before after kind device bytes left now tally number done tells line (scan.LongLine named) same_device read
    next refused = absurd refused
line_refused before after kind device bytes left now tally number done tells line (scan.Conflict named first)
    same_device read next refused = λ told.
    is_wrong kind device bytes left now tally number done tells line (scan.Conflict named first) same_device read told
    (next told) refused
line_refused before after kind device bytes left now tally number done tells line scan.Memory same_device read
    next refused = tt

-- the line that a reader gave
pub given_line : (tells more : Bool) (left now : InputLines) (line slice : List ℕ)
    → (IsTrue tells → left ≡ line_then more line now) → more ≡ true → slice ≡ line → IsTrue tells
    → left ≡ LineThen slice now
given_line tells more left now line slice next some same told =
    next told ∙ ap (λ (b : Bool). line_then b line now) some ∙ ap (λ (l : List ℕ). LineThen l now) (sym same)

-- or that it gave none
pub none_given : (tells more : Bool) (left now : InputLines) (line : List ℕ)
    → (IsTrue tells → left ≡ line_then more line now) → more ≡ false → IsTrue tells → left ≡ NoLine
none_given tells more left now line next none told = next told ∙ ap (λ (b : Bool). line_then b line now) none

-- and the number of a line
pub given_number : (old new answered : ℕ) (more : Bool) → new ≡ old + (if more then 1 else 0) → more ≡ true
    → new ≡ answered + 1 → (answered ≡ old) × (new ≡ old + 1)
given_number old new answered more counted some is =
    let number : new ≡ old + 1 = counted ∙ ap (λ (b : Bool). old + (if b then 1 else 0)) some in
    (omega arith, number)

-- one more line was read
pub read_more : (tells : Bool) (all left now : InputLines) (tally more : Tally) (number : ℕ) (done : List (List ℕ))
    (line : List ℕ) → IsReadTo tells all left tally number done → (IsTrue tells → left ≡ LineThen line now)
    → ((lines : List (List ℕ)) → length lines + 1 ≡ number → IsOf tally lines → IsOf more (lines ++ line ∷ []))
    → IsReadTo tells all now more (number + 1) (done ++ line ∷ [])
read_more tells all left now tally more number done line read next taken = record {
  of = taken done read.last read.of;
  last = omega (arith, length-append done (line ∷ []), read.last);
  told = λ told. behind_more all left now done line (read.told told) (next told);
}
