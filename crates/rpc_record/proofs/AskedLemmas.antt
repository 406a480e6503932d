-- What is known of words that are in the grammar: the files that they name may be exported one after another.
use Rattle.std.proofs.Common.{◌≡◌, ℕ, ◌+◌, ◌*◌, ◌≤◌, Bool, true, false, not, ◌&&◌, List, [], ◌∷◌, ◌++◌, length, Option}
use Rattle.std.proofs.Common.{None, Some, Result, Ok, Err, refl, subst, arith, length-append}
use Rattle.std.specs.Prelude.{nat_le}
use Rattle.std.proofs.lemmas.Bool.{and_parts}
use Rattle.std.proofs.lemmas.Bool.Decides.{nat_tests}
use Rattle.refusals.specs.declared.cause.UsageKind.TheVariants.{BadFileName, BadValue, Excludes, Repeated}
use Rattle.refusals.specs.declared.cause.UsageKind.TheVariants.{WrongOperands}
use Rattle.option_words.specs.Fault.{fault, unless, with_value, ◌>>=◌}
use Rattle.option_words.specs.FileName.{is_file_name}
use Rattle.option_words.specs.Given.{is_exported}
use Rattle.option_words.specs.Values.{is_export_path, kind_of, number_within}
use Rattle.option_words.specs.declared.export_option.ExportOption.{ExportOption}
use Rattle.option_words.specs.declared.word_fault.Fault.{Fault}
use Rattle.serve_steps.specs.Exporting.{MayExport}
use Rattle.serve_steps.proofs.NamedLemmas.{kind_words, may_behind, named_so, unnamed}
use Rattle.stream_words.specs.Words.{StreamAsked, are_files, are_flat_projects, asked_format, asked_of, export_of}
use Rattle.stream_words.specs.Words.{exports_of}

-- Steps that met no fault.

-- a step that met no fault had none before it
unless_ok : {A : Type 0} (wrong : Bool) (met : Fault) (next : Result A Fault) (value : A)
    → unless wrong met next ≡ Ok value → (wrong ≡ false) × (next ≡ Ok value)
unless_ok true met next value is = absurd (cc)
unless_ok false met next value is = (refl, is)

-- a step over a value that met no fault had the value
with_value_ok : {A B : Type 0} (given : Option A) (met : Fault) (next : A → Result B Fault) (value : B)
    → with_value given met next ≡ Ok value
    → (x : A) × (given ≡ Some x) × (next x ≡ Ok value)
with_value_ok (Some x) met next value is = (x, refl, is)
with_value_ok None met next value is = absurd (cc)

-- a step after another one had what that one gave
then_ok : {A B : Type 0} (step : Result A Fault) (next : A → Result B Fault) (value : B) → step >>= next ≡ Ok value
    → (x : A) × (step ≡ Ok x) × (next x ≡ Ok value)
then_ok (Ok x) next value is = (x, refl, is)
then_ok (Err met) next value is = absurd (cc)

-- Files behind files.

-- a file whose words were read is none of those before it
export_apart : (word : ℕ) (before : List ExportOption) (path kind file : List ℕ) (export : ExportOption)
    → export_of word before path kind file ≡ Ok export → named_so export.path export.kind before ≡ false
export_apart word before path kind file export is =
    let one = unless_ok (not (is_export_path path)) (fault BadValue word) _ export is in
    let two = unless_ok (is_exported path kind before) (fault Repeated word) _ export one.1 in
    let three = with_value_ok (kind_of kind) (fault BadValue (word + 1)) _ export two.1 in
    let four = unless_ok (not (is_file_name file)) (fault BadFileName (word + 2)) _ export three.2 in
    let this : ExportOption = record { path = path; kind = three.0; file = file } in
    let own : ◌≡◌ {A = Result ExportOption Fault} (Ok this) (Ok export) = four.1 in
    let same : this ≡ export = cc in
    subst (λ (e : ExportOption). named_so e.path e.kind before ≡ false) same
    (unnamed path kind three.0 before (kind_words kind three.0 three.1) two.0)

as_read : (before all : List ExportOption) → ◌≡◌ {A = Result (List ExportOption) Fault} (Ok before) (Ok all)
    → MayExport [] before → MayExport [] all
as_read before all is may = let same : before ≡ all = cc in subst (MayExport []) same may

-- files whose words were read may be exported behind those before them
exports_may : (word : ℕ) (before : List ExportOption) (files : List (List ℕ)) (all : List ExportOption)
    → MayExport [] before → 3 * length before + length files ≤ 48 → exports_of word before files ≡ Ok all
    → MayExport [] all
exports_may word before [] all may few is = as_read before all is may
exports_may word before (path ∷ []) all may few is = as_read before all is may
exports_may word before (path ∷ kind ∷ []) all may few is = as_read before all is may
exports_may word before (path ∷ kind ∷ file ∷ files) all may few is =
    let one = then_ok (export_of word before path kind file)
    (λ (export : ExportOption). exports_of (word + 3) (before ++ export ∷ []) files) all is in
    exports_may (word + 3) (before ++ one.0 ∷ []) files all
    (may_behind [] before one.0 may (omega (arith, few)) refl (export_apart word before path kind file one.0 one.1))
    (omega (arith, few, length-append before (one.0 ∷ []))) one.2

-- The words.

was_right : (right : Bool) → not right ≡ false → right ≡ true
was_right true is = refl
was_right false is = absurd (cc)

few_files : (count : ℕ) → are_files count ≡ true → count ≤ 48
few_files count is =
    let both = and_parts (nat_le 3 count && nat_le count 48) _ is in
    let most : nat_le count 48 ≡ true = (and_parts (nat_le 3 count) (nat_le count 48) both.0).1 in
    grind (arith, nat_tests)

-- the files that words ask for may be exported one after another
pub asked_may : (words : List (List ℕ)) (asked : StreamAsked) → asked_of words ≡ Ok asked → MayExport [] asked.exports
asked_may [] asked is = absurd (cc)
asked_may (port ∷ []) asked is = absurd (cc)
asked_may (port ∷ connections ∷ []) asked is = absurd (cc)
asked_may (port ∷ connections ∷ format ∷ files) asked is =
    let one = unless_ok (not (are_files (length files))) (fault WrongOperands (3 + length files)) _ asked is in
    let two = with_value_ok (number_within 0 65535 port) (fault BadValue 0) _ asked one.1 in
    let three = with_value_ok (number_within 1 4294967295 connections) (fault BadValue 1) _ asked two.2 in
    let four = with_value_ok (asked_format format) (fault BadValue 2) _ asked three.2 in
    let five = then_ok (exports_of 3 [] files) _ asked four.2 in
    let six = unless_ok (are_flat_projects four.0 five.0) (fault Excludes (3 + length files)) _ asked five.2 in
    let this : StreamAsked = record { port = two.0; connections = three.0; format = four.0; exports = five.0 } in
    let own : ◌≡◌ {A = Result StreamAsked Fault} (Ok this) (Ok asked) = six.1 in
    let same : this ≡ asked = cc in
    let few : length files ≤ 48 = few_files (length files) (was_right (are_files (length files)) one.0) in
    subst (λ (a : StreamAsked). MayExport [] a.exports) same
    (exports_may 3 [] files five.0 tt (omega (arith, few)) five.1)
