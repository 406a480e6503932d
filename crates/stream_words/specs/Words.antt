-- The words of a run: PORT CONNECTIONS FORMAT, and 1 to 16 times PATH KIND FILE. Source: this project's own; each word
-- has the form and the range of the value of an option of rquotad.
use Rattle.std.specs.Prelude.{ℕ, ◌+◌, ◌%◌, ◌==◌, Bool, false, not, ◌&&◌, nat_le, if◌then◌else◌, List, [], ◌∷◌, ◌++◌}
use Rattle.std.specs.Prelude.{length, Option, Some, None, Result, Ok, Err, codes}
use Rattle.std.specs.List.{list_any}
use Rattle.std.specs.Option.{option_map}
use Rattle.std.specs.Str.{bytes_eq}
use Rattle.quota_types.specs.Format.{is_flat}
use Rattle.quota_types.specs.Kind.{kinds_eq}
use Rattle.quota_types.specs.declared.file_kind.Format.{Format}
use Rattle.quota_types.specs.declared.file_kind.Kind.TheVariants.{Project}
use Rattle.refusals.specs.declared.cause.UsageKind.TheVariants.{BadFileName, BadValue, Excludes, Repeated}
use Rattle.refusals.specs.declared.cause.UsageKind.TheVariants.{WrongOperands}
use Rattle.option_words.specs.Fault.{fault, unless, with_value, ◌>>=◌}
use Rattle.option_words.specs.FileName.{is_file_name}
use Rattle.option_words.specs.Given.{exports_given, is_exported}
use Rattle.option_words.specs.Values.{format_of, is_export_path, kind_of, number_within}
use Rattle.option_words.specs.declared.export_option.ExportOption.{ExportOption}
use Rattle.option_words.specs.declared.word_fault.Fault.{Fault}
use Rattle.stream_words.specs.declared.words.StreamWords.{StreamWords}

-- what is asked for: connections at a port, answered out of files that are opened in a format, where one is asked for
pub record StreamAsked : Type 0 where
  pub port : ℕ
  pub connections : ℕ
  pub format : Option Format
  pub exports : List ExportOption

-- so many words behind the first three are the words of 1 to 16 files
abbrev pub are_files : ℕ → Bool
are_files count = nat_le 3 count && nat_le count 48 && count % 3 == 0

-- the format that a word asks for; `any` asks for none
abbrev pub asked_format : List ℕ → Option (Option Format)
asked_format word =
    if bytes_eq word (codes "any") then Some None else option_map (λ format. Some format) (format_of word)

-- A file behind those before it, whose words begin at this one, or the first fault in them: the path has 1 to 1,024
-- bytes, and no file before has this path and this kind; the kind is a kind, and the file is the name of one.
abbrev pub export_of : (word : ℕ) → (before : List ExportOption) → (path kind file : List ℕ) → Result ExportOption Fault
export_of word before path kind file =
    unless (not (is_export_path path)) (fault BadValue word)
    (unless (is_exported path kind before) (fault Repeated word)
    (with_value (kind_of kind) (fault BadValue (word + 1)) (λ kind.
    unless (not (is_file_name file)) (fault BadFileName (word + 2))
    (Ok (record { path = path; kind = kind; file = file })))))

-- all files behind those before them, from this word on, or the first fault in their words
abbrev pub exports_of : (word : ℕ) → (before : List ExportOption) → List (List ℕ) → Result (List ExportOption) Fault
exports_of word before (path ∷ kind ∷ file ∷ files) =
    export_of word before path kind file >>= λ export. exports_of (word + 3) (before ++ export ∷ []) files
exports_of word before _ = Ok before

-- a file is that of projects
abbrev pub is_of_projects : ExportOption → Bool
is_of_projects export = kinds_eq export.kind Project

-- flat files of projects are asked for, which the kernel does not have
abbrev pub are_flat_projects : Option Format → List ExportOption → Bool
are_flat_projects None exports = false
are_flat_projects (Some format) exports = is_flat format && list_any is_of_projects exports

-- What words of the right number, `count`, ask for, or the first fault in them: each from left to right, and then flat
-- files of projects.
abbrev pub run_of : (count : ℕ) → (port connections format : List ℕ) → (files : List (List ℕ))
    → Result StreamAsked Fault
run_of count port connections format files =
    with_value (number_within 0 65535 port) (fault BadValue 0) (λ port.
    with_value (number_within 1 4294967295 connections) (fault BadValue 1) (λ connections.
    with_value (asked_format format) (fault BadValue 2) (λ format.
    exports_of 3 [] files >>= λ exports.
    unless (are_flat_projects format exports) (fault Excludes count)
    (Ok (record { port = port; connections = connections; format = format; exports = exports })))))

-- What words ask for, or the first fault in them: their number, and then what they say.
abbrev pub asked_of : List (List ℕ) → Result StreamAsked Fault
asked_of (port ∷ connections ∷ format ∷ files) =
    unless (not (are_files (length files))) (fault WrongOperands (3 + length files))
    (run_of (3 + length files) port connections format files)
asked_of words = Err (fault WrongOperands (length words))

-- what was read of words, without where their texts stand
abbrev pub stream_asked : StreamWords → StreamAsked
stream_asked words = record {
  port = words.port;
  connections = words.connections;
  format = words.format;
  exports = exports_given words.exports.items;
}
