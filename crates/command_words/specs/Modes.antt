-- The modes of the commands: which options go together, which operands they have, and what they ask for. Source: the
-- manual pages of the commands.
use Rattle.std.specs.Prelude.{ℕ, Bool, false, not, ◌&&◌, ◌||◌, nat_lt, if◌then◌else◌, List, [], ◌∷◌, length, Option}
use Rattle.std.specs.Prelude.{Some, None, is_some, is_none, Result, Ok, Err}
use Rattle.std.specs.List.{list_any}
use Rattle.std.specs.Str.{bytes_eq}
use Rattle.quota_types.specs.Format.{is_flat}
use Rattle.quota_types.specs.Kind.{kinds_eq}
use Rattle.quota_types.specs.declared.file_kind.Format.{Format}
use Rattle.quota_types.specs.declared.file_kind.Kind.{Kind}
use Rattle.quota_types.specs.declared.file_kind.Kind.TheVariants.{User, Group, Project}
use Rattle.report_options.specs.declared.options.Options.{Options}
use Rattle.input_text.specs.Numeral.{number_of}
use Rattle.refusals.specs.declared.cause.UsageKind.TheVariants.{MissingOption, WrongOperands, BadValue, BadFileName}
use Rattle.command_words.specs.declared.command.Command.{Command}
use Rattle.command_words.specs.declared.command.Command.TheVariants.{Report, SetLimits, CopyLimits, Batch, SetGrace}
use Rattle.command_words.specs.declared.command.Command.TheVariants.{SetTimes, PrintForm, ApplyForm, Check, Convert}
use Rattle.command_words.specs.declared.command.Command.TheVariants.{Serve, Script, Generate}
use Rattle.command_words.specs.declared.command.Common.{Common}
use Rattle.option_words.specs.declared.export_option.ExportOption.{ExportOption}
use Rattle.option_words.specs.declared.given.Conversion.{Conversion}
use Rattle.option_words.specs.declared.word_fault.Fault.{Fault}
use Rattle.command_words.specs.declared.mode.Mode.{Mode}
use Rattle.command_words.specs.declared.mode.Mode.TheVariants.{Reporting, Limiting, Copying, Batching, SettingGrace}
use Rattle.command_words.specs.declared.mode.Mode.TheVariants.{SettingTimes, Printing, Applying, Checking, Converting}
use Rattle.command_words.specs.declared.mode.Mode.TheVariants.{Serving, Scripting, Generating}
use Rattle.option_words.specs.declared.switch.Flags.{Flags}
use Rattle.option_words.specs.declared.tool.Tool.{Tool}
use Rattle.option_words.specs.declared.tool.Tool.TheVariants.{Repquota as RepquotaTool, Setquota as SetquotaTool}
use Rattle.option_words.specs.declared.tool.Tool.TheVariants.{Edquota as EdquotaTool, Quotacheck as QuotacheckTool}
use Rattle.option_words.specs.declared.tool.Tool.TheVariants.{Convertquota as ConvertquotaTool, Rquotad as RquotadTool}
use Rattle.option_words.specs.declared.tool.Tool.TheVariants.{Script as ScriptTool, Generate as GenerateTool}
use Rattle.option_words.specs.Fault.{fault, unless, with_value}
use Rattle.option_words.specs.FileName.{is_file_name}
use Rattle.option_words.specs.Given.{GivenOptions}
use Rattle.option_words.specs.Items.{Operand}
use Rattle.option_words.specs.Values.{number_within}

-- two of four hold
abbrev pub two_of : Bool → Bool → Bool → Bool → Bool
two_of a b c d = (a && (b || c || d)) || (b && (c || d)) || (c && d)

-- two kinds are asked for
abbrev pub are_two_kinds : Flags → Bool
are_two_kinds flags = (flags.users && (flags.groups || flags.projects)) || (flags.groups && flags.projects)

-- an export is one of projects
abbrev pub is_of_projects : ExportOption → Bool
is_of_projects export = kinds_eq export.kind Project

-- projects are asked for, by the option or by an export
abbrev pub are_projects : GivenOptions → Bool
are_projects told = told.flags.projects || list_any is_of_projects told.exports

-- a format is asked for, and it is that of a flat file
abbrev pub is_flat_format : Option Format → Bool
is_flat_format None = false
is_flat_format (Some format) = is_flat format

-- one of the formats of a conversion is that of a flat file
abbrev pub is_flat_conversion : Option Conversion → Bool
is_flat_conversion None = false
is_flat_conversion (Some formats) = is_flat formats.old || is_flat formats.new

-- Flat files of projects are asked for. Both flat formats, vfsold and vfsold32, are of quotas of users and groups
-- alone, and nothing in a file of either tells its kind.
abbrev pub are_flat_projects : GivenOptions → Bool
are_flat_projects told = are_projects told && (is_flat_format told.format || is_flat_conversion told.conversion)

-- two modes of one command are asked for, or an input where the mode reads none
abbrev pub are_two_modes : Tool → GivenOptions → Bool
are_two_modes SetquotaTool told =
    two_of (is_some told.proto) told.flags.batch told.flags.grace told.flags.times
    || (is_some told.input && not told.flags.batch)
are_two_modes EdquotaTool told =
    (told.flags.print && told.flags.apply)
    || (is_some told.input && told.flags.print)
are_two_modes _ told = false

-- Options that exclude each other: two kinds; projects and the format of a flat file; two modes of one command, and an
-- input where the mode reads none.
abbrev pub excludes : Tool → GivenOptions → Bool
excludes tool told = are_two_kinds told.flags || are_flat_projects told || are_two_modes tool told

-- A required option is not there. In a script the standard input is the script's, so what reads an input has to name
-- it.
abbrev pub lacks : (in_script : Bool) → Tool → GivenOptions → Bool
lacks in_script SetquotaTool told = in_script && told.flags.batch && is_none told.input
lacks in_script EdquotaTool told =
    not (told.flags.print || told.flags.apply) || (in_script && told.flags.apply && is_none told.input)
lacks in_script QuotacheckTool told = in_script && is_none told.input
lacks in_script ConvertquotaTool told = is_none told.conversion
lacks in_script RquotadTool told = is_none told.calls || is_none told.port || not (nat_lt 0 (length told.exports))
lacks in_script _ told = false

-- the mode of a command that its options choose
abbrev pub mode_of : Tool → GivenOptions → Mode
mode_of RepquotaTool told = Reporting
mode_of SetquotaTool told =
    if is_some told.proto then Copying
    else if told.flags.batch then Batching
    else if told.flags.grace then SettingGrace
    else if told.flags.times then SettingTimes
    else Limiting
mode_of EdquotaTool told = if told.flags.print then Printing else Applying
mode_of QuotacheckTool told = Checking
mode_of ConvertquotaTool told = Converting
mode_of RquotadTool told = Serving
mode_of ScriptTool told = Scripting
mode_of GenerateTool told = Generating

-- users, unless groups or projects are asked for
abbrev pub kind_asked : Flags → Kind
kind_asked flags = if flags.projects then Project else if flags.groups then Group else User

-- what the options say of the file
abbrev pub common_of : GivenOptions → Common
common_of told = record { kind = kind_asked told.flags; format = told.format; names = told.names }

-- what a report shows
abbrev pub options_of : Flags → Options
options_of flags = record { verbose = flags.verbose; numeric = flags.numeric; raw = flags.raw }

-- an operand that is the name of a file, and the next step
abbrev pub named : {A : Type 0} → Operand → Result A Fault → Result A Fault
named operand next = unless (not (is_file_name operand.text)) (fault BadFileName operand.word) next

-- an operand is the value of an option
abbrev pub is_value : Operand → Option (List ℕ) → Bool
is_value operand (Some value) = bytes_eq operand.text value
is_value operand None = false

-- The command that a mode asks for by its operands, which are as many as stand here. A file is the name of one; the
-- seed of a listing is below 2^64, and it has 1 to 1,000,000 lines. What is wrong with their number is said at the
-- number of all words.
abbrev pub formed : Mode → GivenOptions → (words : ℕ) → List Operand → Result Command Fault
formed Reporting told words (file ∷ []) =
    named file (Ok (Report (common_of told) (options_of told.flags) file.text))
formed Limiting told words (name ∷ bsoft ∷ bhard ∷ isoft ∷ ihard ∷ file ∷ []) =
    named file
    (Ok (SetLimits (common_of told) name.text (bsoft.text ∷ bhard.text ∷ isoft.text ∷ ihard.text ∷ []) file.text))
formed Copying told words (name ∷ file ∷ []) =
    named file (with_value told.proto (fault MissingOption words) (λ proto.
    Ok (CopyLimits (common_of told) proto name.text file.text)))
formed Batching told words (file ∷ []) =
    named file (unless (is_value file told.input) (fault BadFileName file.word)
    (Ok (Batch (common_of told) told.input file.text)))
formed SettingGrace told words (block ∷ inode ∷ file ∷ []) =
    named file (Ok (SetGrace (common_of told) block.text inode.text file.text))
formed SettingTimes told words (name ∷ block ∷ inode ∷ file ∷ []) =
    named file (Ok (SetTimes (common_of told) name.text block.text inode.text file.text))
formed Printing told words (name ∷ file ∷ []) =
    named file (Ok (PrintForm (common_of told) name.text file.text))
formed Applying told words (name ∷ file ∷ []) =
    named file (Ok (ApplyForm (common_of told) told.input name.text file.text))
formed Checking told words (file ∷ []) =
    named file (Ok (Check (common_of told) told.flags.fresh told.device told.input file.text))
formed Converting told words (source ∷ target ∷ []) =
    named source (named target (with_value told.conversion (fault MissingOption words) (λ formats.
    Ok (Convert (kind_asked told.flags) formats.old formats.new source.text target.text))))
formed Serving told words [] =
    with_value told.calls (fault MissingOption words) (λ calls.
    with_value told.port (fault MissingOption words) (λ port.
    Ok (Serve told.format calls port told.exports)))
formed Scripting told words [] = Ok Script
formed Generating told words (seed ∷ count ∷ file ∷ []) =
    with_value (number_of seed.text) (fault BadValue seed.word) (λ s.
    with_value (number_within 1 1000000 count.text) (fault BadValue count.word) (λ c.
    named file (Ok (Generate s c file.text))))
formed _ told words operands = Err (fault WrongOperands words)
