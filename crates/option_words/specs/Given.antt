-- What the options of a command line give, and the first fault among them.
use Rattle.std.specs.Prelude.{ℕ, Bool, true, false, not, ◌&&◌, nat_le, List, [], ◌∷◌, ◌++◌, length, map, Option, Some}
use Rattle.std.specs.Prelude.{None, is_some, Result, Ok, Err, codes}
use Rattle.std.specs.List.{list_any}
use Rattle.std.specs.Option.{option_copied}
use Rattle.std.specs.Str.{bytes_eq}
use Rattle.quota_types.specs.declared.file_kind.Format.{Format}
use Rattle.quota_types.specs.declared.file_kind.Kind.{Kind}
use Rattle.quota_types.specs.declared.file_kind.Kind.TheVariants.{User, Group, Project}
use Rattle.input_text.specs.Numeral.{number_of}
use Rattle.refusals.specs.declared.cause.UsageKind.TheVariants.{UnknownOption, MissingValue, Repeated, BadValue}
use Rattle.refusals.specs.declared.cause.UsageKind.TheVariants.{BadFileName}
use Rattle.option_words.specs.declared.export_option.ExportOption.{ExportOption}
use Rattle.option_words.specs.declared.word_fault.Fault.{Fault}
use Rattle.option_words.specs.declared.given.Conversion.{Conversion}
use Rattle.option_words.specs.declared.given.ExportWords.{ExportWords}
use Rattle.option_words.specs.declared.given.Given.{Given}
use Rattle.option_words.specs.declared.switch.Flag.{Flag}
use Rattle.option_words.specs.declared.switch.Flag.TheVariants.{Users, Groups, Projects, Verbose, Numeric, Raw, Batch}
use Rattle.option_words.specs.declared.switch.Flag.TheVariants.{Grace, Times, Print, Apply, Fresh}
use Rattle.option_words.specs.declared.switch.Flags.{Flags}
use Rattle.option_words.specs.declared.switch.Setting.{Setting}
use Rattle.option_words.specs.declared.switch.Setting.TheVariants.{QuotaFormat, Names, Proto, Input, Device, Formats}
use Rattle.option_words.specs.declared.switch.Setting.TheVariants.{Calls, Port}
use Rattle.option_words.specs.Fault.{fault, unless, with_value, ◌>>=◌}
use Rattle.option_words.specs.FileName.{is_file_name}
use Rattle.option_words.specs.Items.{Item, Raised, Set, Exported, Unknown, Unfinished, Plain}
use Rattle.option_words.specs.Values.{conversion_of, format_of, is_export_path, kind_of, number_within}

-- what was given by options
pub record GivenOptions : Type 0 where
  pub flags : Flags
  pub format : Option Format
  pub names : Option (List ℕ)
  pub proto : Option (List ℕ)
  pub input : Option (List ℕ)
  pub device : Option ℕ
  pub conversion : Option Conversion
  pub calls : Option ℕ
  pub port : Option ℕ
  pub exports : List ExportOption

-- an export, without where its texts stand
abbrev pub export_given : ExportWords → ExportOption
export_given export = record { path = export.path.now; kind = export.kind; file = export.file.now }

-- exports, without where their texts stand
abbrev pub exports_given : List ExportWords → List ExportOption
exports_given exports = map export_given exports

-- what was given, without where its texts stand
abbrev pub given_options : Given → GivenOptions
given_options given = record {
  flags = given.flags;
  format = given.format;
  names = option_copied given.names;
  proto = option_copied given.proto;
  input = option_copied given.input;
  device = given.device;
  conversion = given.conversion;
  calls = given.calls;
  port = given.port;
  exports = exports_given given.exports.items;
}

-- no flag is given
abbrev pub no_flags : Flags
no_flags = record {
  users = false;
  groups = false;
  projects = false;
  verbose = false;
  numeric = false;
  raw = false;
  batch = false;
  grace = false;
  times = false;
  print = false;
  apply = false;
  fresh = false;
}

-- nothing is given
abbrev pub nothing_given : GivenOptions
nothing_given = record {
  flags = no_flags;
  format = None;
  names = None;
  proto = None;
  input = None;
  device = None;
  conversion = None;
  calls = None;
  port = None;
  exports = [];
}

-- the flags with one more, which may be among them already
abbrev pub raised : Flag → Flags → Flags
raised Users flags = record flags { users = true }
raised Groups flags = record flags { groups = true }
raised Projects flags = record flags { projects = true }
raised Verbose flags = record flags { verbose = true }
raised Numeric flags = record flags { numeric = true }
raised Raw flags = record flags { raw = true }
raised Batch flags = record flags { batch = true }
raised Grace flags = record flags { grace = true }
raised Times flags = record flags { times = true }
raised Print flags = record flags { print = true }
raised Apply flags = record flags { apply = true }
raised Fresh flags = record flags { fresh = true }

-- whether a setting was given
abbrev pub has : Setting → GivenOptions → Bool
has QuotaFormat told = is_some told.format
has Names told = is_some told.names
has Proto told = is_some told.proto
has Input told = is_some told.input
has Device told = is_some told.device
has Formats told = is_some told.conversion
has Calls told = is_some told.calls
has Port told = is_some told.port

-- What is given with the value of a setting, which must be of its form: the name of a file for the names and the input,
-- any word for another identifier, and a number of its range for a device, for how many calls are answered and for a
-- port.
abbrev pub put : Setting → List ℕ → (word : ℕ) → GivenOptions → Result GivenOptions Fault
put QuotaFormat value word told =
    with_value (format_of value) (fault BadValue word) (λ f. Ok (record told { format = Some f }))
put Names value word told =
    unless (not (is_file_name value)) (fault BadFileName word) (Ok (record told { names = Some value }))
put Proto value word told = Ok (record told { proto = Some value })
put Input value word told =
    unless (not (is_file_name value)) (fault BadFileName word) (Ok (record told { input = Some value }))
put Device value word told =
    with_value (number_of value) (fault BadValue word) (λ n. Ok (record told { device = Some n }))
put Formats value word told =
    with_value (conversion_of value) (fault BadValue word) (λ c. Ok (record told { conversion = Some c }))
put Calls value word told =
    with_value (number_within 1 4294967295 value) (fault BadValue word) (λ n. Ok (record told { calls = Some n }))
put Port value word told =
    with_value (number_within 0 65535 value) (fault BadValue word) (λ n. Ok (record told { port = Some n }))

-- the word under which files of a kind are exported
abbrev pub kind_word : Kind → List ℕ
kind_word User = codes "user"
kind_word Group = codes "group"
kind_word Project = codes "project"

-- a pair of a path and a kind was exported
abbrev pub is_exported : (path kind : List ℕ) → List ExportOption → Bool
is_exported path kind exports =
    list_any (λ (e : ExportOption). bytes_eq e.path path && bytes_eq (kind_word e.kind) kind) exports

-- What is given with one more export, of which there may be 16: its path has 1 to 1,024 bytes, its kind is `user`,
-- `group` or `project`, and its file is the name of a file.
abbrev pub put_export : (path kind file : List ℕ) (word : ℕ) → GivenOptions → Result GivenOptions Fault
put_export path kind file word told =
    unless (not (is_export_path path)) (fault BadValue word)
    (with_value (kind_of kind) (fault BadValue word) (λ k.
    unless (nat_le 16 (length told.exports)) (fault BadValue word)
    (unless (not (is_file_name file)) (fault BadFileName word)
    (Ok (record told { exports = told.exports ++ record { path = path; kind = k; file = file } ∷ [] })))))

-- What is given with one more item, or its fault. A flag may be repeated, and operands are looked at later.
abbrev pub with_item : Item → GivenOptions → Result GivenOptions Fault
with_item (Raised flag) told = Ok (record told { flags = raised flag told.flags })
with_item (Set setting value word) told = unless (has setting told) (fault Repeated word) (put setting value word told)
with_item (Exported path kind file word) told =
    unless (is_exported path kind told.exports) (fault Repeated word) (put_export path kind file word told)
with_item (Unknown word) told = Err (fault UnknownOption word)
with_item (Unfinished word) told = Err (fault MissingValue word)
with_item (Plain text word) told = Ok told

-- what items give from left to right, or the first fault
abbrev pub with_items : List Item → GivenOptions → Result GivenOptions Fault
with_items [] told = Ok told
with_items (item ∷ items) told = with_item item told >>= λ more. with_items items more
