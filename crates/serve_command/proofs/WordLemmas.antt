-- What words give to `rquotad`: one call at least, and files that may be exported one after another.
use Rattle.std.proofs.Common.{◌≡◌, ℕ, ◌<◌, ◌≤◌, Bool, false, not, List, [], ◌∷◌, ◌++◌, length, Option, None, Some}
use Rattle.std.proofs.Common.{IfSome, Result, Ok, refl, subst, arith}
use Rattle.std.specs.Prelude.{nat_le}
use Rattle.std.specs.Option.{option_and_then}
use Rattle.std.proofs.lemmas.Bool.Decides.{nat_tests}
use Rattle.quota_types.specs.declared.file_kind.Kind.{Kind}
use Rattle.input_text.specs.Numeral.{number_of}
use Rattle.refusals.specs.declared.cause.UsageKind.TheVariants.{BadValue, BadFileName, Repeated}
use Rattle.option_words.specs.declared.word_fault.Fault.{Fault}
use Rattle.option_words.specs.declared.switch.Setting.{Setting}
use Rattle.option_words.specs.declared.switch.Setting.TheVariants.{QuotaFormat, Names, Proto, Input, Device, Formats}
use Rattle.option_words.specs.declared.switch.Setting.TheVariants.{Calls, Port}
use Rattle.option_words.specs.Fault.{fault, unless, with_value}
use Rattle.option_words.specs.FileName.{is_file_name}
use Rattle.option_words.specs.Given.{GivenOptions, has, is_exported, nothing_given, put, put_export, with_item}
use Rattle.option_words.specs.Given.{with_items}
use Rattle.option_words.specs.Items.{Item, Raised, Set, Exported, Unknown, Unfinished, Plain}
use Rattle.option_words.specs.Values.{conversion_of, format_of, is_export_path, kind_of, number_within, within}
use Rattle.command_words.specs.Asked.{command_of}
use Rattle.command_words.specs.Modes.{mode_of}
use Rattle.command_words.specs.declared.command.Command.{Command}
use Rattle.command_words.specs.declared.mode.Mode.{Mode}
use Rattle.command_words.specs.declared.mode.Mode.TheVariants.{Reporting, Limiting, Copying, Batching, SettingGrace}
use Rattle.command_words.specs.declared.mode.Mode.TheVariants.{SettingTimes, Printing, Applying, Checking, Converting}
use Rattle.command_words.specs.declared.mode.Mode.TheVariants.{Serving, Scripting, Generating}
use Rattle.command_words.proofs.FormedLemmas.{HoldsOfFormed, holds_of_asked, then_ok, unless_ok, with_value_ok}
use Rattle.serve_steps.specs.Exporting.{MayExport}
use Rattle.serve_steps.proofs.NamedLemmas.{kind_words, may_behind, unnamed}
use Rattle.serve_command.specs.Words.{CanServe}

-- What is given.

least : (low high number found : ℕ) → within low high number ≡ Some found → low ≤ found
least low high number found is = grind (arith, nat_tests)

least_of : (low high : ℕ) (number : Option ℕ) (found : ℕ)
    → option_and_then (within low high) number ≡ Some found → low ≤ found
least_of low high None found is = absurd (cc)
least_of low high (Some number) found is = least low high number found is

-- one call is asked for at least, where their number is given, and what is exported may be
record IsGiven (told : GivenOptions) : Type 0 where
  calls : IfSome told.calls (λ (n : ℕ). 0 < n)
  exports : MayExport [] told.exports

given_as : (this told : GivenOptions) → ◌≡◌ {A = Result GivenOptions Fault} (Ok this) (Ok told)
    → IsGiven this → IsGiven told
given_as this told is given = let same : this ≡ told = cc in subst IsGiven same given

given_put : (setting : Setting) (value : List ℕ) (word : ℕ) (told new : GivenOptions)
    → put setting value word told ≡ Ok new → IsGiven told → IsGiven new
given_put QuotaFormat value word told new is given =
    given_as _ new (with_value_ok (format_of value) (fault BadValue word) (λ f. Ok (record told { format = Some f }))
    new is).2 (record { calls = given.calls; exports = given.exports })
given_put Names value word told new is given =
    given_as _ new (unless_ok (not (is_file_name value)) (fault BadFileName word)
    (Ok (record told { names = Some value })) new is).1 (record { calls = given.calls; exports = given.exports })
given_put Proto value word told new is given =
    given_as _ new is (record { calls = given.calls; exports = given.exports })
given_put Input value word told new is given =
    given_as _ new (unless_ok (not (is_file_name value)) (fault BadFileName word)
    (Ok (record told { input = Some value })) new is).1 (record { calls = given.calls; exports = given.exports })
given_put Device value word told new is given =
    given_as _ new (with_value_ok (number_of value) (fault BadValue word) (λ n. Ok (record told { device = Some n }))
    new is).2 (record { calls = given.calls; exports = given.exports })
given_put Formats value word told new is given =
    given_as _ new (with_value_ok (conversion_of value) (fault BadValue word)
    (λ c. Ok (record told { conversion = Some c })) new is).2 (record { calls = given.calls; exports = given.exports })
given_put Calls value word told new is given =
    let found = with_value_ok (number_within 1 4294967295 value) (fault BadValue word)
    (λ n. Ok (record told { calls = Some n })) new is in
    given_as _ new found.2
    (record { calls = omega (arith, least_of 1 4294967295 (number_of value) found.0 found.1); exports = given.exports })
given_put Port value word told new is given =
    given_as _ new (with_value_ok (number_within 0 65535 value) (fault BadValue word)
    (λ n. Ok (record told { port = Some n })) new is).2 (record { calls = given.calls; exports = given.exports })

few-before : (count : ℕ) → nat_le 16 count ≡ false → count < 16
few-before count less = grind (arith, nat_tests)

given_export : (path kind file : List ℕ) (word : ℕ) (told new : GivenOptions)
    → is_exported path kind told.exports ≡ false → put_export path kind file word told ≡ Ok new
    → IsGiven told → IsGiven new
given_export path kind file word told new free is given =
    let last : Kind → Result GivenOptions Fault =
    λ k. Ok (record told { exports = told.exports ++ record { path = path; kind = k; file = file } ∷ [] }) in
    let named : Kind → Result GivenOptions Fault =
    λ k. unless (not (is_file_name file)) (fault BadFileName word) (last k) in
    let counted : Kind → Result GivenOptions Fault =
    λ k. unless (nat_le 16 (length told.exports)) (fault BadValue word) (named k) in
    let outer = unless_ok (not (is_export_path path)) (fault BadValue word)
    (with_value (kind_of kind) (fault BadValue word) counted) new is in
    let found = with_value_ok (kind_of kind) (fault BadValue word) counted new outer.1 in
    let few = unless_ok (nat_le 16 (length told.exports)) (fault BadValue word) (named found.0) new found.2 in
    let done = unless_ok (not (is_file_name file)) (fault BadFileName word) (last found.0) new few.1 in
    given_as _ new done.1 (record {
      calls = given.calls;
      exports =
          may_behind [] told.exports (record { path = path; kind = found.0; file = file }) given.exports
          (omega (arith, few-before (length told.exports) few.0)) refl
          (unnamed path kind found.0 told.exports (kind_words kind found.0 found.1) free);
    })

given_item : (item : Item) (told new : GivenOptions) → with_item item told ≡ Ok new → IsGiven told → IsGiven new
given_item (Raised flag) told new is given = given_as _ new is (record { calls = given.calls; exports = given.exports })
given_item (Set setting value word) told new is given =
    given_put setting value word told new
    (unless_ok (has setting told) (fault Repeated word) (put setting value word told) new is).1 given
given_item (Exported path kind file word) told new is given =
    let free =
    unless_ok (is_exported path kind told.exports) (fault Repeated word) (put_export path kind file word told) new is in
    given_export path kind file word told new free.0 free.1 given
given_item (Unknown word) told new is given = absurd (cc)
given_item (Unfinished word) told new is given = absurd (cc)
given_item (Plain text word) told new is given = given_as told new is given

given_items : (items : List Item) (told new : GivenOptions) → with_items items told ≡ Ok new
    → IsGiven told → IsGiven new
given_items [] told new is given = given_as told new is given
given_items (item ∷ items) told new is given =
    let one = then_ok (with_item item told) (λ (more : GivenOptions). with_items items more) new is in
    given_items items one.0 new one.2 (given_item item told one.0 one.1 given)

-- What is asked for.

-- what a mode forms may be served, where it answers calls
serves_by : (mode : Mode) (told : GivenOptions) → IsGiven told → HoldsOfFormed CanServe mode told
serves_by Reporting told given = λ file. tt
serves_by Limiting told given = λ name limits file. tt
serves_by Copying told given = λ proto name file. tt
serves_by Batching told given = λ file. tt
serves_by SettingGrace told given = λ block inode file. tt
serves_by SettingTimes told given = λ name block inode file. tt
serves_by Printing told given = λ name file. tt
serves_by Applying told given = λ name file. tt
serves_by Checking told given = λ file. tt
serves_by Converting told given = λ old new source target is. tt
serves_by Serving told given =
    λ calls port is. (subst (λ (n : Option ℕ). IfSome n (λ (m : ℕ). 0 < m)) is given.calls, given.exports)
serves_by Scripting told given = tt
serves_by Generating told given = λ seed count file few. tt

-- words that ask for calls to be answered ask for one at least, and for files that may be exported
pub asked_serves : (in_script : Bool) (words : List (List ℕ)) (command : Command)
    → command_of in_script words ≡ Ok command → CanServe command
asked_serves in_script words command = holds_of_asked in_script CanServe words command
    (λ tool items told given whole. serves_by (mode_of tool told) told
    (given_items items nothing_given told given (record { calls = tt; exports = tt })))
