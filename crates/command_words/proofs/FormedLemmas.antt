-- Commands that words ask for: what each mode forms of what was given, and what therefore holds of every command that
-- words ask for.
use Rattle.std.proofs.Common.{◌≡◌, ℕ, ◌+◌, ◌≤◌, Bool, true, false, not, List, [], ◌∷◌, length, Option, None, Some}
use Rattle.std.proofs.Common.{Result, Ok, Err, refl, ap, subst, arith}
use Rattle.std.specs.Option.{option_and_then}
use Rattle.std.proofs.lemmas.Bool.Decides.{nat_tests}
use Rattle.quota_types.specs.declared.file_kind.Format.{Format}
use Rattle.input_text.specs.Numeral.{number_of}
use Rattle.refusals.specs.declared.cause.UsageKind.TheVariants.{UnknownCommand, Excludes, MissingOption, BadValue}
use Rattle.refusals.specs.declared.cause.UsageKind.TheVariants.{BadFileName}
use Rattle.option_words.specs.declared.word_fault.Fault.{Fault}
use Rattle.option_words.specs.declared.given.Conversion.{Conversion}
use Rattle.option_words.specs.declared.tool.Tool.{Tool}
use Rattle.option_words.specs.Fault.{fault, unless, with_value, ◌>>=◌}
use Rattle.option_words.specs.FileName.{is_file_name}
use Rattle.option_words.specs.Given.{GivenOptions, nothing_given, with_items}
use Rattle.option_words.specs.Items.{AnyWord, Item, Operand, items_of, operands_in}
use Rattle.option_words.specs.Tools.{tool_of}
use Rattle.option_words.specs.Values.{number_within, within}
use Rattle.command_words.specs.Asked.{asked, asked_of, command_of, may_stand, refused, settled}
use Rattle.command_words.specs.Modes.{common_of, excludes, formed, is_value, kind_asked, lacks, mode_of, named}
use Rattle.command_words.specs.Modes.{options_of}
use Rattle.command_words.specs.declared.command.Command.{Command}
use Rattle.command_words.specs.declared.command.Command.TheVariants.{Report, SetLimits, CopyLimits, Batch, SetGrace}
use Rattle.command_words.specs.declared.command.Command.TheVariants.{SetTimes, PrintForm, ApplyForm, Check, Convert}
use Rattle.command_words.specs.declared.command.Command.TheVariants.{Serve, Script, Generate}
use Rattle.command_words.specs.declared.mode.Mode.{Mode}
use Rattle.command_words.specs.declared.mode.Mode.TheVariants.{Reporting, Limiting, Copying, Batching, SettingGrace}
use Rattle.command_words.specs.declared.mode.Mode.TheVariants.{SettingTimes, Printing, Applying, Checking, Converting}
use Rattle.command_words.specs.declared.mode.Mode.TheVariants.{Serving, Scripting, Generating}

-- Steps that met no fault.

-- a step that met no fault had none before it
pub unless_ok : {A : Type 0} (wrong : Bool) (met : Fault) (next : Result A Fault) (value : A)
    → unless wrong met next ≡ Ok value → (wrong ≡ false) × (next ≡ Ok value)
unless_ok true met next value is = absurd (cc)
unless_ok false met next value is = (refl, is)

-- a step over a value that met no fault had the value
pub with_value_ok : {A B : Type 0} (given : Option A) (met : Fault) (next : A → Result B Fault) (value : B)
    → with_value given met next ≡ Ok value
    → (x : A) × (given ≡ Some x) × (next x ≡ Ok value)
with_value_ok (Some x) met next value is = (x, refl, is)
with_value_ok None met next value is = absurd (cc)

-- a step after another one had what that one gave
pub then_ok : {A B : Type 0} (step : Result A Fault) (next : A → Result B Fault) (value : B) → step >>= next ≡ Ok value
    → (x : A) × (step ≡ Ok x) × (next x ≡ Ok value)
then_ok (Ok x) next value is = (x, refl, is)
then_ok (Err met) next value is = absurd (cc)

-- a test is met whose opposite is not
was_right : (right : Bool) → not right ≡ false → right ≡ true
was_right true is = refl
was_right false is = absurd (cc)

most : (low high number found : ℕ) → within low high number ≡ Some found → found ≤ high
most low high number found is = grind (arith, nat_tests)

most_of : (low high : ℕ) (number : Option ℕ) (found : ℕ)
    → option_and_then (within low high) number ≡ Some found → found ≤ high
most_of low high None found is = absurd (cc)
most_of low high (Some number) found is = most low high number found is

-- What a mode forms.

-- it holds of each command that a mode forms of what was given, whatever its operands
abbrev pub HoldsOfFormed : (holds : Command → Type 0) → Mode → GivenOptions → Type 0
HoldsOfFormed holds Reporting told = (file : List ℕ) → holds (Report (common_of told) (options_of told.flags) file)
HoldsOfFormed holds Limiting told =
    (name : List ℕ) (limits : List (List ℕ)) (file : List ℕ) → holds (SetLimits (common_of told) name limits file)
HoldsOfFormed holds Copying told = (proto name file : List ℕ) → holds (CopyLimits (common_of told) proto name file)
HoldsOfFormed holds Batching told = (file : List ℕ) → holds (Batch (common_of told) told.input file)
HoldsOfFormed holds SettingGrace told = (block inode file : List ℕ) → holds (SetGrace (common_of told) block inode file)
HoldsOfFormed holds SettingTimes told =
    (name block inode file : List ℕ) → holds (SetTimes (common_of told) name block inode file)
HoldsOfFormed holds Printing told = (name file : List ℕ) → holds (PrintForm (common_of told) name file)
HoldsOfFormed holds Applying told = (name file : List ℕ) → holds (ApplyForm (common_of told) told.input name file)
HoldsOfFormed holds Checking told =
    (file : List ℕ) → holds (Check (common_of told) told.flags.fresh told.device told.input file)
HoldsOfFormed holds Converting told =
    (old new : Format) (source target : List ℕ) → is_file_name source ≡ true
    → holds (Convert (kind_asked told.flags) old new source target)
HoldsOfFormed holds Serving told =
    (calls port : ℕ) → told.calls ≡ Some calls → holds (Serve told.format calls port told.exports)
HoldsOfFormed holds Scripting told = holds Script
HoldsOfFormed holds Generating told =
    (seed count : ℕ) (file : List ℕ) → count ≤ 1000000 → holds (Generate seed count file)

-- a command that was asked for is this one
held_by : (holds : Command → Type 0) (this command : Command) → ◌≡◌ {A = Result Command Fault} (Ok this) (Ok command)
    → holds this → holds command
held_by holds this command is held = let same : this ≡ command = cc in subst holds same held

holds_formed : (holds : Command → Type 0) (mode : Mode) (told : GivenOptions) (words : ℕ) (operands : List Operand)
    (command : Command)
    → HoldsOfFormed holds mode told → formed mode told words operands ≡ Ok command → holds command
holds_formed holds Reporting told words (file ∷ []) command each is =
    held_by holds _ command (unless_ok _ _ _ command is).1 (each file.text)
holds_formed holds Limiting told words (name ∷ bsoft ∷ bhard ∷ isoft ∷ ihard ∷ file ∷ []) command each is =
    held_by holds _ command (unless_ok _ _ _ command is).1
    (each name.text (bsoft.text ∷ bhard.text ∷ isoft.text ∷ ihard.text ∷ []) file.text)
holds_formed holds Copying told words (name ∷ file ∷ []) command each is =
    let next : List ℕ → Result Command Fault = λ proto. Ok (CopyLimits (common_of told) proto name.text file.text) in
    let inner : with_value told.proto (fault MissingOption words) next ≡ Ok command = (unless_ok _ _ _ command is).1 in
    let found = with_value_ok told.proto (fault MissingOption words) next command inner in
    held_by holds _ command found.2 (each found.0 name.text file.text)
holds_formed holds Batching told words (file ∷ []) command each is =
    let inner : unless (is_value file told.input) (fault BadFileName file.word)
    (Ok (Batch (common_of told) told.input file.text)) ≡ Ok command =
    (unless_ok _ _ _ command is).1 in
    held_by holds _ command (unless_ok _ _ _ command inner).1 (each file.text)
holds_formed holds SettingGrace told words (block ∷ inode ∷ file ∷ []) command each is =
    held_by holds _ command (unless_ok _ _ _ command is).1 (each block.text inode.text file.text)
holds_formed holds SettingTimes told words (name ∷ block ∷ inode ∷ file ∷ []) command each is =
    held_by holds _ command (unless_ok _ _ _ command is).1 (each name.text block.text inode.text file.text)
holds_formed holds Printing told words (name ∷ file ∷ []) command each is =
    held_by holds _ command (unless_ok _ _ _ command is).1 (each name.text file.text)
holds_formed holds Applying told words (name ∷ file ∷ []) command each is =
    held_by holds _ command (unless_ok _ _ _ command is).1 (each name.text file.text)
holds_formed holds Checking told words (file ∷ []) command each is =
    held_by holds _ command (unless_ok _ _ _ command is).1 (each file.text)
holds_formed holds Converting told words (source ∷ target ∷ []) command each is =
    let next : Conversion → Result Command Fault =
    λ formats. Ok (Convert (kind_asked told.flags) formats.old formats.new source.text target.text) in
    let last : Result Command Fault = with_value told.conversion (fault MissingOption words) next in
    let outer =
    unless_ok (not (is_file_name source.text)) (fault BadFileName source.word) (named target last) command is in
    let inner = unless_ok (not (is_file_name target.text)) (fault BadFileName target.word) last command outer.1 in
    let found = with_value_ok told.conversion (fault MissingOption words) next command inner.1 in
    held_by holds _ command found.2
    (each found.0.old found.0.new source.text target.text (was_right (is_file_name source.text) outer.0))
holds_formed holds Serving told words [] command each is =
    let next : ℕ → ℕ → Result Command Fault = λ calls port. Ok (Serve told.format calls port told.exports) in
    let outer = with_value_ok told.calls (fault MissingOption words)
    (λ calls. with_value told.port (fault MissingOption words) (next calls)) command is in
    let inner = with_value_ok told.port (fault MissingOption words) (next outer.0) command outer.2 in
    held_by holds _ command inner.2 (each outer.0 inner.0 outer.1)
holds_formed holds Scripting told words [] command each is = held_by holds _ command is each
holds_formed holds Generating told words (seed ∷ count ∷ file ∷ []) command each is =
    let last : ℕ → ℕ → Result Command Fault = λ s c. named file (Ok (Generate s c file.text)) in
    let lines : ℕ → Result Command Fault =
    λ s. with_value (number_within 1 1000000 count.text) (fault BadValue count.word) (last s) in
    let outer = with_value_ok (number_of seed.text) (fault BadValue seed.word) lines command is in
    let inner =
    with_value_ok (number_within 1 1000000 count.text) (fault BadValue count.word) (last outer.0) command outer.2 in
    held_by holds _ command (unless_ok _ _ _ command inner.2).1
    (each outer.0 inner.0 file.text (most_of 1 1000000 (number_of count.text) inner.0 inner.1))
holds_formed holds _ told words operands command _ is = absurd (cc)

-- What words ask for.

-- words with a refusal that is made ask for what they asked for before
refused_ok : (asks : Result Command Fault) (command : Command) → refused asks ≡ Ok command → asks ≡ Ok command
refused_ok (Ok this) command is = let same : this ≡ command = cc in ap (λ (c : Command). Ok c) same
refused_ok (Err met) command is = absurd (cc)

-- what holds of each command that a tool's options may choose, where they lack nothing, holds of every command that
-- words ask for
pub holds_of_asked : (in_script : Bool) (holds : Command → Type 0) (words : List (List ℕ)) (command : Command)
    → ((tool : Tool) (items : List Item) (told : GivenOptions) → with_items items nothing_given ≡ Ok told
    → lacks in_script tool told ≡ false → HoldsOfFormed holds (mode_of tool told) told)
    → command_of in_script words ≡ Ok command → holds command
holds_of_asked in_script holds [] command each is = absurd (cc)
holds_of_asked in_script holds (name ∷ texts) command each is =
    let next : Tool → Result Command Fault =
    λ t. unless (not (may_stand in_script t)) (fault UnknownCommand 0) (asked_of in_script t texts) in
    let found = with_value_ok (tool_of name) (fault UnknownCommand 0) next command
    (refused_ok (asked in_script (name ∷ texts)) command is) in
    let tool = found.0 in
    let items = items_of tool AnyWord 1 texts in
    let words = length texts + 1 in
    let asks = (unless_ok (not (may_stand in_script tool)) (fault UnknownCommand 0) (asked_of in_script tool texts)
    command found.2).1 in
    let given = then_ok (with_items items nothing_given)
    (λ (told : GivenOptions). settled in_script tool told words items) command asks in
    let told = given.0 in
    let outer : unless (lacks in_script tool told) (fault MissingOption words)
    (formed (mode_of tool told) told words (operands_in items)) ≡ Ok command =
    (unless_ok (excludes tool told) (fault Excludes words) _ command given.2).1 in
    let whole = unless_ok (lacks in_script tool told) (fault MissingOption words) _ command outer in
    holds_formed holds (mode_of tool told) told words (operands_in items) command
    (each tool items told given.1 whole.0) whole.1
