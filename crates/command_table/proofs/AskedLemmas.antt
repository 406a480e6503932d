-- What is shown of what words ask for, by what is shown of each command that they may ask for.
use Rattle.std.proofs.Common.{◌≡◌, ℕ, Bool, true, false, List, Ok, Err, Result, inl, inr, refl, ap, arith}
use Rattle.refusals.specs.declared.cause.Cause.TheVariants.{SourceFault, Usage}
use Rattle.refusals.specs.declared.reason.Refusal.{Refusal}
use Rattle.command_words.specs.Asked.{asked, command_of, refused}
use Rattle.command_words.specs.declared.command.Command.{Command}
use Rattle.command_words.specs.declared.command.Command.TheVariants.{Batch, ApplyForm, Check, Convert, Serve, Generate}
use Rattle.command_words.proofs.InScriptLemmas.{NamesInput, names_input}
use Rattle.command_words.proofs.KnownLemmas.{IsKnown, is_known}
use Rattle.command_words.proofs.NameLemmas.{never_new}
use Rattle.option_words.specs.declared.word_fault.Fault.{Fault}
use Rattle.run_steps.specs.Done.{Outside}
use Rattle.run_steps.specs.Meaning.{IsSure}
use Rattle.run_steps.specs.declared.invocation.Invocation.{Invocation}
use Rattle.descriptions.specs.Description.{Description}
use Rattle.descriptions.specs.Sound.{IsFullSo}
use Rattle.serve_command.specs.Words.{CanServe}
use Rattle.serve_command.proofs.WordLemmas.{asked_serves}
use Rattle.command_table.specs.Table.{asked_by, described}
use Rattle.command_table.proofs.SoundLemmas.{sound}

-- What is known of their words.

-- a conversion reads no file under whose name a new one is written first, where it reads one that has the name of a
-- file
known_by : (command : Command) → IsKnown command → CanServe command → (described command).known
known_by (Convert kind old new source target) named can = never_new source target named
known_by (Serve format calls port exports) known can = can
known_by (Generate seed count file) few can = omega (arith, few)
known_by _ known can = tt

-- what is known of a command that words ask for
pub read_known : (in_script : Bool) (words : List (List ℕ)) (command : Command)
    → command_of in_script words ≡ Ok command → (described command).known
read_known in_script words command is =
    known_by command (is_known in_script words command is) (asked_serves in_script words command is)

-- what is known of what words ask for
pub asked_known : (table : Command → Description) (asked : Result Command Refusal)
    → ((command : Command) → asked ≡ Ok command → (table command).known) → (asked_by table asked).known
asked_known table (Ok command) each = each command refl
asked_known table (Err refusal) each = tt

-- That they are sure, and that a file is full where they say so.

pub asked_sure : (table : Command → Description) (asked : Result Command Refusal) (invocation : Invocation)
    (old : Outside)
    → ((command : Command) → (table command).suffices invocation old → IsSure ((table command).steps invocation) old)
    → (asked_by table asked).suffices invocation old → IsSure ((asked_by table asked).steps invocation) old
asked_sure table (Ok command) invocation old each can = each command can
asked_sure table (Err refusal) invocation old each can = absurd can

pub asked_full : (table : Command → Description) (asked : Result Command Refusal) (invocation : Invocation)
    → ((command : Command) → IsFullSo (table command) invocation) → IsFullSo (asked_by table asked) invocation
asked_full table (Ok command) invocation each = each command
asked_full table (Err other) invocation each = λ old acts new refusal blocks limit ends is. tt

-- Words in a script name the file of their input, where they have one: no command there uses the standard input, or is
-- refused for a fault of it.

uses_by : (command : Command) → NamesInput command → (described command).uses.input ≡ false
uses_by (Batch common input file) named = named
uses_by (ApplyForm common input name file) named = named
uses_by (Check common fresh device input file) named = named
uses_by _ named = refl

-- a command in a script does not use the standard input
pub no_input : (words : List (List ℕ)) (command : Command) → command_of true words ≡ Ok command
    → (described command).uses.input ≡ false
no_input words command is = uses_by command (names_input words command is)

asked_no_input : (asks : Result Command Refusal)
    → ((command : Command) → asks ≡ Ok command → (described command).uses.input ≡ false)
    → (asked_by described asks).uses.input ≡ false
asked_no_input (Ok command) each = each command refl
asked_no_input (Err refusal) each = refl

pub uses_no_input : (words : List (List ℕ)) → (asked_by described (command_of true words)).uses.input ≡ false
uses_no_input words = asked_no_input (command_of true words) (no_input words)

asked_spares : (asks : Result Command Fault)
    → ((command : Command) → refused asks ≡ Ok command → (described command).uses.input ≡ false) → (name : List ℕ)
    → (asked_by described (refused asks)).may SourceFault name → ⊥
asked_spares (Ok command) each name (inl is) = cc
asked_spares (Ok command) each name (inr may) = (sound command).spares SourceFault name (each command refl) may
asked_spares (Err fault) each name same =
    let cause : SourceFault ≡ Usage fault.kind fault.word = ap (λ (r : Refusal). r.cause) same in absurd (cc (cause))

pub spares_input : (words : List (List ℕ)) (name : List ℕ)
    → (asked_by described (command_of true words)).may SourceFault name → ⊥
spares_input words = asked_spares (asked true words) (no_input words)
