-- What the words of a command line ask for.
use Rattle.std.specs.Prelude.{ℕ, ◌+◌, Bool, true, false, not, List, [], ◌∷◌, length, Result, Ok, Err}
use Rattle.refusals.specs.declared.cause.Cause.TheVariants.{Usage}
use Rattle.refusals.specs.declared.cause.UsageKind.TheVariants.{NoCommand, UnknownCommand, Excludes, MissingOption}
use Rattle.refusals.specs.declared.reason.Refusal.{Refusal}
use Rattle.command_words.specs.declared.command.Command.{Command}
use Rattle.option_words.specs.declared.word_fault.Fault.{Fault}
use Rattle.option_words.specs.declared.tool.Tool.{Tool}
use Rattle.option_words.specs.declared.tool.Tool.TheVariants.{Script}
use Rattle.option_words.specs.Fault.{fault, unless, with_value, ◌>>=◌}
use Rattle.command_words.specs.Modes.{excludes, mode_of, formed, lacks}
use Rattle.option_words.specs.Items.{AnyWord, Item, items_of, operands_in}
use Rattle.option_words.specs.Given.{GivenOptions, nothing_given, with_items}
use Rattle.option_words.specs.Tools.{tool_of}
use Rattle.refusals.specs.Refusals.{refusal_of}

-- What is asked for by a command that was given this, with these operands, in this number of words: first come options
-- that exclude each other, then those that are missing, then the operands.
abbrev pub settled : (in_script : Bool) → Tool → GivenOptions → (words : ℕ) → List Item → Result Command Fault
settled in_script tool told words items =
    unless (excludes tool told) (fault Excludes words)
    (unless (lacks in_script tool told) (fault MissingOption words)
    (formed (mode_of tool told) told words (operands_in items)))

-- what a command is asked for by this number of words, which say these items
abbrev pub asked_of_items : (in_script : Bool) → Tool → (words : ℕ) → List Item → Result Command Fault
asked_of_items in_script tool words items =
    with_items items nothing_given >>= λ told. settled in_script tool told words items

-- a script is no command of a script
abbrev pub may_stand : (in_script : Bool) → Tool → Bool
may_stand true Script = false
may_stand _ _ = true

-- what a command is asked for by the words behind its name
abbrev pub asked_of : (in_script : Bool) → Tool → List (List ℕ) → Result Command Fault
asked_of in_script tool texts = asked_of_items in_script tool (length texts + 1) (items_of tool AnyWord 1 texts)

-- what words ask for, or the first fault in them
abbrev pub asked : (in_script : Bool) → List (List ℕ) → Result Command Fault
asked in_script [] = Err (fault NoCommand 0)
asked in_script (name ∷ texts) =
    with_value (tool_of name) (fault UnknownCommand 0) (λ tool.
    unless (not (may_stand in_script tool)) (fault UnknownCommand 0)
    (asked_of in_script tool texts))

-- the refusal of words with a fault
abbrev pub refused : Result Command Fault → Result Command Refusal
refused (Ok command) = Ok command
refused (Err fault) = Err (refusal_of (Usage fault.kind fault.word) [])

-- the command that words ask for, or their refusal
abbrev pub command_of : (in_script : Bool) → List (List ℕ) → Result Command Refusal
command_of in_script words = refused (asked in_script words)
