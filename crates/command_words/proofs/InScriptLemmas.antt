-- What the words of a line of a script ask for: a command that reads an input names the file of it.
use Rattle.std.proofs.Common.{if◌then◌else◌, ◌≡◌, ℕ, Bool, true, false, not, List, Ok}
use Rattle.std.specs.Prelude.{◌&&◌, ◌||◌, is_none, is_some}
use Rattle.command_words.specs.Asked.{command_of}
use Rattle.command_words.specs.Modes.{lacks, mode_of}
use Rattle.command_words.specs.declared.command.Command.{Command}
use Rattle.command_words.specs.declared.command.Command.TheVariants.{Batch, ApplyForm, Check}
use Rattle.command_words.specs.declared.mode.Mode.TheVariants.{Limiting, Copying, Batching, SettingGrace, SettingTimes}
use Rattle.command_words.specs.declared.mode.Mode.TheVariants.{Printing, Applying}
use Rattle.option_words.specs.declared.tool.Tool.{Tool}
use Rattle.option_words.specs.declared.tool.Tool.TheVariants.{Repquota, Setquota, Edquota, Quotacheck, Convertquota}
use Rattle.option_words.specs.declared.tool.Tool.TheVariants.{Rquotad, Script, Generate}
use Rattle.option_words.specs.Given.{GivenOptions}
use Rattle.command_words.proofs.FormedLemmas.{HoldsOfFormed, holds_of_asked}

-- a command that reads an input names the file of it
abbrev pub NamesInput : Command → Type 0
NamesInput (Batch common input file) = is_none input ≡ false
NamesInput (ApplyForm common input name file) = is_none input ≡ false
NamesInput (Check common fresh device input file) = is_none input ≡ false
NamesInput _ = Unit {0}

set_so : (proto batch grace times : Bool) (told : GivenOptions) → (true && batch && is_none told.input) ≡ false
    → HoldsOfFormed NamesInput
    (if proto then Copying else if batch then Batching else if grace then SettingGrace else if times then SettingTimes
    else Limiting) told
set_so true batch grace times told some = λ proto name file. tt
set_so false true grace times told some = λ file. some
set_so false false true times told some = λ block inode file. tt
set_so false false false true told some = λ name block inode file. tt
set_so false false false false told some = λ name limits file. tt

edited_so : (print apply : Bool) (told : GivenOptions)
    → (not (print || apply) || (true && apply && is_none told.input)) ≡ false
    → HoldsOfFormed NamesInput (if print then Printing else Applying) told
edited_so true apply told some = λ name file. tt
edited_so false true told some = λ name file. some
edited_so false false told some = absurd (cc)

input_by : (tool : Tool) (told : GivenOptions) → lacks true tool told ≡ false
    → HoldsOfFormed NamesInput (mode_of tool told) told
input_by Repquota told some = λ file. tt
input_by Setquota told some = set_so (is_some told.proto) told.flags.batch told.flags.grace told.flags.times told some
input_by Edquota told some = edited_so told.flags.print told.flags.apply told some
input_by Quotacheck told some = λ file. some
input_by Convertquota told some = λ old new source target is. tt
input_by Rquotad told some = λ calls port given. tt
input_by Script told some = tt
input_by Generate told some = λ seed count file few. tt

-- a command in a line of a script that reads an input names the file of it
pub names_input : (words : List (List ℕ)) (command : Command) → command_of true words ≡ Ok command → NamesInput command
names_input words command =
    holds_of_asked true NamesInput words command (λ tool items told given whole. input_by tool told whole)
