-- What is known of the words of a command, wherever words ask for it.
use Rattle.std.proofs.Common.{◌≡◌, ℕ, ◌≤◌, Bool, true, List, Ok}
use Rattle.command_words.specs.Asked.{command_of}
use Rattle.command_words.specs.declared.command.Command.{Command}
use Rattle.command_words.specs.declared.command.Command.TheVariants.{Convert, Generate}
use Rattle.command_words.specs.Modes.{mode_of}
use Rattle.command_words.specs.declared.mode.Mode.{Mode}
use Rattle.command_words.specs.declared.mode.Mode.TheVariants.{Reporting, Limiting, Copying, Batching, SettingGrace}
use Rattle.command_words.specs.declared.mode.Mode.TheVariants.{SettingTimes, Printing, Applying, Checking, Converting}
use Rattle.command_words.specs.declared.mode.Mode.TheVariants.{Serving, Scripting, Generating}
use Rattle.option_words.specs.FileName.{is_file_name}
use Rattle.option_words.specs.Given.{GivenOptions}
use Rattle.command_words.proofs.FormedLemmas.{HoldsOfFormed, holds_of_asked}

-- the file that is converted has the name of a file, and a listing that is made has 1,000,000 lines at most
abbrev pub IsKnown : Command → Type 0
IsKnown (Convert _ _ _ source _) = is_file_name source ≡ true
IsKnown (Generate _ count _) = count ≤ 1000000
IsKnown _ = Unit {0}

known_by : (mode : Mode) (told : GivenOptions) → HoldsOfFormed IsKnown mode told
known_by Reporting told = λ file. tt
known_by Limiting told = λ name limits file. tt
known_by Copying told = λ proto name file. tt
known_by Batching told = λ file. tt
known_by SettingGrace told = λ block inode file. tt
known_by SettingTimes told = λ name block inode file. tt
known_by Printing told = λ name file. tt
known_by Applying told = λ name file. tt
known_by Checking told = λ file. tt
known_by Converting told = λ old new source target is. is
known_by Serving told = λ calls port given. tt
known_by Scripting told = tt
known_by Generating told = λ seed count file few. few

pub is_known : (in_script : Bool) (words : List (List ℕ)) (command : Command) → command_of in_script words ≡ Ok command
    → IsKnown command
is_known in_script words command =
    holds_of_asked in_script IsKnown words command (λ tool items told given whole. known_by (mode_of tool told) told)
