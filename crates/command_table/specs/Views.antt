-- Which worlds are alike for a command: those in which it sees the same of what it looks at.
use Rattle.std.specs.Prelude.{◌≡◌, Bool, Option}
use Rattle.refusals.specs.declared.reason.Refusal.{Refusal}
use Rattle.command_words.specs.declared.command.Command.{Command}
use Rattle.run_steps.specs.Done.{Outside}
use Rattle.run_steps.specs.OneCommand.{UnlessOneFull}
use Rattle.run_steps.specs.SameViews.{FileAsked, IsFileAlike, IsSameFile, IsThereAlike, Opens}
use Rattle.run_steps.specs.declared.invocation.Invocation.{Invocation}
use Rattle.descriptions.specs.Description.{Looks}
use Rattle.command_table.specs.Table.{described}

-- what a command looks at
abbrev pub looks_of : Command → Looks
looks_of command = (described command).looks

-- Worlds that are alike.

-- What is outside is alike for a command, from the one and from the other: each quota file that it comes to open is
-- seen as the same value, or is refused for the same cause, which is no damage; the file of names and that of an input
-- have the same bytes, or are not there in both; there is a file of the target's name in both or in none; and the
-- standard input and the datagrams are the same.
pub record AreAlike (command : Command) (invocation : Invocation) (one other : Outside) : Type 0 where
  pub opened : (file : FileAsked) → Opens ((described command).steps invocation) one file
      → IsFileAlike one.files other.files file
  pub names : IsSameFile one.files other.files (looks_of command).names
  pub input_file : IsSameFile one.files other.files (looks_of command).input
  pub target : IsThereAlike one.files other.files (looks_of command).target
  pub input : other.input ≡ one.input
  pub datagrams : other.datagrams ≡ one.datagrams

-- Effects that are the same.

-- a command edits records of a file, for which there may be no room in its blocks
abbrev pub edits_records : Command → Bool
edits_records command = (described command).needs_room

-- Two effects of a command are the same, unless it edits records and one of the two is a refusal for lack of room in
-- blocks, which may rest on more of a file than its value.
abbrev pub SameUnlessFull : Command → (refusal stop : Option Refusal) → (same : Type 0) → Type 0
SameUnlessFull command = UnlessOneFull (edits_records command)
