-- The commands that stand alone or in a line of a script: a description of each, and what words ask for.
use Rattle.std.specs.Prelude.{◌≡◌, ◌⊎◌, ℕ, [], true, false, List, Some, Result, Ok, Err}
use Rattle.quota_map.specs.Asked.{asked_of}
use Rattle.refusals.specs.declared.cause.Cause.{Cause}
use Rattle.refusals.specs.declared.cause.Cause.TheVariants.{Memory, Usage}
use Rattle.refusals.specs.declared.cause.UsageKind.TheVariants.{UnknownCommand}
use Rattle.refusals.specs.declared.reason.Refusal.{Refusal}
use Rattle.refusals.specs.Refusals.{refusal_of}
use Rattle.command_words.specs.declared.command.Command.{Command}
use Rattle.command_words.specs.declared.command.Command.TheVariants.{Report, SetLimits, CopyLimits, SetGrace, SetTimes}
use Rattle.command_words.specs.declared.command.Command.TheVariants.{Batch, PrintForm, ApplyForm, Check, Convert, Serve}
use Rattle.command_words.specs.declared.command.Command.TheVariants.{Script, Generate}
use Rattle.run_steps.specs.Run.{Uses}
use Rattle.run_steps.specs.Steps.{Stop}
use Rattle.run_steps.specs.declared.invocation.Invocation.{Invocation}
use Rattle.descriptions.specs.Description.{Description, row}
use Rattle.edit_commands.specs.declared.edit.EditWords.TheVariants.{Limits, Copy, Grace, Times}
use Rattle.edit_commands.specs.Apply.{applying}
use Rattle.edit_commands.specs.Edits.{editing}
use Rattle.edit_commands.specs.Print.{printing}
use Rattle.batch_commands.specs.AtOnce.{editing_lines}
use Rattle.file_commands.specs.Check.{checking}
use Rattle.file_commands.specs.Conversion.{converting}
use Rattle.file_commands.specs.Generate.{generating}
use Rattle.file_commands.specs.Report.{reporting}
use Rattle.serve_command.specs.Serve.{serving}

-- words that are refused use nothing
abbrev pub use_nothing : Uses
use_nothing = record {
  input = false;
  out = false;
  link = false;
  changes = false;
  all_or_nothing = true;
  warns = false;
  reads_commands = false;
  reads_edits = false;
}

-- words that are refused are refused in every line and at every moment
abbrev pub refused : Refusal → Description
refused refusal =
    record (row (λ (invocation : Invocation). Stop refusal) use_nothing
    (λ (cause : Cause) (name : List ℕ). refusal_of cause name ≡ refusal)) {
      faulty = Some refusal;
    }

-- what is said of a command that is unknown
abbrev pub unknown_command : Refusal
unknown_command = refusal_of (Usage UnknownCommand 0) []

-- a command that would read commands is an unknown one here, since a script stands in no script
abbrev pub not_here : Description
not_here = record (refused unknown_command) { uses = record use_nothing { reads_commands = true } }

-- The table: a row each.
abbrev pub described : Command → Description
described (Report common options file) = reporting common options file
described (SetLimits common name limits file) = editing common (Limits name limits) file
described (CopyLimits common proto name file) = editing common (Copy proto name) file
described (SetGrace common block inode file) = editing common (Grace block inode) file
described (SetTimes common name block inode file) = editing common (Times name block inode) file
described (Batch common input file) = editing_lines common input file
described (PrintForm common name file) = printing common name file
described (ApplyForm common input name file) = applying common input name file
described (Check common fresh device input file) = checking common fresh device input file
described (Convert kind old new source target) = converting kind old new source target
described (Serve format calls port exports) = serving (asked_of format) calls port exports
described Script = not_here
described (Generate seed count file) = generating seed count file

-- What is asked for by words that were read, by a table of commands, or their refusal. There may not be enough memory
-- for the words of a command.
abbrev pub asked_by : (Command → Description) → Result Command Refusal → Description
asked_by table (Ok command) =
    record (table command) {
      may = λ (cause : Cause) (name : List ℕ). (cause ≡ Memory) ⊎ (table command).may cause name;
    }
asked_by table (Err refusal) = refused refusal
