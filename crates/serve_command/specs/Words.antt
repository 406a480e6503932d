-- What is known of a command that words ask for. Source: this project's own.
use Rattle.std.specs.Prelude.{◌<◌, [], ⊤}
use Rattle.command_words.specs.declared.command.Command.{Command}
use Rattle.command_words.specs.declared.command.Command.TheVariants.{Serve}
use Rattle.serve_steps.specs.Exporting.{MayExport}

-- A command that answers calls answers one at least, and its files may be exported one after another. No words ask for
-- another one.
abbrev pub CanServe : Command → Type 0
CanServe (Serve format calls port exports) = (0 < calls) × MayExport [] exports
CanServe _ = ⊤
