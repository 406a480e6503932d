use Rattle.option_words.specs.Given.{given_options}
use Rattle.command_words.proofs.building.mode_command.Goals as goal

pub returns-in-Scripting : goal.returns-in-Scripting
returns-in-Scripting c = rw c.in-Scripting.is (c.script.ensures (given_options c.args.given.now))

pub returns-in-Generating : goal.returns-in-Generating
returns-in-Generating c = rw c.in-Generating.is (c.generate.ensures (given_options c.args.given.now))
