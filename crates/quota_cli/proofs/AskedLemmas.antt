-- What words ask for: that it looks at files before it changes one, reads the standard input to its end, and is sure.
use Rattle.std.proofs.Common.{◌≡◌, ℕ, Bool, true, false, IsTrue, List, Ok, Err, Result, subst}
use Rattle.refusals.specs.declared.cause.Cause.TheVariants.{Usage}
use Rattle.refusals.specs.declared.reason.Refusal.{Refusal}
use Rattle.command_words.specs.declared.command.Command.{Command}
use Rattle.command_words.specs.declared.command.Command.TheVariants.{Script}
use Rattle.command_words.specs.Asked.{command_of}
use Rattle.command_words.specs.Usage.{IsUsageFault, usage_refusal}
use Rattle.command_words.specs.declared.reading.UsageFault.{UsageFault}
use Rattle.command_words.specs.declared.reading.UsageFault.TheVariants.{Usage as UsageOf, Memory as NoMemory}
use Rattle.script_lines.specs.declared.script.ScriptFault.TheVariants.{Memory as ScriptWantsMemory}
use Rattle.run_steps.specs.Done.{Outside, RunSeen, RunTells}
use Rattle.run_steps.specs.Meaning.{IsSure}
use Rattle.run_steps.specs.OneCommand.{LooksFirst, LooksFirstBy, ReadsToEnd}
use Rattle.run_steps.specs.declared.invocation.Invocation.{Invocation}
use Rattle.command_table.specs.Table.{asked_by, described}
use Rattle.descriptions.specs.Sound.{IsFullSo}
use Rattle.command_table.proofs.AskedLemmas.{asked_full, asked_known, asked_sure, read_known}
use Rattle.command_table.proofs.CommandLemmas.{SparesWords}
use Rattle.command_table.proofs.SoundLemmas.{sound}
use Rattle.quota_cli.specs.Headline.{CommandLine, asked, steps_asked, uses_asked}
use Rattle.quota_cli.specs.Script.{StandsInScript, commanded, is_script, script_or}
use Rattle.quota_cli.proofs.ScriptFullLemmas.{script_full}
use Rattle.quota_cli.proofs.RowLemmas.{script_reads}
use Rattle.quota_cli.proofs.ScriptLemmas.{script_sure, unread_stands}

-- Rows of the table of the command line: a script, or another command.

looks_by : (script : Bool) (command : Command) (invocation : Invocation)
    → (script_or script (described command)).uses.reads_commands ≡ false
    → LooksFirstBy (script_or script (described command)).uses.reads_edits true true
    ((script_or script (described command)).steps invocation)
looks_by true command invocation one = absurd (cc)
looks_by false command invocation one = (sound command).looks_first invocation

reads_by : (script : Bool) (command : Command) (invocation : Invocation)
    → IsTrue (script_or script (described command)).uses.input
    → ReadsToEnd ((script_or script (described command)).steps invocation)
reads_by true command invocation uses = script_reads invocation
reads_by false command invocation uses = (sound command).reads_to_end invocation uses

sure_by : (script : Bool) (command : Command) (invocation : Invocation) (old : Outside)
    → (script_or script (described command)).suffices invocation old
    → IsSure ((script_or script (described command)).steps invocation) old
sure_by true command invocation old can = script_sure invocation old can
sure_by false command invocation old can = (sound command).sure invocation old can

full_by : (script : Bool) (command : Command) (invocation : Invocation)
    → IsFullSo (script_or script (described command)) invocation
full_by true command invocation = script_full invocation
full_by false command invocation = (sound command).full invocation

spares_by : (script : Bool) (command : Command) → (script_or script (described command)).uses.reads_commands ≡ false
    → SparesWords (script_or script (described command)).may
spares_by true command one = absurd (cc)
spares_by false command one = λ kind word said. (sound command).spares (Usage kind word) said one

-- no command of the command line that reads no commands is refused for its words
pub spares_commanded : (command : Command) → (commanded command).uses.reads_commands ≡ false
    → SparesWords (commanded command).may
spares_commanded command = spares_by (is_script command) command

-- another command reads no commands
pub reads_no_commands : (command : Command) → false ≡ is_script command
    → IsTrue (commanded command).uses.reads_commands → ⊥
reads_no_commands Script is reads = absurd (cc)
reads_no_commands _ is reads = absurd (cc)

known_by : (script : Bool) (command : Command) → (described command).known
    → (script_or script (described command)).known
known_by true command known = tt
known_by false command known = known

-- what is known of a command that words ask for
pub commanded_known : (words : List (List ℕ)) (command : Command) → command_of false words ≡ Ok command
    → (commanded command).known
commanded_known words command is = known_by (is_script command) command (read_known false words command is)

-- What words ask for.

-- what is said of words that were not read stands in no line, where they ask for a script
pub words_stand : (asks : Result Command Refusal) (fault : UsageFault) (now : ℕ) (tells : RunTells) (old : RunSeen)
    → IsUsageFault asks fault → IsTrue (asked_by commanded asks).uses.reads_commands
    → StandsInScript now tells old old (usage_refusal fault)
words_stand (Ok command) (UsageOf kind word) now tells old is reads = absurd (cc)
words_stand (Ok command) NoMemory now tells old is reads = unread_stands now tells old old ScriptWantsMemory
words_stand (Err refusal) fault now tells old is reads = absurd (cc)

asked_by_looks : (asks : Result Command Refusal) (invocation : Invocation)
    → (asked_by commanded asks).uses.reads_commands ≡ false
    → LooksFirstBy (asked_by commanded asks).uses.reads_edits true true ((asked_by commanded asks).steps invocation)
asked_by_looks (Ok command) invocation one = looks_by (is_script command) command invocation one
asked_by_looks (Err refusal) invocation one = tt

pub setting_looks : (typed : CommandLine) → (uses_asked typed).reads_commands ≡ false
    → LooksFirstBy (uses_asked typed).reads_edits true true (steps_asked typed)
setting_looks typed one = asked_by_looks (command_of false typed.words) typed.invocation one

-- where no edits are read, no file is looked at once one was changed
pub setting_looks_first : (typed : CommandLine) → (uses_asked typed).reads_commands ≡ false
    → (uses_asked typed).reads_edits ≡ false → LooksFirst true true (steps_asked typed)
setting_looks_first typed one none =
    subst (λ (rooms : Bool). LooksFirstBy rooms true true (steps_asked typed)) none (setting_looks typed one)

asked_by_reads : (asks : Result Command Refusal) (invocation : Invocation) → IsTrue (asked_by commanded asks).uses.input
    → ReadsToEnd ((asked_by commanded asks).steps invocation)
asked_by_reads (Ok command) invocation uses = reads_by (is_script command) command invocation uses
asked_by_reads (Err refusal) invocation uses = absurd (cc)

pub setting_reads : (typed : CommandLine) → IsTrue (uses_asked typed).input → ReadsToEnd (steps_asked typed)
setting_reads typed uses = asked_by_reads (command_of false typed.words) typed.invocation uses

-- where words ask for an edit that is refused since its file is full, the file has no room for it at the end
pub setting_full : (typed : CommandLine) → IsFullSo (asked typed) typed.invocation
setting_full typed =
    asked_full commanded (command_of false typed.words) typed.invocation
    (λ command. full_by (is_script command) command typed.invocation)

pub setting_sure : (typed : CommandLine) (old : Outside) → (asked typed).suffices typed.invocation old
    → IsSure (steps_asked typed) old
setting_sure typed old can =
    asked_sure commanded (command_of false typed.words) typed.invocation old
    (λ command. sure_by (is_script command) command typed.invocation old) can

pub setting_known : (typed : CommandLine) → (asked typed).known
setting_known typed = asked_known commanded (command_of false typed.words) (commanded_known typed.words)
