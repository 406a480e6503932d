-- Why words were not read.
use Rattle.std.specs.Prelude.{◌≡◌, [], Result, Err, IsOk}
use Rattle.refusals.specs.declared.cause.Cause.TheVariants.{Usage as UsageCause, Memory as WantOfMemory}
use Rattle.refusals.specs.declared.reason.Refusal.{Refusal}
use Rattle.command_words.specs.declared.command.Command.{Command}
use Rattle.option_words.specs.declared.word_fault.Fault.{Fault}
use Rattle.command_words.specs.declared.reading.UsageFault.{UsageFault}
use Rattle.command_words.specs.declared.reading.UsageFault.TheVariants.{Usage, Memory}
use Rattle.refusals.specs.Refusals.{refusal_of}

-- The words ask for nothing, and this is what is wrong with them; or they ask for a command, and there was not enough
-- memory for its words.
abbrev pub IsUsageFault : Result Command Refusal → UsageFault → Type 0
IsUsageFault asked (Usage kind word) = asked ≡ Err (refusal_of (UsageCause kind word) [])
IsUsageFault asked Memory = IsOk asked

-- The words ask for nothing, and this fault of theirs is what is wrong, whose refusal is not made yet; or there was not
-- enough memory.
abbrev pub IsFaultOf : Result Command Fault → UsageFault → Type 0
IsFaultOf asked (Usage kind word) = asked ≡ Err (record { kind = kind; word = word })
IsFaultOf asked Memory = IsOk asked

-- what is said of words that were not read
abbrev pub usage_refusal : UsageFault → Refusal
usage_refusal (Usage kind word) = refusal_of (UsageCause kind word) []
usage_refusal Memory = refusal_of WantOfMemory []
