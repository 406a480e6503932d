-- Why the program stops before it has begun. Source: this project's own.
use Rattle.std.specs.declared.io.ErrorKind.{ErrorKind}
use Rattle.std.specs.declared.io.ErrorKind.TheVariants.{InvalidData, OutOfMemory}
use Rattle.refusals.specs.declared.cause.Cause.{Cause}
use Rattle.refusals.specs.declared.cause.Cause.TheVariants.{StoreFault, Memory, Usage}
use Rattle.refusals.specs.declared.cause.UsageKind.{UsageKind}

-- the cause where the system fails to give the program its words or the moment
abbrev pub starting_cause : ErrorKind → Cause
starting_cause OutOfMemory = Memory
starting_cause _ = StoreFault

-- the cause where the system fails to give the program its words; words that are not all UTF-8 are wrong from the first
-- one on, in the way that the program has for them
abbrev pub words_cause : (unreadable : UsageKind) → ErrorKind → Cause
words_cause unreadable InvalidData = Usage unreadable 0
words_cause unreadable kind = starting_cause kind
