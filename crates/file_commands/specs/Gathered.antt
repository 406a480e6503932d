-- Text that is gathered in memory, as a sink.
use Rattle.outside.specs.Seen.{SinkSeen}
use Rattle.file_commands.specs.declared.gathered.Gathered.{Gathered}

-- what is seen of it: the text, and how often there was not enough memory for more
abbrev pub gathered_seen : Gathered → SinkSeen
gathered_seen gathered = record { written = gathered.text.items; faults = gathered.faults }
