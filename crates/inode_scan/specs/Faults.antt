-- What comes of something that may be refused.
use Rattle.std.specs.Prelude.{Option, Some, None, Result, Ok, Err}

-- the value, unless it is refused
abbrev pub unless : {A E : Type 0} → Option E → A → Result A E
unless None value = Ok value
unless (Some refusal) value = Err refusal
