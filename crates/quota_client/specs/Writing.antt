-- A text that is written to a sink.
use Rattle.std.specs.Prelude.{◌≡◌, ◌≤◌, ℕ, Bool, IsTrue, List, ◌++◌, Result, MatchResult}
use Rattle.outside.specs.Count.{Rose}
use Rattle.outside.specs.Seen.{SinkSeen}
use Rattle.outside.specs.Text.{AppendsPrefix}
use Rattle.outside.specs.declared.sink.SinkFault.{SinkFault}

-- the whole text was appended
pub record Appends (tells : Bool) (text : List ℕ) (old new : SinkSeen) : Type 0 where
  pub whole : IsTrue tells → new.written ≡ old.written ++ text
  pub later : old.faults ≤ new.faults

-- the sink failed, and a prefix of the text was appended
pub record FailsToAppend (tells : Bool) (text : List ℕ) (old new : SinkSeen) : Type 0 where
  pub part : IsTrue tells → AppendsPrefix old.written new.written text
  pub failed : Rose old.faults new.faults
  pub later : old.faults ≤ new.faults

-- the text was appended, or the sink failed
abbrev pub Writes : Bool → (text : List ℕ) → (old new : SinkSeen) → Result (Unit {0}) SinkFault → Type 0
Writes tells text old new result =
    MatchResult result (λ _. Appends tells text old new) (λ _. FailsToAppend tells text old new)
