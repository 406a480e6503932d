-- Commands that change a file: when a changed value is written, and which objects they use.
use Rattle.std.specs.Prelude.{ℕ, Bool, true, false, if◌then◌else◌, List, [], ◌∷◌}
use Rattle.quota_value.specs.QuotaValue.{QuotaValue}
use Rattle.quota_map.specs.View.{most_blocks}
use Rattle.refusals.specs.declared.cause.Cause.TheVariants.{Full}
use Rattle.run_steps.specs.Act.{Act, Change, Idle, InPlace, Way}
use Rattle.refusals.specs.Outcome.{Outcome, Passed, Refused}
use Rattle.run_steps.specs.Run.{Uses}
use Rattle.refusals.specs.Refusals.{refusal_of}

-- this act makes a file of this name stand for another value, where there is room for this many blocks
abbrev pub if_room : List ℕ → (blocks : ℕ) → (too_large : Bool) → Act → Outcome (List Act)
if_room name blocks too_large act =
    if too_large then Refused (refusal_of (Full blocks most_blocks) name)
    else Passed (act ∷ [])

-- what an edit does that has nothing to do; together with others it counts as one of them
abbrev pub idle_acts : Way → List Act
idle_acts InPlace = []
idle_acts _ = Idle ∷ []

-- a file of this name is edited and stands for the value from then on, where it has room for this many blocks and
-- something is to be done
abbrev pub written : Way → List ℕ → (blocks : ℕ) → QuotaValue → (idle too_large : Bool) → Outcome (List Act)
written way name blocks new idle too_large =
    if idle then Passed (idle_acts way) else if_room name blocks too_large (Change way name new)

-- a change of a file changes the store, and where it is refused it has written nothing, unless something outside failed
abbrev pub edit_uses : (warns : Bool) → Uses
edit_uses warns = record {
  input = false;
  out = false;
  link = false;
  changes = true;
  all_or_nothing = true;
  warns = warns;
  reads_commands = false;
  reads_edits = false;
}
