-- How many calls of `write` acts take, one after another.
use Rattle.std.proofs.Common.{◌≡◌, ℕ, ◌+◌, ◌≤◌, List, [], ◌∷◌, ◌++◌, refl, ◌∙◌, arith}
use Rattle.quota_value.specs.QuotaValue.{QuotaValue}
use Rattle.run_steps.specs.Act.{Act, Change, ChangesNone, Idle, Replace, Way}
use Rattle.run_steps.specs.Writes.{ReplacesNone, WritesFor, WritesInPart, edits_in}

-- where more acts change no file, the first ones change none
changes_none_before : (acts more : List Act) → ChangesNone (acts ++ more) → ChangesNone acts
changes_none_before [] more none = tt
changes_none_before (Change way name value ∷ acts) more none = none
changes_none_before (Replace name value ∷ acts) more none = none
changes_none_before (_ ∷ acts) more none = changes_none_before acts more none

-- nor do the ones behind them
changes_none_behind : (acts more : List Act) → ChangesNone (acts ++ more) → ChangesNone more
changes_none_behind [] more none = none
changes_none_behind (Change way name value ∷ acts) more none = absurd none
changes_none_behind (Replace name value ∷ acts) more none = absurd none
changes_none_behind (_ ∷ acts) more none = changes_none_behind acts more none

-- where more acts replace no file, the first ones replace none
replaces_none_before : (acts more : List Act) → ReplacesNone (acts ++ more) → ReplacesNone acts
replaces_none_before [] more none = tt
replaces_none_before (Replace name value ∷ acts) more none = none
replaces_none_before (_ ∷ acts) more none = replaces_none_before acts more none

-- nor do the ones behind them
replaces_none_behind : (acts more : List Act) → ReplacesNone (acts ++ more) → ReplacesNone more
replaces_none_behind [] more none = none
replaces_none_behind (Replace name value ∷ acts) more none = absurd none
replaces_none_behind (_ ∷ acts) more none = replaces_none_behind acts more none

pub edits_in-append : (acts more : List Act) → edits_in (acts ++ more) ≡ edits_in acts + edits_in more
edits_in-append [] more = omega arith
edits_in-append (Change way name value ∷ acts) more = let rest = edits_in-append acts more in omega (arith, rest)
edits_in-append (Idle ∷ acts) more = let rest = edits_in-append acts more in omega (arith, rest)
edits_in-append (_ ∷ acts) more = edits_in-append acts more

-- where nothing was written
pub writes_for-same : (acts : List Act) (old new : ℕ) → new ≡ old → WritesFor acts old new
writes_for-same acts old new same = record { none = λ none. same; few = λ none. omega (arith, same) }

-- acts, and then others
pub writes_for-then : (acts more : List Act) (old middle new : ℕ) → WritesFor acts old middle
    → WritesFor more middle new → WritesFor (acts ++ more) old new
writes_for-then acts more old middle new one two = record {
  none = λ none. two.none (changes_none_behind acts more none) ∙ one.none (changes_none_before acts more none);
  few = λ none. omega (
    arith,
    one.few (replaces_none_before acts more none),
    two.few (replaces_none_behind acts more none),
    edits_in-append acts more,
  );
}

-- acts before others that write nothing
pub writes_for-before : (acts more : List Act) (old new : ℕ) → WritesFor acts old new → WritesFor (acts ++ more) old new
writes_for-before acts more old new writes =
    writes_for-then acts more old new new writes (writes_for-same more new new refl)

-- an edit of an opened file
pub writes_for-edit : (way : Way) (name : List ℕ) (value : QuotaValue) (old new : ℕ) → new ≤ old + 12
    → WritesFor (Change way name value ∷ []) old new
writes_for-edit way name value old new few = record { none = λ none. absurd none; few = λ none. omega (arith, few) }

-- a file that is replaced, and then other acts
pub writes_for-replacement : (name : List ℕ) (value : QuotaValue) (acts : List Act) (old new : ℕ)
    → WritesFor (Replace name value ∷ acts) old new
writes_for-replacement name value acts old new = record { none = λ none. absurd none; few = λ none. absurd none }

-- Acts of which the one at hand may be done in part.

-- what acts take that were done they take in part
pub writes_in_part : (hand acts : List Act) (old new : ℕ) → WritesFor acts old new → WritesInPart hand acts old new
writes_in_part hand acts old new writes = record { none = writes.none; few = λ none. omega (arith, writes.few none) }

-- acts, and then others of which one is at hand
pub writes_in_part-then : (hand acts more : List Act) (old middle new : ℕ) → WritesFor acts old middle
    → WritesInPart hand more middle new → WritesInPart hand (acts ++ more) old new
writes_in_part-then hand acts more old middle new one two = record {
  none = λ none. two.none (changes_none_behind acts more none) ∙ one.none (changes_none_before acts more none);
  few = λ none. omega (
    arith,
    one.few (replaces_none_before acts more none),
    two.few (replaces_none_behind acts more none),
    edits_in-append acts more,
  );
}

-- nothing is at hand, and any act comes next
pub writes_in_part-next : (next acts : List Act) (old new : ℕ) → WritesInPart [] acts old new
    → WritesInPart next (acts ++ next) old new
writes_in_part-next next acts old new writes = record {
  none = λ none. writes.none (changes_none_before acts next none);
  few = λ none. omega (arith, writes.few (replaces_none_before acts next none), edits_in-append acts next);
}
