-- How many calls of `write` to the store acts take, and what bounds those of a command.
use Rattle.std.specs.Prelude.{◌≡◌, ◌≤◌, ◌+◌, ◌*◌, ℕ, List, [], ◌∷◌, Option, IfSome, ⊤}
use Rattle.outside.specs.Seen.{StoreSeen}
use Rattle.run_steps.specs.Act.{Act, Change, ChangesNone, Idle, Replace, Together}

-- no file is replaced as a whole
abbrev pub ReplacesNone : List Act → Type 0
ReplacesNone [] = ⊤
ReplacesNone (Replace name value ∷ acts) = ⊥
ReplacesNone (_ ∷ acts) = ReplacesNone acts

-- how many of the acts are edits of an opened file, those that have nothing to do among them
abbrev pub edits_in : List Act → ℕ
edits_in [] = 0
edits_in (Change way name value ∷ acts) = 1 + edits_in acts
edits_in (Idle ∷ acts) = 1 + edits_in acts
edits_in (_ ∷ acts) = edits_in acts

-- Acts take this many calls of `write`: none where they change no file, and twelve at most for each edit where they
-- replace none.
pub record WritesFor (acts : List Act) (old new : ℕ) : Type 0 where
  pub none : ChangesNone acts → new ≡ old
  pub few : ReplacesNone acts → new ≤ old + 12 * edits_in acts

-- with how many others the edit at hand may be made together
abbrev pub others_at : List Act → ℕ
others_at (Change (Together others) name value ∷ acts) = others
others_at _ = 0

-- Acts, of which the one at hand may be done in part, take this many calls of `write`: as many as if it was done whole;
-- and where it is an edit that may be made together with others, as many as if these were done too, since a replacement
-- that makes all of them may fail.
pub record WritesInPart (hand acts : List Act) (old new : ℕ) : Type 0 where
  pub none : ChangesNone acts → new ≡ old
  pub few : ReplacesNone acts → new ≤ old + 12 * (edits_in acts + others_at hand)

-- there were no more calls of `read` than this number, where one is given
abbrev pub ReadsWithin : Option ℕ → (old new : StoreSeen) → Type 0
ReadsWithin most old new = IfSome most (λ (reads : ℕ). new.reads ≤ old.reads + reads)
