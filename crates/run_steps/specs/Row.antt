-- Commands one after another: how far such a list has begun, and at which of its commands it was refused.
use Rattle.std.specs.Prelude.{◌≡◌, List, [], ◌∷◌, ◌++◌, Some, None}
use Rattle.refusals.specs.declared.reason.Refusal.{Refusal}
use Rattle.run_steps.specs.Act.{Act}
use Rattle.run_steps.specs.Done.{Outside}
use Rattle.run_steps.specs.Meaning.{EndsBy, HasBegun}
use Rattle.run_steps.specs.Steps.{Finish, Steps}
use Rattle.run_steps.specs.Carrying.{InARow}

-- the first of the commands that are left, or nothing where none is
abbrev pub next_of : List Steps → Steps
next_of [] = Finish
next_of (one ∷ others) = one

-- A list of commands has begun so far: its first commands ended and none of them was refused, and the next one, where
-- there is one, has begun from what they left.
pub record IsBegunAt (list : List Steps) (old : Outside) (done hand : List Act) (now : Outside) : Type 0 where
  pub first : List Steps
  pub rest : List Steps
  pub whole : list ≡ first ++ rest
  pub acts : List Act
  pub middle : Outside
  pub ended : EndsBy (InARow first) old acts middle None
  pub more : List Act
  pub all : done ≡ acts ++ more
  pub begun : HasBegun (next_of rest) middle more hand now

-- A list of commands was refused at one of them: those before it ended and none of them was refused, it was refused in
-- what they left, and none behind it came.
pub record IsRefusedAtOne (list : List Steps) (old : Outside) (acts : List Act) (new : Outside)
    (refusal : Refusal) : Type 0 where
  pub first : List Steps
  pub one : Steps
  pub others : List Steps
  pub whole : list ≡ first ++ one ∷ others
  pub before : List Act
  pub middle : Outside
  pub ended : EndsBy (InARow first) old before middle None
  pub own : List Act
  pub all : acts ≡ before ++ own
  pub refused : EndsBy one middle own new (Some refusal)
