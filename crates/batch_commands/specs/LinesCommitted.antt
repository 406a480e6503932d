-- What the edits of lines commit: in their place, and whichever way they are made.
use Rattle.std.specs.Prelude.{◌≡◌, ◌≤◌, ◌++◌, All, Bool, ℕ, List, [], ◌∷◌, length}
use Rattle.outside.specs.Seen.{Datagram}
use Rattle.outside.specs.World.{World}
use Rattle.run_steps.specs.Act.{Act}
use Rattle.run_steps.specs.Committed.{ComesTo, CommitsSteps}
use Rattle.run_steps.specs.Done.{Outside}
use Rattle.run_steps.specs.Steps.{Steps}

-- Files of moments along steps, in their order: from one behind these first acts up to one behind these last ones, each
-- behind the acts of the one before it, or behind more.
abbrev pub ComeInTurn : Steps → Outside → (first last : List Act) → List World → Type 0
ComeInTurn steps old first last [] = last ≡ first
ComeInTurn steps old first last (world ∷ worlds) =
    (to : ComesTo steps old world) × (more : List Act) × (to.done ≡ first ++ more)
    × ComeInTurn steps old to.done last worlds

-- All that was committed along steps from these files, up to behind these acts of theirs, are files of so many moments
-- at most, which come in turn, and each of which has changed only as is allowed; whatever is left of the input and of
-- the datagrams.
pub record CommitsUpTo (steps : Steps) (allowed : World → Type 0) (old : World) (most : ℕ) (last : List Act)
    (commits : List World → Type 0) : Type 0 where
  pub worlds : List World
  pub commits_them : commits worlds
  pub few : length worlds ≤ most
  pub within : All allowed worlds
  pub turn : (input : List ℕ) (datagrams : List Datagram)
      → ComeInTurn steps (record { files = old; input = input; datagrams = datagrams }) [] last worlds

-- so many edits in their place commit so up to some act
abbrev pub CommitsEach : Steps → (allowed : World → Type 0) → (old : World) → (edits : ℕ)
    → (commits : List World → Type 0) → Type 0
CommitsEach steps allowed old edits commits = (last : List Act) × CommitsUpTo steps allowed old edits last commits

-- All that was committed is files that steps come to from these files, whatever is left of the input and of the
-- datagrams, each of which has changed only as is allowed; and files of one moment alone, where this holds.
abbrev pub CommitsFrom : (once : Type 0) → (ended : Bool) → Steps → (allowed : World → Type 0) → (old new : World)
    → (commits : List World → Type 0) → Type 0
CommitsFrom once ended steps allowed old new commits =
    (input : List ℕ) (datagrams : List Datagram)
    → CommitsSteps once ended steps allowed (record { files = old; input = input; datagrams = datagrams }) new commits
