-- What a command commits: the files that its calls have put where a stop of the machine leaves them.
use Rattle.std.specs.Prelude.{◌≡◌, All, Bool, IsTrue, List, [], ◌∷◌}
use Rattle.outside.specs.World.{World}
use Rattle.run_steps.specs.Act.{Act}
use Rattle.run_steps.specs.Done.{Outside}
use Rattle.run_steps.specs.Meaning.{HasBegun}
use Rattle.run_steps.specs.Steps.{Steps}

-- Steps come to these files: they are there once some first acts of theirs were done, each of them whole.
pub record ComesTo (steps : Steps) (old : Outside) (files : World) : Type 0 where
  pub done : List Act
  pub hand : List Act
  pub now : Outside
  pub begun : HasBegun steps old done hand now
  pub there : files ≡ now.files

-- the files of one moment, which are those of the end where it ended well
abbrev pub IsOneMoment : (ended : Bool) → World → List World → Type 0
IsOneMoment ended new worlds = (world : World) × (worlds ≡ world ∷ []) × (IsTrue ended → world ≡ new)

-- All that was committed along steps were the files of these worlds, in this order, or of some of them. The steps come
-- to each of them, and each has changed only as is allowed. Where the steps change files at one moment alone it is one
-- of them, which is that of the end where they ended well.
pub record CommitsSteps (once : Type 0) (ended : Bool) (steps : Steps) (allowed : World → Type 0) (old : Outside)
    (new : World) (commits : List World → Type 0) : Type 0 where
  pub worlds : List World
  pub commits_them : commits worlds
  pub reached : All (ComesTo steps old) worlds
  pub within : All allowed worlds
  pub one : once → IsOneMoment ended new worlds
