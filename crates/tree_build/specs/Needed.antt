-- What is counted of identifiers, to know how many blocks a tree file of them needs.
use Rattle.std.specs.Prelude.{◌≡◌, ℕ, List, length}
use Rattle.tree_build.specs.declared.needed.Needed.{Needed}
use Rattle.tree_build.specs.Beginnings.{IsLastOf}
use Rattle.tree_build.specs.Size.{beginnings}

-- these identifiers were met
pub record HasMet (ids : List ℕ) (needed : Needed) : Type 0 where
  pub entries : needed.entries ≡ length ids
  pub firsts : needed.firsts ≡ beginnings 3 ids
  pub seconds : needed.seconds ≡ beginnings 2 ids
  pub thirds : needed.thirds ≡ beginnings 1 ids
  pub last : IsLastOf needed.last ids
