-- What a change of an opened quota file of any format makes of its bytes, and what one that failed may leave.
use Rattle.std.specs.Prelude.{◌≡◌, true, MatchBool, List, Option, ℕ}
use Rattle.quota_types.specs.Format.{IsTreeFormat, is_flat}
use Rattle.quota_types.specs.declared.file_kind.Format.{Format}
use Rattle.outside.specs.World.{World}
use Rattle.opened_file.specs.FileChange.{FileChange}
use Rattle.opened_file.specs.FileSeen.{FileSeen}
use Rattle.tree_file.specs.TreeChange.{TreeLeaves, TreeMakes}
use Rattle.quota_v1.specs.Change.{FlatLeaves, FlatMakes}

-- A change of a file that is seen so makes what one of a flat file makes, or what one of a tree file makes.
pub record AnyMakes (seen : FileSeen) (change : FileChange) (name : List ℕ) (old new : World) : Type 0 where
  pub flat : is_flat seen.format ≡ true → FlatMakes seen.format change name old new
  pub tree : IsTreeFormat seen.format → TreeMakes seen.limit change name old new

-- what a change of a file of this format that failed may leave it as, between the bytes before and those that it would
-- have made: of a flat file one of the two
abbrev pub AnyLeaves : Format → (old after left : Option (List ℕ)) → Type 0
AnyLeaves format old after left = MatchBool (is_flat format) (FlatLeaves old after left) (TreeLeaves old after left)
