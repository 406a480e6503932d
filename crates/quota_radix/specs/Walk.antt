-- How far a path through the tree has gone, whatever the file says, and the numbers of the paths that go on from it.
use Rattle.std.specs.Prelude.{◌≡◌, ℕ, ◌+◌, ◌*◌, ◌^◌, ◌<◌, ◌≤◌}
use Rattle.quota_radix.specs.declared.tree_path.TreePath.{TreePath}

-- a path is this many digits short of a leaf
pub record HasLeft (to_go : ℕ) (path : TreePath) : Type 0 where
  pub gone : ℕ
  pub four : gone + to_go ≡ 4
  pub small : path.number < 256 ^ gone

-- a path has one digit more than another one, which is at least this one
pub record GoesOnFrom (path : TreePath) (first : ℕ) (next : TreePath) : Type 0 where
  pub least : 256 * path.number + first ≤ next.number
  pub most : next.number < 256 * path.number + 256
