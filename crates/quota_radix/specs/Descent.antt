-- The way down the tree of a file by the digits of a number, and the leaves from one on. Source: the kernel's
-- `fs/quota/quota_tree.c` (`find_tree_dqentry` and `find_next_id`).
use Rattle.std.specs.Prelude.{ℕ, zero, suc, ◌+◌, ◌-◌, ◌*◌, nat_le, List, [], ◌∷◌, find, fold, Option}
use Rattle.std.specs.List.{filter_map, flat_map, range_with_len}
use Rattle.quota_radix.specs.declared.tree_path.TreePath.{TreePath}
use Rattle.quota_radix.specs.Tree.{leaves, step, steps}
use Rattle.quota_radix.specs.OnWay.{block_led_to}

-- the data block to which an identifier leads by its four digits, or none
abbrev pub leaf_block : List ℕ → ℕ → ℕ → Option ℕ
leaf_block file blocks id = block_led_to file blocks 4 id

-- the paths that go on from one by this many digits, in order
abbrev pub paths_below : List ℕ → ℕ → ℕ → TreePath → List TreePath
paths_below file blocks zero path = path ∷ []
paths_below file blocks (suc digits) path = flat_map (paths_below file blocks digits) (steps file blocks path)

-- the paths that go on from another one by a digit, from one digit on, in order
abbrev pub later_steps : List ℕ → ℕ → TreePath → ℕ → List TreePath
later_steps file blocks path first = filter_map (step file blocks path) (range_with_len first (256 - first))

-- the number that the digits of another number and these behind them make to the base 256
abbrev pub with_digits : ℕ → List ℕ → ℕ
with_digits number digits = fold (λ number digit. 256 * number + digit) number digits

-- the first path whose number is another one or greater, or none
abbrev pub path_from : ℕ → List TreePath → Option TreePath
path_from from paths = find (λ path. nat_le from path.number) paths

-- the leaf of the least identifier that is another one or greater, or none
abbrev pub leaf_from : List ℕ → ℕ → ℕ → Option TreePath
leaf_from file blocks from = path_from from (leaves file blocks)
