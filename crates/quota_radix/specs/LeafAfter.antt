-- The leaf after an identifier. Source: the kernel's `fs/quota/quota_tree.c` (`find_next_id`).
use Rattle.std.specs.Prelude.{ℕ, ◌+◌, List, Option, Some, None}
use Rattle.std.specs.Option.{option_map}
use Rattle.quota_radix.specs.declared.tree_path.TreePath.{TreePath}
use Rattle.quota_radix.specs.Descent.{leaf_from}

-- the least number that comes after an identifier, or the least of all
abbrev pub first_after : Option ℕ → ℕ
first_after None = 0
first_after (Some after) = after + 1

-- the first leaf whose identifier comes after another one, or the first of all, as that identifier with its data block
abbrev pub leaf_after : List ℕ → ℕ → Option ℕ → Option (ℕ × ℕ)
leaf_after file blocks after =
    option_map (λ (leaf : TreePath). (leaf.number, leaf.block)) (leaf_from file blocks (first_after after))
