-- Which blocks are looked at for the next leaf, where all of them are buffered. Source: the kernel's
-- `fs/quota/quota_tree.c` (`find_next_id`).
use Rattle.std.specs.Prelude.{◌≡◌, ℕ, zero, suc, ◌+◌, true, List, [], ◌∷◌, length, Some, None, ⊤}
use Rattle.quota_pages.specs.Page.{Page, is_buffered}
use Rattle.quota_radix.specs.declared.tree_path.TreePath.{TreePath}
use Rattle.quota_radix.specs.Descent.{later_steps, path_from, paths_below, with_digits}
use Rattle.quota_radix.specs.Tree.{step}

-- each block from that of a path down to the least leaf below it, this many digits further, is buffered
abbrev pub IsThereToLeast : List Page → List ℕ → (blocks to_go : ℕ) → TreePath → Type 0
IsThereToLeast pages file blocks zero path = ⊤
IsThereToLeast pages file blocks (suc to_go) path =
    (is_buffered pages path.block ≡ true)
    × ((next : TreePath) → path_from 0 (later_steps file blocks path 0) ≡ Some next
    → IsThereToLeast pages file blocks to_go next)

-- the same of the first path that goes on from another one by a digit, from this one on
abbrev pub IsTherePast : List Page → List ℕ → (blocks to_go : ℕ) → TreePath → (first : ℕ) → Type 0
IsTherePast pages file blocks to_go path first =
    (next : TreePath) → path_from 0 (later_steps file blocks path first) ≡ Some next
    → IsThereToLeast pages file blocks to_go next

-- Each block is buffered that is looked at for the first leaf below a path from a number on, that which these digits
-- make: those on the way by the digits, and where that way leads to no such leaf, those down to the least leaf by a
-- later digit.
abbrev pub IsThereFrom : List Page → List ℕ → (blocks : ℕ) → TreePath → (digits : List ℕ) → Type 0
IsThereFrom pages file blocks path [] = ⊤
IsThereFrom pages file blocks path (digit ∷ digits) =
    (is_buffered pages path.block ≡ true)
    × (((next : TreePath) → step file blocks path digit ≡ Some next → IsThereFrom pages file blocks next digits)
    × ((step file blocks path digit ≡ None → IsTherePast pages file blocks (length digits) path (digit + 1))
    × ((next : TreePath) → step file blocks path digit ≡ Some next
    → path_from (with_digits next.number digits) (paths_below file blocks (length digits) next) ≡ None
    → IsTherePast pages file blocks (length digits) path (digit + 1))))
