-- What is loose of a tree file while it is changed block by block: what stands otherwise than in a file as a whole.
use Rattle.std.specs.Prelude.{ℕ, Bool, not, ◌==◌, if◌then◌else◌, List, [], ◌∷◌, Option, Some, None}
use Rattle.quota_radix.specs.declared.tree_path.TreePath.{TreePath}

-- Blocks that have no role, since they were taken or gave theirs up; a leaf that counts as one though no path leads to
-- it; and one block that stands in the entry list though it should not, or does not though it should.
pub record Loose : Type 0 where
  pub held : List ℕ
  pub awaited : Option TreePath
  pub misplaced : Option ℕ

-- what is loose: these blocks are held, and a leaf is awaited and a block misplaced, where they are
abbrev pub loose_of : (held : List ℕ) → (awaited : Option TreePath) → (misplaced : Option ℕ) → Loose
loose_of held awaited misplaced = record { held = held; awaited = awaited; misplaced = misplaced }

-- nothing of a file is loose
abbrev pub nothing_loose : Loose
nothing_loose = loose_of [] None None

-- leaves, and the one that is awaited
abbrev pub leaves_with : (awaited : Option TreePath) → List TreePath → List TreePath
leaves_with None leaves = leaves
leaves_with (Some awaited) leaves = awaited ∷ leaves

-- what is to hold of a block, or for the misplaced one the contrary
abbrev pub but_misplaced : (misplaced : Option ℕ) → ℕ → Bool → Bool
but_misplaced None block holds = holds
but_misplaced (Some misplaced) block holds = if misplaced == block then not holds else holds
