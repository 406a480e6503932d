-- What a change of a tree file makes of it has no more blocks than the file may have.
use Rattle.std.specs.Prelude.{ℕ, ◌≤◌, IsSomeAnd, List, Option, None, Some}
use Rattle.opened_file.specs.FileChange.{FileChange}
use Rattle.outside.specs.World.{World}
use Rattle.entry_codec.specs.Header.{header_of}
use Rattle.tree_file.specs.TreeChange.{MakesFew, TreeChanged, TreeMakes}

-- a file of few blocks is there where a file that is there before is related so to one behind it
few_after : (limit : ℕ) (so : List ℕ → List ℕ → Type 0) (before after : Option (List ℕ))
    → IsSomeAnd before (λ old. IsSomeAnd after (MakesFew limit so old))
    → IsSomeAnd after (λ bytes. (header_of bytes).blocks ≤ limit)
few_after limit so (Some before) (Some after) is = is.1
few_after limit so (Some before) None is = absurd is
few_after limit so None after is = absurd is

-- the file that a change makes has few blocks
pub few_made : (limit : ℕ) (change : FileChange) (name : List ℕ) (old new : World) → TreeMakes limit change name old new
    → IsSomeAnd (new name) (λ bytes. (header_of bytes).blocks ≤ limit)
few_made limit change name old new makes = few_after limit (TreeChanged change) (old name) (new name) makes.named
