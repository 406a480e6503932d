-- How many calls of `read` pass identifiers in a file of any format.
use Rattle.std.proofs.Common.{◌≡◌, ℕ, ◌+◌, ◌≤◌, Bool, true, if◌then◌else◌, List, Option, sym, subst, arith}
use Rattle.file_blocks.specs.Block.{bytes_of}
use Rattle.quota_types.specs.Format.{IsTreeFormat, is_flat}
use Rattle.opened_file.specs.FileSeen.{FileSeen}
use Rattle.quota_v1.specs.Window.{passing_reads}
use Rattle.quota_map.specs.AnyFile.{any_passing_reads}

tree_passing_few : (seen : FileSeen) (file : Option (List ℕ)) (from to : ℕ) → IsTreeFormat seen.format
    → 8 ≤ any_passing_reads seen file from to
unfolding any_passing_reads
tree_passing_few seen file from to other =
    subst (λ (b : Bool). 8 ≤ (if b then passing_reads seen.format (bytes_of file) from to else 8))
    (sym other) (omega arith)

flat_passing_few : (seen : FileSeen) (file : Option (List ℕ)) (from to : ℕ) → is_flat seen.format ≡ true
    → passing_reads seen.format (bytes_of file) from to ≤ any_passing_reads seen file from to
unfolding any_passing_reads
flat_passing_few seen file from to is =
    let few : ℕ = passing_reads seen.format (bytes_of file) from to in
    subst (λ (b : Bool). few ≤ (if b then few else 8)) (sym is) (omega arith)

-- a call on a flat file reads no more than one on a file of any format may
pub flat_passing : (seen : FileSeen) (file : Option (List ℕ)) (before now from to : ℕ) → is_flat seen.format ≡ true
    → now ≤ before + passing_reads seen.format (bytes_of file) from to
    → now ≤ before + any_passing_reads seen file from to
flat_passing seen file before now from to is few = omega (arith, few, flat_passing_few seen file from to is)

-- nor does one on a tree file
pub tree_passing : (seen : FileSeen) (file : Option (List ℕ)) (before now from to : ℕ) → IsTreeFormat seen.format
    → now ≤ before + 8 → now ≤ before + any_passing_reads seen file from to
tree_passing seen file before now from to other few = omega (arith, few, tree_passing_few seen file from to other)
