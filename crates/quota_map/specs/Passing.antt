-- Files of any format that are passed in parts.
use Rattle.std.specs.Prelude.{ℕ, ◌+◌, ◌≤◌, Bool, true, false, if◌then◌else◌, List, Option}
use Rattle.std.proofs.Common.{arith}
use Rattle.file_blocks.specs.Block.{bytes_of}
use Rattle.quota_types.specs.Format.{is_flat}
use Rattle.quota_types.specs.declared.file_kind.Format.{Format}
use Rattle.opened_file.specs.FileSeen.{FileSeen}
use Rattle.quota_v1.specs.Passing.{passing_adds_up}
use Rattle.quota_v1.specs.Window.{passing_reads}
use Rattle.quota_map.specs.AnyFile.{any_passing_reads}

adds_up_if : (flat : Bool) (format : Format) (file : List ℕ) (from mid to : ℕ) → from ≤ mid → mid ≤ to
    → (if flat then passing_reads format file from mid else 8) + (if flat then passing_reads format file mid to else 8)
    ≤ (if flat then passing_reads format file from to else 8) + (if flat then passing_reads format file 0 0 else 8)
adds_up_if true format file from mid to first second = passing_adds_up format file from mid to first second
adds_up_if false format file from mid to first second = omega arith

-- two calls in a row read little more than one
pub any_adds_up : (seen : FileSeen) (file : Option (List ℕ)) (from mid to : ℕ) → from ≤ mid → mid ≤ to
    → any_passing_reads seen file from mid + any_passing_reads seen file mid to
    ≤ any_passing_reads seen file from to + any_passing_reads seen file 0 0
unfolding any_passing_reads
any_adds_up seen file from mid to first second =
    adds_up_if (is_flat seen.format) seen.format (bytes_of file) from mid to first second
