-- What is left of a listing that is being made.
use Rattle.std.specs.Prelude.{ℕ, zero, suc, ◌-◌, List, [], ◌∷◌, ◌++◌, drop}
use Rattle.outside.specs.Seen.{SourceSeen}
use Rattle.inode_scan.specs.declared.generated.Generated.{Generated}
use Rattle.inode_scan.specs.Generated.{number_behind, first_alike, row_made, row_text, lines_text}

-- this many lines behind one that was made of this number
abbrev pub lines_behind : (x line count : ℕ) → List (List ℕ)
lines_behind x line zero = []
lines_behind x line (suc count) =
    row_text (row_made (number_behind x (suc line)) (first_alike (suc line)))
    ∷ lines_behind (number_behind x (suc line)) (suc line) count

-- the rest of the line at hand, and the lines behind it
unfoldable pub generated_left : Generated → List ℕ
generated_left source =
    drop source.at source.text.items ++ lines_text (lines_behind source.x source.line (source.count - source.line))

-- a listing that is made never fails
abbrev pub generated_seen : Generated → SourceSeen
generated_seen source = record { left = generated_left source; faults = 0 }
