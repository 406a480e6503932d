-- The names of the undo file of a file.
use Rattle.std.specs.Prelude.{ℕ, List, ◌++◌, codes}

-- the name of the undo file: that of the file with `.undo` added
unfoldable pub undo_name : List ℕ → List ℕ
undo_name name = name ++ codes ".undo"

-- the name that a new undo file has while it is written: that of the file with `.und` added
unfoldable pub und_name : List ℕ → List ℕ
und_name name = name ++ codes ".und"
