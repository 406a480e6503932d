-- The name that a file has while it is written, before it takes the place of the old one.
use Rattle.std.specs.Prelude.{ℕ, List, ◌++◌, codes}
use Rattle.outside.specs.World.{KeepsOtherTwo}

-- the name under which the new file is written: the old one with `.new` added
unfoldable pub replacement_name : List ℕ → List ℕ
replacement_name name = name ++ codes ".new"

-- what each name has is as before, but for this name, and the one under which a new file is written
abbrev pub ReplacesOnly : {T : Type 0} → List ℕ → (List ℕ → T) → (List ℕ → T) → Type 0
ReplacesOnly name = KeepsOtherTwo name (replacement_name name)
