-- Named files. A file is a list of bytes, which are numbers below 256.
use Rattle.std.specs.Prelude.{◌≡◌, ◌≢◌, ℕ, ◌+◌, ◌-◌, List, [], ◌++◌, length, take, drop, replicate, Option, None, Some}
use Rattle.std.specs.Prelude.{unwrap_or, if◌then◌else◌}
use Rattle.std.specs.Option.{option_map_or}
use Rattle.std.specs.Str.{bytes_eq}

-- the file of each name, where there is one; a name is its bytes
abbrev pub World : Type 0
World = List ℕ → Option (List ℕ)

-- the bytes of a file from place `at` on, as many as are asked for or there are; a file that is not there has none
abbrev pub bytes_from : Option (List ℕ) → ℕ → ℕ → List ℕ
bytes_from file at most = take most (drop at (unwrap_or file []))

-- the files once this name has the given file, or has none; all other names keep theirs
abbrev pub with_file : World → List ℕ → Option (List ℕ) → World
with_file files name file other = if bytes_eq name other then file else files other

-- A file once bytes were written into it at a place: the old bytes, with zeros behind them up to the place, then the
-- written bytes, then the old bytes that stood behind those. Source: pwrite(2), lseek(2) on gaps.
abbrev pub overwritten : List ℕ → ℕ → List ℕ → List ℕ
overwritten old at bytes = take at old ++ replicate (at - length old) 0 ++ bytes ++ drop (at + length bytes) old

-- the files once bytes were written into one of them at a place; a file that was not there is made
abbrev pub with_bytes : World → List ℕ → ℕ → List ℕ → World
with_bytes files name at bytes = with_file files name (Some (overwritten (unwrap_or (files name) []) at bytes))

-- The files once the file of one name was given another name, in place of the file that had it; where there is no
-- such file nothing changes. Source: rename(2).
abbrev pub with_new_name : World → List ℕ → List ℕ → World
with_new_name files from to =
    option_map_or (λ (bytes : List ℕ). with_file (with_file files from None) to (Some bytes)) (files from) files

-- what each name but this one has is as before
abbrev pub KeepsOthers : {T : Type 0} → List ℕ → (List ℕ → T) → (List ℕ → T) → Type 0
KeepsOthers name old new = (other : List ℕ) → other ≢ name → new other ≡ old other

-- what each name but these two has is as before
abbrev pub KeepsOtherTwo : {T : Type 0} → (one two : List ℕ) → (List ℕ → T) → (List ℕ → T) → Type 0
KeepsOtherTwo one two old new = (other : List ℕ) → other ≢ one → other ≢ two → new other ≡ old other
