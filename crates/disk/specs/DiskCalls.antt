-- What a call may make of the files of a disk, as far as a stop of the machine before the next sync may show it.
use Rattle.std.specs.Prelude.{◌≡◌, ◌<◌, ◌≤◌, ◌+◌, ◌⊎◌, ℕ, min, List, [], length, take, Option, None, IsSome}
use Rattle.std.specs.Prelude.{slice_index, unwrap_or, option_map}
use Rattle.outside.specs.World.{KeepsOthers, World, with_file, with_new_name}

-- A file is torn but for the places that stay: it is there if it was, it is no shorter, and at each place within its
-- old end that stays it has the byte that it had. Source: pwrite(2), fsync(2).
pub record Torn (stays : ℕ → Type 0) (old new : Option (List ℕ)) : Type 0 where
  pub there : IsSome old → IsSome new
  pub no_shorter : length (unwrap_or old []) ≤ length (unwrap_or new [])
  pub same : (place : ℕ) → stays place → place < length (unwrap_or old [])
      → slice_index (unwrap_or new []) place ≡ slice_index (unwrap_or old []) place

-- A file is cut short to a length: it is there if it was, it has at least the lesser of both lengths, and below that it
-- is the same. Source: open(2) with O_TRUNC.
pub record CutShort (len : ℕ) (old new : Option (List ℕ)) : Type 0 where
  pub there : IsSome old → IsSome new
  pub no_shorter : min len (length (unwrap_or old [])) ≤ length (unwrap_or new [])
  pub same : (place : ℕ) → place < len → place < length (unwrap_or old [])
      → slice_index (unwrap_or new []) place ≡ slice_index (unwrap_or old []) place

-- A file is shortened to a length: it is cut short to it, and where there was none there is none. Source: ftruncate(2).
pub record Shortened (len : ℕ) (old new : Option (List ℕ)) : Type 0 where
  pub cut : CutShort len old new
  pub absent : old ≡ None → new ≡ None

-- one name's file changes so, and all other names keep theirs
abbrev pub ChangesFile : (Option (List ℕ) → Option (List ℕ) → Type 0) → List ℕ → World → World → Type 0
ChangesFile Changes name old new = Changes (old name) (new name) × KeepsOthers name old new

-- a place outside of a range of this many bytes
abbrev pub IsOutside : (at len : ℕ) → ℕ → Type 0
IsOutside at len place = (place < at) ⊎ (at + len ≤ place)

-- one name's file is torn within a range, and past its end
abbrev pub TearsRange : List ℕ → (at len : ℕ) → World → World → Type 0
TearsRange name at len = ChangesFile (Torn (IsOutside at len)) name

-- one name's file is cut short to a length
abbrev pub CutsShort : List ℕ → ℕ → World → World → Type 0
CutsShort name len = ChangesFile (CutShort len) name

-- one name's file is shortened to a length
abbrev pub Shortens : List ℕ → ℕ → World → World → Type 0
Shortens name len = ChangesFile (Shortened len) name

-- a file was given another name
abbrev pub IsRenamed : (from to : List ℕ) → World → World → Type 0
IsRenamed from to old new = new ≡ with_new_name old from to

-- A file was given another name, or nothing was done. Source: rename(2).
abbrev pub MayBeRenamed : (from to : List ℕ) → World → World → Type 0
MayBeRenamed from to old new = (new ≡ old) ⊎ IsRenamed from to old new

-- The files once one of them was cut to a length; one that is not longer than that stays, and one that is not there is
-- not made. Source: ftruncate(2).
abbrev pub with_cut : World → List ℕ → ℕ → World
with_cut files name len = with_file files name (option_map (take len) (files name))
