-- The calls on a disk in memory that change a file or wait for one, and what they, and a stop after them, leave.
use Rattle.std.specs.Prelude.{◌≡◌, ◌≤◌, ◌⊎◌, ◌-◌, ◌/◌, ℕ, List, [], ◌∷◌, length, take, Some}
use Rattle.std.specs.String.{string_bytes}
use Rattle.outside.specs.World.{World, with_bytes, with_file, with_new_name}
use Rattle.disk.specs.DiskCalls.{CutsShort, IsRenamed, Shortens, TearsRange, with_cut}
use Rattle.disk_in_memory.specs.declared.disk_call.DiskCall.{DiskCall}
use Rattle.disk_in_memory.specs.declared.disk_call.DiskCall.TheVariants.{Write, Create, Cut, Sync, Rename}

-- the files once a call was done
abbrev pub after_call : DiskCall → World → World
after_call (Write writing) files = with_bytes files (string_bytes writing.name) writing.at writing.bytes.items
after_call (Create name) files = with_file files (string_bytes name) (Some [])
after_call (Cut name len) files = with_cut files (string_bytes name) len
after_call (Sync name) files = files
after_call (Rename renaming) files = with_new_name files (string_bytes renaming.from) (string_bytes renaming.to)

-- What a stop may make of a call that was done where these files were read: a write tears its range, a new file is cut
-- short, a shortened one is shortened, a sync leaves the file as it was read, and a rename is done.
abbrev pub MayMake : DiskCall → World → World → World → Type 0
MayMake (Write writing) read old new =
    TearsRange (string_bytes writing.name) writing.at (length writing.bytes.items) old new
MayMake (Create name) read old new = CutsShort (string_bytes name) 0 old new
MayMake (Cut name len) read old new = Shortens (string_bytes name) len old new
MayMake (Sync name) read old new = (new ≡ old) × (new (string_bytes name) ≡ read (string_bytes name))
MayMake (Rename renaming) read old new = IsRenamed (string_bytes renaming.from) (string_bytes renaming.to) old new

-- the files as they are read after calls, of which the newest stands first, on the first files
abbrev pub read_after : World → List DiskCall → World
read_after first [] = first
read_after first (call ∷ earlier) = after_call call (read_after first earlier)

-- what a stop may leave after calls, of which the newest stands first, on the first files
abbrev pub LeftAfter : World → List DiskCall → World → Type 0
LeftAfter first [] image = image ≡ first
LeftAfter first (call ∷ earlier) image =
    (before : World) × LeftAfter first earlier before × MayMake call (read_after first earlier) before image

-- what a stop after this many calls, or after more of them, may have left
abbrev pub LeftSince : World → List DiskCall → ℕ → World → Type 0
LeftSince first [] moment image = image ≡ first
LeftSince first (call ∷ earlier) moment image =
    LeftAfter first (call ∷ earlier) image ⊎ ((moment ≤ length earlier) × LeftSince first earlier moment image)

-- the greater half of a list, from its front
abbrev pub half_of : List ℕ → List ℕ
half_of bytes = take (length bytes - length bytes / 2) bytes

-- The files where a call was done by half, and these files were read before it: the first half of what was written is
-- there, nothing is of a new file or of a cut, a file that was waited for is as it is read, and a file has its new
-- name.
abbrev pub half_call : DiskCall → World → World → World
half_call (Write writing) read files =
    with_bytes files (string_bytes writing.name) writing.at (half_of writing.bytes.items)
half_call (Create name) read files = files
half_call (Cut name len) read files = files
half_call (Sync name) read files = with_file files (string_bytes name) (read (string_bytes name))
half_call (Rename renaming) read files = with_new_name files (string_bytes renaming.from) (string_bytes renaming.to)

-- the one image that a disk in memory leaves where it is stopped: the first files, on which each call was done by half
abbrev pub half_left : World → List DiskCall → World
half_left first [] = first
half_left first (call ∷ earlier) = half_call call (read_after first earlier) (half_left first earlier)
