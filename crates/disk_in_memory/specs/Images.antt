-- That what is read of a disk in memory is an image, and that a stop now leaves an image.
use Rattle.std.specs.Prelude.{◌≤◌, ◌↔◌, ℕ, List, [], ◌∷◌, length, take, Option, Some, None, refl}
use Rattle.std.proofs.Common.{inl, inr, ⊎_elim, sym, ap, subst, arith, length-take}
use Rattle.std.specs.Option.{option_map, unwrap_or}
use Rattle.std.specs.String.{string_bytes}
use Rattle.std.proofs.lemmas.List.{get_or-take}
use Rattle.outside.specs.World.{World, overwritten, with_bytes, with_file}
use Rattle.outside.proofs.WorldLemmas.{KeepsOthers-with_file, with_file-at}
use Rattle.outside.proofs.OverwriteLemmas.{get_or-overwritten_before, get_or-overwritten_behind, length-overwritten}
use Rattle.disk_in_memory.specs.Calls.{LeftAfter, LeftSince, MayMake, after_call, read_after}
use Rattle.disk.specs.DiskCalls.{ChangesFile, CutShort, CutsShort, IsOutside, Shortened, Shortens, TearsRange, Torn}
use Rattle.disk_in_memory.specs.declared.disk_call.DiskCall.{DiskCall}
use Rattle.disk_in_memory.specs.declared.disk_call.DiskCall.TheVariants.{Write, Create, Cut, Sync, Rename}

-- bytes that are written tear no more than their range
torn-written : (old : Option (List ℕ)) (at len : ℕ) (bytes : List ℕ) → length bytes ≤ len
    → Torn (IsOutside at len) old (Some (overwritten (unwrap_or old []) at bytes))
torn-written old at len bytes few = record {
  there = λ is. refl;
  no_shorter = length-overwritten (unwrap_or old []) at bytes;
  same = λ place outside below.
      ⊎_elim
      (λ before. get_or-overwritten_before (unwrap_or old []) at bytes place before)
      (λ behind. get_or-overwritten_behind (unwrap_or old []) at bytes place (omega (arith, few, behind)))
      outside;
}

-- a change of one name's file, as the files once it has the new file
changes_file-with : (Changes : Option (List ℕ) → Option (List ℕ) → Type 0) (files : World) (name : List ℕ)
    (file : Option (List ℕ)) → Changes (files name) file → ChangesFile Changes name files (with_file files name file)
changes_file-with Changes files name file change = (
  subst (λ (f : Option (List ℕ)). Changes (files name) f) (sym (with_file-at files name file)) change,
  KeepsOthers-with_file files name file,
)

-- a write tears no more of its file than its range
pub tears-written : (files : World) (name : List ℕ) (at len : ℕ) (bytes : List ℕ) → length bytes ≤ len
    → TearsRange name at len files (with_bytes files name at bytes)
tears-written files name at len bytes few =
    changes_file-with (Torn (IsOutside at len)) files name (Some (overwritten (unwrap_or (files name) []) at bytes))
    (torn-written (files name) at len bytes few)

cut_short-empty : (old : Option (List ℕ)) → CutShort 0 old (Some [])
cut_short-empty old =
    record { there = λ is. refl; no_shorter = omega arith; same = λ place low below. absurd (omega (arith, low)) }

cut_short-cut : (len : ℕ) (old : Option (List ℕ)) → CutShort len old (option_map (take len) old)
cut_short-cut len None = record { there = λ is. is; no_shorter = omega arith; same = λ place low below. refl }
cut_short-cut len (Some bytes) = record {
  there = λ is. refl;
  no_shorter = omega (arith, length-take len bytes);
  same = λ place low below. get_or-take len bytes place 0 low;
}

cut_short-stays : (len : ℕ) (file : Option (List ℕ)) → CutShort len file file
cut_short-stays len file = record { there = λ is. is; no_shorter = omega arith; same = λ place low below. refl }

shortened-cut : (len : ℕ) (old : Option (List ℕ)) → Shortened len old (option_map (take len) old)
shortened-cut len old = record {
  cut = cut_short-cut len old;
  absent = λ none. ap (λ (file : Option (List ℕ)). option_map (take len) file) none;
}

shortened-stays : (len : ℕ) (file : Option (List ℕ)) → Shortened len file file
shortened-stays len file = record { cut = cut_short-stays len file; absent = λ none. none }

-- no cut shortens nothing
pub shortens-nothing : (files : World) (name : List ℕ) (len : ℕ) → Shortens name len files files
shortens-nothing files name len = (shortened-stays len (files name), λ other differ. refl)

-- no cut cuts nothing short
pub cuts-nothing : (files : World) (name : List ℕ) (len : ℕ) → CutsShort name len files files
cuts-nothing files name len = (cut_short-stays len (files name), λ other differ. refl)

-- a call that is done makes what a stop may make of it
pub done : (call : DiskCall) (read : World) → MayMake call read read (after_call call read)
done (Write writing) read =
    tears-written read (string_bytes writing.name) writing.at (length writing.bytes.items)
    writing.bytes.items (omega arith)
done (Create name) read =
    changes_file-with (CutShort 0) read (string_bytes name) (Some []) (cut_short-empty (read (string_bytes name)))
done (Cut name len) read =
    changes_file-with (Shortened len) read (string_bytes name) (option_map (take len) (read (string_bytes name)))
    (shortened-cut len (read (string_bytes name)))
done (Sync name) read = (refl, refl)
done (Rename renaming) read = refl

-- what is read is an image
pub read-left : (first : World) (calls : List DiskCall) → LeftAfter first calls (read_after first calls)
read-left first [] = refl
read-left first (call ∷ earlier) =
    (read_after first earlier, read-left first earlier, done call (read_after first earlier))

-- a stop after all the calls leaves an image
now-left : (first : World) (calls : List DiskCall) (image : World) → LeftSince first calls (length calls) image
    → LeftAfter first calls image
now-left first [] image is = is
now-left first (call ∷ earlier) image (inl is) = is
now-left first (call ∷ earlier) image (inr later) = absurd (omega (arith, later.0))

-- each image may be left by a stop after all the calls, as after fewer
pub left-since : (first : World) (calls : List DiskCall) (moment : ℕ) (image : World) → LeftAfter first calls image
    → LeftSince first calls moment image
left-since first [] moment image is = is
left-since first (call ∷ earlier) moment image is = inl is

-- what a stop after all the calls may leave are the images
pub present-left : (first : World) (calls : List DiskCall) (image : World) → LeftSince first calls (length calls) image
    ↔ LeftAfter first calls image
present-left first calls image = (now-left first calls image, left-since first calls (length calls) image)
