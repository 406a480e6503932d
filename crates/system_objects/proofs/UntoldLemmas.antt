-- A disk that tells nothing takes each step by changing nothing.
use Rattle.std.proofs.Common.{◌≤◌, ℕ, List, inl, refl, arith}
use Rattle.disk.specs.DiskSeen.{ChangesNothing, TakesStep}
use Rattle.disk.specs.DiskCalls.{CutsShort, MayBeRenamed, Shortens, TearsRange}
use Rattle.disk.proofs.TakesStepLemmas.{cuts_nothing, renames_nothing, shortens_nothing, tears_nothing}
use Rattle.system_objects.specs.Untold.{untold}

untold_stays : (failed later : ℕ) → failed ≤ later → ChangesNothing (untold failed) (untold later)
untold_stays failed later less = record {
  files = refl;
  fewer = λ image left. tt;
  elapses = record { later = omega arith; known = λ moment image early. (λ since. inl tt, λ known. tt) };
  counted = less;
}

pub untold_tears : (name : List ℕ) (at len failed later : ℕ) → failed ≤ later
    → TakesStep (TearsRange name at len) (untold failed) (untold later)
untold_tears name at len failed later less =
    tears_nothing name at len (untold failed) (untold later) (untold_stays failed later less)

pub untold_cuts : (name : List ℕ) (len failed later : ℕ) → failed ≤ later
    → TakesStep (CutsShort name len) (untold failed) (untold later)
untold_cuts name len failed later less =
    cuts_nothing name len (untold failed) (untold later) (untold_stays failed later less)

pub untold_shortens : (name : List ℕ) (len failed later : ℕ) → failed ≤ later
    → TakesStep (Shortens name len) (untold failed) (untold later)
untold_shortens name len failed later less =
    shortens_nothing name len (untold failed) (untold later) (untold_stays failed later less)

pub untold_renames : (from to : List ℕ) (failed later : ℕ) → failed ≤ later
    → TakesStep (MayBeRenamed from to) (untold failed) (untold later)
untold_renames from to failed later less =
    renames_nothing from to (untold failed) (untold later) (untold_stays failed later less)
