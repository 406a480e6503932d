-- What is told of a disk in memory, call by call.
use Rattle.std.proofs.Common.{Result, Ok, Err, OnOk, OnErr, is_ok, ◌≡◌, ◌≤◌, inl, inr, ⊎_elim, ℕ, List, ◌∷◌, refl, sym}
use Rattle.std.proofs.Common.{ap, ◌∙◌, subst, arith}
use Rattle.std.proofs.lemmas.Bool.{false≢true, true≢false}
use Rattle.outside.specs.Unsynced.{UnsyncedNames}
use Rattle.outside.specs.World.{World}
use Rattle.disk_in_memory.specs.Calls.{LeftAfter, MayMake, after_call, read_after}
use Rattle.disk.specs.DiskSeen.{ChangesNothing, Elapses, TakesStep}
use Rattle.disk_in_memory.specs.Images.{done, left-since}
use Rattle.disk_in_memory.specs.Told.{told}
use Rattle.disk_in_memory.specs.declared.disk_call.DiskCall.{DiskCall}

-- what holds in any case
pub on_err_any : {A E : Type 0} {P : Type 0} (result : Result A E) → P → OnErr result P
on_err_any (Ok value) p = tt
on_err_any (Err fault) p = p

pub on_ok_any : {A E : Type 0} {P : Type 0} (result : Result A E) → P → OnOk result P
on_ok_any (Ok value) p = p
on_ok_any (Err fault) p = tt

-- what holds at a fault holds at the fault of another call that failed with it
pub on_err_same : {A B E F P Q : Type 0} (result : Result A E) (other : Result B F) → is_ok other ≡ is_ok result
    → (P → Q) → OnErr result P → OnErr other Q
on_err_same (Ok value) (Ok other) same on err = tt
on_err_same (Ok value) (Err fault) same on err = absurd (false≢true same)
on_err_same (Err fault) (Ok other) same on err = tt
on_err_same (Err fault) (Err other) same on err = on err

pub on_ok_same : {A B E F P Q : Type 0} (result : Result A E) (other : Result B F) → is_ok other ≡ is_ok result
    → (P → Q) → OnOk result P → OnOk other Q
on_ok_same (Ok value) (Ok other) same on ok = on ok
on_ok_same (Ok value) (Err fault) same on ok = tt
on_ok_same (Err fault) (Ok other) same on ok = absurd (true≢false same)
on_ok_same (Err fault) (Err other) same on ok = tt

module _ (first : World) (calls : List DiskCall) (present : World) (names now : UnsyncedNames) (failed later : ℕ) where
  -- where no call was made the images of since are those of before
  same_time : (other : World) → Elapses (told first calls present names failed) (told first calls other now later)
  same_time other = record {
    later = omega arith;
    known = λ moment image early. (
      (λ was. inl was),
      (λ known. ⊎_elim (λ was. was) (λ is. left-since first calls moment image is) known),
    );
  }

  -- one more call
  more_time : (call : DiskCall) (other : World)
      → Elapses (told first calls present names failed) (told first (call ∷ calls) other now later)
  more_time call other = record {
    later = omega arith;
    known = λ moment image early. (
      (λ since. ⊎_elim (λ is. inr is) (λ was. inl was.1) since),
      (λ known. ⊎_elim (λ was. inr (early, was)) (λ is. inl is) known),
    );
  }

  stays : failed ≤ later → ChangesNothing (told first calls present names failed) (told first calls present now later)
  stays less = record { files = refl; fewer = λ image is. is; elapses = same_time present; counted = less }

  goes_on : (call : DiskCall) → present ≡ read_after first calls → failed ≤ later
      → TakesStep (MayMake call present) (told first calls present names failed)
      (told first (call ∷ calls) (after_call call present) now later)
  goes_on call is less = record {
    follows = record {
      left = λ image left. (left.0, left.1, subst (λ (read : World). MayMake call read left.0 image) (sym is) left.2);
      read = done call present;
    };
    elapses = more_time call (after_call call present);
    counted = less;
  }

-- a record to which no call was added
pub told_nothing : (first first' : World) (calls calls' : List DiskCall) (present present' : World)
    (names now : UnsyncedNames) (failed later : ℕ)
    → first' ≡ first → calls' ≡ calls → present' ≡ present → failed ≤ later
    → ChangesNothing (told first calls present names failed) (told first' calls' present' now later)
told_nothing first first' calls calls' present present' names now failed later one two three less =
    subst
    (λ (f : World). ChangesNothing (told first calls present names failed) (told f calls' present' now later)) (sym one)
    (subst (λ (l : List DiskCall).
    ChangesNothing (told first calls present names failed) (told first l present' now later)) (sym two)
    (subst
    (λ (p : World). ChangesNothing (told first calls present names failed) (told first calls p now later)) (sym three)
    (stays first calls present names now failed later less)))

-- a record to which a call was added
pub told_step : (first first' : World) (calls calls' : List DiskCall) (call : DiskCall) (present present' : World)
    (names now : UnsyncedNames) (failed later : ℕ)
    → first' ≡ first → calls' ≡ call ∷ calls → present' ≡ after_call call present → present ≡ read_after first calls
    → failed ≤ later
    → TakesStep (MayMake call present) (told first calls present names failed) (told first' calls' present' now later)
told_step first first' calls calls' call present present' names now failed later one two three is less =
    subst (λ (f : World). TakesStep (MayMake call present) (told first calls present names failed)
    (told f calls' present' now later)) (sym one)
    (subst (λ (l : List DiskCall). TakesStep (MayMake call present) (told first calls present names failed)
    (told first l present' now later)) (sym two)
    (subst (λ (p : World). TakesStep (MayMake call present) (told first calls present names failed)
    (told first (call ∷ calls) p now later)) (sym three)
    (goes_on first calls present names now failed later call is less)))

-- what is read after the same calls, and after one more
pub read_same : (first first' : World) (calls calls' : List DiskCall) (present present' : World) → first' ≡ first
    → calls' ≡ calls
    → present ≡ read_after first calls → present' ≡ read_after first' calls' → present' ≡ present
read_same first first' calls calls' present present' one two is is' =
    is' ∙ ap (λ (f : World). read_after f calls') one ∙ ap (λ (l : List DiskCall). read_after first l) two ∙ sym is

pub read_more : (first first' : World) (calls calls' : List DiskCall) (call : DiskCall) (present present' : World)
    → first' ≡ first → calls' ≡ call ∷ calls
    → present ≡ read_after first calls → present' ≡ read_after first' calls' → present' ≡ after_call call present
read_more first first' calls calls' call present present' one two is is' =
    is' ∙ ap (λ (f : World). read_after f calls') one ∙ ap (λ (l : List DiskCall). read_after first l) two
    ∙ ap (λ (p : World). after_call call p) (sym is)

-- a record to which a call was added leaves whatever a stop may make of the call
pub told_any : (first first' : World) (calls calls' : List DiskCall) (call : DiskCall) (present : World)
    → first' ≡ first → calls' ≡ call ∷ calls → present ≡ read_after first calls
    → (before after : World) → LeftAfter first calls before → MayMake call present before after
    → LeftAfter first' calls' after
told_any first first' calls calls' call present one two is before after left makes =
    subst (λ (f : World). LeftAfter f calls' after) (sym one)
    (subst (λ (l : List DiskCall). LeftAfter first l after) (sym two)
    (before, left, subst (λ (read : World). MayMake call read before after) is makes))
