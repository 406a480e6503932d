-- What steps of single commands look at, form by form: that their looks at the files are alike in two worlds, and which
-- files they come to open.
use Rattle.std.proofs.Common.{◌≡◌, inl, inr, ℕ, Bool, List, [], ◌∷◌, Option, None, Some, refl, ap}
use Rattle.quota_types.specs.declared.file_kind.Kind.{Kind}
use Rattle.outside.specs.World.{World}
use Rattle.quota_value.specs.QuotaValue.{QuotaValue}
use Rattle.id_names.specs.NamesFile.{NameLine}
use Rattle.refusals.specs.declared.reason.Refusal.{Refusal}
use Rattle.refusals.specs.Outcome.{Outcome, Passed, Refused}
use Rattle.run_steps.specs.Act.{Act}
use Rattle.run_steps.specs.Done.{Outside}
use Rattle.run_steps.specs.Naming.{names_of_file, names_seen}
use Rattle.run_steps.specs.SameViews.{FileAsked, IsSameFile, LooksAlikeBy, Opens}
use Rattle.run_steps.specs.Steps.{Naming, Opening, Steps, Then}
use Rattle.run_steps.specs.Carrying.{AreDoneThen}
use Rattle.run_steps.specs.Taking.{Taking, file_said}
use Rattle.quota_map.specs.Asked.{Asked}

-- Their looks are alike.

pub alike_then : {V : Type 0} (rooms : Bool) (one other : World) (outcome : Outcome V) (next : V → Steps)
    → ((value : V) → LooksAlikeBy rooms one other (next value)) → LooksAlikeBy rooms one other (Then outcome next)
alike_then rooms one other (Passed value) next each = each value
alike_then rooms one other (Refused refusal) next each = tt

pub alike_done : (rooms : Bool) (one other : World) (acts : List Act) (end : Option Refusal)
    → LooksAlikeBy rooms one other (AreDoneThen acts end)
alike_done rooms one other [] end = tt
alike_done rooms one other (act ∷ acts) end = alike_done rooms one other acts end

-- the file of names is the same
pub alike_naming : (rooms : Bool) (one other : World) (kind : Kind) (names : Option (List ℕ))
    (next : List NameLine → Steps) → IsSameFile one other names
    → ((lines : List NameLine) → LooksAlikeBy rooms one other (next lines))
    → LooksAlikeBy rooms one other (Naming kind names next)
alike_naming rooms one other kind None next same each = (inl refl, each [])
alike_naming rooms one other kind (Some name) next same each = (
  inl (ap (λ (file : Option (List ℕ)). Then (names_of_file kind name file) next) same),
  alike_then rooms one other (names_of_file kind name (one name)) next each,
)

-- the file of an input is the same
pub alike_taking : {V : Type 0} (rooms : Bool) (one other : World) (from : Option (List ℕ)) (is_whole : V → Bool)
    (read : List ℕ → Outcome V) (next : V → Steps) → IsSameFile one other from
    → ((value : V) → LooksAlikeBy rooms one other (next value))
    → LooksAlikeBy rooms one other (Taking from is_whole read next)
alike_taking rooms one other None is_whole read next same each =
    λ bytes. alike_then rooms one other (read bytes) next each
alike_taking rooms one other (Some name) is_whole read next same each = (
  inl (ap (λ (file : Option (List ℕ)). Then (file_said name read file) next) same),
  alike_then rooms one other (file_said name read (one name)) next each,
)

-- The files that they open.

pub opens_then : {V : Type 0} (holds : Type 0) (outcome : Outcome V) (next : V → Steps) (old : Outside)
    (file : FileAsked) → ((value : V) → Opens (next value) old file → holds)
    → Opens (Then outcome next) old file → holds
opens_then holds (Passed value) next old file each opens = each value opens
opens_then holds (Refused refusal) next old file each opens = absurd opens

-- acts open none
pub opens_done : (holds : Type 0) (acts : List Act) (end : Option Refusal) (old : Outside) (file : FileAsked)
    → Opens (AreDoneThen acts end) old file → holds
opens_done holds [] end old file opens = absurd opens
opens_done holds (act ∷ acts) end old file opens = opens_done holds acts end old file opens

pub opens_naming : (holds : Type 0) (kind : Kind) (names : Option (List ℕ)) (next : List NameLine → Steps)
    (old : Outside) (file : FileAsked) → ((lines : List NameLine) → Opens (next lines) old file → holds)
    → Opens (Naming kind names next) old file → holds
opens_naming holds kind names next old file each opens =
    opens_then holds (names_seen kind names old.files) next old file each opens

pub opens_taking : {V : Type 0} (holds : Type 0) (from : Option (List ℕ)) (is_whole : V → Bool)
    (read : List ℕ → Outcome V) (next : V → Steps) (old : Outside) (file : FileAsked)
    → ((value : V) → Opens (next value) old file → holds) → Opens (Taking from is_whole read next) old file → holds
opens_taking holds None is_whole read next old file each opens =
    opens_then holds (read old.input) next old file each opens
opens_taking holds (Some name) is_whole read next old file each opens =
    opens_then holds (file_said name read (old.files name)) next old file each opens

-- the file of an opening, or one that is opened behind it
pub opens_opening : (holds : Type 0) (kind : Kind) (asked : Asked) (name : List ℕ) (next : QuotaValue → Steps)
    (old : Outside) (file : FileAsked)
    → (file ≡ record { kind = kind; asked = asked; name = name } → holds)
    → ((value : QuotaValue) → Opens (next value) old file → holds)
    → Opens (Opening kind asked name next) old file → holds
opens_opening holds kind asked name next old file this each (inl is) = this is
opens_opening holds kind asked name next old file this each (inr (value, seen, opens)) = each value opens
