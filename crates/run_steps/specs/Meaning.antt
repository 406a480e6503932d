-- What the steps of a command mean: how they end, how far they have begun, and that they are sure to succeed. They are
-- relations, since a damage of a file that is named, and the bytes of a file that stands for a changed value, are
-- choices.
use Rattle.std.specs.Prelude.{◌≡◌, ◌⊎◌, ℕ, Bool, IsTrue, List, [], ◌∷◌, ◌++◌, Option, Some, None, Ok, Err}
use Rattle.outside.specs.Seen.{Datagram}
use Rattle.outside.specs.World.{World}
use Rattle.quota_value.specs.QuotaValue.{QuotaValue}
use Rattle.opened_file.specs.declared.quota_file.OpenFault.{OpenFault}
use Rattle.quota_map.specs.View.{IsView}
use Rattle.refusals.specs.declared.reason.Refusal.{Refusal}
use Rattle.refusals.specs.Line.{error_line}
use Rattle.refusals.specs.Refusals.{in_line, refusal_of}
use Rattle.refusals.specs.Status.{end_status}
use Rattle.run_steps.specs.Act.{Act, FollowsAct, Start, ToErr}
use Rattle.run_steps.specs.Done.{Outside}
use Rattle.run_steps.specs.Opening.{opening_cause}
use Rattle.run_steps.specs.Steps.{Steps, Ending, Doing, Looking, Opening, Reading, Starting, Receiving, Before, InLine}

-- How steps end.

-- nothing more is done, and this is the end
pub record IsEnd (stated : Option Refusal) (old : Outside) (acts : List Act) (new : Outside)
    (refusal : Option Refusal) : Type 0 where
  pub acts_none : acts ≡ []
  pub same : new ≡ old
  pub ends : refusal ≡ stated

-- bytes were taken from the standard input, all of them where the whole input is read
pub record IsTaken (whole : Bool) (old left : List ℕ) : Type 0 where
  pub taken : List ℕ
  pub behind : old ≡ taken ++ left
  pub all : IsTrue whole → left ≡ []

-- Steps end: from what was outside, by these acts, to what is outside then; and with this refusal, or with none.
abbrev pub EndsBy : Steps → Outside → List Act → Outside → Option Refusal → Type 0
EndsBy (Ending stated) old acts new refusal = IsEnd stated old acts new refusal
EndsBy (Doing act next) old acts new refusal =
    (rest : List Act) × (middle : World) × (acts ≡ act ∷ rest) × FollowsAct act old.files middle
    × EndsBy next (record old { files = middle }) rest new refusal
EndsBy (Looking next) old acts new refusal = EndsBy (next old.files) old acts new refusal
EndsBy (Opening kind asked name next) old acts new refusal =
    ((value : QuotaValue) × IsView (old.files name) kind asked (Ok value) × EndsBy (next value) old acts new refusal)
    ⊎ ((fault : OpenFault) × IsView (old.files name) kind asked (Err fault)
    × IsEnd (Some (refusal_of (opening_cause fault) name)) old acts new refusal)
EndsBy (Reading whole next) old acts new refusal =
    (left : List ℕ) × IsTaken (whole old.input) old.input left
    × EndsBy (next old.input) (record old { input = left }) acts new refusal
EndsBy (Starting port next) old acts new refusal =
    (rest : List Act) × (acts ≡ Start port old.datagrams ∷ rest) × EndsBy next old rest new refusal
EndsBy (Receiving next) old acts new refusal =
    (datagram : Datagram) × (left : List Datagram) × (old.datagrams ≡ datagram ∷ left)
    × EndsBy (next datagram) (record old { datagrams = left }) acts new refusal
EndsBy (Before one others) old acts new refusal =
    ((stop : Refusal) × (refusal ≡ Some stop) × EndsBy one old acts new (Some stop))
    ⊎ ((first : List Act) × (middle : Outside) × (rest : List Act) × (acts ≡ first ++ rest)
    × EndsBy one old first middle None × EndsBy others middle rest new refusal)
EndsBy (InLine line steps) old acts new refusal =
    (own : Option Refusal) × (refusal ≡ in_line line own) × EndsBy steps old acts new own

-- How far steps have begun.

-- nothing more was done, and this is at hand
pub record IsAt (next : List Act) (old : Outside) (done hand : List Act) (now : Outside) : Type 0 where
  pub done_none : done ≡ []
  pub at_hand : hand ≡ next
  pub same : now ≡ old

-- Steps have begun: from what was outside, these acts were done, and what is outside now was left by them; and if an
-- act is at hand, it is the one that comes next, and may have been done in part. Nothing was done that no step does.
abbrev pub HasBegun : Steps → Outside → (done hand : List Act) → Outside → Type 0
HasBegun (Ending stated) old done hand now = IsAt [] old done hand now
HasBegun (Doing act next) old done hand now =
    IsAt (act ∷ []) old done hand now
    ⊎ ((rest : List Act) × (middle : World) × (done ≡ act ∷ rest) × FollowsAct act old.files middle
    × HasBegun next (record old { files = middle }) rest hand now)
HasBegun (Looking next) old done hand now = HasBegun (next old.files) old done hand now
HasBegun (Opening kind asked name next) old done hand now =
    IsAt [] old done hand now
    ⊎ ((value : QuotaValue) × IsView (old.files name) kind asked (Ok value) × HasBegun (next value) old done hand now)
HasBegun (Reading whole next) old done hand now =
    IsAt [] old done hand now
    ⊎ ((left : List ℕ) × IsTaken (whole old.input) old.input left
    × HasBegun (next old.input) (record old { input = left }) done hand now)
HasBegun (Starting port next) old done hand now =
    IsAt [] old done hand now
    ⊎ ((rest : List Act) × (done ≡ Start port old.datagrams ∷ rest) × HasBegun next old rest hand now)
HasBegun (Receiving next) old done hand now =
    IsAt [] old done hand now
    ⊎ ((datagram : Datagram) × (left : List Datagram) × (old.datagrams ≡ datagram ∷ left)
    × HasBegun (next datagram) (record old { datagrams = left }) done hand now)
HasBegun (Before one others) old done hand now =
    HasBegun one old done hand now
    ⊎ ((first : List Act) × (middle : Outside) × (rest : List Act) × (done ≡ first ++ rest)
    × EndsBy one old first middle None × HasBegun others middle rest hand now)
HasBegun (InLine line steps) old done hand now = HasBegun steps old done hand now

-- That steps are sure to succeed.

-- Steps are sure: whatever is chosen, none of them is refused.
abbrev pub IsSure : Steps → Outside → Type 0
IsSure (Ending stated) old = stated ≡ None
IsSure (Doing act next) old =
    (middle : World) → FollowsAct act old.files middle → IsSure next (record old { files = middle })
IsSure (Looking next) old = IsSure (next old.files) old
IsSure (Opening kind asked name next) old =
    ((fault : OpenFault) → ¬ IsView (old.files name) kind asked (Err fault))
    × ((value : QuotaValue) → IsView (old.files name) kind asked (Ok value) → IsSure (next value) old)
IsSure (Reading whole next) old =
    (left : List ℕ) → IsTaken (whole old.input) old.input left → IsSure (next old.input) (record old { input = left })
IsSure (Starting port next) old = IsSure next old
IsSure (Receiving next) old =
    (datagram : Datagram) (left : List Datagram) → old.datagrams ≡ datagram ∷ left
    → IsSure (next datagram) (record old { datagrams = left })
IsSure (Before one others) old =
    IsSure one old
    × ((first : List Act) (middle : Outside) → EndsBy one old first middle None → IsSure others middle)
IsSure (InLine line steps) old = IsSure steps old

-- The effect of a command.

-- the last act of a command that was refused is its error line
abbrev pub closing : Option Refusal → List Act
closing None = []
closing (Some refusal) = ToErr (error_line refusal) ∷ []

-- The effect of steps: their acts, and for a refusal its error line; and the status.
pub record HasEffectOf (steps : Steps) (old : Outside) (acts : List Act) (new : Outside) (status : ℕ) : Type 0 where
  pub own : List Act
  pub refusal : Option Refusal
  pub by_steps : EndsBy steps old own new refusal
  pub acts_all : acts ≡ own ++ closing refusal
  pub ended : status ≡ end_status refusal
