-- Steps that may rest on the room in a file: those that are the same except for lack of it, and what is said where
-- there is enough.
use Rattle.std.proofs.Common.{◌≡◌, inl, inr, Bool, false, ℕ, List, [], Option, Some, None, refl, sym, subst}
use Rattle.std.proofs.lemmas.Bool.{false≢true}
use Rattle.refusals.specs.declared.reason.Refusal.{Refusal}
use Rattle.refusals.specs.Refusals.{in_line}
use Rattle.run_steps.specs.Act.{Act}
use Rattle.run_steps.specs.Done.{Outside}
use Rattle.run_steps.specs.Meaning.{EndsBy, HasBegun, IsAt}
use Rattle.run_steps.specs.OneCommand.{AreSameSteps, EndsFull, IsFull, UnlessFull, UnlessOneFull}
use Rattle.run_steps.specs.Steps.{Steps, Ending, Doing, Looking, Opening, Reading, Starting, Receiving, Before, InLine}

-- steps that may not rest on room are the same
pub strictly : (one other : Steps) → AreSameSteps false one other → one ≡ other
strictly one other (inl same) = same
strictly one other (inr full) = absurd (false≢true full.0)

-- steps that end for lack of room do so without an act
pub full_ended : (steps : Steps) (old : Outside) (acts : List Act) (new : Outside) (refusal : Option Refusal)
    → EndsFull steps → EndsBy steps old acts new refusal → IsFull refusal
full_ended (Ending stated) old acts new refusal full ends =
    subst (λ (r : Option Refusal). IsFull r) (sym ends.ends) full
full_ended (Doing act next) old acts new refusal full ends = absurd full
full_ended (Looking next) old acts new refusal full ends = absurd full
full_ended (Opening kind asked name next) old acts new refusal full ends = absurd full
full_ended (Reading whole next) old acts new refusal full ends = absurd full
full_ended (Starting port next) old acts new refusal full ends = absurd full
full_ended (Receiving next) old acts new refusal full ends = absurd full
full_ended (Before one others) old acts new refusal full ends = absurd full
full_ended (InLine line steps) old acts new refusal full ends = absurd full

-- wherever they stand, they end
pub full_ends : (steps : Steps) (old : Outside) → EndsFull steps
    → (stop : Option Refusal) × IsFull stop × EndsBy steps old [] old stop
full_ends (Ending stated) old full = (stated, full, record { acts_none = refl; same = refl; ends = refl })
full_ends (Doing act next) old full = absurd full
full_ends (Looking next) old full = absurd full
full_ends (Opening kind asked name next) old full = absurd full
full_ends (Reading whole next) old full = absurd full
full_ends (Starting port next) old full = absurd full
full_ends (Receiving next) old full = absurd full
full_ends (Before one others) old full = absurd full
full_ends (InLine line steps) old full = absurd full

-- and have begun without one
pub full_begun : (steps : Steps) (old : Outside) (done hand : List Act) (now : Outside) → EndsFull steps
    → HasBegun steps old done hand now → IsAt [] old done hand now
full_begun (Ending stated) old done hand now full begun = begun
full_begun (Doing act next) old done hand now full begun = absurd full
full_begun (Looking next) old done hand now full begun = absurd full
full_begun (Opening kind asked name next) old done hand now full begun = absurd full
full_begun (Reading whole next) old done hand now full begun = absurd full
full_begun (Starting port next) old done hand now full begun = absurd full
full_begun (Receiving next) old done hand now full begun = absurd full
full_begun (Before one others) old done hand now full begun = absurd full
full_begun (InLine line steps) old done hand now full begun = absurd full

-- lack of room in a line is lack of room
pub full_in_line : (line : ℕ) (own refusal : Option Refusal) → refusal ≡ in_line line own → IsFull own → IsFull refusal
full_in_line line None refusal is full = absurd full
full_in_line line (Some own) refusal is full = subst (λ (r : Option Refusal). IsFull r) (sym is) full

-- another fact that follows, unless there is not enough room
pub unless_full : {fact other : Type 0} (rooms : Bool) (own refusal : Option Refusal) → (IsFull own → IsFull refusal)
    → (fact → other) → UnlessFull rooms own fact → UnlessFull rooms refusal other
unless_full rooms own refusal full so (inl is) = inl (so is)
unless_full rooms own refusal full so (inr wanting) = inr (wanting.0, full wanting.1)

-- the same of two ends
pub unless_one_full : {fact other : Type 0} (rooms : Bool) (own stop refusal said : Option Refusal)
    → (IsFull own → IsFull refusal) → (IsFull stop → IsFull said) → (fact → other)
    → UnlessOneFull rooms own stop fact → UnlessOneFull rooms refusal said other
unless_one_full rooms own stop refusal said full also so (inl is) = inl (so is)
unless_one_full rooms own stop refusal said full also so (inr (is, inl wanting)) = inr (is, inl (full wanting))
unless_one_full rooms own stop refusal said full also so (inr (is, inr wanting)) = inr (is, inr (also wanting))
