-- What a call makes of a file: nothing, and two things in a row.
use Rattle.std.proofs.Common.{ℕ, List, refl, ◌∙◌, arith, Option}
use Rattle.outside.specs.World.{World}
use Rattle.outside.proofs.FrameLemmas.{keeps_others-then}
use Rattle.disk.specs.DiskCalls.{ChangesFile, CutShort, Shortened, Torn}

-- a file that stays is torn nowhere
pub torn-same : (stays : ℕ → Type 0) (file : Option (List ℕ)) → Torn stays file file
torn-same stays file = record { there = λ is. is; no_shorter = omega arith; same = λ place stay below. refl }

pub torn-then : (stays : ℕ → Type 0) (old between new : Option (List ℕ)) → Torn stays old between
    → Torn stays between new → Torn stays old new
torn-then stays old between new first second = record {
  there = λ is. second.there (first.there is);
  no_shorter = omega (arith, first.no_shorter, second.no_shorter);
  same =
      λ place stay below. second.same place stay (omega (arith, first.no_shorter, below)) ∙ first.same place stay below;
}

-- fewer places stay
pub torn-less : (more fewer : ℕ → Type 0) (old new : Option (List ℕ)) → ((place : ℕ) → fewer place → more place)
    → Torn more old new → Torn fewer old new
torn-less more fewer old new sub torn = record {
  there = torn.there;
  no_shorter = torn.no_shorter;
  same = λ place stay below. torn.same place (sub place stay) below;
}

-- a file that stays is cut short by nothing
pub cut_short-same : (len : ℕ) (file : Option (List ℕ)) → CutShort len file file
cut_short-same len file = record { there = λ is. is; no_shorter = omega arith; same = λ place low below. refl }

-- a file that stays is shortened by nothing
pub shortened-same : (len : ℕ) (file : Option (List ℕ)) → Shortened len file file
shortened-same len file = record { cut = cut_short-same len file; absent = λ none. none }

-- no name's file changes
pub changes_file-same : (Changes : Option (List ℕ) → Option (List ℕ) → Type 0) (name : List ℕ) (files : World)
    → Changes (files name) (files name) → ChangesFile Changes name files files
changes_file-same Changes name files same = (same, λ other differ. refl)

pub changes_file-then : (Changes : Option (List ℕ) → Option (List ℕ) → Type 0) (name : List ℕ) (old between new : World)
    → (Changes (old name) (between name) → Changes (between name) (new name) → Changes (old name) (new name))
    → ChangesFile Changes name old between → ChangesFile Changes name between new → ChangesFile Changes name old new
changes_file-then Changes name old between new on first second =
    (on first.0 second.0, keeps_others-then name old between new first.1 second.1)
