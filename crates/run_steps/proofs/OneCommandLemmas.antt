-- Steps of single commands, form by form: that they look first, that they read to the end, and that they are sure.
use Rattle.std.proofs.Common.{◌≡◌, ◌⊎◌, inl, inr, ℕ, Bool, true, false, IsTrue, List, [], ◌∷◌, Option, None, Some, Ok}
use Rattle.std.proofs.Common.{refl, sym, subst}
use Rattle.std.specs.Prelude.{◌&&◌}
use Rattle.quota_types.specs.declared.file_kind.Kind.{Kind}
use Rattle.quota_value.specs.QuotaValue.{QuotaValue}
use Rattle.quota_map.specs.Asked.{Asked}
use Rattle.quota_map.specs.View.{IsView}
use Rattle.quota_map.proofs.SeenLemmas.{view_or_refused}
use Rattle.id_names.specs.NamesFile.{NameLine}
use Rattle.refusals.specs.declared.reason.Refusal.{Refusal}
use Rattle.refusals.specs.Outcome.{Outcome, Passed, Refused}
use Rattle.run_steps.specs.Act.{Act}
use Rattle.run_steps.specs.Done.{Outside}
use Rattle.run_steps.specs.Meaning.{IsSure}
use Rattle.run_steps.specs.Naming.{names_seen}
use Rattle.run_steps.specs.OneCommand.{LooksFirstBy, ReadsToEnd, leaves_files}
use Rattle.run_steps.specs.Steps.{Naming, Opening, Steps, Then}
use Rattle.run_steps.specs.Carrying.{AreDoneThen}
use Rattle.run_steps.specs.Taking.{Taking, file_said, input_said, reads_whole}
use Rattle.quota_map.proofs.SeenOnceLemmas.{seen_once}

-- They look first.

pub looks_then : {V : Type 0} (rooms looks takes : Bool) (outcome : Outcome V) (next : V → Steps)
    → ((value : V) → LooksFirstBy rooms looks takes (next value)) → LooksFirstBy rooms looks takes (Then outcome next)
looks_then rooms looks takes (Passed value) next each = each value
looks_then rooms looks takes (Refused refusal) next each = tt

pub looks_done : (rooms looks takes : Bool) (acts : List Act) (end : Option Refusal)
    → LooksFirstBy rooms looks takes (AreDoneThen acts end)
looks_done rooms looks takes [] end = tt
looks_done rooms looks takes (act ∷ acts) end = looks_done rooms (looks && leaves_files act) takes acts end

pub looks_naming : (rooms takes : Bool) (kind : Kind) (names : Option (List ℕ)) (next : List NameLine → Steps)
    → ((lines : List NameLine) → LooksFirstBy rooms true takes (next lines))
    → LooksFirstBy rooms true takes (Naming kind names next)
looks_naming rooms takes kind names next each =
    (inl refl, λ files. looks_then rooms true takes (names_seen kind names files) next each)

pub looks_taking : {V : Type 0} (rooms : Bool) (from : Option (List ℕ)) (is_whole : V → Bool)
    (read : List ℕ → Outcome V) (next : V → Steps)
    → ((takes : Bool) (value : V) → LooksFirstBy rooms true takes (next value))
    → LooksFirstBy rooms true true (Taking from is_whole read next)
looks_taking rooms None is_whole read next each =
    (refl, λ bytes. looks_then rooms true false (read bytes) next (each false))
looks_taking rooms (Some name) is_whole read next each =
    (inl refl, λ files. looks_then rooms true true (file_said name read (files name)) next (each true))

-- They read the standard input to its end.

pub reads_then : {V : Type 0} (outcome : Outcome V) (next : V → Steps) → ((value : V) → ReadsToEnd (next value))
    → ReadsToEnd (Then outcome next)
reads_then (Passed value) next each = each value
reads_then (Refused refusal) next each = tt

pub reads_taking : {V : Type 0} (is_whole : V → Bool) (read : List ℕ → Outcome V) (next : V → Steps)
    → ((value : V) → IsTrue (is_whole value) ⊎ ReadsToEnd (next value)) → ReadsToEnd (Taking None is_whole read next)
reads_taking is_whole read next each = λ bytes. outcome_read (read bytes)
  where
    outcome_read : (outcome : Outcome _) → IsTrue (reads_whole is_whole outcome) ⊎ ReadsToEnd (Then outcome next)
    outcome_read (Passed value) = each value
    outcome_read (Refused refusal) = inr tt

-- They are sure.

pub sure_then : {V : Type 0} (outcome : Outcome V) (next : V → Steps) (value : V) (old : Outside)
    → outcome ≡ Passed value → IsSure (next value) old → IsSure (Then outcome next) old
sure_then outcome next value old passed sure = subst (λ (o : Outcome _). IsSure (Then o next) old) (sym passed) sure

pub sure_done : (acts : List Act) (old : Outside) → IsSure (AreDoneThen acts None) old
sure_done [] old = refl
sure_done (act ∷ acts) old = λ middle follows. sure_done acts (record old { files = middle })

-- the file of names is there, and none of its lines breaks the rules
pub sure_naming : (kind : Kind) (names : Option (List ℕ)) (next : List NameLine → Steps) (lines : List NameLine)
    (old : Outside) → names_seen kind names old.files ≡ Passed lines → IsSure (next lines) old
    → IsSure (Naming kind names next) old
sure_naming kind names next lines old seen sure = sure_then (names_seen kind names old.files) next lines old seen sure

-- the file that is opened is accepted
pub sure_opening : (kind : Kind) (asked : Asked) (name : List ℕ) (next : QuotaValue → Steps) (value : QuotaValue)
    (old : Outside) → IsView (old.files name) kind asked (Ok value) → IsSure (next value) old
    → IsSure (Opening kind asked name next) old
sure_opening kind asked name next value old view sure = (
  λ fault refused. view_or_refused (old.files name) kind asked value fault view refused,
  λ other seen. subst (λ (v : QuotaValue). IsSure (next v) old)
      (seen_once (old.files name) kind asked value other view seen) sure,
)

-- the input is there, and has the stated form
pub sure_taking : {V : Type 0} (from : Option (List ℕ)) (is_whole : V → Bool) (read : List ℕ → Outcome V)
    (next : V → Steps) (value : V) (old : Outside) → input_said from read old.files old.input ≡ Passed value
    → ((left : List ℕ) → IsSure (next value) (record old { input = left }))
    → IsSure (Taking from is_whole read next) old
sure_taking None is_whole read next value old said sure =
    λ left taken. sure_then (read old.input) next value (record old { input = left }) said (sure left)
sure_taking (Some name) is_whole read next value old said sure =
    sure_then (file_said name read (old.files name)) next value old said (sure old.input)
