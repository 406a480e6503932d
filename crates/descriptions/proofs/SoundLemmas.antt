-- That descriptions are sound: what rows share, and for which causes the phases that commands share are never refused.
use Rattle.std.proofs.Common.{◌≡◌, ℕ, false, IsTrue, List, [], ◌∷◌, Option, None, Some, ◌⊎◌, inl, inr, sym, subst, ◌∙◌}
use Rattle.std.specs.Prelude.{Contains, is_none}
use Rattle.std.proofs.lemmas.Bool.{false≢true}
use Rattle.std.proofs.lemmas.List.Elements.{Contains-push}
use Rattle.std.proofs.lemmas.Option.{none-some}
use Rattle.quota_map.specs.Asked.{Asked}
use Rattle.id_names.specs.NamesFile.{NameLine}
use Rattle.refusals.specs.declared.cause.Cause.{Cause}
use Rattle.refusals.specs.declared.cause.Cause.TheVariants.{SinkFault, SourceFault, Usage}
use Rattle.refusals.specs.declared.cause.UsageKind.{UsageKind}
use Rattle.run_steps.specs.Naming.{MayBeNames, NamesMayRefuse}
use Rattle.run_steps.specs.Opening.{MayRefuseOpening}
use Rattle.run_steps.specs.Run.{Uses}
use Rattle.run_steps.specs.SameViews.{FileAsked}
use Rattle.run_steps.specs.Showing.{ShowingMayRefuse}
use Rattle.run_steps.specs.Taking.{InputKind, InputMayRefuse}
use Rattle.descriptions.specs.Sound.{IsBarred, Spares}

-- Rows.

-- what a command does not do has any property
pub never : {R : Type 0} → IsTrue false → R
never does = absurd (false≢true does)

-- the one file of a row
pub only_one : (file opened : FileAsked) → opened ≡ file → Contains (file ∷ []) opened
only_one file opened is = subst (λ (f : FileAsked). Contains (file ∷ []) f) (sym is) (Contains-push [] file)

-- Causes.

-- these causes are spared where both of them are
pub spares_both : (uses : Uses) (may : Cause → List ℕ → Type 0)
    → ((name : List ℕ) → uses.input ≡ false → may SourceFault name → ⊥)
    → ((kind : UsageKind) (word : ℕ) (name : List ℕ) → uses.reads_commands ≡ false → may (Usage kind word) name → ⊥)
    → Spares uses may
spares_both uses may input usage SourceFault name barred = input name barred
spares_both uses may input usage (Usage kind word) name barred = usage kind word name barred
spares_both uses may input usage _ name barred = absurd barred

-- an output that fails is no such cause
pub spares_sink : (uses : Uses) (cause : Cause) → IsBarred uses cause → cause ≡ SinkFault → ⊥
spares_sink uses cause barred is = subst (λ (c : Cause). IsBarred uses c) is barred

pub spares_opening : (uses : Uses) (asked : Asked) (file : List ℕ) → Spares uses (MayRefuseOpening asked file)
spares_opening uses asked file =
    spares_both uses (MayRefuseOpening asked file) (λ name none may. may) (λ kind word name none may. may)

pub spares_showing : (uses : Uses) (asked : Asked) (file : List ℕ) → Spares uses (ShowingMayRefuse asked file)
spares_showing uses asked file cause name barred (inl is) = spares_sink uses cause barred is
spares_showing uses asked file cause name barred (inr may) = spares_opening uses asked file cause name barred may

-- an input that is a file is not the standard input
pub spares_input : (uses : Uses) (kind : InputKind) (from : Option (List ℕ)) → uses.input ≡ is_none from
    → Spares uses (InputMayRefuse kind from)
spares_input uses kind None same =
    spares_both uses (InputMayRefuse kind None) (λ name none may. false≢true (sym none ∙ same))
    (λ kind word name none may. may)
spares_input uses kind (Some file) same =
    spares_both uses (InputMayRefuse kind (Some file)) (λ name none may. none-some file (sym may))
    (λ kind word name none may. may)

pub spares_names : (uses : Uses) (names : Option (List ℕ)) → Spares uses (NamesMayRefuse names)
spares_names uses None cause name barred may = may
spares_names uses (Some file) cause name barred may =
    spares_both uses (NamesMayRefuse (Some file)) (λ name none may. may) (λ kind word name none may. may)
    cause name barred may

-- the names are read, and then comes what these allow
pub spares_named : (uses : Uses) (wanted : Option (List ℕ)) (may : List NameLine → Cause → List ℕ → Type 0)
    → ((names : List NameLine) → Spares uses (may names))
    → Spares uses (λ (cause : Cause) (name : List ℕ).
    NamesMayRefuse wanted cause name ⊎ ((names : List NameLine) × MayBeNames wanted names × may names cause name))
spares_named uses wanted may each cause name barred (inl unnamed) = spares_names uses wanted cause name barred unnamed
spares_named uses wanted may each cause name barred (inr (names, given, refused)) = each names cause name barred refused
