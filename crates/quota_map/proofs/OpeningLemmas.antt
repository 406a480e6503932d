-- Why a file of any format is not opened.
use Rattle.std.proofs.Common.{◌≡◌, ℕ, ◌≤◌, Bool, true, false, IsTrue, List, Option, None, Some, refl, sym, ap, subst}
use Rattle.std.proofs.Common.{inl, inr}
use Rattle.std.specs.Prelude.{⊤, MatchBool, not}
use Rattle.std.proofs.lemmas.Bool.{cases_Bool}
use Rattle.std.specs.Option.{IsSomeAnd}
use Rattle.quota_types.specs.Damage.{NamesItsId}
use Rattle.quota_types.specs.declared.damage.Damage.{Damage as Damaged}
use Rattle.quota_types.specs.declared.damage.DamageKind.TheVariants.{PartialRecord}
use Rattle.quota_types.specs.Format.{is_flat}
use Rattle.quota_types.specs.declared.file_kind.Format.{Format}
use Rattle.quota_types.specs.declared.file_kind.Kind.{Kind}
use Rattle.opened_file.specs.declared.quota_file.OpenFault.{OpenFault}
use Rattle.opened_file.specs.declared.quota_file.OpenFault.TheVariants.{Store, NoFile, TooLarge, Memory, NotQuota}
use Rattle.opened_file.specs.declared.quota_file.OpenFault.TheVariants.{WrongKind, UnknownVersion, BadBlockCount}
use Rattle.opened_file.specs.declared.quota_file.OpenFault.TheVariants.{FormatMismatch, Damage}
use Rattle.outside.proofs.CountLemmas.{Rose-since}
use Rattle.tree_file.specs.TreeCalls.{IsTreeFault}
use Rattle.quota_v1.specs.FlatFaults.{IsFlatFault}
use Rattle.quota_map.specs.Asked.{AnyTree, Asked, InFormat, asked_of, asks_format}
use Rattle.quota_map.specs.View.{IsDamageAs, IsOpenFault, asks_tree, most_blocks}

tree_since : (before between now : ℕ) (tells : Bool) (named : Option (List ℕ)) (kind : Kind) (asked : Option Format)
    (limit : ℕ) (fault : OpenFault) → before ≤ between
    → IsTreeFault between now tells named kind asked limit fault
    → IsTreeFault before now tells named kind asked limit fault
tree_since before between now tells named kind asked limit Store later cause = Rose-since before between now later cause
tree_since before between now tells named kind asked limit NoFile later cause = cause
tree_since before between now tells named kind asked limit (TooLarge number most) later cause = cause
tree_since before between now tells named kind asked limit Memory later cause = cause
tree_since before between now tells named kind asked limit NotQuota later cause = cause
tree_since before between now tells named kind asked limit WrongKind later cause = cause
tree_since before between now tells named kind asked limit UnknownVersion later cause = cause
tree_since before between now tells named kind asked limit BadBlockCount later cause = cause
tree_since before between now tells named kind asked limit (FormatMismatch found) later cause = cause
tree_since before between now tells named kind asked limit (Damage damage) later cause = cause

flat_since : (format : Format) (before between now : ℕ) (tells : Bool) (named : Option (List ℕ)) (fault : OpenFault)
    → before ≤ between → IsFlatFault format between now tells named fault
    → IsFlatFault format before now tells named fault
flat_since format before between now tells named Store later cause = Rose-since before between now later cause
flat_since format before between now tells named NoFile later cause = cause
flat_since format before between now tells named (TooLarge number most) later cause = cause
flat_since format before between now tells named Memory later cause = cause
flat_since format before between now tells named NotQuota later cause = cause
flat_since format before between now tells named WrongKind later cause = cause
flat_since format before between now tells named UnknownVersion later cause = cause
flat_since format before between now tells named BadBlockCount later cause = cause
flat_since format before between now tells named (FormatMismatch found) later cause = cause
flat_since format before between now tells named (Damage damage) later cause = cause

pub open_since : (before between now : ℕ) (tells : Bool) (named : Option (List ℕ)) (kind : Kind) (format : Format)
    (fault : OpenFault) → before ≤ between
    → IsOpenFault between now tells named kind (InFormat format) fault
    → IsOpenFault before now tells named kind (InFormat format) fault
open_since before between now tells named kind format fault later cause =
    since_if (is_flat format) format before between now tells named kind fault later cause
  where
    since_if : (flat : Bool) (format : Format) (before between now : ℕ) (tells : Bool) (named : Option (List ℕ))
        (kind : Kind) (fault : OpenFault) → before ≤ between
        → MatchBool flat (IsFlatFault format between now tells named fault)
        (IsTreeFault between now tells named kind (Some format) most_blocks fault)
        → MatchBool flat (IsFlatFault format before now tells named fault)
        (IsTreeFault before now tells named kind (Some format) most_blocks fault)
    since_if true format before between now tells named kind fault later cause =
        flat_since format before between now tells named fault later cause
    since_if false format before between now tells named kind fault later cause =
        tree_since before between now tells named kind (Some format) most_blocks fault later cause

-- Which formats may be refused so.

-- the cause is one for which a file may be refused that is opened in the format that was asked for: a header is read of
-- a tree file alone
abbrev pub IsFaultAs : Asked → OpenFault → Type 0
IsFaultAs asked Store = ⊤
IsFaultAs asked NoFile = ⊤
IsFaultAs asked (TooLarge number limit) = ⊤
IsFaultAs asked Memory = ⊤
IsFaultAs asked NotQuota = IsTrue (asks_tree asked)
IsFaultAs asked WrongKind = IsTrue (asks_tree asked)
IsFaultAs asked UnknownVersion = IsTrue (asks_tree asked)
IsFaultAs asked BadBlockCount = IsTrue (asks_tree asked)
IsFaultAs asked (FormatMismatch found) = IsTrue (asks_tree asked) × IsTrue (asks_format asked)
IsFaultAs asked (Damage damage) = IsDamageAs asked damage

-- where something is said of the format that was asked for, one was
asked_some : (asked : Option Format) (other : Format → Type 0) → IsSomeAnd asked other
    → IsTrue (asks_format (asked_of asked))
asked_some None other some = absurd some
asked_some (Some wanted) other some = refl

flat_as : (format : Format) (before now : ℕ) (tells : Bool) (named : Option (List ℕ)) (fault : OpenFault)
    → ((damage : Damaged) → (damage.kind ≡ PartialRecord) × (damage.id ≡ 0) → IsDamageAs (InFormat format) damage)
    → IsFlatFault format before now tells named fault → IsFaultAs (InFormat format) fault
flat_as format before now tells named Store damaged cause = tt
flat_as format before now tells named NoFile damaged cause = tt
flat_as format before now tells named (TooLarge number limit) damaged cause = tt
flat_as format before now tells named Memory damaged cause = tt
flat_as format before now tells named (Damage damage) damaged cause = damaged damage cause.0
flat_as format before now tells named _ damaged cause = absurd cause

tree_as : (asked : Option Format) (before now : ℕ) (tells : Bool) (named : Option (List ℕ)) (kind : Kind)
    (fault : OpenFault) → IsTrue (asks_tree (asked_of asked))
    → ((damage : Damaged) → NamesItsId damage.kind damage.id → IsDamageAs (asked_of asked) damage)
    → IsTreeFault before now tells named kind asked most_blocks fault → IsFaultAs (asked_of asked) fault
tree_as asked before now tells named kind Store tree damaged cause = tt
tree_as asked before now tells named kind NoFile tree damaged cause = tt
tree_as asked before now tells named kind (TooLarge number limit) tree damaged cause = tt
tree_as asked before now tells named kind Memory tree damaged cause = tt
tree_as asked before now tells named kind (FormatMismatch found) tree damaged cause = (tree, asked_some asked _ cause.0)
tree_as asked before now tells named kind (Damage damage) tree damaged cause = damaged damage cause.0
tree_as asked before now tells named kind _ tree damaged cause = tree

pub open_as : (before now : ℕ) (tells : Bool) (named : Option (List ℕ)) (kind : Kind) (asked : Asked)
    (fault : OpenFault) → IsOpenFault before now tells named kind asked fault
    → IsFaultAs asked fault
open_as before now tells named kind AnyTree fault cause =
    tree_as None before now tells named kind fault refl (λ damage names. names) cause
open_as before now tells named kind (InFormat format) fault cause = elim (cases_Bool (is_flat format)) [
  | inl flat ↦ flat_as format before now tells named fault (λ damage is. as_if true format damage flat is)
      (subst (λ (b : Bool). MatchBool b (IsFlatFault format before now tells named fault)
      (IsTreeFault before now tells named kind (Some format) most_blocks fault)) flat cause)
  | inr tree ↦ tree_as (Some format) before now tells named kind fault (ap not tree)
      (λ damage names. as_if false format damage tree names)
      (subst (λ (b : Bool). MatchBool b (IsFlatFault format before now tells named fault)
      (IsTreeFault before now tells named kind (Some format) most_blocks fault)) tree cause)
]
  where
    as_if : (flat : Bool) (format : Format) (damage : Damaged) → is_flat format ≡ flat
        → MatchBool flat ((damage.kind ≡ PartialRecord) × (damage.id ≡ 0)) (NamesItsId damage.kind damage.id)
        → IsDamageAs (InFormat format) damage
    as_if flat format damage is names =
        subst (λ (b : Bool).
        MatchBool b ((damage.kind ≡ PartialRecord) × (damage.id ≡ 0)) (NamesItsId damage.kind damage.id)) (sym is) names
