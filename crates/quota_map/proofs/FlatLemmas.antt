-- A flat file that was built from a list.
use Rattle.std.proofs.Common.{◌≡◌, ◌≤◌, ◌⊎◌, ℕ, Bool, true, inl, inr, if◌then◌else◌, List, length, Ok, Some, refl, sym}
use Rattle.std.proofs.Common.{ap, subst}
use Rattle.std.specs.Prelude.{MatchBool}
use Rattle.quota_types.specs.Format.{is_flat}
use Rattle.quota_types.specs.declared.file_kind.Format.{Format}
use Rattle.quota_types.specs.declared.file_kind.Format.TheVariants.{V1, V1R32}
use Rattle.quota_types.specs.declared.file_kind.Kind.{Kind}
use Rattle.quota_types.specs.declared.record.Entry.{Entry}
use Rattle.quota_types.specs.declared.record.Grace.{Grace}
use Rattle.quota_value.specs.Listed.{value_of}
use Rattle.tree_meaning.specs.TreeFile.{TreeStandsFor}
use Rattle.quota_v1.specs.FlatFile.{FlatStandsFor}
use Rattle.quota_v1.specs.Place.{flat_limit}
use Rattle.quota_map.specs.Asked.{InFormat}
use Rattle.quota_map.specs.Replacing.{flags_in}
use Rattle.quota_map.specs.StandsFor.{StandsFor}
use Rattle.quota_map.specs.View.{IsView}
use Rattle.quota_map.proofs.ViewLemmas.{seen_flat}

-- the flat formats are these
pub flat_case : (format : Format) → (format ≡ V1) ⊎ (format ≡ V1R32) → is_flat format ≡ true
flat_case format (inl is) = ap is_flat is
flat_case format (inr is) = ap is_flat is

-- a flat file is given no flags
no_flags : (format : Format) (flags : ℕ) → is_flat format ≡ true → flags_in format flags ≡ 0
no_flags format flags flat = ap (λ (b : Bool). if b then 0 else flags) flat

-- it stands for its list
pub flat_built : (format : Format) (kind : Kind) (grace : Grace) (flags : ℕ) (list : List Entry) (file : List ℕ)
    → is_flat format ≡ true → FlatStandsFor format file (value_of kind format grace 0 list)
    → StandsFor file (value_of kind format grace (flags_in format flags) list)
flat_built format kind grace flags list file flat stands =
    subst (λ (n : ℕ). StandsFor file (value_of kind format grace n list)) (sym (no_flags format flags flat))
    (subst (λ (b : Bool). MatchBool b (FlatStandsFor format file (value_of kind format grace 0 list))
    (TreeStandsFor file (value_of kind format grace 0 list))) (sym flat) stands)

-- and is seen as that, where it has no more bytes than it may have
pub flat_built_seen : (format : Format) (kind : Kind) (grace : Grace) (flags : ℕ) (list : List Entry) (file : List ℕ)
    → is_flat format ≡ true → length file ≤ flat_limit format
    → FlatStandsFor format file (value_of kind format grace 0 list)
    → IsView (Some file) kind (InFormat format) (Ok (value_of kind format grace (flags_in format flags) list))
flat_built_seen format kind grace flags list file flat few stands =
    subst (λ (n : ℕ). IsView (Some file) kind (InFormat format) (Ok (value_of kind format grace n list)))
    (sym (no_flags format flags flat))
    (seen_flat (Some file) kind format (Ok (value_of kind format grace 0 list)) flat ((few, stands), refl))
