-- A format is one of trees where it has entries, or a version.
use Rattle.std.proofs.Common.{◌≡◌, ℕ, ◌<◌, Bool, ◌==◌, if◌then◌else◌, List, Some, None, inl, inr, refl, sym, ap, subst}
use Rattle.std.proofs.Common.{◌∙◌, arith, ne_eqb}
use Rattle.std.proofs.lemmas.Bool.{cases_eq}
use Rattle.std.proofs.lemmas.Option.{same_Some}
use Rattle.quota_types.specs.Format.{IsTreeFormat}
use Rattle.quota_types.specs.declared.file_kind.Format.{Format}
use Rattle.quota_types.specs.declared.file_kind.Format.TheVariants.{V1, V1R32, V2R0, V2R1}
use Rattle.quota_types.specs.declared.record.Rec.{Rec}
use Rattle.entry_codec.specs.Entry.{entries_per_block}
use Rattle.entry_codec.specs.Header.{format_of}
use Rattle.byte_order.specs.declared.order.Order.{Order}
use Rattle.entry_codec.specs.Spelling.{IsEntryIn}

-- bytes spell an entry of it
pub entry_tree : (order : Order) (format : Format) (bytes : List ℕ) (id : ℕ) (rec : Rec)
    → IsEntryIn order format bytes id rec
    → IsTreeFormat format
entry_tree order V1 bytes id rec entry = absurd entry
entry_tree order V1R32 bytes id rec entry = absurd entry
entry_tree order V2R0 bytes id rec entry = refl
entry_tree order V2R1 bytes id rec entry = refl

-- a block of it has places for entries
pub places_tree : (format : Format) (place : ℕ) → place < entries_per_block format → IsTreeFormat format
places_tree V1 place low = absurd (omega (arith, low))
places_tree V1R32 place low = absurd (omega (arith, low))
places_tree V2R0 place low = refl
places_tree V2R1 place low = refl

-- it has a version
pub version_tree : (format : Format) (version : ℕ) → format_of version ≡ Some format → IsTreeFormat format
version_tree format version is = elim (cases_eq version 0) [
  | inl zero ↦ subst IsTreeFormat (same_Some V2R0 format (sym (ap format_of zero) ∙ is)) refl
  | inr more ↦ elim (cases_eq version 1) [
    | inl one ↦ subst IsTreeFormat (same_Some V2R1 format (sym (ap format_of one) ∙ is)) refl
    | inr other ↦ absurd (
        let no : None ≡ Some format =
        sym
        (ap (λ (b : Bool). if b then Some V2R0 else if version == 1 then Some V2R1 else None) (ne_eqb version 0 more)
        ∙ ap (λ (b : Bool). if b then Some V2R1 else None) (ne_eqb version 1 other)) ∙ is in
        cc)
  ]
]
