-- What is read of a file that was opened.
use Rattle.std.proofs.Common.{◌≡◌, ℕ, Bool, true, false, IsTrue, List, Option, None, Some, Ok, refl, sym, ap, subst}
use Rattle.std.proofs.Common.{◌∙◌}
use Rattle.std.specs.Prelude.{All}
use Rattle.quota_types.specs.declared.file_kind.Format.{Format}
use Rattle.quota_types.specs.declared.file_kind.Format.TheVariants.{V1, V1R32, V2R0, V2R1}
use Rattle.quota_types.specs.declared.file_kind.Kind.{Kind}
use Rattle.quota_types.specs.declared.record.Entry.{Entry}
use Rattle.quota_types.specs.declared.record.Grace.{Grace}
use Rattle.quota_types.specs.Kept.{IsKept}
use Rattle.quota_types.specs.Range.{grace_unfit}
use Rattle.quota_value.specs.Listed.{records_of, value_of}
use Rattle.quota_value.specs.QuotaValue.{QuotaValue, Records}
use Rattle.quota_map.specs.Asked.{InFormat}
use Rattle.quota_map.specs.View.{IsView}
use Rattle.quota_map.proofs.SeenLemmas.{view_kind}
use Rattle.convert.specs.Source.{HasRead}
use Rattle.convert.proofs.ValueLemmas.{records_kept}

-- a value that is seen is one of the format that was asked for
view_format : (named : Option (List ℕ)) (kind : Kind) (format : Format) (value : QuotaValue)
    → IsView named kind (InFormat format) (Ok value) → value.format ≡ format
view_format None kind V1 value view = absurd view.0
view_format None kind V1R32 value view = absurd view.0
view_format None kind V2R0 value view = absurd view.0
view_format None kind V2R1 value view = absurd view.0
view_format (Some file) kind V1 value view = view.0.1.format
view_format (Some file) kind V1R32 value view = view.0.1.format
view_format (Some file) kind V2R0 value view = sym view.2
view_format (Some file) kind V2R1 value view = sym view.2

-- and has the flags of the file
view_flags : (named : Option (List ℕ)) (kind : Kind) (format : Format) (value other : QuotaValue)
    → IsView named kind (InFormat format) (Ok value) → IsView named kind (InFormat format) (Ok other)
    → other.flags ≡ value.flags
view_flags None kind V1 value other view also = absurd view.0
view_flags None kind V1R32 value other view also = absurd view.0
view_flags None kind V2R0 value other view also = absurd view.0
view_flags None kind V2R1 value other view also = absurd view.0
view_flags (Some file) kind V1 value other view also = also.0.1.flags ∙ sym view.0.1.flags
view_flags (Some file) kind V1R32 value other view also = also.0.1.flags ∙ sym view.0.1.flags
view_flags (Some file) kind V2R0 value other view also = also.0.1.flags ∙ sym view.0.1.flags
view_flags (Some file) kind V2R1 value other view also = also.0.1.flags ∙ sym view.0.1.flags

-- a value with these parts
same_value : (kind : Kind) (format : Format) (grace : Grace) (flags : ℕ) (list : List Entry) (value : QuotaValue)
    → value.kind ≡ kind → value.format ≡ format → grace ≡ value.grace → value.flags ≡ flags
    → records_of list ≡ value.records → value ≡ value_of kind format grace flags list
same_value kind format grace flags list value k f g fl r =
    ap (λ (x : Kind). the x value.format value.grace value.flags value.records) k
    ∙ ap (λ (x : Format). the kind x value.grace value.flags value.records) f
    ∙ ap (λ (x : Grace). the kind format x value.flags value.records) (sym g)
    ∙ ap (λ (x : ℕ). the kind format grace x value.records) fl
    ∙ ap (λ (x : Records). the kind format grace flags x) (sym r)
  where
    the : Kind → Format → Grace → ℕ → Records → QuotaValue
    the kind format grace flags records =
        record { kind = kind; format = format; grace = grace; flags = flags; records = records }

-- what was read of an opened file
pub read_of : (tells : Bool) (named : Option (List ℕ)) (kind : Kind) (format : Format) (grace : Grace)
    (list : List Entry)
    → (IsTrue tells → (value : QuotaValue) × IsView named kind (InFormat format) (Ok value))
    → (IsTrue tells → (value : QuotaValue) → IsView named kind (InFormat format) (Ok value)
    → (grace ≡ value.grace) × (records_of list ≡ value.records))
    → grace_unfit format grace ≡ None → All (λ (entry : Entry). IsKept format entry.id entry.rec) list
    → (flags : ℕ) × HasRead tells named kind format (value_of kind format grace flags list)
read_of true named kind format grace list seen held fits kept =
    let found = seen refl in
    let flags : ℕ = found.0.flags in
    let is : (other : QuotaValue) → IsView named kind (InFormat format) (Ok other)
    → other ≡ value_of kind format grace flags list =
    λ other view. same_value kind format grace flags list other (view_kind named kind (InFormat format) other view)
    (view_format named kind format other view) (held refl other view).0
    (view_flags named kind format found.0 other found.1 view) (held refl other view).1 in (
      flags,
      record {
        seen = λ told.
            subst (λ (value : QuotaValue). IsView named kind (InFormat format) (Ok value)) (is found.0 found.1) found.1;
        alone = λ told. is;
        kind_is = refl;
        format_is = refl;
        grace = fits;
        kept = records_kept format list kept;
      },
    )
read_of false named kind format grace list seen held fits kept = (
  0,
  record {
    seen = λ told. absurd (cc);
    alone = λ told. absurd (cc);
    kind_is = refl;
    format_is = refl;
    grace = fits;
    kept = records_kept format list kept;
  },
)
