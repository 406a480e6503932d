-- What a format keeps of a record: it fits, is kept again as it is, and is null where the record is.
use Rattle.std.proofs.Common.{◌≡◌, ℕ, ◌*◌, None, ◌⊎◌, arith}
use Rattle.quota_types.specs.declared.file_kind.Format.{Format}
use Rattle.quota_types.specs.declared.file_kind.Format.TheVariants.{V1, V1R32, V2R0, V2R1}
use Rattle.quota_types.specs.declared.record.Rec.{Rec}
use Rattle.quota_types.specs.Kept.{IsKept, kept_of, without_marker}
use Rattle.quota_types.specs.Range.{unfit}
use Rattle.quota_types.specs.Rec.{is_null_of, kib_of}

-- whole KiB are rounded up to themselves
pub kib_of-whole : (kib : ℕ) → kib_of (1024 * kib) ≡ kib
kib_of-whole kib = omega arith

pub kept_again : (format : Format) (id : ℕ) (rec : Rec)
    → kept_of format id (kept_of format id rec) ≡ kept_of format id rec
kept_again V1 id rec = grind (arith, kib_of-whole)
kept_again V1R32 id rec = grind (arith, kib_of-whole)
kept_again V2R0 id rec = grind arith
kept_again V2R1 id rec = grind arith

pub kept_fits : (format : Format) (id : ℕ) (rec : Rec) → unfit format id rec ≡ None
    → unfit format id (kept_of format id rec) ≡ None
kept_fits V1 id rec e = grind (arith, kib_of-whole)
kept_fits V1R32 id rec e = grind (arith, kib_of-whole)
kept_fits V2R0 id rec e = grind arith
kept_fits V2R1 id rec e = grind arith

pub kept_null : (format : Format) (id : ℕ) (rec : Rec) → is_null_of (kept_of format id rec) ≡ is_null_of rec
kept_null V1 id rec = grind arith
kept_null V1R32 id rec = grind arith
kept_null V2R0 id rec = grind arith
kept_null V2R1 id rec = grind arith

-- what is kept of a record that fits is kept as it is
pub kept_is_kept : (format : Format) (id : ℕ) (rec : Rec) → unfit format id rec ≡ None
    → IsKept format id (kept_of format id rec)
kept_is_kept format id rec fits = record { fits = kept_fits format id rec fits; again = kept_again format id rec }

-- a tree file keeps a record without the marker
pub tree_keeps : (format : Format) → (format ≡ V2R0) ⊎ (format ≡ V2R1) → (id : ℕ) (rec : Rec)
    → without_marker id rec ≡ kept_of format id rec
tree_keeps format tree id rec = grind arith
