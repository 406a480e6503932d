-- What is seen of a flat file while it is opened.
use Rattle.std.proofs.Common.{◌≡◌, ℕ, ◌%◌, ◌≤◌, List, length, Option, Some, None, Ok, Err, sym, subst, arith}
use Rattle.std.specs.Option.{IsSomeAnd}
use Rattle.std.proofs.lemmas.Option.{none-some}
use Rattle.quota_types.specs.Format.{record_size}
use Rattle.quota_types.specs.declared.file_kind.Format.{Format}
use Rattle.quota_types.specs.declared.file_kind.Kind.{Kind}
use Rattle.quota_value.specs.QuotaValue.{QuotaValue}
use Rattle.opened_file.specs.declared.quota_file.OpenFault.{OpenFault}
use Rattle.opened_file.specs.declared.quota_file.OpenFault.TheVariants.{Store, NoFile, TooLarge, Memory, NotQuota}
use Rattle.opened_file.specs.declared.quota_file.OpenFault.TheVariants.{WrongKind, UnknownVersion, BadBlockCount}
use Rattle.opened_file.specs.declared.quota_file.OpenFault.TheVariants.{FormatMismatch, Damage}
use Rattle.quota_v1.specs.FlatFile.{FlatStandsFor}
use Rattle.quota_v1.specs.Place.{flat_limit}
use Rattle.quota_v1.specs.View.{IsFlatView}
use Rattle.quota_v1.proofs.FlatLemmas.{flat_value, flat_value-kind, stands_for_value}

-- a file of whole records that is not too large is seen as its value
pub value_seen : (format : Format) (named : Option (List ℕ)) (kind : Kind) (file : List ℕ) → named ≡ Some file
    → length file ≤ flat_limit format → length file % record_size format ≡ 0
    → (value : QuotaValue) × IsFlatView format named kind (Ok value)
value_seen format named kind file is few whole = (
  flat_value kind format file,
  (
    subst (λ (n : Option (List ℕ)). IsSomeAnd n
        (λ (f : List ℕ). (length f ≤ flat_limit format) × FlatStandsFor format f (flat_value kind format file)))
        (sym is) (few, stands_for_value kind format file whole),
    flat_value-kind kind format file,
  ),
)

-- a file is not both seen as a value and refused
pub seen_or_refused : (format : Format) (named : Option (List ℕ)) (kind : Kind) (value : QuotaValue) (fault : OpenFault)
    → IsFlatView format named kind (Ok value) → IsFlatView format named kind (Err fault) → ⊥
seen_or_refused format None kind value fault seen refused = absurd seen.0
seen_or_refused format (Some file) kind value Store seen refused = refused
seen_or_refused format (Some file) kind value NoFile seen refused = none-some file (sym refused)
seen_or_refused format (Some file) kind value (TooLarge number limit) seen refused =
    omega (arith, seen.0.0, refused.0.0)
seen_or_refused format (Some file) kind value Memory seen refused = refused
seen_or_refused format (Some file) kind value NotQuota seen refused = refused
seen_or_refused format (Some file) kind value WrongKind seen refused = refused
seen_or_refused format (Some file) kind value UnknownVersion seen refused = refused
seen_or_refused format (Some file) kind value BadBlockCount seen refused = refused
seen_or_refused format (Some file) kind value (FormatMismatch found) seen refused = refused
seen_or_refused format (Some file) kind value (Damage damage) seen refused = refused.1.cut seen.0.1.whole
