-- A file is seen in one way at most, unless it is damaged.
use Rattle.std.proofs.Common.{◌≡◌, ◌≢◌, ℕ, ◌<◌, ◌≤◌, Bool, true, false, if◌then◌else◌, List, length, Option, None, Some}
use Rattle.std.proofs.Common.{Ok, Err, Result, refl, sym, ap, ◌∙◌, arith}
use Rattle.std.specs.Prelude.{nat_lt, MatchBool}
use Rattle.std.proofs.lemmas.Bool.Decides.{nat_tests}
use Rattle.std.proofs.lemmas.Option.{none-some, same_Some}
use Rattle.quota_types.specs.Format.{is_flat}
use Rattle.quota_types.specs.declared.file_kind.Format.{Format}
use Rattle.quota_types.specs.declared.file_kind.Format.TheVariants.{V1, V1R32, V2R0, V2R1}
use Rattle.quota_types.specs.declared.file_kind.Kind.{Kind}
use Rattle.quota_value.specs.QuotaValue.{QuotaValue}
use Rattle.opened_file.specs.declared.quota_file.OpenFault.{OpenFault}
use Rattle.opened_file.specs.declared.quota_file.OpenFault.TheVariants.{Store, NoFile, TooLarge, Memory, NotQuota}
use Rattle.opened_file.specs.declared.quota_file.OpenFault.TheVariants.{WrongKind, UnknownVersion, BadBlockCount}
use Rattle.opened_file.specs.declared.quota_file.OpenFault.TheVariants.{FormatMismatch, Damage as Damaged}
use Rattle.entry_codec.specs.Header.{HeaderNumbers, format_of, header_fault, header_of}
use Rattle.entry_codec.specs.declared.header.HeaderFault.{HeaderFault}
use Rattle.entry_codec.specs.declared.header.HeaderFault.TheVariants.{NotQuota as NoMagic, WrongKind as OtherKind}
use Rattle.entry_codec.specs.declared.header.HeaderFault.TheVariants.{UnknownVersion as OtherVersion}
use Rattle.entry_codec.specs.declared.header.HeaderFault.TheVariants.{BadBlockCount as FewBlocks}
use Rattle.tree_file.specs.View.{HasHeader, IsAsAsked, IsTreeView}
use Rattle.quota_v1.specs.Place.{flat_limit}
use Rattle.quota_v1.specs.View.{IsFlatView}
use Rattle.quota_map.specs.Asked.{AnyTree, Asked, InFormat}
use Rattle.quota_map.specs.View.{IsView, most_blocks, IsNoDamage}
use Rattle.quota_map.proofs.SeenLemmas.{view_or_refused}
use Rattle.quota_map.proofs.SeenOnceLemmas.{seen_once}

-- The refusal that a header gives, where it gives one.

-- that of a number of blocks
abbrev by_blocks : (limit blocks : ℕ) → Option OpenFault
by_blocks limit blocks = if nat_lt limit blocks then Some (TooLarge blocks limit) else None

-- that of a format, and otherwise of the number of blocks
abbrev by_format : Option Format → Format → (limit blocks : ℕ) → Option OpenFault
by_format None found limit blocks = by_blocks limit blocks
by_format (Some V1) V1 limit blocks = by_blocks limit blocks
by_format (Some V1R32) V1R32 limit blocks = by_blocks limit blocks
by_format (Some V2R0) V2R0 limit blocks = by_blocks limit blocks
by_format (Some V2R1) V2R1 limit blocks = by_blocks limit blocks
by_format (Some wanted) found limit blocks = Some (FormatMismatch found)

-- that of a version
abbrev by_version : Option Format → Option Format → (limit blocks : ℕ) → Option OpenFault
by_version asked None limit blocks = None
by_version asked (Some found) limit blocks = by_format asked found limit blocks

-- that of a fault of the header, and otherwise the one that comes later
abbrev by_fault : Option HeaderFault → Option OpenFault → Option OpenFault
by_fault None later = later
by_fault (Some NoMagic) later = Some NotQuota
by_fault (Some OtherKind) later = Some WrongKind
by_fault (Some OtherVersion) later = Some UnknownVersion
by_fault (Some FewBlocks) later = Some BadBlockCount

-- that of a header
abbrev by_header : Kind → Option Format → (limit : ℕ) → HeaderNumbers → Option OpenFault
by_header kind asked limit numbers =
    by_fault (header_fault kind numbers) (by_version asked (format_of numbers.version) limit numbers.blocks)

many_blocks : (limit blocks : ℕ) → limit < blocks → by_blocks limit blocks ≡ Some (TooLarge blocks limit)
many_blocks limit blocks many =
    let is : nat_lt limit blocks ≡ true = grind (arith, nat_tests) in
    ap (λ (b : Bool). if b then Some (TooLarge blocks limit) else None) is

few_blocks : (limit blocks : ℕ) → blocks ≤ limit → by_blocks limit blocks ≡ None
few_blocks limit blocks few =
    let is : nat_lt limit blocks ≡ false = grind (arith, nat_tests) in
    ap (λ (b : Bool). if b then Some (TooLarge blocks limit) else None) is

format_asked : (asked : Option Format) (found : Format) (limit blocks : ℕ) → IsAsAsked asked found
    → by_format asked found limit blocks ≡ by_blocks limit blocks
format_asked None found limit blocks is = refl
format_asked (Some V1) V1 limit blocks is = refl
format_asked (Some V1R32) V1R32 limit blocks is = refl
format_asked (Some V2R0) V2R0 limit blocks is = refl
format_asked (Some V2R1) V2R1 limit blocks is = refl
format_asked (Some wanted) found limit blocks is = absurd (cc)

format_differs : (wanted found : Format) (limit blocks : ℕ) → wanted ≢ found
    → by_format (Some wanted) found limit blocks ≡ Some (FormatMismatch found)
format_differs V1 V1 limit blocks differ = absurd (differ refl)
format_differs V1R32 V1R32 limit blocks differ = absurd (differ refl)
format_differs V2R0 V2R0 limit blocks differ = absurd (differ refl)
format_differs V2R1 V2R1 limit blocks differ = absurd (differ refl)
format_differs wanted found limit blocks differ = refl

-- a header of the kind and of a known version is refused for its format or its number of blocks alone
header_known : (kind : Kind) (asked : Option Format) (limit : ℕ) (numbers : HeaderNumbers) (found : Format)
    → HasHeader kind numbers found → by_header kind asked limit numbers ≡ by_format asked found limit numbers.blocks
header_known kind asked limit numbers found has =
    ap (λ (f : Option HeaderFault).
    by_fault f (by_version asked (format_of numbers.version) limit numbers.blocks)) has.accepted
    ∙ ap (λ (v : Option Format). by_version asked v limit numbers.blocks) has.version

-- Tree files.

header_decides : (kind : Kind) (asked : Option Format) (limit : ℕ) (file : List ℕ) (fault : OpenFault)
    → IsNoDamage (Err fault) → IsTreeView (Some file) kind asked limit (Err fault)
    → by_header kind asked limit (header_of file) ≡ Some fault
header_decides kind asked limit file Store undamaged seen = absurd seen
header_decides kind asked limit file NoFile undamaged seen = absurd (none-some file (sym seen))
header_decides kind asked limit file (TooLarge number most) undamaged seen =
    header_known kind asked limit (header_of file) seen.1.format seen.1.header
    ∙ format_asked asked seen.1.format limit (header_of file).blocks seen.1.as_asked
    ∙ many_blocks limit (header_of file).blocks seen.1.many
    ∙ ap (λ (n : ℕ). Some (TooLarge n limit)) (sym seen.1.exactly)
    ∙ ap (λ (n : ℕ). Some (TooLarge number n)) (sym seen.0.0)
header_decides kind asked limit file Memory undamaged seen = absurd seen
header_decides kind None limit file (FormatMismatch found) undamaged seen = absurd seen.0
header_decides kind (Some wanted) limit file (FormatMismatch found) undamaged seen =
    header_known kind (Some wanted) limit (header_of file) found seen.1
    ∙ format_differs wanted found limit (header_of file).blocks seen.0
header_decides kind asked limit file (Damaged damage) undamaged seen = absurd undamaged
header_decides kind asked limit file _ undamaged seen = ap (λ (f : Option HeaderFault). by_fault f
    (by_version asked (format_of (header_of file).version) limit (header_of file).blocks)) seen.1

-- the header of a damaged file gives no refusal
header_passes : (kind : Kind) (asked : Option Format) (limit : ℕ) (file : List ℕ) (damage : _)
    → IsTreeView (Some file) kind asked limit (Err (Damaged damage))
    → by_header kind asked limit (header_of file) ≡ None
header_passes kind asked limit file damage seen =
    header_known kind asked limit (header_of file) seen.1.format seen.1.header
    ∙ format_asked asked seen.1.format limit (header_of file).blocks seen.1.as_asked
    ∙ few_blocks limit (header_of file).blocks seen.1.few

one_tree_refusal : (kind : Kind) (asked : Option Format) (limit : ℕ) (file : List ℕ) (fault other : OpenFault)
    → IsNoDamage (Err fault)
    → IsTreeView (Some file) kind asked limit (Err fault)
    → IsTreeView (Some file) kind asked limit (Err other) → fault ≡ other
one_tree_refusal kind asked limit file fault (Damaged damage) undamaged seen also =
    absurd (none-some fault
    (sym (header_passes kind asked limit file damage also) ∙ header_decides kind asked limit file fault undamaged seen))
one_tree_refusal kind asked limit file fault other undamaged seen also =
    same_Some fault other
    (sym (header_decides kind asked limit file fault undamaged seen)
    ∙ header_decides kind asked limit file other tt also)

-- where there is no file, that is the refusal
tree_absent : (kind : Kind) (asked : Option Format) (limit : ℕ) (fault : OpenFault)
    → IsTreeView None kind asked limit (Err fault) → fault ≡ NoFile
tree_absent kind asked limit Store seen = absurd seen
tree_absent kind asked limit NoFile seen = refl
tree_absent kind asked limit Memory seen = absurd seen
tree_absent kind asked limit _ seen = absurd seen.1

tree_refused_once : (named : Option (List ℕ)) (kind : Kind) (asked : Option Format) (fault other : OpenFault)
    → IsNoDamage (Err fault)
    → IsTreeView named kind asked most_blocks (Err fault)
    → IsTreeView named kind asked most_blocks (Err other) → fault ≡ other
tree_refused_once None kind asked fault other undamaged seen also =
    tree_absent kind asked most_blocks fault seen ∙ sym (tree_absent kind asked most_blocks other also)
tree_refused_once (Some file) kind asked fault other undamaged seen also =
    one_tree_refusal kind asked most_blocks file fault other undamaged seen also

-- Flat files.

flat_absent : (format : Format) (kind : Kind) (fault : OpenFault) → IsFlatView format None kind (Err fault)
    → fault ≡ NoFile
flat_absent format kind NoFile seen = refl
flat_absent format kind (TooLarge number limit) seen = absurd seen.0
flat_absent format kind _ seen = absurd seen

-- a flat file that is there is refused for its length alone, unless it is damaged
flat_refused : (format : Format) (kind : Kind) (file : List ℕ) (fault : OpenFault) → IsNoDamage (Err fault)
    → IsFlatView format (Some file) kind (Err fault)
    → (fault ≡ TooLarge (length file) (flat_limit format)) × (flat_limit format < length file)
flat_refused format kind file NoFile undamaged seen = absurd (none-some file (sym seen))
flat_refused format kind file (TooLarge number limit) undamaged seen =
    (ap (λ (n : ℕ). TooLarge n limit) seen.0.1 ∙ ap (λ (n : ℕ). TooLarge (length file) n) seen.1, seen.0.0)
flat_refused format kind file (Damaged damage) undamaged seen = absurd undamaged
flat_refused format kind file _ undamaged seen = absurd seen

one_flat_refusal : (format : Format) (kind : Kind) (file : List ℕ) (fault other : OpenFault) → IsNoDamage (Err fault)
    → IsFlatView format (Some file) kind (Err fault) → IsFlatView format (Some file) kind (Err other) → fault ≡ other
one_flat_refusal format kind file fault (Damaged damage) undamaged seen also =
    absurd (omega (arith, (flat_refused format kind file fault undamaged seen).1, also.0))
one_flat_refusal format kind file fault other undamaged seen also =
    (flat_refused format kind file fault undamaged seen).0 ∙ sym (flat_refused format kind file other tt also).0

flat_refused_once : (format : Format) (named : Option (List ℕ)) (kind : Kind) (fault other : OpenFault)
    → IsNoDamage (Err fault) → IsFlatView format named kind (Err fault)
    → IsFlatView format named kind (Err other) → fault ≡ other
flat_refused_once format None kind fault other undamaged seen also =
    flat_absent format kind fault seen ∙ sym (flat_absent format kind other also)
flat_refused_once format (Some file) kind fault other undamaged seen also =
    one_flat_refusal format kind file fault other undamaged seen also

-- Files of all formats.

refused_once : (named : Option (List ℕ)) (kind : Kind) (asked : Asked) (fault other : OpenFault)
    → IsNoDamage (Err fault) → IsView named kind asked (Err fault) → IsView named kind asked (Err other) → fault ≡ other
refused_once named kind AnyTree fault other undamaged seen also =
    tree_refused_once named kind None fault other undamaged seen also
refused_once named kind (InFormat format) fault other undamaged seen also =
    refused_if (is_flat format) format named kind fault other undamaged seen also
  where
    refused_if : (flat : Bool) (format : Format) (named : Option (List ℕ)) (kind : Kind) (fault other : OpenFault)
        → IsNoDamage (Err fault)
        → MatchBool flat (IsFlatView format named kind (Err fault))
        (IsTreeView named kind (Some format) most_blocks (Err fault))
        → MatchBool flat (IsFlatView format named kind (Err other))
        (IsTreeView named kind (Some format) most_blocks (Err other)) → fault ≡ other
    refused_if true format named kind fault other undamaged seen also =
        flat_refused_once format named kind fault other undamaged seen also
    refused_if false format named kind fault other undamaged seen also =
        tree_refused_once named kind (Some format) fault other undamaged seen also

-- a file that is seen undamaged is seen in no other way
pub one_view : (named : Option (List ℕ)) (kind : Kind) (asked : Asked) (view other : Result QuotaValue OpenFault)
    → IsNoDamage view → IsView named kind asked view → IsView named kind asked other → view ≡ other
one_view named kind asked (Ok value) (Ok other) undamaged seen also =
    ap (λ (v : QuotaValue). Ok v) (seen_once named kind asked value other seen also)
one_view named kind asked (Ok value) (Err fault) undamaged seen also =
    absurd (view_or_refused named kind asked value fault seen also)
one_view named kind asked (Err fault) (Ok value) undamaged seen also =
    absurd (view_or_refused named kind asked value fault also seen)
one_view named kind asked (Err fault) (Err other) undamaged seen also =
    ap (λ (f : OpenFault). Err f) (refused_once named kind asked fault other undamaged seen also)
