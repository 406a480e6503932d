-- What is seen of a quota file of any format, and of one that is opened.
use Rattle.std.proofs.Common.{◌≡◌, ℕ, ◌<◌, ◌≤◌, Bool, IsTrue, List, length, Option, Some, None, Ok, Err, refl, sym}
use Rattle.std.proofs.Common.{subst, ap, ◌∙◌, arith}
use Rattle.std.specs.Prelude.{⊤, MatchBool, true, false, if◌then◌else◌}
use Rattle.std.specs.Option.{IsSomeAnd}
use Rattle.std.proofs.lemmas.Option.{none-some, same_Some}
use Rattle.std.proofs.lemmas.Bool.Decides.{nat_tests}
use Rattle.quota_types.specs.Format.{IsTreeFormat, is_flat}
use Rattle.quota_types.specs.declared.file_kind.Format.{Format}
use Rattle.quota_types.specs.declared.file_kind.Format.TheVariants.{V2R0, V2R1}
use Rattle.quota_types.specs.declared.file_kind.Kind.{Kind}
use Rattle.outside.specs.Count.{Rose}
use Rattle.quota_value.specs.QuotaValue.{QuotaValue}
use Rattle.opened_file.specs.declared.quota_file.OpenFault.{OpenFault}
use Rattle.opened_file.specs.declared.quota_file.OpenFault.TheVariants.{Store, NoFile, TooLarge, Memory, NotQuota}
use Rattle.opened_file.specs.declared.quota_file.OpenFault.TheVariants.{WrongKind, UnknownVersion, BadBlockCount}
use Rattle.opened_file.specs.declared.quota_file.OpenFault.TheVariants.{FormatMismatch, Damage as Damaged}
use Rattle.entry_codec.specs.Header.{HeaderNumbers, format_of, header_fault, header_of, magic_of}
use Rattle.tree_meaning.specs.TreeFile.{IsSoundIn, TreeStandsFor, TreeStandsForIn}
use Rattle.quota_pages.specs.Pages.{name_of}
use Rattle.entry_codec.specs.declared.header.Header.{Header}
use Rattle.tree_file.specs.Opened.{HoldsTree}
use Rattle.tree_file.specs.declared.coming.Coming.{Coming}
use Rattle.tree_file.specs.View.{FitsRequest, IsAsAsked, IsRefusedFor, IsTreeView, IsTreeViewIn}
use Rattle.tree_file.specs.TreeCalls.{IsTreeFault}
use Rattle.byte_order.specs.declared.order.Order.{Order}
use Rattle.byte_order.specs.declared.order.Order.TheVariants.{Little}
use Rattle.byte_order.specs.Words.{in_order}
use Rattle.tree_meaning.proofs.DefectLemmas.{no_defect_of_sound}
use Rattle.quota_types.specs.declared.record.Grace.{Grace}
use Rattle.quota_v1.specs.Opened.{HoldsFlat}
use Rattle.quota_v1.specs.declared.window.Window.{Window}
use Rattle.quota_v1.specs.View.{IsFlatView}
use Rattle.quota_v1.specs.FlatFaults.{IsFlatFault}
use Rattle.quota_v1.proofs.ViewLemmas.{seen_or_refused}
use Rattle.quota_map.specs.Asked.{AnyTree, Asked, InFormat}
use Rattle.quota_map.specs.AnyFile.{HoldsAny, any_seen}
use Rattle.quota_map.specs.View.{IsOpenFault, IsView, blocks_allowed, fresh_seen, most_blocks}
use Rattle.quota_map.specs.declared.any_file.AnyFile.{AnyFile}
use Rattle.quota_map.specs.declared.any_file.AnyFile.TheVariants.{V1 as FlatFile, Tree as TreeFile}
use Rattle.std.specs.String.{string_bytes}
use Rattle.opened_file.specs.FileSeen.{FileSeen}
use Rattle.outside.specs.World.{World}

-- a version that is known is below 2
known_version : (version : ℕ) (format : Format) → format_of version ≡ Some format → version < 2
known_version version format is = grind (arith, nat_tests)

-- the numbers of a header of a kind are not refused
not_refused : (kind : Kind) (numbers : HeaderNumbers) → numbers.magic ≡ magic_of kind → numbers.version < 2
    → 2 ≤ numbers.blocks → header_fault kind numbers ≡ None
not_refused kind numbers magic version two = grind (arith, nat_tests)

-- the header of a file that stands for a value is one of its kind
stands_header : (order : Order) (file : List ℕ) (value : QuotaValue) (kind : Kind) → TreeStandsForIn order file value
    → value.kind ≡ kind
    → header_fault kind (header_of (in_order order file)) ≡ None
stands_header order file value kind stands is =
    not_refused kind (header_of (in_order order file)) (stands.magic ∙ ap magic_of is)
    (known_version (header_of (in_order order file)).version value.format stands.version) stands.sound.two

-- what a refusal says of a file that stands for a value of the kind and the format that was asked for is not so
tree_refused : (order : Order) (kind : Kind) (asked : Option Format) (limit : ℕ) (file : List ℕ) (value : QuotaValue)
    (fault : OpenFault)
    → (header_of (in_order order file)).blocks ≤ limit → TreeStandsForIn order file value → value.kind ≡ kind
    → IsAsAsked asked value.format
    → FitsRequest asked limit fault → IsRefusedFor order kind asked limit fault file → ⊥
tree_refused order kind asked limit file value Store few stands is as_asked fits refused = refused
tree_refused order kind asked limit file value NoFile few stands is as_asked fits refused = refused
tree_refused order kind asked limit file value (TooLarge number most) few stands is as_asked fits refused =
    omega (arith, few, refused.many)
tree_refused order kind asked limit file value Memory few stands is as_asked fits refused = refused
tree_refused order kind asked limit file value NotQuota few stands is as_asked fits refused =
    none-some _ (sym (stands_header order file value kind stands is) ∙ refused)
tree_refused order kind asked limit file value WrongKind few stands is as_asked fits refused =
    none-some _ (sym (stands_header order file value kind stands is) ∙ refused)
tree_refused order kind asked limit file value UnknownVersion few stands is as_asked fits refused =
    none-some _ (sym (stands_header order file value kind stands is) ∙ refused)
tree_refused order kind asked limit file value BadBlockCount few stands is as_asked fits refused =
    none-some _ (sym (stands_header order file value kind stands is) ∙ refused)
tree_refused order kind None limit file value (FormatMismatch found) few stands is as_asked fits refused = fits
tree_refused order kind (Some wanted) limit file value (FormatMismatch found) few stands is as_asked fits refused =
    let same : Some value.format ≡ Some found = sym stands.version ∙ refused.version in
    let format : value.format ≡ found = cc in
    fits (as_asked ∙ format)
tree_refused order kind asked limit file value (Damaged damage) few stands is as_asked fits refused =
    let same : Some value.format ≡ Some refused.format = sym stands.version ∙ refused.header.version in
    let format : value.format ≡ refused.format = cc in
    no_defect_of_sound order refused.format file (header_of (in_order order file))
    (subst (λ (f : Format). IsSoundIn order f file (header_of (in_order order file))) format stands.sound) damage
    refused.defect

-- a tree file is not both seen as a value and refused
pub tree_seen_or_refused : (order : Order) (named : Option (List ℕ)) (kind : Kind) (asked : Option Format) (limit : ℕ)
    (value : QuotaValue)
    (fault : OpenFault)
    → IsTreeViewIn order named kind asked limit (Ok value) → IsTreeViewIn order named kind asked limit (Err fault) → ⊥
tree_seen_or_refused order None kind asked limit value fault seen refused = absurd seen.0
tree_seen_or_refused order (Some file) kind asked limit value Store seen refused = refused
tree_seen_or_refused order (Some file) kind asked limit value NoFile seen refused = none-some file (sym refused)
tree_seen_or_refused order (Some file) kind asked limit value Memory seen refused = refused
tree_seen_or_refused order (Some file) kind asked limit value (TooLarge number most) seen refused =
    tree_refused order kind asked limit file value (TooLarge number most) seen.0.0 seen.0.1 seen.1 seen.2
    refused.0 refused.1
tree_seen_or_refused order (Some file) kind asked limit value NotQuota seen refused =
    tree_refused order kind asked limit file value NotQuota seen.0.0 seen.0.1 seen.1 seen.2 refused.0 refused.1
tree_seen_or_refused order (Some file) kind asked limit value WrongKind seen refused =
    tree_refused order kind asked limit file value WrongKind seen.0.0 seen.0.1 seen.1 seen.2 refused.0 refused.1
tree_seen_or_refused order (Some file) kind asked limit value UnknownVersion seen refused =
    tree_refused order kind asked limit file value UnknownVersion seen.0.0 seen.0.1 seen.1 seen.2 refused.0 refused.1
tree_seen_or_refused order (Some file) kind asked limit value BadBlockCount seen refused =
    tree_refused order kind asked limit file value BadBlockCount seen.0.0 seen.0.1 seen.1 seen.2 refused.0 refused.1
tree_seen_or_refused order (Some file) kind asked limit value (FormatMismatch found) seen refused =
    tree_refused order kind asked limit file value (FormatMismatch found) seen.0.0 seen.0.1 seen.1 seen.2
    refused.0 refused.1
tree_seen_or_refused order (Some file) kind asked limit value (Damaged damage) seen refused =
    tree_refused order kind asked limit file value (Damaged damage) seen.0.0 seen.0.1 seen.1 seen.2 refused.0 refused.1

-- a file of any format is not both seen as a value and refused
pub view_or_refused : (named : Option (List ℕ)) (kind : Kind) (asked : Asked) (value : QuotaValue) (fault : OpenFault)
    → IsView named kind asked (Ok value) → IsView named kind asked (Err fault) → ⊥
view_or_refused named kind AnyTree value fault seen refused =
    tree_seen_or_refused Little named kind None most_blocks value fault seen refused
view_or_refused named kind (InFormat format) value fault seen refused =
    refused_if (is_flat format) format named kind value fault seen refused
  where
    refused_if : (flat : Bool) (format : Format) (named : Option (List ℕ)) (kind : Kind) (value : QuotaValue)
        (fault : OpenFault)
        → MatchBool flat (IsFlatView format named kind (Ok value))
        (IsTreeView named kind (Some format) most_blocks (Ok value))
        → MatchBool flat (IsFlatView format named kind (Err fault))
        (IsTreeView named kind (Some format) most_blocks (Err fault)) → ⊥
    refused_if true format named kind value fault seen refused =
        seen_or_refused format named kind value fault seen refused
    refused_if false format named kind value fault seen refused =
        tree_seen_or_refused Little named kind (Some format) most_blocks value fault seen refused

-- a fault of the store, or lack of memory
abbrev pub IsOfCall : OpenFault → Type 0
IsOfCall Store = ⊤
IsOfCall Memory = ⊤
IsOfCall _ = ⊥

tree_fault_seen : (before now : ℕ) (tells : Bool) (named : Option (List ℕ)) (kind : Kind) (asked : Option Format)
    (limit : ℕ) (fault : OpenFault)
    → IsTreeFault before now tells named kind asked limit fault → IsTrue tells → (IsOfCall fault → ⊥)
    → IsTreeView named kind asked limit (Err fault)
tree_fault_seen before now tells named kind asked limit Store cause told own = absurd (own tt)
tree_fault_seen before now tells named kind asked limit NoFile cause told own = cause told
tree_fault_seen before now tells named kind asked limit Memory cause told own = absurd (own tt)
tree_fault_seen before now tells named kind asked limit (TooLarge number most) cause told own = (cause.0, cause.1 told)
tree_fault_seen before now tells named kind asked limit NotQuota cause told own = (cause.0, cause.1 told)
tree_fault_seen before now tells named kind asked limit WrongKind cause told own = (cause.0, cause.1 told)
tree_fault_seen before now tells named kind asked limit UnknownVersion cause told own = (cause.0, cause.1 told)
tree_fault_seen before now tells named kind asked limit BadBlockCount cause told own = (cause.0, cause.1 told)
tree_fault_seen before now tells named kind asked limit (FormatMismatch found) cause told own = (cause.0, cause.1 told)
tree_fault_seen before now tells named kind asked limit (Damaged damage) cause told own = (cause.0, cause.1 told)

flat_fault_seen : (format : Format) (before now : ℕ) (tells : Bool) (named : Option (List ℕ)) (kind : Kind)
    (fault : OpenFault)
    → IsFlatFault format before now tells named fault → IsTrue tells → (IsOfCall fault → ⊥)
    → IsFlatView format named kind (Err fault)
flat_fault_seen format before now tells named kind Store cause told own = absurd (own tt)
flat_fault_seen format before now tells named kind NoFile cause told own = cause told
flat_fault_seen format before now tells named kind Memory cause told own = absurd (own tt)
flat_fault_seen format before now tells named kind (TooLarge number most) cause told own = (cause.1 told, cause.0)
flat_fault_seen format before now tells named kind NotQuota cause told own = absurd cause
flat_fault_seen format before now tells named kind WrongKind cause told own = absurd cause
flat_fault_seen format before now tells named kind UnknownVersion cause told own = absurd cause
flat_fault_seen format before now tells named kind BadBlockCount cause told own = absurd cause
flat_fault_seen format before now tells named kind (FormatMismatch found) cause told own = absurd cause
flat_fault_seen format before now tells named kind (Damaged damage) cause told own = cause.1 told

-- a refusal is seen of a file that is told, except for a fault of the store and lack of memory
pub fault_seen : (before now : ℕ) (tells : Bool) (named : Option (List ℕ)) (kind : Kind) (asked : Asked)
    (fault : OpenFault)
    → IsOpenFault before now tells named kind asked fault → IsTrue tells → (IsOfCall fault → ⊥)
    → IsView named kind asked (Err fault)
fault_seen before now tells named kind AnyTree fault cause told own =
    tree_fault_seen before now tells named kind None most_blocks fault cause told own
fault_seen before now tells named kind (InFormat format) fault cause told own =
    seen_if (is_flat format) format before now tells named kind fault cause told own
  where
    seen_if : (flat : Bool) (format : Format) (before now : ℕ) (tells : Bool) (named : Option (List ℕ)) (kind : Kind)
        (fault : OpenFault)
        → MatchBool flat (IsFlatFault format before now tells named fault)
        (IsTreeFault before now tells named kind (Some format) most_blocks fault) → IsTrue tells → (IsOfCall fault → ⊥)
        → MatchBool flat (IsFlatView format named kind (Err fault))
        (IsTreeView named kind (Some format) most_blocks (Err fault))
    seen_if true format before now tells named kind fault cause told own =
        flat_fault_seen format before now tells named kind fault cause told own
    seen_if false format before now tells named kind fault cause told own =
        tree_fault_seen before now tells named kind (Some format) most_blocks fault cause told own

-- a fault of the store comes where its count rose, whatever was asked for
pub store_rose : (before now : ℕ) (tells : Bool) (named : Option (List ℕ)) (kind : Kind) (asked : Asked)
    → IsOpenFault before now tells named kind asked Store → Rose before now
store_rose before now tells named kind AnyTree cause = cause
store_rose before now tells named kind (InFormat format) cause = either (is_flat format) (Rose before now) cause
  where
    either : (flat : Bool) (P : Type 0) → MatchBool flat P P → P
    either true P is = is
    either false P is = is

-- a value that an opened flat file holds is seen of its file
pub flat_held_seen : (tells : Bool) (named : Option (List ℕ)) (format : Format) (len : ℕ) (times : Grace)
    (window : Window) (value : QuotaValue) → is_flat format ≡ true
    → HoldsFlat tells named format len times window value → IsView named value.kind (InFormat value.format) (Ok value)
flat_held_seen tells named format len times window value flat held =
    subst (λ (f : Format). IsView named value.kind (InFormat f) (Ok value)) (sym held.stands.format)
    (subst (λ (b : Bool). MatchBool b (IsFlatView format named value.kind (Ok value))
    (IsTreeView named value.kind (Some format) most_blocks (Ok value))) (sym flat)
    (subst (λ (n : Option (List ℕ)). IsFlatView format n value.kind (Ok value)) (sym held.there)
    ((held.few, held.stands), refl)))

-- no version is that of a flat file
tree_version : (zero one : Bool) (format : Format)
    → (if zero then Some V2R0 else if one then Some V2R1 else None) ≡ Some format → IsTreeFormat format
tree_version true one format is = ap is_flat (sym (same_Some V2R0 format is))
tree_version false true format is = ap is_flat (sym (same_Some V2R1 format is))
tree_version false false format is = absurd (none-some format is)

tree_format_seen : (format : Format) (named : Option (List ℕ)) (file : List ℕ) (value : QuotaValue) → named ≡ Some file
    → (header_of file).blocks ≤ most_blocks → TreeStandsFor file value
    → value.format ≡ format → IsView named value.kind (InFormat format) (Ok value)
tree_format_seen format named file value there few stands is =
    let tree : IsTreeFormat format = tree_version _ _ format (stands.version ∙ ap (λ (f : Format). Some f) is) in
    subst (λ (b : Bool). MatchBool b (IsFlatView format named value.kind (Ok value))
    (IsTreeView named value.kind (Some format) most_blocks (Ok value))) (sym tree) (
      subst (λ (n : Option (List ℕ)). IsSomeAnd n
          (λ (f : List ℕ). ((header_of f).blocks ≤ most_blocks) × TreeStandsFor f value)) (sym there) (few, stands),
      refl,
      sym is,
    )

-- a value that an opened tree file holds is seen of its file, where it may have as many blocks as it may when it is
-- opened
pub tree_held_seen : (tells : Bool) (named : Option (List ℕ)) (header : Header) (coming : Coming) (limit : ℕ)
    (value : QuotaValue) → limit ≡ most_blocks → HoldsTree tells named header coming limit value
    → IsView named value.kind (InFormat value.format) (Ok value)
tree_held_seen tells named header coming limit value is held =
    tree_format_seen value.format named held.file value held.there
    (subst (λ (l : ℕ). (header_of held.file).blocks ≤ l) is held.few) held.stands refl

-- a value that is seen is one of the kind that was asked for
pub view_kind : (named : Option (List ℕ)) (kind : Kind) (asked : Asked) (value : QuotaValue)
    → IsView named kind asked (Ok value) → value.kind ≡ kind
view_kind named kind AnyTree value view = view.1
view_kind named kind (InFormat format) value view = kind_if (is_flat format) format named kind value view
  where
    kind_if : (flat : Bool) (format : Format) (named : Option (List ℕ)) (kind : Kind) (value : QuotaValue)
        → MatchBool flat (IsFlatView format named kind (Ok value))
        (IsTreeView named kind (Some format) most_blocks (Ok value)) → value.kind ≡ kind
    kind_if true format named kind value view = view.1
    kind_if false format named kind value view = view.1

-- a file with some blocks may have the most
pub most_allowed : (format : Format) (limit : ℕ) (blocks : ℕ) → limit ≡ blocks_allowed format → 2 ≤ blocks
    → blocks ≤ limit → limit ≡ most_blocks
most_allowed format limit blocks is two few = allowed_if (is_flat format) limit blocks is two few
  where
    allowed_if : (flat : Bool) (limit blocks : ℕ) → limit ≡ (if flat then 0 else most_blocks) → 2 ≤ blocks
        → blocks ≤ limit → limit ≡ most_blocks
    allowed_if true limit blocks is two few = absurd (omega (arith, is, two, few))
    allowed_if false limit blocks is two few = is

-- an opened tree file may have the most blocks
pub tree_limit : (tells : Bool) (named : Option (List ℕ)) (header : Header) (coming : Coming) (limit : ℕ)
    (value : QuotaValue) (format : Format) → limit ≡ blocks_allowed format
    → HoldsTree tells named header coming limit value
    → limit ≡ most_blocks
tree_limit tells named header coming limit value format is held =
    most_allowed format limit (header_of held.file).blocks is held.stands.sound.two held.few

-- a value that an opened file holds is seen of its file
pub any_held_seen : (tells : Bool) (files : World) (file : AnyFile) (value : QuotaValue) (name : List ℕ)
    (format : Format) → any_seen file ≡ fresh_seen name format → HoldsAny tells files file value
    → IsView (files name) value.kind (InFormat value.format) (Ok value)
any_held_seen tells files (FlatFile file) value name format seen held =
    subst (λ (n : List ℕ). IsView (files n) value.kind (InFormat value.format) (Ok value))
    (ap (λ (s : FileSeen). s.name) seen)
    (flat_held_seen tells (files (string_bytes file.name)) file.format file.len file.times file.window
    value file.flat held)
any_held_seen tells files (TreeFile file) value name format seen held =
    subst (λ (n : List ℕ). IsView (files n) value.kind (InFormat value.format) (Ok value))
    (ap (λ (s : FileSeen). s.name) seen)
    (tree_held_seen tells (files (name_of file.pages)) file.header file.coming file.limit value
    (tree_limit tells (files (name_of file.pages)) file.header file.coming file.limit value format
    (ap (λ (s : FileSeen). s.limit) seen) held) held)
