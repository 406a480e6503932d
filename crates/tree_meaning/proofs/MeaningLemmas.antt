-- What a header and a file say of the value that the file stands for.
use Rattle.std.proofs.Common.{◌≡◌, ℕ, ◌==◌, if◌then◌else◌, Option, None, Some, refl, sym, ap, ◌∙◌, List}
use Rattle.std.specs.Cmp.{nat_cmp_total}
use Rattle.std.specs.FinMap.{nat_cmp-IsAntisymmetric, same_map}
use Rattle.std.proofs.lemmas.Option.{same_Some}
use Rattle.quota_value.specs.QuotaValue.{QuotaValue}
use Rattle.entry_codec.specs.declared.header.Header.{Header}
use Rattle.entry_codec.specs.Header.{header_of, magic_of}
use Rattle.entry_codec.specs.Spelling.{AreOf}
use Rattle.quota_types.specs.declared.file_kind.Format.{Format}
use Rattle.quota_types.specs.declared.file_kind.Kind.{Kind}
use Rattle.quota_types.specs.declared.file_kind.Kind.TheVariants.{User, Group, Project}
use Rattle.byte_order.specs.declared.order.Order.{Order}
use Rattle.byte_order.specs.Words.{in_order}
use Rattle.tree_meaning.specs.TreeFile.{TreeStandsFor, TreeStandsForIn, tree_record_in}

-- the kind of a magic number
kind_of_magic : ℕ → Option Kind
kind_of_magic magic =
    if magic == magic_of User then Some User else if magic == magic_of Group then Some Group
    else if magic == magic_of Project then Some Project else None

kind_of_magic-magic : (kind : Kind) → kind_of_magic (magic_of kind) ≡ Some kind
unfolding kind_of_magic
kind_of_magic-magic User = refl
kind_of_magic-magic Group = refl
kind_of_magic-magic Project = refl

-- a magic number is that of one kind
pub same_kind : (kind other : Kind) → magic_of kind ≡ magic_of other → kind ≡ other
same_kind kind other same =
    same_Some kind other (sym (kind_of_magic-magic kind) ∙ ap kind_of_magic same ∙ kind_of_magic-magic other)

-- a file stands for one value at most
pub one_meaning : (order : Order) (file : List ℕ) (value other : QuotaValue) → TreeStandsForIn order file value
    → TreeStandsForIn order file other → value ≡ other
one_meaning order file value other stands stands' =
    let kind : value.kind ≡ other.kind = same_kind value.kind other.kind (sym stands.magic ∙ stands'.magic) in
    let found : Some value.format ≡ Some other.format = sym stands.version ∙ stands'.version in
    let format : value.format ≡ other.format = cc in
    let block : value.grace.block ≡ other.grace.block = stands.block_grace ∙ sym stands'.block_grace in
    let inode : value.grace.inode ≡ other.grace.inode = stands.inode_grace ∙ sym stands'.inode_grace in
    let flags : value.flags ≡ other.flags = stands.flags ∙ sym stands'.flags in
    let records : value.records ≡ other.records =
    same_map nat_cmp_total nat_cmp-IsAntisymmetric value.records other.records
    (λ id. stands.records id
    ∙ ap (λ (f : Format). tree_record_in order f file (header_of (in_order order file)).blocks id) format
    ∙ sym (stands'.records id)) in
    λ i. record {
      kind = kind i;
      format = format i;
      grace = record { block = block i; inode = inode i };
      flags = flags i;
      records = records i;
    }

-- what a header of the file says is what the value has
pub header_kind : (file : List ℕ) (header : Header) (value : QuotaValue) → AreOf header (header_of file)
    → TreeStandsFor file value → header.kind ≡ value.kind
header_kind file header value are stands = same_kind header.kind value.kind (sym are.magic ∙ stands.magic)

pub header_format : (file : List ℕ) (header : Header) (value : QuotaValue) → AreOf header (header_of file)
    → TreeStandsFor file value → header.format ≡ value.format
header_format file header value are stands = same_Some header.format value.format (sym are.version ∙ stands.version)

pub header_grace : (file : List ℕ) (header : Header) (value : QuotaValue) → AreOf header (header_of file)
    → TreeStandsFor file value → header.grace ≡ value.grace
header_grace file header value are stands =
    let block : header.grace.block ≡ value.grace.block = sym are.block_grace ∙ sym stands.block_grace in
    let inode : header.grace.inode ≡ value.grace.inode = sym are.inode_grace ∙ sym stands.inode_grace in
    λ i. record { block = block i; inode = inode i }

pub header_flags : (file : List ℕ) (header : Header) (value : QuotaValue) → AreOf header (header_of file)
    → TreeStandsFor file value → header.flags ≡ value.flags
header_flags file header value are stands = sym are.flags ∙ sym stands.flags
