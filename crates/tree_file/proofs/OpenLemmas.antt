-- What is seen of a tree file by whoever opens it: by its first block, and by its check.
use Rattle.std.proofs.Common.{◌≡◌, ℕ, ◌≤◌, Bool, IsTrue, List, Option, Some, None, Ok, sym, ap, subst, ◌∙◌, arith}
use Rattle.std.proofs.lemmas.Bool.{true≢false}
use Rattle.std.specs.Prelude.{IsSome}
use Rattle.std.specs.Option.{IsSomeAnd}
use Rattle.quota_types.specs.declared.damage.Damage.{Damage}
use Rattle.quota_types.specs.declared.file_kind.Format.{Format}
use Rattle.quota_types.specs.declared.file_kind.Kind.{Kind}
use Rattle.quota_value.specs.QuotaValue.{QuotaValue, Records}
use Rattle.opened_file.specs.declared.quota_file.OpenFault.{OpenFault}
use Rattle.opened_file.specs.declared.quota_file.OpenFault.TheVariants.{Store, NoFile, TooLarge, Memory, NotQuota}
use Rattle.opened_file.specs.declared.quota_file.OpenFault.TheVariants.{WrongKind, UnknownVersion, BadBlockCount}
use Rattle.opened_file.specs.declared.quota_file.OpenFault.TheVariants.{FormatMismatch, Damage as Damaged}
use Rattle.entry_codec.specs.Header.{HeaderNumbers, header_of}
use Rattle.entry_codec.specs.Spelling.{AreOf}
use Rattle.entry_codec.specs.declared.header.Header.{Header}
use Rattle.file_blocks.specs.declared.check_fault.CheckFault.{CheckFault}
use Rattle.file_blocks.specs.declared.check_fault.CheckFault.TheVariants.{Store as CheckStore, Damage as CheckDamage}
use Rattle.file_blocks.specs.declared.check_fault.CheckFault.TheVariants.{Memory as CheckMemory}
use Rattle.file_blocks.specs.CheckFault.{IsCheckFault}
use Rattle.opened_file.specs.Opening.{open_fault}
use Rattle.file_blocks.specs.Block.{block_of, bytes_of}
use Rattle.byte_order.specs.declared.order.Order.{Order}
use Rattle.byte_order.specs.Words.{in_order}
use Rattle.byte_order.proofs.WordsLemmas.{block_in_order}
use Rattle.std.proofs.lemmas.Option.{same_Some}
use Rattle.tree_meaning.specs.Defect.{IsTreeDefectIn}
use Rattle.tree_check.specs.Check.{IsCheckedIn}
use Rattle.tree_check.specs.declared.checked.Checked.{Checked}
use Rattle.tree_file.specs.Coming.{HoldsComing}
use Rattle.tree_file.specs.Opened.{HoldsTree}
use Rattle.tree_file.specs.declared.coming.Coming.{Coming}
use Rattle.tree_meaning.specs.TreeFile.{TreeStandsForIn}
use Rattle.tree_file.specs.View.{FitsRequest, HasHeader, IsAsAsked, IsDamaged, IsRefusedHeader, IsTreeView}
use Rattle.tree_file.specs.View.{IsTreeViewIn}
use Rattle.tree_file.specs.TreeCalls.{IsTreeFaultIn}
use Rattle.tree_meaning.proofs.HeaderLemmas.{header_in_block}
use Rattle.tree_meaning.proofs.MeaningLemmas.{same_kind}

-- the header of the first block is that of the file
header_seen : (order : Order) (first file : List ℕ) → first ≡ block_of file 0
    → header_of (in_order order first) ≡ header_of (in_order order file)
header_seen order first file is =
    ap (λ (bytes : List ℕ). header_of (in_order order bytes)) is ∙ ap header_of (sym (block_in_order order file 0))
    ∙ header_in_block (in_order order file)

-- and the file has the numbers of its header
pub are_seen : (order : Order) (first file : List ℕ) (header : Header) → first ≡ block_of file 0
    → AreOf header (header_of (in_order order first)) → AreOf header (header_of (in_order order file))
are_seen order first file header is are = subst (AreOf header) (header_seen order first file is) are

-- what is said of the header of the first block is said of the file
said_of_file : (order : Order) (named : Option (List ℕ)) (first : List ℕ) (say : HeaderNumbers → Type 0)
    → IsSome named → first ≡ block_of (bytes_of named) 0 → say (header_of (in_order order first))
    → IsSomeAnd named (λ file. say (header_of (in_order order file)))
said_of_file order None first say there is said = absurd (true≢false (sym there))
said_of_file order (Some file) first say there is said = subst say (header_seen order first file is) said

-- a refusal by the header is one of the file
pub header_refused : (order : Order) (before now limit : ℕ) (tells : Bool) (named : Option (List ℕ)) (kind : Kind)
    (asked : Option Format) (first : List ℕ) (fault : OpenFault)
    → (IsTrue tells → IsSome named) → (IsTrue tells → first ≡ block_of (bytes_of named) 0)
    → FitsRequest asked limit fault → IsRefusedHeader kind asked limit fault (header_of (in_order order first))
    → IsTreeFaultIn order before now tells named kind asked limit fault
header_refused order before now limit tells named kind asked first Store there is fits refused = absurd refused
header_refused order before now limit tells named kind asked first NoFile there is fits refused = absurd refused
header_refused order before now limit tells named kind asked first Memory there is fits refused = tt
header_refused order before now limit tells named kind asked first (Damaged damage) there is fits refused =
    absurd refused
header_refused order before now limit tells named kind asked first (TooLarge number most) there is fits refused = (
  fits,
  λ told.
      said_of_file order named first (IsRefusedHeader kind asked limit (TooLarge number most)) (there told)
      (is told) refused,
)
header_refused order before now limit tells named kind asked first NotQuota there is fits refused = (
  fits,
  λ told. said_of_file order named first (IsRefusedHeader kind asked limit NotQuota) (there told) (is told) refused,
)
header_refused order before now limit tells named kind asked first WrongKind there is fits refused = (
  fits,
  λ told. said_of_file order named first (IsRefusedHeader kind asked limit WrongKind) (there told) (is told) refused,
)
header_refused order before now limit tells named kind asked first UnknownVersion there is fits refused = (
  fits,
  λ told.
      said_of_file order named first (IsRefusedHeader kind asked limit UnknownVersion) (there told) (is told) refused,
)
header_refused order before now limit tells named kind asked first BadBlockCount there is fits refused = (
  fits,
  λ told.
      said_of_file order named first (IsRefusedHeader kind asked limit BadBlockCount) (there told) (is told) refused,
)
header_refused order before now limit tells named kind asked first (FormatMismatch found) there is fits refused = (
  fits,
  λ told.
      said_of_file order named first (IsRefusedHeader kind asked limit (FormatMismatch found)) (there told)
      (is told) refused,
)

-- read in an order, the file begins with a header of the kind and of the format that was asked for, of no more blocks
-- than there may be
pub record Begins (order : Order) (tells : Bool) (named : Option (List ℕ)) (kind : Kind) (asked : Option Format)
    (limit : ℕ) (first : List ℕ) (header : Header) : Type 0 where
  pub there : IsTrue tells → IsSome named
  pub is : IsTrue tells → first ≡ block_of (bytes_of named) 0
  pub are : AreOf header (header_of (in_order order first))
  pub accepted : HasHeader kind (header_of (in_order order first)) header.format
  pub of_kind : header.kind ≡ kind
  pub as_asked : IsAsAsked asked header.format
  pub few : header.blocks ≤ limit

damaged_file : (order : Order) (tells : Bool) (named named' : Option (List ℕ)) (kind : Kind) (asked : Option Format)
    (limit : ℕ) (first : List ℕ) (header : Header) (damage : Damage)
    → Begins order tells named kind asked limit first header → named' ≡ named → IsTrue tells
    → (AreOf header (header_of (in_order order (bytes_of named')))
    → IsTreeDefectIn order header.format (bytes_of named') (header_of (in_order order (bytes_of named'))) damage)
    → IsSomeAnd named (IsDamaged order kind asked limit damage)
damaged_file order tells None named' kind asked limit first header damage begins same told defect =
    absurd (true≢false (sym (begins.there told)))
damaged_file order tells (Some file) named' kind asked limit first header damage begins same told defect =
    let head : header_of (in_order order first) ≡ header_of (in_order order file) =
    header_seen order first file (begins.is told) in
    let are : AreOf header (header_of (in_order order file)) = subst (AreOf header) head begins.are in
    let bytes : bytes_of named' ≡ file = ap bytes_of same in
    record {
      format = header.format;
      header = subst (λ (numbers : HeaderNumbers). HasHeader kind numbers header.format) head begins.accepted;
      as_asked = begins.as_asked;
      few = omega (arith, are.blocks, begins.few);
      defect = subst
          (λ (f : List ℕ). IsTreeDefectIn order header.format f (header_of (in_order order f)) damage) bytes
          (defect (subst (λ (f : List ℕ). AreOf header (header_of (in_order order f))) (sym bytes) are));
    }

-- a refusal by the check is one of the file
pub checked_refused : (order : Order) (before between now : ℕ) (tells : Bool) (named named' : Option (List ℕ))
    (kind : Kind) (asked : Option Format) (limit : ℕ) (first : List ℕ) (header : Header) (fault : CheckFault)
    → before ≤ between → named' ≡ named → Begins order tells named kind asked limit first header
    → IsCheckFault between now
    (λ damage. IsTrue tells → AreOf header (header_of (in_order order (bytes_of named')))
    → IsTreeDefectIn order header.format (bytes_of named') (header_of (in_order order (bytes_of named'))) damage) fault
    → IsTreeFaultIn order before now tells named kind asked limit (open_fault fault)
checked_refused order before between now tells named named' kind asked limit first header CheckStore le same
    begins cause = omega (arith, le, cause)
checked_refused order before between now tells named named' kind asked limit first header (CheckDamage damage) le
    same begins cause = (
      cause.0,
      λ told. damaged_file order tells named named' kind asked limit first header damage begins same told
          (cause.1 told),
    )
checked_refused order before between now tells named named' kind asked limit first header CheckMemory le same
    begins cause = tt

-- a header that was read of a file is one of the kind and of the format of the value that the file stands for
read_kind : (order : Order) (file : List ℕ) (header : Header) (value : QuotaValue)
    → AreOf header (header_of (in_order order file)) → TreeStandsForIn order file value → header.kind ≡ value.kind
read_kind order file header value are stands = same_kind header.kind value.kind (sym are.magic ∙ stands.magic)

read_format : (order : Order) (file : List ℕ) (header : Header) (value : QuotaValue)
    → AreOf header (header_of (in_order order file)) → TreeStandsForIn order file value → header.format ≡ value.format
read_format order file header value are stands =
    same_Some header.format value.format (sym are.version ∙ stands.version)

-- a file that was checked is seen as one of the kind, in the format that was asked for
pub value_seen : (order : Order) (tells : Bool) (named named' : Option (List ℕ)) (kind : Kind) (asked : Option Format)
    (limit : ℕ) (first : List ℕ) (header : Header) (checked : Checked)
    → Begins order tells named kind asked limit first header → named' ≡ named → IsTrue tells
    → (AreOf header (header_of (in_order order (bytes_of named'))) → IsCheckedIn order (bytes_of named') checked)
    → (value : QuotaValue) × IsTreeViewIn order named kind asked limit (Ok value)
value_seen order tells None named' kind asked limit first header checked begins same told stands =
    absurd (true≢false (sym (begins.there told)))
value_seen order tells (Some file) named' kind asked limit first header checked begins same told stands =
    let are : AreOf header (header_of (in_order order file)) =
    are_seen order first file header (begins.is told) begins.are in
    let bytes : bytes_of named' ≡ file = ap bytes_of same in
    let found = stands (subst (λ (f : List ℕ). AreOf header (header_of (in_order order f))) (sym bytes) are) in
    let value : QuotaValue = found.value in
    let stands_here : TreeStandsForIn order file value =
    subst (λ (f : List ℕ). TreeStandsForIn order f value) bytes found.stands in (
      value,
      (
        (omega (arith, are.blocks, begins.few), stands_here),
        sym (read_kind order file header value are stands_here) ∙ begins.of_kind,
        subst (IsAsAsked asked) (read_format order file header value are stands_here) begins.as_asked,
      ),
    )

-- the opened file with the store holds a value that is seen
pub opened_holds : (tells : Bool) (named named' : Option (List ℕ)) (kind : Kind) (asked : Option Format) (limit : ℕ)
    (header : Header) (coming : Coming) (value : QuotaValue)
    → AreOf header (header_of (bytes_of named)) → named' ≡ named → IsTrue tells
    → ((records : Records) → HoldsComing records coming)
    → IsTreeView named kind asked limit (Ok value) → HoldsTree tells named' header coming limit value
opened_holds tells None named' kind asked limit header coming value are same told none view = absurd view.0
opened_holds tells (Some file) named' kind asked limit header coming value are same told none view = record {
  told = told;
  file = file;
  there = same;
  stands = view.0.1;
  few = view.0.0;
  same = are;
  next = none value.records;
}
