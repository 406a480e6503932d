-- The heads that a header has.
use Rattle.std.proofs.Common.{◌≡◌, List, [], ℕ, length, Some, None, refl, sym, ap, subst, ◌∙◌}
use Rattle.entry_codec.specs.Header.{HeaderNumbers, header_of}
use Rattle.entry_codec.specs.Spelling.{AreOf}
use Rattle.entry_codec.specs.declared.header.Header.{Header}
use Rattle.quota_types.specs.KeptBytes.{KeepsOutside}
use Rattle.quota_types.specs.declared.file_kind.Format.{Format}
use Rattle.quota_value.specs.QuotaValue.{QuotaValue, Records}
use Rattle.file_blocks.specs.Block.{block_of}
use Rattle.quota_pages.specs.Overlay.{with_block}
use Rattle.quota_pages.proofs.BlockLemmas.{block_of-with_block_same, whole_block-same}
use Rattle.free_chains.specs.declared.heads.Heads.{Heads}
use Rattle.tree_meaning.specs.IsTree.{IsTree, header_with}
use Rattle.tree_meaning.specs.TreeHeads.{heads_of}
use Rattle.tree_meaning.specs.Loose.{loose_of, nothing_loose}
use Rattle.tree_meaning.specs.TreeFile.{TreeStandsFor}
use Rattle.tree_meaning.proofs.HeaderLemmas.{header_in_block}
use Rattle.tree_meaning.proofs.TreeLemmas.{tree_of_value, value_of_tree}
use Rattle.tree_change.specs.HeaderHeads.{HasHeads, SetsHeads, with_heads}
use Rattle.tree_change.specs.Shows.{IsWholeTree}

-- Block 0 of a file was left with other heads, and all else that it had.
pub sets_heads : (heads : Heads) (bytes was old new : List ℕ) → was ≡ block_of old 0 → length bytes ≡ 1024
    → new ≡ with_block old 0 bytes
    → header_of bytes ≡ with_heads (header_of was) heads → KeepsOutside 20 32 was bytes → SetsHeads heads old new
sets_heads heads bytes was old new was_is long laid is keeps =
    let now : block_of new 0 ≡ bytes = ap (λ (file : List ℕ). block_of file 0) laid
    ∙ block_of-with_block_same old 0 bytes ∙ whole_block-same bytes long in
    record {
      numbers = sym (header_in_block new) ∙ ap header_of now ∙ is
          ∙ ap (λ (numbers : HeaderNumbers). with_heads numbers heads) (ap header_of was_is ∙ header_in_block old);
      others = subst (λ (block : List ℕ). KeepsOutside 20 32 (block_of old 0) block) (sym now)
          (subst (λ (block : List ℕ). KeepsOutside 20 32 block bytes) was_is keeps);
    }

-- A header has the heads that it has.
pub heads_there : (header : Header) (numbers : HeaderNumbers) (heads : Heads) → AreOf header numbers
    → heads.blocks ≡ header.blocks → heads.free ≡ header.free → heads.first ≡ header.first
    → numbers ≡ with_heads numbers heads
heads_there header numbers heads are blocks free first = λ i. record {
  magic = numbers.magic;
  version = numbers.version;
  block_grace = numbers.block_grace;
  inode_grace = numbers.inode_grace;
  flags = numbers.flags;
  blocks = (are.blocks ∙ sym blocks) i;
  free = (are.free ∙ sym free) i;
  first = (are.first ∙ sym first) i;
}

pub sets_none : (header : Header) (file : List ℕ) (heads : Heads) → HasHeads header heads
    → AreOf header (header_of file) → SetsHeads heads file file
sets_none header file heads has are = record {
  numbers = heads_there header (header_of file) heads are has.blocks has.free has.first;
  others = record { before = λ at low. refl; behind = λ at far. refl };
}

-- A file whose first block stays has the same header.
pub header_same : (old new : List ℕ) → block_of new 0 ≡ block_of old 0 → header_of new ≡ header_of old
header_same old new same = sym (header_in_block new) ∙ ap header_of same ∙ header_in_block old

-- The heads of a header are those of the numbers of which it is.
pub heads_are : (header : Header) (numbers : HeaderNumbers) (heads : Heads) → AreOf header numbers
    → heads.blocks ≡ header.blocks → heads.free ≡ header.free → heads.first ≡ header.first
    → heads ≡ heads_of numbers
heads_are header numbers heads are blocks free first =
    λ i.
    record { blocks = (blocks ∙ sym are.blocks) i; free = (free ∙ sym are.free) i; first = (first ∙ sym are.first) i }

-- The format of a value is that of the header.
pub format_is : (header : Header) (file : List ℕ) (value : QuotaValue) → AreOf header (header_of file)
    → TreeStandsFor file value → value.format ≡ header.format
format_is header file value are stands =
    let same : Some value.format ≡ Some header.format = sym stands.version ∙ are.version in
    cc

-- A tree with these heads and records, of which nothing is loose, stands for the value with them where it has the
-- header of another file that stands for one, but for the heads.
pub value_with_heads : (old new : List ℕ) (value : QuotaValue) (records : Records) (heads : Heads)
    → TreeStandsFor old value → header_of new ≡ with_heads (header_of old) heads
    → IsTree nothing_loose value.format new (length new) heads records
    → TreeStandsFor new (record value { records = records })
value_with_heads old new value records heads stands numbers tree =
    let now : QuotaValue = record value { records = records } in
    let are : AreOf (header_with now heads) (with_heads (header_of old) heads) = record {
      magic = stands.magic;
      version = stands.version;
      block_grace = sym stands.block_grace;
      inode_grace = sym stands.inode_grace;
      flags = sym stands.flags;
      blocks = refl;
      free = refl;
      first = refl;
    } in
    value_of_tree new now heads (subst (AreOf (header_with now heads)) (sym (header_in_block new ∙ numbers)) are) tree

-- Bytes with this header stand for a value: they are a tree of its format, with the header's heads and the value's
-- records.
pub tree_by_header : (file : List ℕ) (header : Header) (start : Heads) (value : QuotaValue)
    → AreOf header (header_of file) → start ≡ heads_of (header_of file) → TreeStandsFor file value
    → IsWholeTree (loose_of [] None None) header.format file start value.records
tree_by_header file header start value are is stands =
    subst (λ (format : Format). IsWholeTree (loose_of [] None None) format file start value.records)
    (format_is header file value are stands)
    (subst (λ (heads : Heads). IsWholeTree (loose_of [] None None) value.format file heads value.records) (sym is)
    (tree_of_value file value stands))
