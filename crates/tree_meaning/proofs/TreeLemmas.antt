-- A file that stands for a value is a tree of which nothing is loose, and the other way round.
use Rattle.std.proofs.Common.{ℕ, List, length, sym, ap, subst, ◌∙◌}
use Rattle.file_blocks.specs.Block.{block_of}
use Rattle.quota_value.specs.QuotaValue.{QuotaValue}
use Rattle.entry_codec.specs.Header.{HeaderNumbers, header_of}
use Rattle.entry_codec.specs.Spelling.{AreOf}
use Rattle.free_chains.specs.declared.heads.Heads.{Heads}
use Rattle.tree_meaning.specs.IsTree.{IsTree, header_with}
use Rattle.tree_meaning.specs.TreeHeads.{heads_of}
use Rattle.tree_meaning.specs.Loose.{nothing_loose}
use Rattle.tree_meaning.specs.TreeFile.{TreeStandsFor, tree_record}
use Rattle.tree_meaning.proofs.HeaderLemmas.{header_in_block}
use Rattle.tree_meaning.proofs.ValueLemmas.{sound}

pub tree_of_value : (file : List ℕ) (value : QuotaValue) → TreeStandsFor file value
    → IsTree nothing_loose value.format file (length file) (heads_of (header_of file)) value.records
tree_of_value file value stands = record {
  two = stands.sound.two;
  long = stands.sound.long;
  awaited = tt;
  roles = stands.sound.roles;
  chained = stands.sound.chained;
  filled = stands.sound.filled;
  each_record = stands.records;
}

value_by_header : (file : List ℕ) (value : QuotaValue) (heads : Heads)
    → AreOf (header_with value heads) (header_of file)
    → IsTree nothing_loose value.format file (length file) heads value.records → TreeStandsFor file value
value_by_header file value heads are tree = record {
  magic = are.magic;
  version = are.version;
  block_grace = sym are.block_grace;
  inode_grace = sym are.inode_grace;
  flags = sym are.flags;
  sound = sound file (header_with value heads) are tree.two tree.long tree.roles tree.chained tree.filled;
  records = λ id. tree.each_record id ∙ ap (λ (n : ℕ). tree_record value.format file n id) (sym are.blocks);
}

pub value_of_tree : (file : List ℕ) (value : QuotaValue) (heads : Heads)
    → AreOf (header_with value heads) (header_of (block_of file 0))
    → IsTree nothing_loose value.format file (length file) heads value.records → TreeStandsFor file value
value_of_tree file value heads are tree =
    value_by_header file value heads
    (subst (λ (numbers : HeaderNumbers). AreOf (header_with value heads) numbers) (header_in_block file) are) tree
