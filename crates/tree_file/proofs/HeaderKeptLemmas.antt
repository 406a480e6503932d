-- A file whose header and blocks are those of another one, but maybe for the grace periods, stands for the same value
-- with other grace periods.
use Rattle.std.proofs.Common.{◌≡◌, ℕ, ◌*◌, ◌<◌, ◌≤◌, List, length, sym, ap, subst, ◌∙◌}
use Rattle.quota_types.specs.declared.file_kind.Format.{Format}
use Rattle.quota_types.specs.declared.record.Grace.{Grace}
use Rattle.quota_value.specs.QuotaValue.{QuotaValue, with_grace}
use Rattle.entry_codec.specs.Header.{HeaderNumbers, format_of, header_of}
use Rattle.tree_meaning.specs.Loose.{nothing_loose}
use Rattle.tree_meaning.specs.Roles.{Chained, Filled, OneRole}
use Rattle.tree_meaning.specs.TreeFile.{IsSound, TreeStandsFor, record_in, tree_record}
use Rattle.tree_file.proofs.SameBlocksLemmas.{KeepsTree, SameBlocks, chained_same, filled_same, one_role_same}
use Rattle.tree_file.proofs.SameBlocksLemmas.{record_same, same_tree}

-- a header says the same, but maybe for the grace periods
pub record KeepsHeader (old new : HeaderNumbers) : Type 0 where
  pub magic : new.magic ≡ old.magic
  pub version : new.version ≡ old.version
  pub flags : new.flags ≡ old.flags
  pub blocks : new.blocks ≡ old.blocks
  pub free : new.free ≡ old.free
  pub first : new.first ≡ old.first

-- a file is sound with the tree and the lists of a sound one
pub sound_kept : (format : Format) (old new : List ℕ) → IsSound format old (length old) (header_of old)
    → KeepsHeader (header_of old) (header_of new) → KeepsTree format (header_of old).blocks old new
    → (2 < (header_of old).blocks → 1024 * (header_of old).blocks ≤ length new)
    → IsSound format new (length new) (header_of new)
sound_kept format old new sound kept same long = record {
  two = subst (λ (n : ℕ). 2 ≤ n) (sym kept.blocks) sound.two;
  long = subst (λ (n : ℕ). 2 < n → 1024 * n ≤ length new) (sym kept.blocks) long;
  roles = subst (λ (n : ℕ). OneRole nothing_loose new n (header_of new).free) (sym kept.blocks)
      (subst (λ (n : ℕ). OneRole nothing_loose new (header_of old).blocks n) (sym kept.free)
      (one_role_same format old new (header_of old).blocks sound.two same (header_of old).free sound.roles));
  chained = subst (λ (n : ℕ). Chained nothing_loose format new n (header_of new).first) (sym kept.blocks)
      (subst (λ (n : ℕ). Chained nothing_loose format new (header_of old).blocks n) (sym kept.first)
      (chained_same format old new (header_of old).blocks sound.two same (header_of old).first sound.chained));
  filled = subst (λ (n : ℕ). Filled nothing_loose format new n) (sym kept.blocks)
      (filled_same format old new (header_of old).blocks sound.two same sound.filled);
}

pub stands_kept : (old new : List ℕ) (value : QuotaValue) (grace : Grace) → TreeStandsFor old value
    → KeepsHeader (header_of old) (header_of new) → SameBlocks (header_of old).blocks old new
    → (2 < (header_of old).blocks → 1024 * (header_of old).blocks ≤ length new)
    → grace.block ≡ (header_of new).block_grace → grace.inode ≡ (header_of new).inode_grace
    → TreeStandsFor new (with_grace value grace)
stands_kept old new value grace stands kept same long block inode =
    let tree : KeepsTree value.format (header_of old).blocks old new =
    same_tree value.format (header_of old).blocks old new stands.sound.two same in
    record {
      magic = kept.magic ∙ stands.magic;
      version = ap format_of kept.version ∙ stands.version;
      block_grace = block;
      inode_grace = inode;
      flags = stands.flags ∙ sym kept.flags;
      sound = sound_kept value.format old new stands.sound kept tree long;
      records = λ id. stands.records id
          ∙ sym (record_same value.format old new (header_of old).blocks stands.sound.two tree id
          (λ block some low. ap (λ (bytes : List ℕ). record_in value.format bytes id) (same block some low)))
          ∙ ap (λ (n : ℕ). tree_record value.format new n id) (sym kept.blocks);
    }
