-- The steps of an entry, of a tree that is as long as its bytes.
use Rattle.std.proofs.Common.{◌≡◌, ℕ, ◌^◌, ◌<◌, true, false, find, ◌==◌, List, ◌∷◌, length, replicate, None, Some}
use Rattle.std.specs.FinMap.{get, insert}
use Rattle.quota_types.specs.declared.file_kind.Format.{Format}
use Rattle.quota_types.specs.declared.record.Rec.{Rec}
use Rattle.quota_types.specs.Times.{StandsIn}
use Rattle.file_blocks.specs.Block.{block_of}
use Rattle.quota_value.specs.QuotaValue.{Records}
use Rattle.quota_radix.specs.Tree.{leaves}
use Rattle.quota_radix.specs.declared.tree_path.TreePath.{TreePath}
use Rattle.free_chains.specs.declared.heads.Heads.{Heads}
use Rattle.tree_meaning.specs.Entries.{has_unused}
use Rattle.tree_meaning.specs.Loose.{loose_of}
use Rattle.tree_meaning.specs.Roles.{data_with, has_room}
use Rattle.block_changes.specs.EntryChanges.{RewritesEntry, WritesEntry}
use Rattle.block_changes.proofs.EntryWrittenLemmas.{first_room, first_written as first_tree, written_full}
use Rattle.block_changes.proofs.EntryWrittenLemmas.{written_with_room}
use Rattle.block_changes.proofs.OverwrittenLemmas.{overwritten}
use Rattle.tree_change.specs.Shows.{IsWholeTree}

module _ (held : List ℕ) (format : Format) (old new : List ℕ) (heads : Heads) (records : Records)
    (block place id : ℕ) (rec : Rec)
    (small : id < 2 ^ 32) (none : get records id ≡ None)
    (writes : WritesEntry format block place (record { id = id; rec = rec }) old new) where
  -- the first entry of a fresh block
  pub first_written : IsWholeTree (loose_of (block ∷ held) None None) format old heads records
      → block_of old block ≡ replicate 1024 0
      → IsWholeTree (loose_of held (Some (record { number = id; block = block })) (Some block)) format new heads
      (insert records id rec)
  first_written tree blank =
      first_tree held format old new (length old) heads records block place id rec tree blank writes small none
      (length new) writes.keeps.longer

  pub first_has_room : IsWholeTree (loose_of (block ∷ held) None None) format old heads records
      → block_of old block ≡ replicate 1024 0
      → has_room (loose_of held (Some (record { number = id; block = block })) (Some block)) format new
      heads.blocks block ≡ true
  first_has_room tree blank =
      first_room held format old new (length old) heads records block place id rec tree blank writes

  -- an entry of a data block
  pub written_leaves_room : IsWholeTree (loose_of held None None) format old heads records
      → StandsIn (data_with (loose_of held None None) old heads.blocks) block
      → has_unused format (block_of new block) ≡ true
      → IsWholeTree (loose_of held (Some (record { number = id; block = block })) None) format new heads
      (insert records id rec)
  written_leaves_room tree is_data room =
      written_with_room held format old new (length old) heads records block place id rec tree is_data small none writes
      (length new) room writes.keeps.longer

  pub written_fills : IsWholeTree (loose_of held None None) format old heads records
      → StandsIn (data_with (loose_of held None None) old heads.blocks) block
      → has_unused format (block_of new block) ≡ false
      → IsWholeTree (loose_of held (Some (record { number = id; block = block })) (Some block)) format new heads
      (insert records id rec)
  written_fills tree is_data full =
      written_full held format old new (length old) heads records block place id rec tree is_data small none writes
      (length new) full writes.keeps.longer

-- an entry that is overwritten
pub overwritten_whole : (held : List ℕ) (format : Format) (old new : List ℕ) (heads : Heads) (records : Records)
    (block place id : ℕ) (rec : Rec)
    → find (λ (leaf : TreePath). leaf.number == id) (leaves old heads.blocks)
    ≡ Some (record { number = id; block = block })
    → RewritesEntry format block place (record { id = id; rec = rec }) old new
    → IsWholeTree (loose_of held None None) format old heads records
    → IsWholeTree (loose_of held None None) format new heads (insert records id rec)
overwritten_whole held format old new heads records block place id rec found rewrites tree =
    overwritten held format old new (length old) heads records block place id rec tree found rewrites (length new)
    rewrites.keeps.longer
