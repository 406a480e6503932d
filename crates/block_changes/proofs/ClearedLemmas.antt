-- The entry of an awaited leaf that was cleared: no leaf is awaited then. A block that has other entries is data still,
-- and one whose last entry it was is held.
use Rattle.std.proofs.Common.{◌≡◌, ◌≢◌, ℕ, suc, ◌+◌, ◌≤◌, Bool, true, false, not, ◌&&◌, nat_le, List, [], ◌∷◌, length}
use Rattle.std.proofs.Common.{Option, Some, None, refl, sym, ap, subst, ◌∙◌, inl, inr, arith}
use Rattle.std.proofs.lemmas.Bool.{cases_eq, le-leb}
use Rattle.std.specs.FinMap.{get, remove}
use Rattle.quota_types.specs.declared.file_kind.Format.{Format}
use Rattle.quota_types.specs.Times.{StandsIn, times}
use Rattle.quota_types.proofs.TimesLemmas.{stands_right, times-cons-other, times-cons-same}
use Rattle.file_blocks.specs.Block.{block_of}
use Rattle.quota_value.specs.QuotaValue.{Records}
use Rattle.free_chains.specs.declared.heads.Heads.{Heads}
use Rattle.quota_radix.specs.declared.tree_path.TreePath.{TreePath}
use Rattle.quota_radix.specs.Tree.{blocks_of, ids_at, leaves, tree_blocks}
use Rattle.quota_radix.proofs.PathLemmas.{length_ids}
use Rattle.tree_meaning.specs.Entries.{has_unused, used_ids}
use Rattle.tree_meaning.specs.IsTree.{IsTree}
use Rattle.tree_meaning.specs.Loose.{Loose, but_misplaced, loose_of}
use Rattle.tree_meaning.specs.Roles.{counts_as_data, data_with, has_room}
use Rattle.tree_meaning.specs.TreeFile.{record_by_leaves}
use Rattle.tree_meaning.proofs.EntryChangeLemmas.{cleared_length, cleared_other, cleared_room, cleared_times}
use Rattle.tree_meaning.proofs.ListedLemmas.{misplaced-other, misplaced-same}
use Rattle.tree_meaning.proofs.MovedLemmas.{times-data_with}
use Rattle.block_changes.specs.EntryChanges.{LosesEntry}
use Rattle.block_changes.proofs.EntryWrittenLemmas.{some_places, unused_left}
use Rattle.block_changes.proofs.OneBlockLemmas.{changed, count_of, data_no_tree, leaves_same, records_stay}
use Rattle.block_changes.proofs.OneLeafLemmas.{awaited_counts, ids_fewer, ids_other, ids_same, record_absent}
use Rattle.block_changes.proofs.OneLeafLemmas.{record_rest, removed_own, removed_rest}

some_used : (ids : List ℕ) → ids ≢ [] → 1 ≤ length ids
some_used [] some = absurd (some refl)
some_used (id ∷ ids) some = omega arith

module _ (held : List ℕ) (format : Format) (old new : List ℕ) (len : ℕ) (heads : Heads) (records : Records)
    (block place id : ℕ)
    (tree : IsTree (loose_of held (Some (record { number = id; block = block })) None) format old len heads records)
    (loses : LosesEntry format block place id old new) where
  abbrev leaf : TreePath
  leaf = record { number = id; block = block }

  abbrev was : Loose
  was = loose_of held (Some (record { number = id; block = block })) None

  abbrev old_leaves : List TreePath
  old_leaves = leaves old heads.blocks

  counted_before : counts_as_data was old heads.blocks block ≡ true
  counted_before = awaited_counts held None old heads.blocks leaf

  is_data : StandsIn (data_with was old heads.blocks) block
  is_data = omega (arith, times-data_with was old heads.blocks block tree.awaited, ap count_of counted_before)

  no_tree : times (tree_blocks old heads.blocks) block ≡ 0
  no_tree = data_no_tree was format old len heads records tree block is_data

  one_used_fewer : length (used_ids format (block_of old block)) ≡ suc (length (used_ids format (block_of new block)))
  one_used_fewer = cleared_length format place id (block_of old block) (block_of new block) loses.clears

  -- the block has as many entries as leaves name it still
  counted_now : length (used_ids format (block_of new block)) ≡ length (ids_at old_leaves block)
  counted_now = omega (arith, one_used_fewer, tree.filled.counted block is_data, ap length (ids_same leaf old_leaves))

  -- and one of each identifier that leads to it
  one_entry : (number : ℕ) → StandsIn (ids_at old_leaves block) number
      → times (used_ids format (block_of new block)) number ≡ 1
  one_entry number stands =
      let differs : id ≢ number = λ is. omega (
        arith,
        stands,
        ap (times (ids_at old_leaves block)) is,
        ids_fewer old_leaves block id,
        tree.awaited.absent,
      ) in
      sym (times-cons-other id (used_ids format (block_of new block)) number differs)
      ∙ sym (cleared_times format place id (block_of old block) (block_of new block) loses.clears number)
      ∙ tree.filled.one_entry block number
      (subst (λ (ids : List ℕ). StandsIn ids number) (sym (ids_same leaf old_leaves))
      (stands_right (id ∷ []) (ids_at old_leaves block) number stands))

  record_now : (number : ℕ) → get (remove records id) number ≡ record_by_leaves format new old_leaves number
  record_now number = elim (cases_eq id number) [
    | inl own ↦ subst (λ (n : ℕ). get (remove records id) n ≡ record_by_leaves format new old_leaves n) own
        (removed_own records id ∙ sym (record_absent format new old_leaves id tree.awaited.absent))
    | inr other ↦ removed_rest records id number other ∙ tree.each_record number
        ∙ record_rest format old leaf old_leaves number other
        ∙ sym (records_stay was format old new len heads records block tree no_tree loses.keeps number
        (cleared_other format place id (block_of old block) (block_of new block) loses.clears number
        (λ is. other (sym is))) old_leaves)
  ]

  -- the block is data now where it has an entry
  counts_now : counts_as_data (loose_of held None None) new heads.blocks block
      ≡ nat_le 1 (length (used_ids format (block_of new block)))
  counts_now =
      ap (λ (ps : List TreePath). nat_le 1 (times (blocks_of ps) block))
      (leaves_same was format old new len heads records block tree no_tree loses.keeps)
      ∙ ap (nat_le 1) (sym (length_ids old_leaves block) ∙ sym counted_now)

  -- the tree with no leaf awaited, where the block is held or data, and is in the entry list where it is to be there
  cleared : (now_held : List ℕ) (misplaced : Option ℕ) (now_len : ℕ) → len ≤ now_len
      → times now_held block + count_of (nat_le 1 (length (used_ids format (block_of new block))))
      ≡ times held block + 1
      → ((number : ℕ) → block ≢ number → times now_held number ≡ times held number)
      → but_misplaced misplaced block (has_room (loose_of held None None) format new heads.blocks block)
      ≡ has_unused format (block_of old block)
      → ((number : ℕ) → block ≢ number → (holds : Bool) → but_misplaced misplaced number holds ≡ holds)
      → IsTree (loose_of now_held None misplaced) format new now_len heads (remove records id)
  cleared now_held misplaced now_len longer own others listed listed_others =
      changed was format old new len heads records block tree no_tree loses.keeps (loose_of now_held None misplaced)
      (remove records id) loses.links (record {
        awaited = tt;
        held_own = omega (arith, own, ap count_of counts_now, ap count_of counted_before);
        held_others = others;
        listed_own = listed ∙ sym (ap (λ (b : Bool). b && has_unused format (block_of old block)) counted_before);
        listed_others = listed_others;
        ids_others = λ number other. sym (ids_other leaf old_leaves number other);
        one_entry = one_entry;
        stated = sym loses.stated;
        counted = counted_now;
        each_record = record_now;
      }) now_len longer

  -- The block has other entries still.
  module _ (others : used_ids format (block_of new block) ≢ []) where
    still_data : nat_le 1 (length (used_ids format (block_of new block))) ≡ true
    still_data =
        le-leb 1 (length (used_ids format (block_of new block)))
        (some_used (used_ids format (block_of new block)) others)

    pub room_now : has_room (loose_of held None None) format new heads.blocks block ≡ true
    room_now =
        ap (λ (b : Bool). b && has_unused format (block_of new block)) (counts_now ∙ still_data)
        ∙ cleared_room format place id (block_of old block) (block_of new block) loses.clears

    still_there : times held block + count_of (nat_le 1 (length (used_ids format (block_of new block))))
        ≡ times held block + 1
    still_there = ap (λ (b : Bool). times held block + count_of b) still_data

    pub cleared_with_room : (now_len : ℕ) → has_unused format (block_of old block) ≡ true → len ≤ now_len
        → IsTree (loose_of held None None) format new now_len heads (remove records id)
    cleared_with_room now_len room longer =
        cleared held None now_len longer still_there (λ number other. refl) (room_now ∙ sym room)
        (λ number other holds. refl)

    pub cleared_of_full : (now_len : ℕ) → has_unused format (block_of old block) ≡ false → len ≤ now_len
        → IsTree (loose_of held None (Some block)) format new now_len heads (remove records id)
    cleared_of_full now_len full longer =
        cleared held (Some block) now_len longer still_there (λ number other. refl)
        (misplaced-same block (has_room (loose_of held None None) format new heads.blocks block)
        ∙ ap not room_now ∙ sym full)
        (λ number other holds. misplaced-other block number holds other)

  -- The entry was the last one of its block.
  module _ (empty : used_ids format (block_of new block) ≡ []) where
    no_data : nat_le 1 (length (used_ids format (block_of new block))) ≡ false
    no_data = ap (λ (ids : List ℕ). nat_le 1 (length ids)) empty

    unused_before : has_unused format (block_of old block) ≡ true
    unused_before =
        unused_left format (block_of old block)
        (omega (arith, one_used_fewer, ap length empty, some_places format place loses.clears.others.low))

    pub last_room : has_room (loose_of held None None) format new heads.blocks block ≡ false
    last_room = ap (λ (b : Bool). b && has_unused format (block_of new block)) (counts_now ∙ no_data)

    pub last_cleared : (now_len : ℕ) → len ≤ now_len
        → IsTree (loose_of (block ∷ held) None (Some block)) format new now_len heads (remove records id)
    last_cleared now_len longer =
        cleared (block ∷ held) (Some block) now_len longer
        (omega (arith, times-cons-same block held, ap count_of no_data))
        (times-cons-other block held)
        (misplaced-same block (has_room (loose_of held None None) format new heads.blocks block) ∙ ap not last_room
        ∙ sym unused_before)
        (λ number other holds. misplaced-other block number holds other)
