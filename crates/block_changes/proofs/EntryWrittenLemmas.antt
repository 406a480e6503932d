-- An entry that was written before a path leads to it, at an unused place of a data block or as the first one of a held
-- block: its leaf is awaited.
use Rattle.std.proofs.Common.{◌≡◌, ◌≢◌, ℕ, suc, ◌+◌, ◌^◌, ◌<◌, ◌≤◌, Bool, true, false, not, ◌&&◌, IsTrue, List, [], ◌∷◌}
use Rattle.std.proofs.Common.{length, replicate, Option, Some, None, refl, sym, ap, subst, ◌∙◌, inl, inr, arith, le-ltb}
use Rattle.std.proofs.Common.{lt-ltb}
use Rattle.std.proofs.lemmas.Bool.{cases_Bool, cases_eq, cases_lt, le-leb}
use Rattle.std.specs.FinMap.{get, insert}
use Rattle.quota_types.specs.declared.file_kind.Format.{Format}
use Rattle.quota_types.proofs.FormatLemmas.{by_tree}
use Rattle.quota_types.specs.declared.record.Entry.{Entry}
use Rattle.quota_types.specs.declared.record.Rec.{Rec}
use Rattle.quota_types.specs.Times.{StandsIn, times}
use Rattle.quota_types.proofs.TimesLemmas.{stands_cons, times-cons-other, times-cons-same, times_cases}
use Rattle.file_blocks.specs.Block.{block_of, leads}
use Rattle.quota_value.specs.QuotaValue.{Records}
use Rattle.file_blocks.proofs.LeadsLemmas.{leads_from}
use Rattle.entry_codec.specs.Entry.{entries_per_block}
use Rattle.entry_codec.proofs.TreeLemmas.{places_tree}
use Rattle.free_chains.specs.declared.heads.Heads.{Heads}
use Rattle.quota_radix.specs.declared.tree_path.TreePath.{TreePath}
use Rattle.quota_radix.specs.Tree.{blocks_of, ids_at, leaves, numbers_of, tree_blocks}
use Rattle.quota_radix.proofs.PathLemmas.{ids_distinct, length_ids}
use Rattle.tree_meaning.specs.Entries.{has_unused, used_ids}
use Rattle.tree_meaning.specs.IsTree.{IsTree}
use Rattle.tree_meaning.specs.Loose.{Loose, but_misplaced, loose_of}
use Rattle.tree_meaning.specs.Roles.{counts_as_data, data_with, has_room}
use Rattle.tree_meaning.specs.TreeFile.{record_by_leaves}
use Rattle.tree_meaning.proofs.BlankLemmas.{blank_ids}
use Rattle.tree_meaning.proofs.EntryChangeLemmas.{few_used, put_length, put_other, put_own, put_times, room_by_count}
use Rattle.tree_meaning.proofs.FrameLemmas.{data_leads}
use Rattle.tree_meaning.proofs.ListedLemmas.{misplaced-other, misplaced-same}
use Rattle.tree_meaning.proofs.MovedLemmas.{times-data_with, times-roles}
use Rattle.block_changes.specs.EntryChanges.{WritesEntry}
use Rattle.block_changes.proofs.OneBlockLemmas.{changed, count_of, data_counts, data_no_tree, leaves_same, one_role}
use Rattle.block_changes.proofs.OneBlockLemmas.{records_stay}
use Rattle.block_changes.proofs.OneLeafLemmas.{awaited_counts, ids_fewer, ids_other, ids_same, inserted_own}
use Rattle.block_changes.proofs.OneLeafLemmas.{inserted_rest, no_leaf_of, no_stray, record_first, record_rest}

-- a format with one place for an entry has more
pub some_places : (format : Format) (place : ℕ) → place < entries_per_block format → 1 < entries_per_block format
some_places format place low =
    by_tree (λ (format : Format). 1 < entries_per_block format) (omega arith) (omega arith) format
    (places_tree format place low)

-- a block that uses fewer entries than it has places has room
pub unused_left : (format : Format) (bytes : List ℕ) → length (used_ids format bytes) < entries_per_block format
    → has_unused format bytes ≡ true
unused_left format bytes fewer =
    room_by_count format bytes ∙ lt-ltb (length (used_ids format bytes)) (entries_per_block format) fewer

-- The block is none of the tree, and used as many entries as leaves named it.
module _ (held now_held : List ℕ) (format : Format) (old new : List ℕ) (len : ℕ) (heads : Heads) (records : Records)
    (block place id : ℕ) (rec : Rec)
    (tree : IsTree (loose_of held None None) format old len heads records)
    (no_tree : times (tree_blocks old heads.blocks) block ≡ 0) (inside : IsTrue (leads heads.blocks block))
    (counted : length (used_ids format (block_of old block)) ≡ length (ids_at (leaves old heads.blocks) block))
    (small : id < 2 ^ 32) (no_record : get records id ≡ None)
    (writes : WritesEntry format block place (record { id = id; rec = rec }) old new) where
  abbrev was : Loose
  was = loose_of held None None

  abbrev leaf : TreePath
  leaf = record { number = id; block = block }

  abbrev entry : Entry
  entry = record { id = id; rec = rec }

  abbrev used_before : List ℕ
  used_before = used_ids format (block_of old block)

  abbrev old_leaves : List TreePath
  old_leaves = leaves old heads.blocks

  -- no leaf has the identifier, so the block had no entry of it
  absent : times (numbers_of old_leaves) id ≡ 0
  absent = no_leaf_of held None format old len heads records id tree no_record

  not_used : times used_before id ≡ 0
  not_used =
      no_stray (ids_at old_leaves block) used_before
      (λ n. elim (cases_lt 0 (times (ids_at old_leaves block) n)) [
        | inl stands ↦ omega (arith, tree.filled.one_entry block n stands, ids_distinct old heads.blocks block n)
        | inr none ↦ omega (arith, none)
      ])
      (omega (arith, counted)) id (omega (arith, absent, ids_fewer old_leaves block id))

  -- the block has one entry of each identifier that leads to it now
  own_entry : (n : ℕ) → StandsIn (ids_at (leaf ∷ old_leaves) block) n
      → times (used_ids format (block_of new block)) n ≡ 1
  own_entry n stands =
      put_times format place entry (block_of old block) (block_of new block) writes.puts n
      ∙ elim (times_cases id used_before n) [
        | inl same ↦ omega (arith, same.1, not_used, ap (times used_before) same.0)
        | inr other ↦ elim (stands_cons id (ids_at old_leaves block) n
            (subst (λ (ids : List ℕ). StandsIn ids n) (ids_same leaf old_leaves) stands)) [
              | inl same ↦ absurd (other.0 same)
              | inr there ↦ other.1 ∙ tree.filled.one_entry block n there
            ]
      ]

  record_now : (number : ℕ)
      → get (insert records id rec) number ≡ record_by_leaves format new (leaf ∷ old_leaves) number
  record_now number = elim (cases_eq id number) [
    | inl own ↦ subst (λ (n : ℕ). get (insert records id rec) n ≡ record_by_leaves format new (leaf ∷ old_leaves) n) own
        (inserted_own records id rec
        ∙ sym (record_first format new leaf old_leaves
        ∙ put_own format place entry (block_of old block) (block_of new block) writes.puts not_used))
    | inr other ↦ inserted_rest records id number rec other ∙ tree.each_record number
        ∙ sym (record_rest format new leaf old_leaves number other
        ∙ records_stay was format old new len heads records block tree no_tree writes.keeps number
        (put_other format place entry (block_of old block) (block_of new block) writes.puts number
        (λ is. other (sym is))) old_leaves)
  ]

  -- the tree with its leaf awaited, where the block was held or data, and is in the entry list where it is to be there
  written : (misplaced : Option ℕ) (now_len : ℕ) → len ≤ now_len
      → times now_held block + 1 ≡ times held block + count_of (counts_as_data was old heads.blocks block)
      → ((number : ℕ) → block ≢ number → times now_held number ≡ times held number)
      → but_misplaced misplaced block (has_unused format (block_of new block))
      ≡ has_room was format old heads.blocks block
      → ((number : ℕ) → block ≢ number → (holds : Bool) → but_misplaced misplaced number holds ≡ holds)
      → IsTree (loose_of now_held (Some (record { number = id; block = block })) misplaced) format new now_len heads
      (insert records id rec)
  written misplaced now_len longer own others listed listed_others =
      let now : Loose = loose_of now_held (Some (record { number = id; block = block })) misplaced in
      let counts : counts_as_data now new heads.blocks block ≡ true =
      awaited_counts now_held misplaced new heads.blocks leaf in
      changed was format old new len heads records block tree no_tree writes.keeps now (insert records id rec)
      writes.links (record {
        awaited = record {
          small = small;
          absent = ap (λ (ps : List TreePath). times (numbers_of ps) id)
              (leaves_same was format old new len heads records block tree no_tree writes.keeps) ∙ absent;
          inside = inside;
        };
        held_own = omega (arith, own, ap count_of counts);
        held_others = others;
        listed_own = ap (λ (b : Bool). but_misplaced misplaced block (b && has_unused format (block_of new block)))
            counts ∙ listed;
        listed_others = listed_others;
        ids_others = ids_other leaf old_leaves;
        one_entry = own_entry;
        stated = sym writes.stated;
        counted = put_length format place entry (block_of old block) (block_of new block) writes.puts ∙ ap suc counted
            ∙ sym (ap length (ids_same leaf old_leaves));
        each_record = record_now;
      }) now_len longer

-- The block was data.
module _ (held : List ℕ) (format : Format) (old new : List ℕ) (len : ℕ) (heads : Heads) (records : Records)
    (block place id : ℕ) (rec : Rec)
    (tree : IsTree (loose_of held None None) format old len heads records)
    (is_data : StandsIn (data_with (loose_of held None None) old heads.blocks) block)
    (small : id < 2 ^ 32) (no_record : get records id ≡ None)
    (writes : WritesEntry format block place (record { id = id; rec = rec }) old new) where
  abbrev data_was : Loose
  data_was = loose_of held None None

  counts_before : counts_as_data data_was old heads.blocks block ≡ true
  counts_before = data_counts data_was format old len heads records tree block is_data

  room_before : has_room data_was format old heads.blocks block ≡ true
  room_before =
      ap (λ (b : Bool). b && has_unused format (block_of old block)) counts_before
      ∙ unused_left format (block_of old block) (omega (
        arith,
        put_length format place (record { id = id; rec = rec }) (block_of old block) (block_of new block) writes.puts,
        few_used format (block_of new block),
      ))

  written_data : (misplaced : Option ℕ) (now_len : ℕ) → len ≤ now_len
      → but_misplaced misplaced block (has_unused format (block_of new block)) ≡ true
      → ((number : ℕ) → block ≢ number → (holds : Bool) → but_misplaced misplaced number holds ≡ holds)
      → IsTree (loose_of held (Some (record { number = id; block = block })) misplaced) format new now_len heads
      (insert records id rec)
  written_data misplaced now_len longer listed listed_others =
      written held held format old new len heads records block place id rec tree
      (data_no_tree data_was format old len heads records tree block is_data)
      (data_leads data_was old heads.blocks block tree.awaited counts_before) (tree.filled.counted block is_data) small
      no_record writes misplaced now_len longer
      (omega (arith, ap count_of counts_before)) (λ number other. refl) (listed ∙ sym room_before) listed_others

  -- the block has an unused entry still
  pub written_with_room : (now_len : ℕ) → has_unused format (block_of new block) ≡ true → len ≤ now_len
      → IsTree (loose_of held (Some (record { number = id; block = block })) None) format new now_len heads
      (insert records id rec)
  written_with_room now_len room longer = written_data None now_len longer room (λ number other holds. refl)

  -- the block is full
  pub written_full : (now_len : ℕ) → has_unused format (block_of new block) ≡ false → len ≤ now_len
      → IsTree (loose_of held (Some (record { number = id; block = block })) (Some block)) format new now_len heads
      (insert records id rec)
  written_full now_len full longer =
      written_data (Some block) now_len longer
      (misplaced-same block (has_unused format (block_of new block)) ∙ ap not full)
      (λ number other holds. misplaced-other block number holds other)

-- The block was held, and blank.
module _ (held : List ℕ) (format : Format) (old new : List ℕ) (len : ℕ) (heads : Heads) (records : Records)
    (block place id : ℕ) (rec : Rec)
    (tree : IsTree (loose_of (block ∷ held) None None) format old len heads records)
    (blank : block_of old block ≡ replicate 1024 0)
    (writes : WritesEntry format block place (record { id = id; rec = rec }) old new) where
  abbrev held_was : Loose
  held_was = loose_of (block ∷ held) None None

  used_none : used_ids format (block_of old block) ≡ []
  used_none = ap (used_ids format) blank ∙ blank_ids format

  unused_now : has_unused format (block_of new block) ≡ true
  unused_now = unused_left format (block_of new block) (omega (
    arith,
    put_length format place (record { id = id; rec = rec }) (block_of old block) (block_of new block) writes.puts,
    ap length used_none,
    some_places format place writes.puts.others.low,
  ))

  pub first_room : has_room (loose_of held (Some (record { number = id; block = block })) (Some block)) format new
      heads.blocks block ≡ true
  first_room =
      λ i. awaited_counts held (Some block) new heads.blocks (record { number = id; block = block }) i && unused_now i

  -- what is held has no other role
  has_no_other : (times (0 ∷ []) block ≡ 0) × (times (tree_blocks old heads.blocks) block ≡ 0)
      × (times (data_with held_was old heads.blocks) block ≡ 0)
  has_no_other =
      let once = one_role held_was old heads.blocks heads.free tree.roles block in
      let each = times-roles held_was old heads.blocks tree.roles.free block in
      let there = times-cons-same block held in (
        omega (arith, once, each, there),
        omega (arith, once, each, there),
        omega (arith, once, each, there),
      )

  held_inside : IsTrue (leads heads.blocks block)
  held_inside = leads_from heads.blocks block
      (elim (cases_eq 0 block) [
        | inl same ↦ absurd (omega (arith, has_no_other.0, times-cons-same 0 [], ap (times (0 ∷ [])) same))
        | inr other ↦ omega (arith, other)
      ])
      (elim (cases_lt block heads.blocks) [
        | inl low ↦ low
        | inr high ↦ absurd (omega (
          arith,
          tree.roles.once block,
          ap count_of (le-ltb block heads.blocks high),
          times-roles held_was old heads.blocks tree.roles.free block,
          times-cons-same block held,
        ))
      ])

  not_data : counts_as_data held_was old heads.blocks block ≡ false
  not_data = elim (cases_Bool (counts_as_data held_was old heads.blocks block)) [
    | inl is ↦
        absurd (omega (arith, has_no_other.2, times-data_with held_was old heads.blocks block tt, ap count_of is))
    | inr other ↦ other
  ]

  -- so no leaf names it
  no_ids : length (ids_at (leaves old heads.blocks) block) ≡ 0
  no_ids = elim (cases_lt 0 (times (blocks_of (leaves old heads.blocks)) block)) [
    | inl some ↦ absurd (omega (
      arith,
      ap count_of (sym (le-leb 1 (times (blocks_of (leaves old heads.blocks)) block) some) ∙ not_data),
    ))
    | inr none ↦ omega (arith, none, length_ids (leaves old heads.blocks) block)
  ]

  -- its first entry makes data of it
  pub first_written : id < 2 ^ 32 → get records id ≡ None → (now_len : ℕ) → len ≤ now_len
      → IsTree (loose_of held (Some (record { number = id; block = block })) (Some block)) format new now_len heads
      (insert records id rec)
  first_written small no_record now_len longer =
      written (block ∷ held) held format old new len heads records block place id rec tree has_no_other.1 held_inside
      (omega (arith, no_ids, ap length used_none)) small no_record writes (Some block) now_len longer
      (omega (arith, times-cons-same block held, ap count_of not_data))
      (λ number other. sym (times-cons-other block held number other))
      (misplaced-same block (has_unused format (block_of new block)) ∙ ap not unused_now
      ∙ sym (ap (λ (b : Bool). b && has_unused format (block_of old block)) not_data))
      (λ number other holds. misplaced-other block number holds other)
