-- A tree of which one block alone changed, which is none of its tree blocks, and that not in its links: the leaves and
-- both lists stay, and what is known of the block and of what is loose then makes a tree of it.
use Rattle.std.proofs.Common.{◌≡◌, ◌≢◌, ℕ, ◌+◌, ◌*◌, ◌<◌, ◌≤◌, Bool, true, false, ◌&&◌, if◌then◌else◌, nat_le, nat_lt}
use Rattle.std.proofs.Common.{IfSome, List, [], ◌∷◌, length, sym, ap, subst, ◌∙◌, inl, inr, arith}
use Rattle.std.proofs.lemmas.Bool.{cases_Bool, cases_eq}
use Rattle.std.specs.FinMap.{get}
use Rattle.quota_types.specs.Bytes.{number_at}
use Rattle.quota_types.specs.declared.file_kind.Format.{Format}
use Rattle.quota_types.specs.Times.{StandsIn, times}
use Rattle.quota_types.proofs.TimesLemmas.{stands_right}
use Rattle.file_blocks.specs.Block.{block_of, previous_of, word_at}
use Rattle.quota_value.specs.QuotaValue.{Records}
use Rattle.quota_types.specs.KeptBytes.{KeepsOutside}
use Rattle.quota_types.proofs.BytesLemmas.{number_same}
use Rattle.quota_pages.specs.KeptBlocks.{KeepsBlocksBut}
use Rattle.free_chains.specs.declared.heads.Heads.{Heads}
use Rattle.free_chains.proofs.SpliceLemmas.{chain-same, named-names, names_named, names_same, none_of_one}
use Rattle.quota_radix.specs.declared.tree_path.TreePath.{TreePath}
use Rattle.quota_radix.specs.Tree.{blocks_of, ids_at, leaves, level, lower_blocks, tree_blocks}
use Rattle.quota_radix.specs.TreeDefect.{IsEmpty}
use Rattle.quota_radix.proofs.MoreBlocksLemmas.{KeepsReferences, leaves-among_more, lower_blocks-among_more}
use Rattle.quota_radix.proofs.MoreBlocksLemmas.{tree_blocks-among_more}
use Rattle.quota_radix.proofs.PathLemmas.{length_ids}
use Rattle.tree_meaning.specs.Entries.{has_unused, stated_count, used_ids}
use Rattle.tree_meaning.specs.IsTree.{IsAwaited, IsTree}
use Rattle.tree_meaning.specs.Loose.{Loose, but_misplaced, leaves_with}
use Rattle.tree_meaning.specs.Roles.{OneRole, counts_as_data, data_with, has_room, roles}
use Rattle.tree_meaning.specs.TreeFile.{record_by_leaves, record_in}
use Rattle.tree_meaning.proofs.MovedLemmas.{times-data_with, times-roles}
use Rattle.block_changes.proofs.OneLeafLemmas.{record_alike}

-- whether something is so, as a number
abbrev pub count_of : Bool → ℕ
count_of b = if b then 1 else 0

one_at_most : (b : Bool) → count_of b ≤ 1
one_at_most true = omega arith
one_at_most false = omega arith

-- a block has one role at most
pub one_role : (loose : Loose) (file : List ℕ) (blocks head : ℕ) (are : OneRole loose file blocks head) (block : ℕ)
    → times (roles loose file blocks are.free) block ≤ 1
one_role loose file blocks head are block =
    subst (λ (n : ℕ). n ≤ 1) (sym (are.once block)) (one_at_most (nat_lt block blocks))

-- a data block counts as one, and is none of the tree blocks
module _ (loose : Loose) (format : Format) (file : List ℕ) (len : ℕ) (heads : Heads) (records : Records)
    (tree : IsTree loose format file len heads records) (block : ℕ)
    (is_data : StandsIn (data_with loose file heads.blocks) block) where
  pub data_counts : counts_as_data loose file heads.blocks block ≡ true
  data_counts = elim (cases_Bool (counts_as_data loose file heads.blocks block)) [
    | inl is ↦ is
    | inr other ↦
        absurd (omega (arith, is_data, times-data_with loose file heads.blocks block tree.awaited, ap count_of other))
  ]

  pub data_no_tree : times (tree_blocks file heads.blocks) block ≡ 0
  data_no_tree =
      omega (
        arith,
        is_data,
        one_role loose file heads.blocks heads.free tree.roles block,
        times-roles loose file heads.blocks tree.roles.free block,
      )

-- What is known of one block that changed, and of what is loose then, in place of what was.
pub record ChangesBlock (was now : Loose) (format : Format) (old new : List ℕ) (blocks : ℕ) (records : Records)
    (block : ℕ) : Type 0 where
  -- the leaf that is awaited then
  pub awaited : IfSome now.awaited (IsAwaited new blocks)
  -- the block is held or data where it was one of the two, and the same other blocks are held
  pub held_own : times now.held block + count_of (counts_as_data now new blocks block)
      ≡ times was.held block + count_of (counts_as_data was old blocks block)
  pub held_others : (number : ℕ) → block ≢ number → times now.held number ≡ times was.held number
  -- the block is to be in the entry list where it was to be there, and another one is misplaced where it was
  pub listed_own : but_misplaced now.misplaced block (has_room now format new blocks block)
      ≡ but_misplaced was.misplaced block (has_room was format old blocks block)
  pub listed_others : (number : ℕ) → block ≢ number → (holds : Bool)
      → but_misplaced now.misplaced number holds ≡ but_misplaced was.misplaced number holds
  -- the same identifiers lead to another block
  pub ids_others : (number : ℕ) → block ≢ number
      → ids_at (leaves_with now.awaited (leaves old blocks)) number
      ≡ ids_at (leaves_with was.awaited (leaves old blocks)) number
  -- the entries of the block are in order
  pub one_entry : (id : ℕ) → StandsIn (ids_at (leaves_with now.awaited (leaves old blocks)) block) id
      → times (used_ids format (block_of new block)) id ≡ 1
  pub stated : length (used_ids format (block_of new block)) ≡ stated_count new block
  pub counted : length (used_ids format (block_of new block))
      ≡ length (ids_at (leaves_with now.awaited (leaves old blocks)) block)
  -- and the records are those of the leaves
  pub each_record : (id : ℕ)
      → get records id ≡ record_by_leaves format new (leaves_with now.awaited (leaves old blocks)) id

module _ (was : Loose) (format : Format) (old new : List ℕ) (len : ℕ) (heads : Heads) (records : Records) (block : ℕ)
    (tree : IsTree was format old len heads records) (no_tree : times (tree_blocks old heads.blocks) block ≡ 0)
    (keeps : KeepsBlocksBut (block ∷ []) old new) where
  pub stays : (number : ℕ) → block ≢ number → block_of new number ≡ block_of old number
  stays number other = keeps.others number (none_of_one block number (λ same. other (sym same)))

  -- the words of the tree
  same_references : (number : ℕ) → StandsIn (tree_blocks old heads.blocks) number → (digit : ℕ)
      → word_at new number digit ≡ word_at old number digit
  same_references number stands digit =
      ap (λ (bytes : List ℕ). number_at 4 bytes (4 * digit))
      (stays number (λ same. omega (arith, stands, no_tree, ap (times (tree_blocks old heads.blocks)) same)))

  kept : KeepsReferences old new heads.blocks (tree_blocks old heads.blocks)
  kept =
      record { inside = tree.roles.references; same = λ number stands digit low. same_references number stands digit }

  tree_same : tree_blocks new heads.blocks ≡ tree_blocks old heads.blocks
  tree_same = tree_blocks-among_more old new heads.blocks heads.blocks (omega arith) kept

  pub leaves_same : leaves new heads.blocks ≡ leaves old heads.blocks
  leaves_same = leaves-among_more old new heads.blocks heads.blocks (omega arith) kept

  still_not_empty : (number : ℕ) → StandsIn (lower_blocks new heads.blocks) number → ¬ IsEmpty new number
  still_not_empty number stands empty =
      let there : StandsIn (lower_blocks old heads.blocks) number = subst (λ (xs : List ℕ). StandsIn xs number)
      (lower_blocks-among_more old new heads.blocks heads.blocks (omega arith) kept) stands in
      tree.filled.not_empty number there
      (λ digit low. sym
      (same_references number (stands_right (level old heads.blocks 0) (lower_blocks old heads.blocks) number there)
      digit) ∙ empty digit low)

  -- the record of an identifier by some leaves is the same where it is in the block that changed
  pub records_stay : (id : ℕ) → record_in format (block_of new block) id ≡ record_in format (block_of old block) id
      → (ps : List TreePath) → record_by_leaves format new ps id ≡ record_by_leaves format old ps id
  records_stay id own ps = record_alike format old new id ps (λ at stands. elim (cases_eq block at) [
    | inl same ↦ subst (λ (n : ℕ). record_in format (block_of new n) id ≡ record_in format (block_of old n) id) same own
    | inr other ↦ ap (λ (bytes : List ℕ). record_in format bytes id) (stays at other)
  ])

  module _ (now : Loose) (now_records : Records) (links : KeepsOutside 8 1024 (block_of old block) (block_of new block))
      (changes : ChangesBlock was now format old new heads.blocks now_records block) where
    -- the links of each block
    link_same : (number at : ℕ) → at + 4 ≤ 8
        → number_at 4 (block_of new number) at ≡ number_at 4 (block_of old number) at
    link_same number at few = elim (cases_eq block number) [
      | inl same ↦ subst (λ (n : ℕ). number_at 4 (block_of new n) at ≡ number_at 4 (block_of old n) at) same
          (number_same 4 at (block_of new block) (block_of old block) (λ k from to. links.before k (omega (
            arith,
            few,
            to,
          ))))
      | inr other ↦ ap (λ (bytes : List ℕ). number_at 4 bytes at) (stays number other)
    ]

    -- another block is data where it was, and has room where it had
    counts_others : (number : ℕ) → block ≢ number
        → counts_as_data now new heads.blocks number ≡ counts_as_data was old heads.blocks number
    counts_others number other =
        ap (λ (ps : List TreePath). nat_le 1 (times (blocks_of (leaves_with now.awaited ps)) number)) leaves_same
        ∙ ap (nat_le 1) (sym (length_ids (leaves_with now.awaited (leaves old heads.blocks)) number)
        ∙ ap length (changes.ids_others number other)
        ∙ length_ids (leaves_with was.awaited (leaves old heads.blocks)) number)

    data_others : (number : ℕ) → block ≢ number → StandsIn (data_with now new heads.blocks) number
        → StandsIn (data_with was old heads.blocks) number
    data_others number other stands = omega (
      arith,
      stands,
      times-data_with now new heads.blocks number changes.awaited,
      times-data_with was old heads.blocks number tree.awaited,
      ap count_of (counts_others number other),
    )

    room_others : (number : ℕ) → block ≢ number
        → has_room now format new heads.blocks number ≡ has_room was format old heads.blocks number
    room_others number other = λ i. counts_others number other i && has_unused format (stays number other i)

    -- each block is held or data where it was
    same_roles : (number : ℕ)
        → times now.held number + times (data_with now new heads.blocks) number
        ≡ times was.held number + times (data_with was old heads.blocks) number
    same_roles number =
        let data_now = times-data_with now new heads.blocks number changes.awaited in
        let data_was = times-data_with was old heads.blocks number tree.awaited in
        elim (cases_eq block number) [
          | inl same ↦
              let own : times now.held number + count_of (counts_as_data now new heads.blocks number)
              ≡ times was.held number + count_of (counts_as_data was old heads.blocks number) =
              subst (λ (n : ℕ). times now.held n + count_of (counts_as_data now new heads.blocks n)
              ≡ times was.held n + count_of (counts_as_data was old heads.blocks n)) same changes.held_own in
              omega (arith, own, data_now, data_was)
          | inr other ↦ omega
              (arith, data_now, data_was, changes.held_others number other, ap count_of (counts_others number other))
        ]

    still_listed : (number : ℕ)
        → but_misplaced now.misplaced number (has_room now format new heads.blocks number)
        ≡ but_misplaced was.misplaced number (has_room was format old heads.blocks number)
    still_listed number = elim (cases_eq block number) [
      | inl same ↦ subst
          (λ (n : ℕ). but_misplaced now.misplaced n (has_room now format new heads.blocks n)
          ≡ but_misplaced was.misplaced n (has_room was format old heads.blocks n)) same changes.listed_own
      | inr other ↦ changes.listed_others number other (has_room now format new heads.blocks number)
          ∙ ap (but_misplaced was.misplaced number) (room_others number other)
    ]

    still_one_entry : (number id : ℕ) → StandsIn (ids_at (leaves_with now.awaited (leaves old heads.blocks)) number) id
        → times (used_ids format (block_of new number)) id ≡ 1
    still_one_entry number id stands = elim (cases_eq block number) [
      | inl same ↦ subst
          (λ (n : ℕ). StandsIn (ids_at (leaves_with now.awaited (leaves old heads.blocks)) n) id
          → times (used_ids format (block_of new n)) id ≡ 1) same (changes.one_entry id) stands
      | inr other ↦ ap (λ (bytes : List ℕ). times (used_ids format bytes) id) (stays number other)
          ∙ tree.filled.one_entry number id
          (subst (λ (ids : List ℕ). StandsIn ids id) (changes.ids_others number other) stands)
    ]

    pub changed : (now_len : ℕ) → len ≤ now_len → IsTree now format new now_len heads now_records
    changed now_len longer = record {
      two = tree.two;
      long = λ more. omega (arith, tree.long more, longer);
      awaited = changes.awaited;
      roles = record {
        references = λ number stands digit low.
            let there : StandsIn (tree_blocks old heads.blocks) number =
            subst (λ (xs : List ℕ). StandsIn xs number) tree_same stands in
            subst (λ (n : ℕ). n < heads.blocks) (sym (same_references number there digit))
            (tree.roles.references number there digit low);
        free = tree.roles.free;
        is_free = chain-same old new heads.blocks heads.free tree.roles.free 0
            (λ number stands. link_same number 0 (omega arith)) tree.roles.is_free;
        once = λ number. omega (
          arith,
          tree.roles.once number,
          times-roles was old heads.blocks tree.roles.free number,
          times-roles now new heads.blocks tree.roles.free number,
          ap (λ (xs : List ℕ). times xs number) tree_same,
          same_roles number,
        );
      };
      chained = record {
        chain = tree.chained.chain;
        is_chain = chain-same old new heads.blocks heads.first tree.chained.chain 0
            (λ number stands. link_same number 0 (omega arith)) tree.chained.is_chain;
        has_those = λ number. tree.chained.has_those number ∙ ap count_of (sym (still_listed number));
        previous = named-names (previous_of new) 0 tree.chained.chain
            (names_same (previous_of old) (previous_of new) 0 tree.chained.chain
            (λ number stands. link_same number 4 (omega arith))
            (names_named (previous_of old) 0 tree.chained.chain tree.chained.previous));
      };
      filled = record {
        not_empty = still_not_empty;
        one_entry = λ number id stands. still_one_entry number id
            (subst (λ (ps : List TreePath). StandsIn (ids_at (leaves_with now.awaited ps) number) id)
            leaves_same stands);
        stated = λ number stands. elim (cases_eq block number) [
          | inl same ↦
              subst (λ (n : ℕ). length (used_ids format (block_of new n)) ≡ stated_count new n) same changes.stated
          | inr other ↦ subst (λ (bytes : List ℕ). length (used_ids format bytes) ≡ number_at 2 bytes 8)
              (sym (stays number other)) (tree.filled.stated number (data_others number other stands))
        ];
        counted = λ number stands.
            elim (cases_eq block number) [
              | inl same ↦ subst
                  (λ (n : ℕ). length (used_ids format (block_of new n))
                  ≡ length (ids_at (leaves_with now.awaited (leaves old heads.blocks)) n)) same changes.counted
              | inr other ↦ ap (λ (bytes : List ℕ). length (used_ids format bytes)) (stays number other)
                  ∙ tree.filled.counted number (data_others number other stands)
                  ∙ sym (ap length (changes.ids_others number other))
            ]
            ∙ ap (λ (ps : List TreePath). length (ids_at (leaves_with now.awaited ps) number)) (sym leaves_same);
      };
      each_record = λ id. changes.each_record id
          ∙ ap (λ (ps : List TreePath). record_by_leaves format new (leaves_with now.awaited ps) id) (sym leaves_same);
    }
