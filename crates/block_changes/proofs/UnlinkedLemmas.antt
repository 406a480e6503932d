-- A leaf that was unlinked: it is awaited then, and the tree blocks that were emptied are held.
use Rattle.std.proofs.Common.{◌≡◌, ℕ, suc, cond, find, ◌==◌, ◌-◌, ◌*◌, ◌^◌, ◌<◌, ◌≤◌, Bool, true, false, ◌&&◌, nat_le}
use Rattle.std.proofs.Common.{List, [], ◌∷◌, ◌++◌, length, get_or, filter, take, reverse, Option, Some, None}
use Rattle.std.proofs.Common.{option_and_then, refl, sym, ap, subst, ◌∙◌, inl, inr, arith, le-leb, eq-eqb, ne_eqb}
use Rattle.std.proofs.Common.{length-take}
use Rattle.std.specs.List.{range_with_len}
use Rattle.std.proofs.lemmas.Bool.{cases_Bool, cases_eq, cases_lt}
use Rattle.std.proofs.lemmas.List.{get_or-take, reverse-append}
use Rattle.quota_types.specs.Bytes.{number_at}
use Rattle.quota_types.specs.declared.file_kind.Format.{Format}
use Rattle.quota_types.specs.Times.{StandsIn, times}
use Rattle.quota_types.proofs.TimesLemmas.{only_one, stands_either, times-append, times-cons-other}
use Rattle.file_blocks.specs.Block.{block_of, word_at}
use Rattle.quota_value.specs.QuotaValue.{Records}
use Rattle.quota_pages.specs.Used.{HasWord}
use Rattle.quota_pages.specs.KeptBlocks.{KeepsBlocksBut}
use Rattle.free_chains.specs.declared.heads.Heads.{Heads}
use Rattle.free_chains.proofs.SpliceLemmas.{chain-stays, names-stay}
use Rattle.quota_radix.specs.declared.tree_path.TreePath.{TreePath}
use Rattle.quota_radix.specs.Tree.{blocks_of, ids_at, leaves, numbers_of, tree_blocks}
use Rattle.quota_radix.specs.Unlink.{ClearsAlong, IsUnlinkable, LosesLeaf}
use Rattle.quota_radix.specs.Way.{digit_on_way}
use Rattle.quota_radix.specs.OnWay.{blocks_on_way}
use Rattle.quota_radix.proofs.DescentLemmas.{not_some}
use Rattle.quota_radix.proofs.LeafLemmas.{no_leaf_of_block}
use Rattle.quota_radix.proofs.LinkPathLemmas.{last_in_tree, word_kept}
use Rattle.quota_radix.proofs.LinkWayLemmas.{way_last}
use Rattle.quota_radix.proofs.PathLemmas.{Rises-paths}
use Rattle.quota_radix.proofs.UnlinkLawLemmas.{unlinked_gone}
use Rattle.tree_meaning.specs.Entries.{has_unused, used_ids}
use Rattle.tree_meaning.specs.IsTree.{IsTree}
use Rattle.tree_meaning.specs.Loose.{Loose, loose_of}
use Rattle.tree_meaning.specs.Roles.{Filled, counts_as_data, data_with, has_room}
use Rattle.tree_meaning.specs.TreeFile.{record_by_leaves, record_in}
use Rattle.tree_meaning.proofs.AwaitedLemmas.{find-awaited, length-ids, times-blocks, times-ids}
use Rattle.tree_meaning.proofs.FrameLemmas.{named_of_id}
use Rattle.tree_meaning.proofs.MovedLemmas.{times-data_with, times-roles}
use Rattle.block_changes.proofs.OneBlockLemmas.{count_of, one_role}
use Rattle.block_changes.proofs.OneLeafLemmas.{record_alike}

times-reverse : (xs : List ℕ) (n : ℕ) → times (reverse xs) n ≡ times xs n
times-reverse [] n = refl
times-reverse (x ∷ xs) n = omega (
  arith,
  ap (λ (ns : List ℕ). times ns n) (reverse-append (x ∷ []) xs),
  times-append (reverse xs) (x ∷ []) n,
  times-append (x ∷ []) xs n,
  times-reverse xs n,
)

-- an identifier by which no path is found is that of none
none_found : (ps : List TreePath) (id : ℕ) → find (λ (other : TreePath). other.number == id) ps ≡ None
    → times (numbers_of ps) id ≡ 0
none_found [] id none = refl
none_found (p ∷ ps) id none =
    let found : Bool → Option TreePath = λ b. cond b (Some p) (find (λ (other : TreePath). other.number == id) ps) in
    elim (cases_eq p.number id) [
      | inl same ↦ absurd (not_some p (sym (ap found (eq-eqb p.number id same)) ∙ none))
      | inr other ↦ times-cons-other p.number (numbers_of ps) id other
          ∙ none_found ps id (sym (ap found (ne_eqb p.number id other)) ∙ none)
    ]

pub unlinkable : (held way : List ℕ) (format : Format) (old : List ℕ) (len : ℕ) (heads : Heads)
    (records : Records) (id : ℕ)
    → IsTree (loose_of held None None) format old len heads records → way ≡ blocks_on_way old heads.blocks id
    → IsUnlinkable old heads.blocks way id
unlinkable held way format old len heads records id tree is = record {
  once = λ block. omega (
    arith,
    one_role (loose_of held None None) old heads.blocks heads.free tree.roles block,
    times-roles (loose_of held None None) old heads.blocks tree.roles.free block,
  );
  way = is;
}

module _ (held way emptied : List ℕ) (format : Format) (old new : List ℕ) (len : ℕ) (heads : Heads)
    (records : Records) (id : ℕ)
    (tree : IsTree (loose_of held None None) format old len heads records) (small : id < 2 ^ 32) (five : length way ≡ 5)
    (few : length emptied ≤ 3)
    (clears : ClearsAlong way (3 - length emptied) id old new)
    (keeps : KeepsBlocksBut (emptied ++ get_or way (3 - length emptied) 0 ∷ []) old new)
    (loses : LosesLeaf way emptied id heads.blocks old new) where
  abbrev leaf : TreePath
  leaf = record { number = id; block = get_or way 4 0 }

  abbrev was : Loose
  was = loose_of held None None

  abbrev now : Loose
  now = loose_of (emptied ++ held) (Some (record { number = id; block = get_or way 4 0 })) None

  -- the block above the emptied ones
  abbrev last : ℕ
  last = get_or way (3 - length emptied) 0

  abbrev changed : List ℕ
  changed = emptied ++ get_or way (3 - length emptied) 0 ∷ []

  absent : times (numbers_of (leaves new heads.blocks)) id ≡ 0
  absent =
      none_found (leaves new heads.blocks) id
      (no_leaf_of_block new heads.blocks id small (sym (unlinked_gone old new way emptied heads.blocks id loses)))

  last_new : StandsIn (tree_blocks new heads.blocks) last
  last_new =
      let found : List ℕ = take (4 - length emptied) way in
      let gone : ℕ = 3 - length emptied in
      let long : length found ≡ suc gone = omega (arith, length-take (4 - length emptied) way, five, few) in
      subst (StandsIn (tree_blocks new heads.blocks)) (get_or-take (4 - length emptied) way gone 0 (omega (arith, few)))
      (last_in_tree new heads.blocks id gone (get_or found gone 0) small (omega arith)
      (way_last new found heads.blocks id gone loses.can.way long))

  in_old : (block : ℕ) → StandsIn (tree_blocks new heads.blocks) block → StandsIn (tree_blocks old heads.blocks) block
  in_old block stands = omega (arith, stands, loses.levels.tree block)

  -- each changed block was one of the tree
  pub changed_old : (block : ℕ) → StandsIn changed block → StandsIn (tree_blocks old heads.blocks) block
  changed_old block stands = elim (stands_either emptied (last ∷ []) block stands) [
    | inl gave ↦ omega (arith, gave, loses.levels.tree block, times-reverse emptied block)
    | inr is ↦ subst (StandsIn (tree_blocks old heads.blocks)) (only_one last block is) (in_old last last_new)
  ]

  -- and the last one alone still is
  is_last : (block : ℕ) → StandsIn (tree_blocks new heads.blocks) block → StandsIn changed block → last ≡ block
  is_last block there stands = elim (stands_either emptied (last ∷ []) block stands) [
    | inl gave ↦
        absurd (omega (arith, there, loses.can.unused block (omega (arith, gave, times-reverse emptied block))))
    | inr is ↦ only_one last block is
  ]

  references : (block : ℕ) → StandsIn (tree_blocks new heads.blocks) block → (digit : ℕ) → digit < 256
      → word_at new block digit < heads.blocks
  references block stands digit low = elim (cases_lt 0 (times changed block)) [
    | inl is ↦
        let gone : ℕ = 3 - length emptied in
        let word : HasWord last (4 * digit_on_way id gone) 0 old new = clears gone (omega arith) (omega arith) in
        subst (λ (n : ℕ). word_at new n digit < heads.blocks) (is_last block stands is)
        (elim (cases_eq digit (digit_on_way id gone)) [
          | inl same ↦ omega (arith, ap (word_at new last) same ∙ word.is, tree.two)
          | inr other ↦ subst (λ (n : ℕ). n < heads.blocks)
              (sym (word_kept last (digit_on_way id gone) 0 digit old new word other))
              (tree.roles.references last (in_old last last_new) digit low)
        ])
    | inr same ↦ subst (λ (bytes : List ℕ). number_at 4 bytes (4 * digit) < heads.blocks)
        (sym (keeps.others block (omega (arith, same)))) (tree.roles.references block (in_old block stands) digit low)
  ]

  -- no changed block is data, or free
  changed_apart : (block : ℕ) → StandsIn changed block
      → (times (data_with was old heads.blocks) block ≡ 0) × (times tree.roles.free block ≡ 0)
  changed_apart block stands =
      let one = one_role was old heads.blocks heads.free tree.roles block in
      let there = changed_old block stands in (
        omega (arith, one, there, times-roles was old heads.blocks tree.roles.free block),
        omega (arith, one, there, times-roles was old heads.blocks tree.roles.free block),
      )

  counts_same : (block : ℕ) → counts_as_data now new heads.blocks block ≡ counts_as_data was old heads.blocks block
  counts_same block =
      sym (ap (λ (ps : List TreePath). nat_le 1 (times (blocks_of ps) block)) loses.leaves
      ∙ ap (λ (n : ℕ). nat_le 1 n)
      (times-blocks (leaves new heads.blocks) leaf 0 (256 ^ 4) (Rises-paths new heads.blocks 4) absent block))

  data_same : data_with now new heads.blocks ≡ data_with was old heads.blocks
  data_same = λ i. filter (λ block. counts_same block i) (range_with_len 0 heads.blocks)

  -- a data block stays
  data_stays : (block : ℕ) → StandsIn (data_with was old heads.blocks) block → block_of new block ≡ block_of old block
  data_stays block stands = elim (cases_lt 0 (times changed block)) [
    | inl is ↦ absurd (omega (arith, stands, (changed_apart block is).0))
    | inr other ↦ keeps.others block (omega (arith, other))
  ]

  counted_stays : (block : ℕ) → counts_as_data was old heads.blocks block ≡ true
      → block_of new block ≡ block_of old block
  counted_stays block is =
      data_stays block (omega (arith, times-data_with was old heads.blocks block tree.awaited, ap count_of is))

  room_same : (block : ℕ) → has_room now format new heads.blocks block ≡ has_room was format old heads.blocks block
  room_same block =
      ap (λ (b : Bool). b && has_unused format (block_of new block)) (counts_same block)
      ∙ elim (counts_as_data was old heads.blocks block) as
      (λ b. counts_as_data was old heads.blocks block ≡ b
      → (b && has_unused format (block_of new block)) ≡ (b && has_unused format (block_of old block))) [
        | true ↦ λ is. ap (has_unused format) (counted_stays block is)
        | false ↦ λ is. refl
      ] refl

  -- as often does an identifier lead to a block
  times_same : (block number : ℕ)
      → times (ids_at (leaf ∷ leaves new heads.blocks) block) number
      ≡ times (ids_at (leaves old heads.blocks) block) number
  times_same block number =
      sym (ap (λ (ps : List TreePath). times (ids_at ps block) number) loses.leaves
      ∙ times-ids (leaves new heads.blocks) leaf 0 (256 ^ 4) (Rises-paths new heads.blocks 4) absent block number)

  length_same : (block : ℕ)
      → length (ids_at (leaf ∷ leaves new heads.blocks) block) ≡ length (ids_at (leaves old heads.blocks) block)
  length_same block =
      sym (ap (λ (ps : List TreePath). length (ids_at ps block)) loses.leaves
      ∙ length-ids (leaves new heads.blocks) leaf 0 (256 ^ 4) (Rises-paths new heads.blocks 4) absent block)

  named_stays : (block : ℕ) → StandsIn (blocks_of (leaves old heads.blocks)) block
      → block_of new block ≡ block_of old block
  named_stays block stands = counted_stays block (le-leb 1 (times (blocks_of (leaves old heads.blocks)) block) stands)

  filled : Filled now format new heads.blocks
  filled = record {
    not_empty = loses.none_empty tree.filled.not_empty;
    one_entry = λ block number stands.
        let there : StandsIn (ids_at (leaves old heads.blocks) block) number =
        omega (arith, stands, times_same block number) in
        ap (λ (bytes : List ℕ). times (used_ids format bytes) number)
        (named_stays block (named_of_id (leaves old heads.blocks) block number there))
        ∙ tree.filled.one_entry block number there;
    stated = λ block stands.
        let there : StandsIn (data_with was old heads.blocks) block =
        subst (λ (xs : List ℕ). StandsIn xs block) data_same stands in
        ap (λ (bytes : List ℕ). length (used_ids format bytes)) (data_stays block there)
        ∙ tree.filled.stated block there
        ∙ ap (λ (bytes : List ℕ). number_at 2 bytes 8) (sym (data_stays block there));
    counted = λ block stands.
        let there : StandsIn (data_with was old heads.blocks) block =
        subst (λ (xs : List ℕ). StandsIn xs block) data_same stands in
        ap (λ (bytes : List ℕ). length (used_ids format bytes)) (data_stays block there)
        ∙ tree.filled.counted block there ∙ sym (length_same block);
  }

  records_same : (number : ℕ)
      → record_by_leaves format new (leaf ∷ leaves new heads.blocks) number
      ≡ record_by_leaves format old (leaves old heads.blocks) number
  records_same number =
      sym (ap (λ (ps : List TreePath). record_by_leaves format new ps number) loses.leaves
      ∙ ap (λ (o : Option TreePath). option_and_then
      (λ (one : TreePath). record_in format (block_of new one.block) number) o)
      (find-awaited (leaves new heads.blocks) leaf number))
      ∙ record_alike format old new number (leaves old heads.blocks)
      (λ block stands. ap (λ (bytes : List ℕ). record_in format bytes number) (named_stays block stands))

  not_in_chain : (number : ℕ) → StandsIn tree.chained.chain number → times changed number ≡ 0
  not_in_chain number stands = elim (cases_lt 0 (times changed number)) [
    | inr other ↦ omega (arith, other)
    | inl is ↦ elim (cases_Bool (counts_as_data was old heads.blocks number)) [
      | inl data_one ↦ absurd (omega (
        arith,
        (changed_apart number is).0,
        times-data_with was old heads.blocks number tree.awaited,
        ap count_of data_one,
      ))
      | inr other ↦ absurd (omega (
        arith,
        stands,
        tree.chained.has_those number,
        ap {B = ℕ} (λ (b : Bool). count_of (b && has_unused format (block_of old number))) other,
      ))
    ]
  ]

  not_free : (number : ℕ) → StandsIn tree.roles.free number → times changed number ≡ 0
  not_free number stands = elim (cases_lt 0 (times changed number)) [
    | inl is ↦ absurd (omega (arith, stands, (changed_apart number is).1))
    | inr other ↦ omega (arith, other)
  ]

  pub unlinked : (now_len : ℕ) → len ≤ now_len
      → IsTree (loose_of (emptied ++ held) (Some (record { number = id; block = get_or way 4 0 })) None) format new
      now_len heads records
  unlinked now_len longer = record {
    two = tree.two;
    long = λ more. omega (arith, tree.long more, longer);
    awaited = record { small = small; absent = absent; inside = loses.can.leaf };
    roles = record {
      references = references;
      free = tree.roles.free;
      is_free = chain-stays changed old new heads.blocks heads.free tree.roles.free 0 keeps not_free tree.roles.is_free;
      once = λ number. omega (
        arith,
        tree.roles.once number,
        times-roles was old heads.blocks tree.roles.free number,
        times-roles now new heads.blocks tree.roles.free number,
        times-append emptied held number,
        times-reverse emptied number,
        loses.levels.tree number,
        ap (λ (xs : List ℕ). times xs number) data_same,
      );
    };
    chained = record {
      chain = tree.chained.chain;
      is_chain = chain-stays changed old new heads.blocks heads.first tree.chained.chain 0 keeps not_in_chain
          tree.chained.is_chain;
      has_those = λ number. tree.chained.has_those number ∙ ap count_of (sym (room_same number));
      previous = names-stay changed old new tree.chained.chain keeps not_in_chain tree.chained.previous;
    };
    filled = filled;
    each_record = λ number. tree.each_record number ∙ sym (records_same number);
  }
