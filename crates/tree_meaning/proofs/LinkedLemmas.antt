-- An awaited leaf to which a path was made: it is one of the tree then, and the fresh blocks are blocks of the tree.
use Rattle.std.proofs.Common.{◌≡◌, ◌⊎◌, ℕ, suc, cond, find, ◌==◌, ◌+◌, ◌-◌, ◌*◌, ◌^◌, ◌<◌, ◌≤◌, Bool, true, false}
use Rattle.std.proofs.Common.{◌&&◌, nat_le, nat_lt, if◌then◌else◌, List, [], ◌∷◌, ◌++◌, length, get_or, filter, Option}
use Rattle.std.proofs.Common.{Some, None, option_and_then, replicate, IsTrue, refl, sym, ap, subst, ◌∙◌, inl, inr}
use Rattle.std.proofs.Common.{arith, le-ltb}
use Rattle.std.specs.Prelude.{slice_index}
use Rattle.std.specs.List.{range_with_len}
use Rattle.std.proofs.lemmas.Bool.{cases_Bool, cases_eq, cases_lt, le-leb}
use Rattle.quota_types.specs.Bytes.{number_at}
use Rattle.quota_types.specs.declared.file_kind.Format.{Format}
use Rattle.quota_types.specs.Times.{StandsIn, times}
use Rattle.quota_types.proofs.TimesLemmas.{stands_right, times-append, times-cons-same}
use Rattle.file_blocks.specs.Block.{block_of, leads, word_at}
use Rattle.quota_value.specs.QuotaValue.{Records}
use Rattle.file_blocks.proofs.LeadsLemmas.{leads_from, leads_within}
use Rattle.quota_pages.specs.Used.{HasWord}
use Rattle.quota_pages.specs.KeptBlocks.{KeepsBlocksBut}
use Rattle.free_chains.specs.declared.heads.Heads.{Heads}
use Rattle.free_chains.proofs.SpliceLemmas.{chain-stays, names-stay}
use Rattle.quota_radix.specs.declared.tree_path.TreePath.{TreePath}
use Rattle.quota_radix.specs.Link.{GainsBlocks, IsLinkable, LeadsAlong, changed_blocks, whole_way, with_path}
use Rattle.quota_radix.specs.Tree.{blocks_of, ids_at, leaves, level, lower_blocks, tree_blocks}
use Rattle.quota_radix.specs.TreeDefect.{IsEmpty}
use Rattle.quota_radix.specs.Way.{digit_on_way}
use Rattle.quota_radix.specs.OnWay.{blocks_on_way}
use Rattle.quota_radix.proofs.LinkPathLemmas.{last_in_tree}
use Rattle.quota_radix.proofs.LinkWayLemmas.{changed_are, length-stretch, length_way, stretch, stretch_at, way_found}
use Rattle.quota_radix.proofs.LinkWayLemmas.{way_in_fresh, way_last, way_leaf}
use Rattle.quota_radix.proofs.PathLemmas.{Rises-paths}
use Rattle.tree_meaning.specs.Entries.{has_unused, used_ids}
use Rattle.tree_meaning.specs.IsTree.{IsTree}
use Rattle.tree_meaning.specs.Loose.{Loose, loose_of}
use Rattle.tree_meaning.specs.Roles.{Filled, counts_as_data, data_with, has_room, roles}
use Rattle.tree_meaning.specs.TreeFile.{record_by_leaves, record_in}
use Rattle.tree_meaning.proofs.AwaitedLemmas.{find-awaited, length-ids, times-blocks, times-ids}
use Rattle.tree_meaning.proofs.FrameLemmas.{named_of_id}
use Rattle.tree_meaning.proofs.MovedLemmas.{times-data_with, times-roles}
use Rattle.tree_meaning.proofs.WayWordLemmas.{is_digit, other_word, place_of, zeros}

module _ (held : List ℕ) (format : Format) (old new found fresh : List ℕ) (len : ℕ) (heads : Heads) (records : Records)
    (id leaf_block gone : ℕ)
    (some : length found ≡ suc gone) (five : length found + length fresh ≡ 4) (small : id < 2 ^ 32)
    (tree : IsTree (loose_of (fresh ++ held) (Some (record { number = id; block = leaf_block })) None) format old
    len heads records)
    (can : IsLinkable old heads.blocks found fresh id leaf_block)
    (keeps : KeepsBlocksBut (changed_blocks found fresh) old new)
    (along : LeadsAlong (whole_way found fresh leaf_block) gone id old new)
    (added : leaves new heads.blocks ≡ with_path (leaves old heads.blocks) (record { number = id; block = leaf_block }))
    (gains : GainsBlocks (whole_way found fresh leaf_block) fresh (suc gone) heads.blocks old new) where
  abbrev leaf : TreePath
  leaf = record { number = id; block = leaf_block }

  abbrev was : Loose
  was = loose_of (fresh ++ held) (Some (record { number = id; block = leaf_block })) None

  abbrev now : Loose
  now = loose_of held None None

  few : gone < 4
  few = omega (arith, some, five)

  last_tree : StandsIn (tree_blocks old heads.blocks) (get_or (whole_way found fresh leaf_block) gone 0)
  last_tree =
      subst (StandsIn (tree_blocks old heads.blocks))
      (sym (way_found found fresh leaf_block gone some five gone (omega arith)))
      (last_in_tree old heads.blocks id gone (get_or found gone 0) small few
      (way_last old found heads.blocks id gone can.way some))

  -- the place of a changed block on the way
  changed_place : (block : ℕ) → StandsIn (changed_blocks found fresh) block
      → (digits : ℕ) × (gone ≤ digits) × (digits < 4) × (get_or (whole_way found fresh leaf_block) digits 0 ≡ block)
  changed_place block stands =
      let way : List ℕ = whole_way found fresh leaf_block in
      let place = place_of (stretch way gone (4 - gone)) block
      (subst (λ (xs : List ℕ). StandsIn xs block) (sym (changed_are found fresh leaf_block gone some five)) stands) in
      let low : place.0 < 4 - gone = omega (
        arith,
        place.1,
        length-stretch way gone (4 - gone) (omega (arith, few, length_way found fresh leaf_block gone some five)),
      ) in
      (gone + place.0, omega arith, omega (arith, low), sym (stretch_at way gone (4 - gone) place.0 low) ∙ place.2)

  -- the next block on the way is a block
  next_leads : (digits : ℕ) → gone ≤ digits → digits < 4
      → IsTrue (leads heads.blocks (get_or (whole_way found fresh leaf_block) (suc digits) 0))
  next_leads digits from to = elim (cases_lt (suc digits) 4) [
    | inl low ↦ can.within (get_or (whole_way found fresh leaf_block) (suc digits) 0)
        (way_in_fresh found fresh leaf_block gone some five (suc digits) (omega (arith, from)) low)
    | inr high ↦
        let last : suc digits ≡ 4 = omega (arith, high, to) in
        subst (λ (n : ℕ). IsTrue (leads heads.blocks (get_or (whole_way found fresh leaf_block) n 0))) (sym last)
        (subst (λ (n : ℕ). IsTrue (leads heads.blocks n))
        (sym (way_leaf found fresh leaf_block gone some five)) can.leaf)
  ]

  -- a changed block is one of the tree or one of the fresh ones
  pub changed_which : (block : ℕ) → StandsIn (changed_blocks found fresh) block
      → StandsIn (tree_blocks old heads.blocks) block ⊎ StandsIn fresh block
  changed_which block stands =
      let place = changed_place block stands in
      elim (cases_lt gone place.0) [
        | inl later ↦ inr
            (subst (StandsIn fresh) place.3 (way_in_fresh found fresh leaf_block gone some five place.0 later place.2))
        | inr first ↦
            let is : place.0 ≡ gone = omega (arith, first, place.1) in
            inl (subst (StandsIn (tree_blocks old heads.blocks))
            (ap (λ (n : ℕ). get_or (whole_way found fresh leaf_block) n 0) (sym is) ∙ place.3) last_tree)
      ]

  -- the words of a changed block: one leads on along the way, and the others are as before
  old_word : (block digit : ℕ) → StandsIn (changed_blocks found fresh) block → digit < 256
      → word_at old block digit < heads.blocks
  old_word block digit stands low = elim (changed_which block stands) [
    | inl in_tree ↦ tree.roles.references block in_tree digit low
    | inr is_fresh ↦ omega (arith, zeros old block digit (can.blank block is_fresh) low, tree.two)
  ]

  references : (block : ℕ) → StandsIn (tree_blocks new heads.blocks) block → (digit : ℕ) → digit < 256
      → word_at new block digit < heads.blocks
  references block stands digit low = elim (cases_lt 0 (times (changed_blocks found fresh) block)) [
    | inl changed ↦
        let place = changed_place block changed in
        let word : HasWord block (4 * digit_on_way id place.0)
        (get_or (whole_way found fresh leaf_block) (suc place.0) 0) old new =
        subst (λ (n : ℕ). HasWord n (4 * digit_on_way id place.0)
        (get_or (whole_way found fresh leaf_block) (suc place.0) 0) old new) place.3 (along place.0 place.1 place.2) in
        elim (cases_eq digit (digit_on_way id place.0)) [
          | inl same ↦ subst (λ (n : ℕ). n < heads.blocks) (sym (ap (word_at new block) same ∙ word.is))
              (leads_within heads.blocks _ (next_leads place.0 place.1 place.2)).1
          | inr other ↦ subst (λ (n : ℕ). n < heads.blocks)
              (sym (other_word old new block (digit_on_way id place.0) digit _ other word))
              (old_word block digit changed low)
        ]
    | inr same ↦
        let in_old : StandsIn (tree_blocks old heads.blocks) block = omega (
          arith,
          stands,
          gains.tree block,
          same,
          times-append (slice_index found (length found - 1) ∷ []) fresh block,
        ) in
        subst (λ (bytes : List ℕ). number_at 4 bytes (4 * digit) < heads.blocks)
        (sym (keeps.others block (omega (arith, same)))) (tree.roles.references block in_old digit low)
  ]

  not_empty : (block : ℕ) → StandsIn (lower_blocks new heads.blocks) block → ¬ IsEmpty new block
  not_empty block stands empty = elim (cases_lt 0 (times (changed_blocks found fresh) block)) [
    | inl changed ↦
        let place = changed_place block changed in
        let word : HasWord block (4 * digit_on_way id place.0)
        (get_or (whole_way found fresh leaf_block) (suc place.0) 0) old new =
        subst (λ (n : ℕ). HasWord n (4 * digit_on_way id place.0)
        (get_or (whole_way found fresh leaf_block) (suc place.0) 0) old new) place.3 (along place.0 place.1 place.2) in
        omega (
          arith,
          empty (digit_on_way id place.0) (is_digit id place.0),
          word.is,
          leads_within heads.blocks _ (next_leads place.0 place.1 place.2),
        )
    | inr same ↦
        let in_old : StandsIn (lower_blocks old heads.blocks) block = omega (
          arith,
          stands,
          gains.tree block,
          same,
          times-append (slice_index found (length found - 1) ∷ []) fresh block,
          times-append (level new heads.blocks 0) (lower_blocks new heads.blocks) block,
          times-append (level old heads.blocks 0) (lower_blocks old heads.blocks) block,
        ) in
        tree.filled.not_empty block in_old
        (λ digit low. ap (λ (bytes : List ℕ). number_at 4 bytes (4 * digit))
        (sym (keeps.others block (omega (arith, same)))) ∙ empty digit low)
  ]

  -- no changed block is data, or free
  changed_apart : (block : ℕ) → StandsIn (changed_blocks found fresh) block
      → (times (data_with was old heads.blocks) block ≡ 0) × (times tree.roles.free block ≡ 0)
  changed_apart block stands =
      let one : times (roles was old heads.blocks tree.roles.free) block ≤ 1 =
      subst (λ (n : ℕ). n ≤ 1) (sym (tree.roles.once block)) (one_at_most (nat_lt block heads.blocks)) in
      let role : 1 ≤ times (tree_blocks old heads.blocks) block + times (fresh ++ held) block =
      elim (changed_which block stands) [
        | inl in_tree ↦ omega (arith, in_tree)
        | inr is_fresh ↦ omega (arith, is_fresh, times-append fresh held block)
      ] in (
        omega (arith, one, role, times-roles was old heads.blocks tree.roles.free block),
        omega (arith, one, role, times-roles was old heads.blocks tree.roles.free block),
      )
    where
      one_at_most : (b : Bool) → (if b then 1 else 0) ≤ 1
      one_at_most true = omega arith
      one_at_most false = omega arith

  counts_same : (block : ℕ) → counts_as_data now new heads.blocks block ≡ counts_as_data was old heads.blocks block
  counts_same block =
      ap (λ (ps : List TreePath). nat_le 1 (times (blocks_of ps) block)) added
      ∙ ap (λ (n : ℕ). nat_le 1 n)
      (times-blocks (leaves old heads.blocks) leaf 0 (256 ^ 4) (Rises-paths old heads.blocks 4)
      tree.awaited.absent block)

  pub data_same : data_with now new heads.blocks ≡ data_with was old heads.blocks
  data_same = λ i. filter (λ block. counts_same block i) (range_with_len 0 heads.blocks)

  -- a data block stays
  data_stays : (block : ℕ) → StandsIn (data_with was old heads.blocks) block → block_of new block ≡ block_of old block
  data_stays block stands = elim (cases_lt 0 (times (changed_blocks found fresh) block)) [
    | inl changed ↦ absurd (omega (arith, stands, (changed_apart block changed).0))
    | inr other ↦ keeps.others block (omega (arith, other))
  ]

  counted_stays : (block : ℕ) → counts_as_data was old heads.blocks block ≡ true
      → block_of new block ≡ block_of old block
  counted_stays block is =
      data_stays block (omega (
        arith,
        times-data_with was old heads.blocks block tree.awaited,
        ap {B = ℕ} (λ (b : Bool). if b then 1 else 0) is,
      ))

  room_same : (block : ℕ) → has_room now format new heads.blocks block ≡ has_room was format old heads.blocks block
  room_same block =
      ap (λ (b : Bool). b && has_unused format (block_of new block)) (counts_same block)
      ∙ elim (counts_as_data was old heads.blocks block) as
      (λ b. counts_as_data was old heads.blocks block ≡ b
      → (b && has_unused format (block_of new block)) ≡ (b && has_unused format (block_of old block))) [
        | true ↦ λ is. ap (has_unused format) (counted_stays block is)
        | false ↦ λ is. refl
      ] refl

  -- as often does an identifier lead to a block
  times_same : (block number : ℕ)
      → times (ids_at (leaves new heads.blocks) block) number
      ≡ times (ids_at (leaf ∷ leaves old heads.blocks) block) number
  times_same block number =
      ap (λ (ps : List TreePath). times (ids_at ps block) number) added
      ∙ times-ids (leaves old heads.blocks) leaf 0 (256 ^ 4) (Rises-paths old heads.blocks 4)
      tree.awaited.absent block number

  length_same : (block : ℕ)
      → length (ids_at (leaves new heads.blocks) block) ≡ length (ids_at (leaf ∷ leaves old heads.blocks) block)
  length_same block =
      ap (λ (ps : List TreePath). length (ids_at ps block)) added
      ∙ length-ids (leaves old heads.blocks) leaf 0 (256 ^ 4) (Rises-paths old heads.blocks 4) tree.awaited.absent block

  id_data : (block number : ℕ) → StandsIn (ids_at (leaf ∷ leaves old heads.blocks) block) number
      → block_of new block ≡ block_of old block
  id_data block number stands =
      counted_stays block
      (le-leb 1 (times (blocks_of (leaf ∷ leaves old heads.blocks)) block)
      (named_of_id (leaf ∷ leaves old heads.blocks) block number stands))

  filled : Filled now format new heads.blocks
  filled = record {
    not_empty = not_empty;
    one_entry = λ block number stands.
        let there : StandsIn (ids_at (leaf ∷ leaves old heads.blocks) block) number =
        omega (arith, stands, times_same block number) in
        ap (λ (bytes : List ℕ). times (used_ids format bytes) number) (id_data block number there)
        ∙ tree.filled.one_entry block number there;
    stated = λ block stands.
        let there : StandsIn (data_with was old heads.blocks) block =
        subst (λ (xs : List ℕ). StandsIn xs block) data_same stands in
        ap (λ (bytes : List ℕ). length (used_ids format bytes)) (data_stays block there)
        ∙ tree.filled.stated block there
        ∙ ap (λ (bytes : List ℕ). number_at 2 bytes 8) (sym (data_stays block there));
    counted = λ block stands.
        let there : StandsIn (data_with was old heads.blocks) block =
        subst (λ (xs : List ℕ). StandsIn xs block) data_same stands in
        ap (λ (bytes : List ℕ). length (used_ids format bytes)) (data_stays block there)
        ∙ tree.filled.counted block there ∙ sym (length_same block);
  }

  found_same : (number : ℕ) (ps : List TreePath)
      → ((block : ℕ) → StandsIn (blocks_of ps) block → block_of new block ≡ block_of old block)
      → record_by_leaves format new ps number ≡ record_by_leaves format old ps number
  found_same number [] stays = refl
  found_same number (p ∷ ps) stays =
      elim (p.number == number) as
      (λ b. option_and_then (λ (one : TreePath). record_in format (block_of new one.block) number)
      (cond b (Some p) (find (λ (one : TreePath). one.number == number) ps))
      ≡ option_and_then (λ (one : TreePath). record_in format (block_of old one.block) number)
      (cond b (Some p) (find (λ (one : TreePath). one.number == number) ps))) [
        | true ↦ ap (λ (bytes : List ℕ). record_in format bytes number)
            (stays p.block (omega (arith, times-cons-same p.block (blocks_of ps))))
        | false ↦
            found_same number ps (λ block stands. stays block (stands_right (p.block ∷ []) (blocks_of ps) block stands))
      ]

  records_same : (number : ℕ)
      → record_by_leaves format new (leaves new heads.blocks) number
      ≡ record_by_leaves format old (leaf ∷ leaves old heads.blocks) number
  records_same number =
      ap (λ (ps : List TreePath). record_by_leaves format new ps number) added
      ∙ ap (λ (o : Option TreePath). option_and_then
      (λ (one : TreePath). record_in format (block_of new one.block) number) o)
      (find-awaited (leaves old heads.blocks) leaf number)
      ∙ found_same number (leaf ∷ leaves old heads.blocks)
      (λ block stands. counted_stays block (le-leb 1 (times (blocks_of (leaf ∷ leaves old heads.blocks)) block) stands))

  not_in_chain : (number : ℕ) → StandsIn tree.chained.chain number → times (changed_blocks found fresh) number ≡ 0
  not_in_chain number stands = elim (cases_lt 0 (times (changed_blocks found fresh) number)) [
    | inr other ↦ omega (arith, other)
    | inl changed ↦ elim (cases_Bool (counts_as_data was old heads.blocks number)) [
      | inl is ↦ absurd (omega (
        arith,
        (changed_apart number changed).0,
        times-data_with was old heads.blocks number tree.awaited,
        ap {B = ℕ} (λ (b : Bool). if b then 1 else 0) is,
      ))
      | inr other ↦ absurd (omega (
        arith,
        stands,
        tree.chained.has_those number,
        ap {B = ℕ} (λ (b : Bool). if b && has_unused format (block_of old number) then 1 else 0) other,
      ))
    ]
  ]

  pub not_free : (number : ℕ) → StandsIn tree.roles.free number → times (changed_blocks found fresh) number ≡ 0
  not_free number stands = elim (cases_lt 0 (times (changed_blocks found fresh) number)) [
    | inl changed ↦ absurd (omega (arith, stands, (changed_apart number changed).1))
    | inr other ↦ omega (arith, other)
  ]

  pub linked : (now_len : ℕ) → len ≤ now_len → IsTree (loose_of held None None) format new now_len heads records
  linked now_len longer = record {
    two = tree.two;
    long = λ more. omega (arith, tree.long more, longer);
    awaited = tt;
    roles = record {
      references = references;
      free = tree.roles.free;
      is_free = chain-stays (changed_blocks found fresh) old new heads.blocks heads.free tree.roles.free 0 keeps
          not_free tree.roles.is_free;
      once = λ number. omega (
        arith,
        tree.roles.once number,
        times-roles was old heads.blocks tree.roles.free number,
        times-roles now new heads.blocks tree.roles.free number,
        times-append fresh held number,
        gains.tree number,
        ap (λ (xs : List ℕ). times xs number) data_same,
      );
    };
    chained = record {
      chain = tree.chained.chain;
      is_chain = chain-stays (changed_blocks found fresh) old new heads.blocks heads.first tree.chained.chain 0 keeps
          not_in_chain tree.chained.is_chain;
      has_those =
          λ number. tree.chained.has_those number ∙ ap (λ (b : Bool). if b then 1 else 0) (sym (room_same number));
      previous =
          names-stay (changed_blocks found fresh) old new tree.chained.chain keeps not_in_chain tree.chained.previous;
    };
    filled = filled;
    each_record = λ number. tree.each_record number ∙ sym (records_same number);
  }

-- by the number of blocks that were found
pub linked_found : (held : List ℕ) (format : Format) (old new found fresh : List ℕ) (len now_len : ℕ) (heads : Heads)
    (records : Records) (id leaf_block : ℕ)
    → IsTree (loose_of (fresh ++ held) (Some (record { number = id; block = leaf_block })) None) format old
    len heads records
    → 1 ≤ length found → length found + length fresh ≡ 4
    → IsLinkable old heads.blocks found fresh id leaf_block
    → KeepsBlocksBut (changed_blocks found fresh) old new
    → LeadsAlong (whole_way found fresh leaf_block) (length found - 1) id old new
    → leaves new heads.blocks ≡ with_path (leaves old heads.blocks) (record { number = id; block = leaf_block })
    → GainsBlocks (whole_way found fresh leaf_block) fresh (length found) heads.blocks old new
    → len ≤ now_len → IsTree (loose_of held None None) format new now_len heads records
linked_found held format old new found fresh len now_len heads records id leaf_block tree some five can keeps along
    added gains longer =
    let is : length found ≡ suc (length found - 1) = omega arith in
    linked held format old new found fresh len heads records id leaf_block (length found - 1) is five tree.awaited.small
    tree can keeps along added
    (subst (λ (count : ℕ). GainsBlocks (whole_way found fresh leaf_block) fresh count heads.blocks old new) is gains)
    now_len longer

-- an awaited leaf can be linked by the blocks on its way and by fresh ones
module _ (held : List ℕ) (misplaced : Option ℕ) (format : Format) (old found fresh : List ℕ) (len : ℕ) (heads : Heads)
    (records : Records) (leaf : TreePath)
    (tree : IsTree (loose_of (fresh ++ held) (Some leaf) misplaced) format old len heads records)
    (way : found ≡ blocks_on_way old heads.blocks leaf.number)
    (blank : (block : ℕ) → StandsIn fresh block → block_of old block ≡ replicate 1024 0) where
  abbrev loose : Loose
  loose = loose_of (fresh ++ held) (Some leaf) misplaced

  at_most_one : (block : ℕ) → times (roles loose old heads.blocks tree.roles.free) block ≤ 1
  at_most_one block = subst (λ (n : ℕ). n ≤ 1) (sym (tree.roles.once block)) (one_at_most (nat_lt block heads.blocks))
    where
      one_at_most : (b : Bool) → (if b then 1 else 0) ≤ 1
      one_at_most true = omega arith
      one_at_most false = omega arith

  fresh_within : (block : ℕ) → StandsIn fresh block → IsTrue (leads heads.blocks block)
  fresh_within block stands =
      let all = times-roles loose old heads.blocks tree.roles.free block in
      let some : 0 < block = elim (cases_eq 0 block) [
        | inr other ↦ omega (arith, other)
        | inl zero_is ↦ absurd (omega (
          arith,
          stands,
          at_most_one block,
          all,
          times-append fresh held block,
          times-cons-same 0 [],
          ap (times (0 ∷ [])) zero_is,
        ))
      ] in
      leads_from heads.blocks block some (elim (cases_lt block heads.blocks) [
        | inl low ↦ low
        | inr high ↦ absurd (omega (
          arith,
          stands,
          tree.roles.once block,
          ap {B = ℕ} (λ (b : Bool). if b then 1 else 0) (le-ltb block heads.blocks high),
          all,
          times-append fresh held block,
        ))
      ])

  pub linkable : IsLinkable old heads.blocks found fresh leaf.number leaf.block
  linkable = record {
    once = λ block. omega (arith, at_most_one block, times-roles loose old heads.blocks tree.roles.free block);
    way = way;
    distinct = λ block. omega (
      arith,
      at_most_one block,
      times-roles loose old heads.blocks tree.roles.free block,
      times-append fresh held block,
    );
    blank = blank;
    unused = λ block stands. omega (
      arith,
      stands,
      at_most_one block,
      times-roles loose old heads.blocks tree.roles.free block,
      times-append fresh held block,
    );
    within = fresh_within;
    leaf = tree.awaited.inside;
  }
