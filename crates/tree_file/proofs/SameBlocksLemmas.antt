-- Two files with the same blocks, but maybe for the header's, have the same tree, the same lists and the same records.
-- So have two files that differ in records only, but for those.
use Rattle.std.proofs.Common.{◌≡◌, ℕ, zero, suc, ◌*◌, ◌<◌, ◌≤◌, Bool, true, false, cond, ◌&&◌, ◌==◌, nat_le, IsTrue}
use Rattle.std.proofs.Common.{List, [], ◌∷◌, ◌++◌, length, map, find, Some, option_and_then, refl, sym, ap, subst, ◌∙◌}
use Rattle.std.proofs.Common.{inl, inr, arith, leb-true, if◌then◌else◌}
use Rattle.std.proofs.lemmas.Bool.{cases_Bool}
use Rattle.std.specs.List.{AllByRecursion, filter, flat_map, range_with_len}
use Rattle.quota_types.specs.Bytes.{number_at}
use Rattle.quota_types.specs.declared.file_kind.Format.{Format}
use Rattle.quota_radix.specs.declared.tree_path.TreePath.{TreePath}
use Rattle.file_blocks.specs.Block.{block_of, next_of, previous_of, leads}
use Rattle.free_chains.specs.Chain.{IsChain}
use Rattle.quota_types.specs.Times.{StandsIn, times}
use Rattle.tree_meaning.specs.Entries.{has_unused, stated_count, used_ids}
use Rattle.tree_meaning.specs.Loose.{nothing_loose}
use Rattle.tree_meaning.specs.Roles.{Chained, Filled, OneRole, has_room}
use Rattle.quota_radix.specs.Tree.{data_blocks, ids_at, is_data, leaves, level, lower_blocks, paths, steps, tree_blocks}
use Rattle.tree_meaning.specs.TreeFile.{record_in, tree_record}
use Rattle.file_blocks.proofs.LeadsLemmas.{leads_within}
use Rattle.quota_types.proofs.TimesLemmas.{stands_either, stands_right, times-cons-same, only_one}
use Rattle.quota_types.proofs.ListLemmas.{AllByRecursion-weaker}
use Rattle.tree_meaning.proofs.FrameLemmas.{empty_kept, flat_map_same}
use Rattle.quota_radix.proofs.PathLemmas.{data_block_of_id, level_leads, paths_lead, times-data_blocks}
use Rattle.quota_radix.proofs.LinkPathLemmas.{level_in_tree}
use Rattle.quota_radix.proofs.LinkStepLemmas.{steps_same}

-- the blocks behind the header are the same
abbrev pub SameBlocks : ℕ → List ℕ → List ℕ → Type 0
SameBlocks blocks old new = (block : ℕ) → 0 < block → block < blocks → block_of new block ≡ block_of old block

-- each block behind the header has the same record of an identifier
abbrev pub SameRecords : Format → ℕ → List ℕ → List ℕ → ℕ → Type 0
SameRecords format blocks old new id =
    (block : ℕ) → 0 < block → block < blocks
    → record_in format (block_of new block) id ≡ record_in format (block_of old block) id

-- a block behind the header
abbrev pub IsInside : ℕ → ℕ → Type 0
IsInside blocks block = (0 < block) × (block < blocks)

paths_inside : (file : List ℕ) (blocks digits : ℕ) → 2 ≤ blocks
    → AllByRecursion (λ (path : TreePath). IsInside blocks path.block) (paths file blocks digits)
paths_inside file blocks zero two = ((omega arith, omega arith), tt)
paths_inside file blocks (suc digits) two =
    AllByRecursion-weaker (λ (path : TreePath). IsTrue (leads blocks path.block))
    (λ (path : TreePath). IsInside blocks path.block) (paths file blocks (suc digits))
    (λ path goes. leads_within blocks path.block goes) (paths_lead file blocks digits)

level_inside : (file : List ℕ) (blocks digits block : ℕ) → StandsIn (level file blocks (suc digits)) block
    → IsInside blocks block
level_inside file blocks digits block stands = leads_within blocks block (level_leads file blocks digits block stands)

lower_inside : (file : List ℕ) (blocks block : ℕ) → StandsIn (lower_blocks file blocks) block → IsInside blocks block
lower_inside file blocks block stands =
    elim (stands_either (level file blocks 1 ++ level file blocks 2) (level file blocks 3) block stands) [
      | inl upper ↦ elim (stands_either (level file blocks 1) (level file blocks 2) block upper) [
        | inl one ↦ level_inside file blocks 0 block one
        | inr two ↦ level_inside file blocks 1 block two
      ]
      | inr three ↦ level_inside file blocks 2 block three
    ]

tree_inside : (file : List ℕ) (blocks block : ℕ) → 2 ≤ blocks → StandsIn (tree_blocks file blocks) block
    → IsInside blocks block
tree_inside file blocks block two stands =
    elim (stands_either (level file blocks 0) (lower_blocks file blocks) block stands) [
      | inl root ↦ let is : 1 ≡ block = only_one 1 block root in (omega arith, omega arith)
      | inr lower ↦ lower_inside file blocks block lower
    ]

data_inside : (file : List ℕ) (blocks block : ℕ) → is_data file blocks block ≡ true → IsInside blocks block
data_inside file blocks block is = level_inside file blocks 3 block (leb-true 1 (times (level file blocks 4) block) is)

-- a data block is behind the header
pub listed_inside : (file : List ℕ) (blocks block : ℕ) → StandsIn (data_blocks file blocks) block
    → IsInside blocks block
listed_inside file blocks block stands = elim (cases_Bool (is_data file blocks block)) [
  | inl is ↦ data_inside file blocks block is
  | inr other ↦ absurd
      (omega (arith, stands, times-data_blocks file blocks block, ap {B = ℕ} (λ (b : Bool). if b then 1 else 0) other))
]

map_same : (f g : ℕ → ℕ) (xs : List ℕ) → ((n : ℕ) → StandsIn xs n → f n ≡ g n) → map f xs ≡ map g xs
map_same f g [] same = refl
map_same f g (x ∷ xs) same =
    ap (λ (y : ℕ). y ∷ map f xs) (same x (omega (arith, times-cons-same x xs)))
    ∙ ap (λ (ys : List ℕ). g x ∷ ys) (map_same f g xs (λ n stands. same n (stands_right (x ∷ []) xs n stands)))

-- What the tree and the lists of a file are made of is the same: the blocks of the tree, and of each block behind the
-- header the links, the count, and which of its entries are used and by which identifier.
pub record KeepsTree (format : Format) (blocks : ℕ) (old new : List ℕ) : Type 0 where
  pub tree : (block : ℕ) → StandsIn (tree_blocks old blocks) block → block_of new block ≡ block_of old block
  pub next : (block : ℕ) → 0 < block → block < blocks → next_of new block ≡ next_of old block
  pub previous : (block : ℕ) → 0 < block → block < blocks → previous_of new block ≡ previous_of old block
  pub stated : (block : ℕ) → 0 < block → block < blocks → stated_count new block ≡ stated_count old block
  pub ids : (block : ℕ) → 0 < block → block < blocks
      → used_ids format (block_of new block) ≡ used_ids format (block_of old block)
  pub room : (block : ℕ) → 0 < block → block < blocks
      → has_unused format (block_of new block) ≡ has_unused format (block_of old block)

-- it is so where the blocks are the same
pub same_tree : (format : Format) (blocks : ℕ) (old new : List ℕ) → 2 ≤ blocks → SameBlocks blocks old new
    → KeepsTree format blocks old new
same_tree format blocks old new two same = record {
  tree = λ block stands. let inside : IsInside blocks block = tree_inside old blocks block two stands in
      same block inside.0 inside.1;
  next = λ block some low. ap (λ (bytes : List ℕ). number_at 4 bytes 0) (same block some low);
  previous = λ block some low. ap (λ (bytes : List ℕ). number_at 4 bytes 4) (same block some low);
  stated = λ block some low. ap (λ (bytes : List ℕ). number_at 2 bytes 8) (same block some low);
  ids = λ block some low. ap (used_ids format) (same block some low);
  room = λ block some low. ap (has_unused format) (same block some low);
}

-- each path's block is one of those to which the paths come
each_stands : (ps : List TreePath)
    → AllByRecursion (λ (p : TreePath). StandsIn (map (λ path. path.block) ps) p.block) ps
each_stands [] = tt
each_stands (p ∷ ps) = (
  omega (arith, times-cons-same p.block (map (λ path. path.block) ps)),
  AllByRecursion-weaker (λ (q : TreePath). StandsIn (map (λ path. path.block) ps) q.block)
      (λ (q : TreePath). StandsIn (map (λ path. path.block) (p ∷ ps)) q.block) ps
      (λ q stands. stands_right (p.block ∷ []) (map (λ path. path.block) ps) q.block stands) (each_stands ps),
)

module _ (format : Format) (old new : List ℕ) (blocks : ℕ) (two : 2 ≤ blocks)
    (kept : KeepsTree format blocks old new) where
  -- a chain is one of both files
  pub chain_same : (head : ℕ) (chain : List ℕ) (end : ℕ) → IsChain old blocks head chain end
      → IsChain new blocks head chain end
  chain_same head chain end c = record {
    linked = c.linked ∙ ap (λ (links : List ℕ). head ∷ links) (map_same (next_of old) (next_of new) chain
        (λ n stands. let inside : IsInside blocks n = leads_within blocks n (c.inside n stands) in
        sym (kept.next n inside.0 inside.1)));
    inside = c.inside;
    distinct = c.distinct;
    stops = c.stops;
  }

  -- the paths of no more than four digits are the same
  pub paths_same : (digits : ℕ) → digits ≤ 4 → paths new blocks digits ≡ paths old blocks digits
  paths_same zero low = refl
  paths_same (suc digits) low =
      ap (flat_map (steps new blocks)) (paths_same digits (omega (arith, low)))
      ∙ flat_map_same (steps new blocks) (steps old blocks) (paths old blocks digits)
      (AllByRecursion-weaker (λ (path : TreePath). StandsIn (level old blocks digits) path.block)
      (λ (path : TreePath). steps new blocks path ≡ steps old blocks path) (paths old blocks digits)
      (λ path stands. steps_same old new blocks path
      (kept.tree path.block (level_in_tree old blocks digits path.block (omega (arith, low)) stands)))
      (each_stands (paths old blocks digits)))

  level_same : (digits : ℕ) → digits ≤ 4 → level new blocks digits ≡ level old blocks digits
  level_same digits low = ap (λ (ps : List TreePath). map (λ path. path.block) ps) (paths_same digits low)

  pub lower_same : lower_blocks new blocks ≡ lower_blocks old blocks
  lower_same = λ i. level_same 1 (omega arith) i ++ level_same 2 (omega arith) i ++ level_same 3 (omega arith) i

  pub tree_same : tree_blocks new blocks ≡ tree_blocks old blocks
  tree_same = λ i. level_same 0 (omega arith) i ++ lower_same i

  pub data_same : data_blocks new blocks ≡ data_blocks old blocks
  data_same =
      ap (λ (leaf_blocks : List ℕ). filter (λ block. nat_le 1 (times leaf_blocks block)) (range_with_len 0 blocks))
      (level_same 4 (omega arith))

  is_data_same : (block : ℕ) → is_data new blocks block ≡ is_data old blocks block
  is_data_same block = ap (λ (leaf_blocks : List ℕ). nat_le 1 (times leaf_blocks block)) (level_same 4 (omega arith))

  -- each block has one role in both files
  pub one_role_same : (head : ℕ) → OneRole nothing_loose old blocks head → OneRole nothing_loose new blocks head
  one_role_same head role = record {
    references = λ block stands digit low.
        let there : StandsIn (tree_blocks old blocks) block =
        subst (λ (xs : List ℕ). StandsIn xs block) tree_same stands in
        subst (λ (bytes : List ℕ). number_at 4 bytes (4 * digit) < blocks) (sym (kept.tree block there))
        (role.references block there digit low);
    free = role.free;
    is_free = chain_same head role.free 0 role.is_free;
    once = λ block. (λ i. times (0 ∷ tree_same i ++ data_same i ++ role.free) block) ∙ role.once block;
  }

  pub has_room_same : (block : ℕ)
      → has_room nothing_loose format new blocks block ≡ has_room nothing_loose format old blocks block
  has_room_same block =
      ap (λ (b : Bool). b && has_unused format (block_of new block)) (is_data_same block)
      ∙ elim (is_data old blocks block) as
      (λ b. is_data old blocks block ≡ b
      → (b && has_unused format (block_of new block)) ≡ (b && has_unused format (block_of old block))) [
        | true ↦ λ is. let inside : IsInside blocks block = data_inside old blocks block is in
            kept.room block inside.0 inside.1
        | false ↦ λ is. refl
      ] refl

  -- the entry list is one of both files
  pub chained_same : (first : ℕ) → Chained nothing_loose format old blocks first
      → Chained nothing_loose format new blocks first
  chained_same first c = record {
    chain = c.chain;
    is_chain = chain_same first c.chain 0 c.is_chain;
    has_those = λ block. c.has_those block ∙ ap (λ (b : Bool). if b then 1 else 0) (sym (has_room_same block));
    previous = map_same (previous_of new) (previous_of old) c.chain
        (λ n stands. let inside : IsInside blocks n = leads_within blocks n (c.is_chain.inside n stands) in
        kept.previous n inside.0 inside.1)
        ∙ c.previous;
  }

  pub ids_same : (block : ℕ) → ids_at (leaves new blocks) block ≡ ids_at (leaves old blocks) block
  ids_same block = ap (λ (ps : List TreePath). ids_at ps block) (paths_same 4 (omega arith))

  -- the tree and the data blocks are filled in both files
  pub filled_same : Filled nothing_loose format old blocks → Filled nothing_loose format new blocks
  filled_same filled = record {
    not_empty = λ block stands empty.
        let there : StandsIn (lower_blocks old blocks) block =
        subst (λ (xs : List ℕ). StandsIn xs block) lower_same stands in
        filled.not_empty block there
        (empty_kept old new block
        (kept.tree block (stands_right (level old blocks 0) (lower_blocks old blocks) block there)) empty);
    one_entry = λ block id stands.
        let there : StandsIn (ids_at (leaves old blocks) block) id =
        subst (λ (xs : List ℕ). StandsIn xs id) (ids_same block) stands in
        let inside : IsInside blocks block =
        listed_inside old blocks block (data_block_of_id old blocks block id there) in
        ap (λ (xs : List ℕ). times xs id) (kept.ids block inside.0 inside.1) ∙ filled.one_entry block id there;
    stated = λ block stands.
        let there : StandsIn (data_blocks old blocks) block =
        subst (λ (xs : List ℕ). StandsIn xs block) data_same stands in
        let inside : IsInside blocks block = listed_inside old blocks block there in
        ap (λ (xs : List ℕ). length xs) (kept.ids block inside.0 inside.1) ∙ filled.stated block there
        ∙ sym (kept.stated block inside.0 inside.1);
    counted = λ block stands.
        let there : StandsIn (data_blocks old blocks) block =
        subst (λ (xs : List ℕ). StandsIn xs block) data_same stands in
        let inside : IsInside blocks block = listed_inside old blocks block there in
        ap (λ (xs : List ℕ). length xs) (kept.ids block inside.0 inside.1) ∙ filled.counted block there
        ∙ ap (λ (xs : List ℕ). length xs) (sym (ids_same block));
  }

  -- the record of the leaf that is found
  found_same : (id : ℕ) (ps : List TreePath) → SameRecords format blocks old new id
      → AllByRecursion (λ (path : TreePath). IsInside blocks path.block) ps
      → option_and_then (λ (leaf : TreePath). record_in format (block_of new leaf.block) id)
      (find (λ (leaf : TreePath). leaf.number == id) ps)
      ≡ option_and_then (λ (leaf : TreePath). record_in format (block_of old leaf.block) id)
      (find (λ (leaf : TreePath). leaf.number == id) ps)
  found_same id [] same all = refl
  found_same id (p ∷ ps) same all =
      elim (p.number == id) as
      (λ b. option_and_then (λ (leaf : TreePath). record_in format (block_of new leaf.block) id)
      (cond b (Some p) (find (λ (leaf : TreePath). leaf.number == id) ps))
      ≡ option_and_then (λ (leaf : TreePath). record_in format (block_of old leaf.block) id)
      (cond b (Some p) (find (λ (leaf : TreePath). leaf.number == id) ps))) [
        | true ↦ same p.block all.0.0 all.0.1
        | false ↦ found_same id ps same all.1
      ]

  -- the record of an identifier is the same where it is in each block
  pub record_same : (id : ℕ) → SameRecords format blocks old new id
      → tree_record format new blocks id ≡ tree_record format old blocks id
  record_same id same =
      ap (λ (ps : List TreePath). option_and_then (λ (leaf : TreePath). record_in format (block_of new leaf.block) id)
      (find (λ (leaf : TreePath). leaf.number == id) ps)) (paths_same 4 (omega arith))
      ∙ found_same id (leaves old blocks) same (paths_inside old blocks 4 two)
