-- A file that was written block by block, from what each step says of it.
use Rattle.std.proofs.Common.{◌≡◌, ℕ, zero, suc, ◌+◌, ◌*◌, ◌/◌, ◌^◌, ◌<◌, ◌≤◌, Bool, cond, true, false, ◌==◌, IsTrue}
use Rattle.std.proofs.Common.{List, [], ◌∷◌, length, map, filter, find, take, option_and_then, option_map, refl, sym}
use Rattle.std.proofs.Common.{ap, subst, ◌∙◌, arith}
use Rattle.std.proofs.lemmas.List.{append-nil, get_or-take, length-map}
use Rattle.std.specs.FinMap.{get}
use Rattle.std.specs.List.{AllByRecursion, flat_map, range_with_len}
use Rattle.std.specs.List.Sorted.{IsStrictlyIncreasing}
use Rattle.quota_types.specs.Bytes.{byte_at, number_at}
use Rattle.quota_types.proofs.BytesLemmas.{number_at-take}
use Rattle.quota_types.specs.Format.{IsTreeFormat}
use Rattle.quota_types.specs.declared.file_kind.Format.{Format}
use Rattle.quota_types.proofs.FormatLemmas.{by_tree}
use Rattle.quota_types.specs.declared.record.Entry.{Entry}
use Rattle.quota_types.proofs.AscendsLemmas.{Ascends, Ascends-of, IsStrictlyIncreasing-of}
use Rattle.quota_types.proofs.ListLemmas.{AllByRecursion-weaker}
use Rattle.entry_codec.specs.Header.{format_of, header_of}
use Rattle.entry_codec.specs.Spelling.{AreOf}
use Rattle.entry_codec.specs.declared.header.Header.{Header}
use Rattle.quota_radix.specs.declared.tree_path.TreePath.{TreePath}
use Rattle.file_blocks.specs.Block.{block_of, leads}
use Rattle.quota_value.specs.Listed.{ids_of, records_of, value_of}
use Rattle.file_blocks.proofs.LeadsLemmas.{leads_from}
use Rattle.tree_build.specs.Build.{HasNoPadding, HasOneRoom}
use Rattle.tree_meaning.specs.Entries.{used_entries}
use Rattle.quota_radix.specs.Tree.{blocks_of, numbers_of, leaves, paths, steps}
use Rattle.tree_build.specs.NewFile.{AllLead, AreBelow, AreDataBlocks, AreSiblings, IsDataBlock, IsLevel, KeepsBlocks}
use Rattle.tree_build.specs.NewFile.{Part, leaves_in, parents_of, part_of, parts_needed, parts_of}
use Rattle.tree_meaning.specs.Loose.{nothing_loose}
use Rattle.tree_meaning.specs.Roles.{Chained, OneRole}
use Rattle.tree_build.specs.Size.{beginnings, blocks_needed, each_once}
use Rattle.tree_meaning.specs.TreeFile.{TreeStandsFor, record_in, tree_record}
use Rattle.tree_build.proofs.BuiltLemmas.{IsBuilt, chained, filled, first_room, no_padding, one_role, one_room}
use Rattle.tree_meaning.proofs.ValueLemmas.{sound}
use Rattle.tree_build.proofs.LevelAddedLemmas.{blocks_between, level_kept}
use Rattle.tree_build.proofs.NewFileLemmas.{block_within, front_is, length-with_root, root_is, root_keeps, with_root}
use Rattle.tree_build.proofs.OnceLemmas.{ascends-parents_of, each_once-map}
use Rattle.tree_build.proofs.PartsLemmas.{all_parts, get_record, numbers_of_leaves, record_of_parts}
use Rattle.quota_radix.proofs.PathLemmas.{each-append}

map_again : (f g h : ℕ → ℕ) → ((n : ℕ) → g (f n) ≡ h n) → (ns : List ℕ) → map g (map f ns) ≡ map h ns
map_again f g h same [] = refl
map_again f g h same (n ∷ ns) =
    ap (λ (m : ℕ). m ∷ map g (map f ns)) (same n) ∙ ap (λ (ms : List ℕ). h n ∷ ms) (map_again f g h same ns)

-- the beginnings of two bytes, by those of three
pub second_parents : (ids : List ℕ) → parents_of (parents_of ids) ≡ each_once (map (λ id. id / 256 ^ 2) ids)
second_parents ids =
    each_once-map (λ n. n / 256) (map (λ n. n / 256) ids)
    ∙ ap each_once (map_again (λ n. n / 256) (λ n. n / 256) (λ n. n / 256 ^ 2) (λ n. omega arith) ids)

-- and those of one byte
pub first_parents : (ids : List ℕ) → parents_of (parents_of (parents_of ids)) ≡ each_once (map (λ id. id / 256 ^ 3) ids)
first_parents ids =
    ap parents_of (second_parents ids)
    ∙ each_once-map (λ n. n / 256) (map (λ n. n / 256 ^ 2) ids)
    ∙ ap each_once (map_again (λ n. n / 256 ^ 2) (λ n. n / 256) (λ n. n / 256 ^ 3) (λ n. omega arith) ids)

sum_of : (format : Format) → IsTreeFormat format → (list : List Entry)
    → blocks_needed format (ids_of list)
    ≡ 2 + (parts_needed format list
    + (beginnings 1 (ids_of list) + (beginnings 2 (ids_of list) + beginnings 3 (ids_of list))))
sum_of =
    by_tree _ (λ list. omega (arith, length-map list (λ (entry : Entry). entry.id)))
    (λ list. omega (arith, length-map list (λ (entry : Entry). entry.id)))

-- how many blocks a file needs, by its levels
pub needed_by_levels : (format : Format) → IsTreeFormat format → (list : List Entry)
    → blocks_needed format (ids_of list)
    ≡ 2 + (parts_needed format list
    + (length (parents_of (ids_of list))
    + (length (parents_of (parents_of (ids_of list))) + length (parents_of (parents_of (parents_of (ids_of list)))))))
needed_by_levels format tree list =
    omega
    (arith, sum_of format tree list, ap length (second_parents (ids_of list)), ap length (first_parents (ids_of list)))

-- the numbers of leaves are the identifiers
pub leaf_numbers : (format : Format) → IsTreeFormat format → (list : List Entry) (first : ℕ) (leaves : List TreePath)
    → leaves ≡ flat_map leaves_in (parts_of format list first (parts_needed format list))
    → numbers_of leaves ≡ ids_of list
leaf_numbers format tree list first leaves are =
    ap numbers_of are ∙ numbers_of_leaves (parts_of format list first (parts_needed format list))
    ∙ ap ids_of (all_parts format tree list first)

-- the numbers of a level ascend
pub rising_parents : (ids : List ℕ) → Ascends 0 ids → IsStrictlyIncreasing (parents_of ids)
rising_parents ids rising = IsStrictlyIncreasing-of 0 (parents_of ids) (ascends-parents_of ids rising)

all_filter : (P : ℕ → Type 0) (test : ℕ → Bool) (ns : List ℕ) → AllByRecursion P ns → AllByRecursion P (filter test ns)
all_filter P test [] all = tt
all_filter P test (n ∷ ns) all =
    let rest = all_filter P test ns all.1 in
    elim (test n) as (λ (b : Bool). AllByRecursion P (cond b (n ∷ filter test ns) (filter test ns))) [
      | true ↦ (all.0, rest)
      | false ↦ rest
    ]

all_once : (P : ℕ → Type 0) (ns : List ℕ) → AllByRecursion P ns → AllByRecursion P (each_once ns)
all_once P [] all = tt
all_once P (n ∷ ns) all = (all.0, all_filter P _ (each_once ns) (all_once P ns all.1))

below_parents : (bound : ℕ) (ns : List ℕ) → AllByRecursion (λ n. n < 256 * bound) ns
    → AllByRecursion (λ n. n < bound) (parents_of ns)
below_parents bound ns all = all_once (λ n. n < bound) (map (λ n. n / 256) ns) (divided ns all)
  where
    divided : (ns : List ℕ) → AllByRecursion (λ n. n < 256 * bound) ns
        → AllByRecursion (λ n. n < bound) (map (λ n. n / 256) ns)
    divided [] all = tt
    divided (n ∷ ns) all = let low : n < 256 * bound = all.0 in (omega arith, divided ns all.1)

below_numbers : (bound : ℕ) (ps : List TreePath) → AreBelow bound ps → AllByRecursion (λ n. n < bound) (numbers_of ps)
below_numbers bound [] all = tt
below_numbers bound (p ∷ ps) all = (all.0, below_numbers bound ps all.1)

children_of_root : (ps : List TreePath) → AllByRecursion (λ n. n < 256) (numbers_of ps) → AreSiblings 0 ps
children_of_root [] all = tt
children_of_root (p ∷ ps) all = let low : p.number < 256 = all.0 in (omega arith, children_of_root ps all.1)

lead_leaves : (blocks block : ℕ) (entries : List Entry) → IsTrue (leads blocks block)
    → AllLead blocks (leaves_in (record { block = block; entries = entries }))
lead_leaves blocks block [] leading = tt
lead_leaves blocks block (e ∷ es) leading = (leading, lead_leaves blocks block es leading)

lead_parts : (format : Format) (list : List Entry) (blocks low count : ℕ) → 2 + (low + count) ≤ blocks
    → AllLead blocks (flat_map leaves_in (map (part_of format list 2) (range_with_len low count)))
lead_parts format list blocks low zero le = tt
lead_parts format list blocks low (suc count) le =
    each-append (λ (p : TreePath). IsTrue (leads blocks p.block)) (leaves_in (part_of format list 2 low))
    (flat_map leaves_in (map (part_of format list 2) (range_with_len (low + 1) count)))
    (lead_leaves blocks (2 + low) (part_of format list 2 low).entries
    (leads_from blocks (2 + low) (omega arith) (omega arith)))
    (lead_parts format list blocks (low + 1) count (omega arith))

-- data blocks that are the same in another file
parts_same : (format : Format) (old new : List ℕ) (list : List Entry) (low count : ℕ)
    → ((place : ℕ) → place < low + count → block_of new (2 + place) ≡ block_of old (2 + place))
    → AreDataBlocks format old (map (part_of format list 2) (range_with_len low count))
    → AreDataBlocks format new (map (part_of format list 2) (range_with_len low count))
parts_same format old new list low zero same are = tt
parts_same format old new list low (suc count) same are = (
  subst (λ (block : List ℕ). IsDataBlock format block (part_of format list 2 low).entries)
      (sym (same low (omega arith))) are.0,
  parts_same format old new list (low + 1) count (λ place below. same place (omega arith)) are.1,
)

-- What each step of the writing left: the header, the data blocks, and the levels from the lowest one up, each behind
-- what was there before it.
pub record IsWritten (header : Header) (list : List Entry)
    (zeroth data_file third_file second_file first_file root : List ℕ)
    (leaves third second first : List TreePath) : Type 0 where
  pub tree : IsTreeFormat header.format
  pub rising : IsStrictlyIncreasing (ids_of list)
  pub blocks : header.blocks ≡ blocks_needed header.format (ids_of list)
  pub free : header.free ≡ 0
  pub room : header.first ≡ first_room header.format list
  pub zeroth_long : length zeroth ≡ 2048
  pub head : AreOf header (header_of (take 1024 zeroth))
  pub padding : (at : ℕ) → 32 ≤ at → at < 1024 → byte_at (take 1024 zeroth) at ≡ 0
  pub leaves_are : leaves ≡ flat_map leaves_in (parts_of header.format list 2 (parts_needed header.format list))
  pub below : AreBelow (2 ^ 32) leaves
  pub parts : AreDataBlocks header.format data_file (parts_of header.format list 2 (parts_needed header.format list))
  pub data_kept : KeepsBlocks 2 zeroth data_file
  pub third_numbers : numbers_of third ≡ parents_of (numbers_of leaves)
  pub third_blocks : blocks_of third
      ≡ range_with_len (2 + parts_needed header.format list) (length (parents_of (numbers_of leaves)))
  pub third_level : (all : ℕ) → AllLead all leaves → IsLevel third_file all third leaves
  pub third_kept : KeepsBlocks (2 + parts_needed header.format list) data_file third_file
  pub second_numbers : numbers_of second ≡ parents_of (numbers_of third)
  pub second_blocks : blocks_of second
      ≡ range_with_len (2 + parts_needed header.format list + length (parents_of (numbers_of leaves)))
      (length (parents_of (numbers_of third)))
  pub second_level : (all : ℕ) → AllLead all third → IsLevel second_file all second third
  pub second_kept : KeepsBlocks (2 + parts_needed header.format list + length (parents_of (numbers_of leaves)))
      third_file second_file
  pub first_numbers : numbers_of first ≡ parents_of (numbers_of second)
  pub first_blocks : blocks_of first
      ≡ range_with_len
      (2 + parts_needed header.format list + length (parents_of (numbers_of leaves))
      + length (parents_of (numbers_of third))) (length (parents_of (numbers_of second)))
  pub first_level : (all : ℕ) → AllLead all second → IsLevel first_file all first second
  pub first_kept : KeepsBlocks
      (2 + parts_needed header.format list + length (parents_of (numbers_of leaves))
      + length (parents_of (numbers_of third))) second_file first_file
  pub first_long : length first_file
      ≡ 1024 * (2 + parts_needed header.format list + length (parents_of (numbers_of leaves))
      + length (parents_of (numbers_of third)) + length (parents_of (numbers_of second)))
  pub root_long : length root ≡ 1024
  pub root_steps : (file : List ℕ) (all : ℕ) (path : TreePath) → block_of file path.block ≡ root
      → IsStrictlyIncreasing (numbers_of first) → AreSiblings path.number first → AllLead all first
      → steps file all path ≡ first
  pub root_inside : (all digit : ℕ) → 1 ≤ all → AllLead all first → number_at 4 root (4 * digit) < all

module _ (header : Header) (list : List Entry) (zeroth data_file third_file second_file first_file root : List ℕ)
    (leaves' third second first : List TreePath)
    (w : IsWritten header list zeroth data_file third_file second_file first_file root leaves' third second first) where
  ids_are : numbers_of leaves' ≡ ids_of list
  ids_are = leaf_numbers header.format w.tree list 2 leaves' w.leaves_are

  third_ids : numbers_of third ≡ parents_of (ids_of list)
  third_ids = w.third_numbers ∙ ap parents_of ids_are

  second_ids : numbers_of second ≡ parents_of (parents_of (ids_of list))
  second_ids = w.second_numbers ∙ ap parents_of third_ids

  first_ids : numbers_of first ≡ parents_of (parents_of (parents_of (ids_of list)))
  first_ids = w.first_numbers ∙ ap parents_of second_ids

  sum : header.blocks
      ≡ 2 + (parts_needed header.format list
      + (length (parents_of (numbers_of leaves'))
      + (length (parents_of (numbers_of third)) + length (parents_of (numbers_of second)))))
  sum =
      w.blocks ∙ needed_by_levels header.format w.tree list
      ∙ ap (λ (ns : List ℕ). 2
      + (parts_needed header.format list
      + (length (parents_of ns)
      + (length (parents_of (parents_of (ids_of list)))
      + length (parents_of (parents_of (parents_of (ids_of list)))))))) (sym ids_are)
      ∙ ap (λ (ns : List ℕ). 2
      + (parts_needed header.format list
      + (length (parents_of (numbers_of leaves'))
      + (length (parents_of ns) + length (parents_of (parents_of (parents_of (ids_of list)))))))) (sym third_ids)
      ∙ ap (λ (ns : List ℕ). 2
      + (parts_needed header.format list
      + (length (parents_of (numbers_of leaves')) + (length (parents_of (numbers_of third)) + length (parents_of ns)))))
      (sym second_ids)

  pub long : length (with_root first_file root) ≡ 1024 * header.blocks
  long =
      let total = sum in
      let whole = w.first_long in
      length-with_root first_file root (omega arith) w.root_long ∙ omega arith

  two_blocks : 2048 ≤ length first_file
  two_blocks = let whole = w.first_long in omega arith

  first_same : (number : ℕ) → 2 ≤ number
      → number < 2 + parts_needed header.format list + length (parents_of (numbers_of leaves'))
      + length (parents_of (numbers_of third)) + length (parents_of (numbers_of second))
      → block_of (with_root first_file root) number ≡ block_of first_file number
  first_same number two low =
      let whole = w.first_long in root_keeps first_file root number w.root_long two (omega arith)

  second_same : (number : ℕ) → 2 ≤ number
      → number < 2 + parts_needed header.format list + length (parents_of (numbers_of leaves'))
      + length (parents_of (numbers_of third))
      → block_of (with_root first_file root) number ≡ block_of second_file number
  second_same number two low = first_same number two (omega arith) ∙ w.first_kept number low

  third_same : (number : ℕ) → 2 ≤ number
      → number < 2 + parts_needed header.format list + length (parents_of (numbers_of leaves'))
      → block_of (with_root first_file root) number ≡ block_of third_file number
  third_same number two low = second_same number two (omega arith) ∙ w.second_kept number low

  data_same : (number : ℕ) → 2 ≤ number → number < 2 + parts_needed header.format list
      → block_of (with_root first_file root) number ≡ block_of data_file number
  data_same number two low = third_same number two (omega arith) ∙ w.third_kept number low

  -- the blocks of a level come behind the root and before the end
  leading : (low count : ℕ) (ps : List TreePath) → blocks_of ps ≡ range_with_len low count → 2 ≤ low
      → low + count ≤ header.blocks → AllLead header.blocks ps
  leading low count ps are two le =
      AllByRecursion-weaker (λ (p : TreePath). (low ≤ p.block) × (p.block < low + count))
      (λ (p : TreePath). IsTrue (leads header.blocks p.block)) ps
      (λ p between. leads_from header.blocks p.block (omega (arith, between)) (omega (arith, between)))
      (blocks_between ps low count are)

  staying : (low count : ℕ) (ps : List TreePath) (old : List ℕ) → blocks_of ps ≡ range_with_len low count → 2 ≤ low
      → ((number : ℕ) → 2 ≤ number → number < low + count
      → block_of (with_root first_file root) number ≡ block_of old number)
      → AllByRecursion (λ (p : TreePath). block_of (with_root first_file root) p.block ≡ block_of old p.block) ps
  staying low count ps old are two same =
      AllByRecursion-weaker (λ (p : TreePath). (low ≤ p.block) × (p.block < low + count))
      (λ (p : TreePath). block_of (with_root first_file root) p.block ≡ block_of old p.block) ps
      (λ p between. same p.block (omega (arith, between)) between.1) (blocks_between ps low count are)

  leaves_lead : AllLead header.blocks leaves'
  leaves_lead =
      subst (AllLead header.blocks) (sym w.leaves_are)
      (let total = sum in lead_parts header.format list header.blocks 0 (parts_needed header.format list) (omega arith))

  third_lead : AllLead header.blocks third
  third_lead = let total = sum in leading _ _ third w.third_blocks (omega arith) (omega arith)

  second_lead : AllLead header.blocks second
  second_lead = let total = sum in leading _ _ second w.second_blocks (omega arith) (omega arith)

  first_lead : AllLead header.blocks first
  first_lead = let total = sum in leading _ _ first w.first_blocks (omega arith) (omega arith)

  third_there : IsLevel (with_root first_file root) header.blocks third leaves'
  third_there =
      level_kept header.blocks third_file (with_root first_file root) third leaves'
      (staying _ _ third third_file w.third_blocks (omega arith) third_same) (w.third_level header.blocks leaves_lead)

  second_there : IsLevel (with_root first_file root) header.blocks second third
  second_there =
      level_kept header.blocks second_file (with_root first_file root) second third
      (staying _ _ second second_file w.second_blocks (omega arith) second_same)
      (w.second_level header.blocks third_lead)

  first_there : IsLevel (with_root first_file root) header.blocks first second
  first_there =
      level_kept header.blocks first_file (with_root first_file root) first second
      (staying _ _ first first_file w.first_blocks (omega arith) first_same) (w.first_level header.blocks second_lead)

  root_there : block_of (with_root first_file root) 1 ≡ root
  root_there = root_is first_file root two_blocks w.root_long

  first_siblings : AreSiblings 0 first
  first_siblings =
      children_of_root first
      (subst (AllByRecursion (λ n. n < 256)) (sym w.first_numbers)
      (below_parents 256 (numbers_of second) (subst (AllByRecursion (λ n. n < 256 * 256)) (sym w.second_numbers)
      (below_parents (256 * 256) (numbers_of third)
      (subst (AllByRecursion (λ n. n < 256 * (256 * 256))) (sym w.third_numbers)
      (below_parents (256 * (256 * 256)) (numbers_of leaves') (below_numbers (2 ^ 32) leaves' w.below)))))))

  first_rising : IsStrictlyIncreasing (numbers_of first)
  first_rising =
      subst IsStrictlyIncreasing (sym first_ids)
      (rising_parents (parents_of (parents_of (ids_of list)))
      (ascends-parents_of (parents_of (ids_of list))
      (ascends-parents_of (ids_of list) (Ascends-of (ids_of list) w.rising))))

  first_paths : paths (with_root first_file root) header.blocks 1 ≡ first
  first_paths =
      append-nil _ ∙ w.root_steps (with_root first_file root) header.blocks (record { number = 0; block = 1 })
      root_there first_rising first_siblings first_lead

  second_paths : paths (with_root first_file root) header.blocks 2 ≡ second
  second_paths = ap (flat_map (steps (with_root first_file root) header.blocks)) first_paths ∙ first_there.onward

  third_paths : paths (with_root first_file root) header.blocks 3 ≡ third
  third_paths = ap (flat_map (steps (with_root first_file root) header.blocks)) second_paths ∙ second_there.onward

  leaf_paths : paths (with_root first_file root) header.blocks 4 ≡ leaves'
  leaf_paths = ap (flat_map (steps (with_root first_file root) header.blocks)) third_paths ∙ third_there.onward

  built : IsBuilt header.format (with_root first_file root) header.blocks list first second third
  built = record {
    tree = w.tree;
    ones = length (parents_of (numbers_of second));
    twos = length (parents_of (numbers_of third));
    threes = length (parents_of (numbers_of leaves'));
    sum = sum;
    first_are = first_paths;
    second_are = second_paths;
    third_are = third_paths;
    leaves_are = leaf_paths ∙ w.leaves_are;
    first_blocks = w.first_blocks;
    second_blocks = w.second_blocks;
    third_blocks = w.third_blocks;
    root = λ digit low. subst (λ (bytes : List ℕ). number_at 4 bytes (4 * digit) < header.blocks) (sym root_there)
        (w.root_inside header.blocks digit (let total = sum in omega arith) first_lead);
    first_full = first_there.full;
    second_full = second_there.full;
    third_full = third_there.full;
    parts = parts_same header.format data_file (with_root first_file root) list 0 (parts_needed header.format list)
        (λ place low. data_same (2 + place) (omega arith) (omega arith)) w.parts;
  }

  -- the header is the one that was written
  front : take 1024 (with_root first_file root) ≡ take 1024 zeroth
  front =
      let zeroth_size = w.zeroth_long in
      let kept : block_of first_file 0 ≡ block_of zeroth 0 =
      w.first_kept 0 (omega arith) ∙ w.second_kept 0 (omega arith) ∙ w.third_kept 0 (omega arith)
      ∙ w.data_kept 0 (omega arith) in
      front_is first_file root two_blocks
      ∙ sym (block_within first_file 0 (let two = two_blocks in omega arith)) ∙ kept
      ∙ block_within zeroth 0 (omega arith)

  pub padded : (at : ℕ) → 32 ≤ at → at < 1024 → byte_at (with_root first_file root) at ≡ 0
  padded at from to =
      sym (get_or-take 1024 (with_root first_file root) at 0 to) ∙ ap (λ (bytes : List ℕ). byte_at bytes at) front
      ∙ w.padding at from to

  number : (at : ℕ) → at + 4 ≤ 1024 → number_at 4 (with_root first_file root) at ≡ number_at 4 (take 1024 zeroth) at
  number at low =
      sym (number_at-take 4 1024 (with_root first_file root) at low)
      ∙ ap (λ (bytes : List ℕ). number_at 4 bytes at) front

  pub are : AreOf header (header_of (with_root first_file root))
  are =
      let head = w.head in
      record {
        magic = number 0 (omega arith) ∙ head.magic;
        version = ap format_of (number 4 (omega arith)) ∙ head.version;
        block_grace = number 8 (omega arith) ∙ head.block_grace;
        inode_grace = number 12 (omega arith) ∙ head.inode_grace;
        flags = number 16 (omega arith) ∙ head.flags;
        blocks = number 20 (omega arith) ∙ head.blocks;
        free = number 24 (omega arith) ∙ head.free;
        first = number 28 (omega arith) ∙ head.first;
      }

  pub stands : TreeStandsFor (with_root first_file root)
      (value_of header.kind header.format header.grace header.flags list)
  stands =
      let whole = long in
      let total = sum in
      let parts : List Part = parts_of header.format list 2 (parts_needed header.format list) in
      let used : AllByRecursion
      (λ (part : Part). used_entries header.format (block_of (with_root first_file root) part.block) ≡ part.entries)
      parts =
      AllByRecursion-weaker
      (λ (part : Part). IsDataBlock header.format (block_of (with_root first_file root) part.block) part.entries)
      (λ (part : Part). used_entries header.format (block_of (with_root first_file root) part.block) ≡ part.entries)
      parts (λ part is. is.used) built.parts in
      record {
        magic = are.magic;
        version = are.version;
        block_grace = sym are.block_grace;
        inode_grace = sym are.inode_grace;
        flags = sym are.flags;
        sound = sound (with_root first_file root) header are (omega arith) (λ more. omega arith)
            (subst (OneRole nothing_loose (with_root first_file root) header.blocks) (sym w.free)
            (one_role header.format (with_root first_file root) header.blocks list first second third built))
            (subst (Chained nothing_loose header.format (with_root first_file root) header.blocks) (sym w.room)
            (chained header.format (with_root first_file root) header.blocks list first second third built))
            (filled header.format (with_root first_file root) header.blocks list first second third built);
        records = λ id.
            subst (λ (b : ℕ). get (records_of list) id ≡ tree_record header.format (with_root first_file root) b id)
            (sym are.blocks) (
            get_record list id
            ∙ sym (
            ap (λ (ps : List TreePath). option_and_then
            (λ (leaf : TreePath). record_in header.format (block_of (with_root first_file root) leaf.block) id)
            (find (λ (leaf : TreePath). leaf.number == id) ps)) built.leaves_are
            ∙ record_of_parts header.format (with_root first_file root) parts id used
            ∙ ap (λ (es : List Entry). option_map (λ (entry : Entry). entry.rec)
            (find (λ (entry : Entry). entry.id == id) es)) (all_parts header.format w.tree list 2)
            )
            );
      }

  pub has_one_room : HasOneRoom header.format (with_root first_file root) header.blocks
  has_one_room = one_room header.format (with_root first_file root) header.blocks list first second third built

  pub has_no_padding : HasNoPadding header.format (with_root first_file root) header.blocks
  has_no_padding =
      no_padding header.format (with_root first_file root) header.blocks list first second third built padded
