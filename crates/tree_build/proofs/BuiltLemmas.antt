-- A file with the header, the data blocks and the levels of a list is a sound one.
use Rattle.std.proofs.Common.{◌≡◌, ◌≢◌, ℕ, ◌+◌, ◌-◌, ◌*◌, ◌/◌, ◌%◌, ◌<◌, ◌≤◌, min, Bool, true, false, ◌&&◌, ◌==◌}
use Rattle.std.proofs.Common.{nat_lt, nat_le, if◌then◌else◌, IsTrue, List, [], ◌∷◌, ◌++◌, length, refl, sym, ap, subst}
use Rattle.std.proofs.Common.{◌∙◌, inl, inr, arith, true≢false, zero-le}
use Rattle.std.proofs.lemmas.Bool.{cases_Bool, cases_lt, cases_eq, le-leb, le-ltb, lt-ltb}
use Rattle.std.proofs.lemmas.Bool.Decides.{nat_tests}
use Rattle.std.proofs.lemmas.List.{length-map}
use Rattle.std.specs.List.{AllByRecursion, flat_map, range_with_len}
use Rattle.quota_types.specs.Bytes.{byte_at}
use Rattle.quota_types.specs.Format.{IsTreeFormat}
use Rattle.quota_types.specs.declared.file_kind.Format.{Format}
use Rattle.quota_types.proofs.FormatLemmas.{by_tree}
use Rattle.quota_types.specs.declared.record.Entry.{Entry}
use Rattle.entry_codec.specs.Entry.{entries_per_block}
use Rattle.entry_codec.specs.Spelling.{padding_of}
use Rattle.quota_radix.specs.declared.tree_path.TreePath.{TreePath}
use Rattle.file_blocks.specs.Block.{block_of, word_at, leads}
use Rattle.quota_value.specs.Listed.{ids_of}
use Rattle.file_blocks.proofs.LeadsLemmas.{leads_from}
use Rattle.tree_build.specs.Build.{HasNoPadding, HasOneRoom}
use Rattle.quota_types.specs.Times.{StandsIn, times}
use Rattle.tree_meaning.specs.Entries.{entry_bytes, has_unused, stated_count, used_entries, used_ids}
use Rattle.quota_radix.specs.Tree.{blocks_of, data_blocks, ids_at, is_data, leaves, level, lower_blocks, paths}
use Rattle.quota_radix.specs.Tree.{tree_blocks}
use Rattle.tree_build.specs.NewFile.{AreDataBlocks, IsDataBlock, IsFullTreeBlock, Part, leaves_in, part_of}
use Rattle.tree_build.specs.NewFile.{parts_needed, parts_of}
use Rattle.tree_meaning.specs.Loose.{nothing_loose}
use Rattle.tree_meaning.specs.Roles.{Chained, Filled, OneRole, has_room, roles}
use Rattle.tree_build.specs.Size.{filled_blocks}
use Rattle.quota_types.proofs.TimesLemmas.{stands_either, times-append, times-cons-other, times-cons-same}
use Rattle.quota_types.proofs.TimesLemmas.{times-range-high, times-range-low, times-range-within, only_one}
use Rattle.quota_types.proofs.TimesLemmas.{range_with_len-add}
use Rattle.quota_radix.proofs.PathLemmas.{length_ids, data_of_id, data_within, ids_distinct, one_with}
use Rattle.quota_radix.proofs.PathLemmas.{times-data_blocks}
use Rattle.tree_meaning.proofs.EntryLemmas.{used_ids-entries}
use Rattle.tree_build.proofs.PartsLemmas.{each_part, ids_nowhere, ids_there, length_part, some_entries}

-- A file with the levels and the data blocks of a list: the data blocks stand first, then the levels from the lowest
-- one up.
pub record IsBuilt (format : Format) (file : List ℕ) (blocks : ℕ) (list : List Entry)
    (first second third : List TreePath) : Type 0 where
  pub tree : IsTreeFormat format
  pub ones : ℕ
  pub twos : ℕ
  pub threes : ℕ
  pub sum : blocks ≡ 2 + (parts_needed format list + (threes + (twos + ones)))
  pub first_are : paths file blocks 1 ≡ first
  pub second_are : paths file blocks 2 ≡ second
  pub third_are : paths file blocks 3 ≡ third
  pub leaves_are : paths file blocks 4 ≡ flat_map leaves_in (parts_of format list 2 (parts_needed format list))
  pub first_blocks : blocks_of first ≡ range_with_len (2 + parts_needed format list + threes + twos) ones
  pub second_blocks : blocks_of second ≡ range_with_len (2 + parts_needed format list + threes) twos
  pub third_blocks : blocks_of third ≡ range_with_len (2 + parts_needed format list) threes
  pub root : (digit : ℕ) → digit < 256 → word_at file 1 digit < blocks
  pub first_full : AllByRecursion (λ (p : TreePath). IsFullTreeBlock file blocks p.block) first
  pub second_full : AllByRecursion (λ (p : TreePath). IsFullTreeBlock file blocks p.block) second
  pub third_full : AllByRecursion (λ (p : TreePath). IsFullTreeBlock file blocks p.block) third
  pub parts : AreDataBlocks format file (parts_of format list 2 (parts_needed format list))

times_joined : (low a b n : ℕ)
    → times (range_with_len low (a + b)) n ≡ times (range_with_len low a) n + times (range_with_len (low + a) b) n
times_joined low a b n =
    ap (λ (ns : List ℕ). times ns n) (range_with_len-add low a b)
    ∙ times-append (range_with_len low a) (range_with_len (low + a) b) n

times_below : (count n : ℕ) → times (range_with_len 0 count) n ≡ (if nat_lt n count then 1 else 0)
times_below count n = elim (cases_lt n count) [
  | inl low ↦ times-range-within 0 count n zero-le (omega arith)
      ∙ ap {B = ℕ} (λ (b : Bool). if b then 1 else 0) (sym (lt-ltb n count low))
  | inr high ↦ times-range-high 0 count n (omega arith)
      ∙ ap {B = ℕ} (λ (b : Bool). if b then 1 else 0) (sym (le-ltb n count high))
]

-- each part but the last one is full
full_part : (format : Format) → IsTreeFormat format → (count place : ℕ)
    → place < filled_blocks (entries_per_block format) count → place ≢ count / entries_per_block format
    → min (entries_per_block format) (count - entries_per_block format * place) ≡ entries_per_block format
full_part = by_tree _ (λ count place low other. omega arith) (λ count place low other. omega arith)

-- and the last one is not, where some entries are left
last_part : (format : Format) → IsTreeFormat format → (count : ℕ) → count % entries_per_block format ≢ 0
    → (count / entries_per_block format < filled_blocks (entries_per_block format) count)
    × (min (entries_per_block format) (count - entries_per_block format * (count / entries_per_block format))
    < entries_per_block format)
last_part = by_tree _ (λ count some. (omega arith, omega arith)) (λ count some. (omega arith, omega arith))

no_last : (format : Format) → IsTreeFormat format → (count place : ℕ) → count % entries_per_block format ≡ 0
    → place < filled_blocks (entries_per_block format) count → place ≢ count / entries_per_block format
no_last = by_tree _ (λ count place none low e. omega (arith, e)) (λ count place none low e. omega (arith, e))

-- the first data block with room: the last one, where it is not full
abbrev pub first_room : Format → List Entry → ℕ
first_room format list =
    if length list % entries_per_block format == 0 then 0 else 2 + length list / entries_per_block format

module _ (format : Format) (file : List ℕ) (blocks : ℕ) (list : List Entry) (first second third : List TreePath)
    (built : IsBuilt format file blocks list first second third) where
  -- a data block and its entries
  pub part_is : (place : ℕ) → place < parts_needed format list
      → IsDataBlock format (block_of file (2 + place)) (part_of format list 2 place).entries
  part_is place low =
      each_part (λ (part : Part). IsDataBlock format (block_of file part.block) part.entries) format list 2 0
      (parts_needed format list) built.parts place zero-le (omega arith)

  ids_is : (place : ℕ) → place < parts_needed format list
      → ids_at (leaves file blocks) (2 + place) ≡ ids_of (part_of format list 2 place).entries
  ids_is place low =
      ap (λ (ps : List TreePath). ids_at ps (2 + place)) built.leaves_are
      ∙ ids_there format list 2 0 (parts_needed format list) place zero-le (omega arith)

  data_yes : (place : ℕ) → place < parts_needed format list → is_data file blocks (2 + place) ≡ true
  data_yes place low =
      let some = some_entries format built.tree list 2 place low in
      le-leb 1 (times (level file blocks 4) (2 + place))
      (omega (
        arith,
        some,
        length_ids (leaves file blocks) (2 + place),
        ap length (ids_is place low),
        length-map (part_of format list 2 place).entries (λ (entry : Entry). entry.id),
      ))

  data_no : (block : ℕ) → ((place : ℕ) → place < parts_needed format list → 2 + place ≢ block)
      → is_data file blocks block ≡ false
  data_no block none =
      let no_ids : ids_at (leaves file blocks) block ≡ [] =
      ap (λ (ps : List TreePath). ids_at ps block) built.leaves_are
      ∙ ids_nowhere format list 2 0 (parts_needed format list) block (λ place from to. none place (omega arith)) in
      ap (nat_le 1) (sym (length_ids (leaves file blocks) block) ∙ ap length no_ids)

  -- a data block is that of a part
  data_place : (block : ℕ) → is_data file blocks block ≡ true
      → (place : ℕ) × (place < parts_needed format list) × (block ≡ 2 + place)
  data_place block is = elim (cases_lt block 2) [
    | inl low ↦ absurd (true≢false (sym is ∙ data_no block (λ place within e. omega (arith, e, low))))
    | inr from ↦ elim (cases_lt block (2 + parts_needed format list)) [
      | inl to ↦ (block - 2, omega arith, omega arith)
      | inr high ↦ absurd (true≢false (sym is ∙ data_no block (λ place within e. omega (arith, e, high, within))))
    ]
  ]

  data_times : (block : ℕ)
      → times (data_blocks file blocks) block ≡ times (range_with_len 2 (parts_needed format list)) block
  data_times block = elim (cases_Bool (is_data file blocks block)) [
    | inl is ↦
        let at = data_place block is in
        times-data_blocks file blocks block ∙ ap {B = ℕ} (λ (b : Bool). if b then 1 else 0) is
        ∙ sym (times-range-within 2 (parts_needed format list) block (omega (arith, at.2)) (omega (arith, at.1, at.2)))
    | inr other ↦ times-data_blocks file blocks block ∙ ap {B = ℕ} (λ (b : Bool). if b then 1 else 0) other
        ∙ sym (elim (cases_lt block 2) [
          | inl low ↦ times-range-low 2 (parts_needed format list) block low
          | inr from ↦ elim (cases_lt block (2 + parts_needed format list)) [
            | inl to ↦
                let place : 2 + (block - 2) ≡ block = omega arith in
                absurd (true≢false (sym (data_yes (block - 2) (omega arith)) ∙ ap (is_data file blocks) place ∙ other))
            | inr high ↦ times-range-high 2 (parts_needed format list) block high
          ]
        ])
  ]

  -- a tree block below the root has references
  full_of : (digits block : ℕ) (found : List TreePath) → paths file blocks digits ≡ found
      → AllByRecursion (λ (p : TreePath). IsFullTreeBlock file blocks p.block) found
      → StandsIn (level file blocks digits) block → IsFullTreeBlock file blocks block
  full_of digits block found are full stands =
      let one = one_with (λ (p : TreePath). IsFullTreeBlock file blocks p.block) (λ (p : TreePath). p.block) found block
      full (subst (λ (ps : List TreePath). StandsIn (blocks_of ps) block) are stands) in
      subst (IsFullTreeBlock file blocks) one.2 one.1

  lower_full : (block : ℕ) → StandsIn (lower_blocks file blocks) block → IsFullTreeBlock file blocks block
  lower_full block stands =
      elim (stands_either (level file blocks 1 ++ level file blocks 2) (level file blocks 3) block stands) [
        | inl upper ↦ elim (stands_either (level file blocks 1) (level file blocks 2) block upper) [
          | inl there ↦ full_of 1 block first built.first_are built.first_full there
          | inr there ↦ full_of 2 block second built.second_are built.second_full there
        ]
        | inr there ↦ full_of 3 block third built.third_are built.third_full there
      ]

  level_times : (digits block low many : ℕ) (found : List TreePath) → paths file blocks digits ≡ found
      → blocks_of found ≡ range_with_len low many
      → times (level file blocks digits) block ≡ times (range_with_len low many) block
  level_times digits block low many found are is =
      ap (λ (ps : List TreePath). times (blocks_of ps) block) are ∙ ap (λ (ns : List ℕ). times ns block) is

  once : (block : ℕ) → times (roles nothing_loose file blocks []) block ≡ (if nat_lt block blocks then 1 else 0)
  once block =
      let d : ℕ = parts_needed format list in
      let upper : List ℕ = level file blocks 1 ++ level file blocks 2 in
      omega (
        arith,
        times-append ((0 ∷ tree_blocks file blocks) ++ data_blocks file blocks) [] block,
        times-append (0 ∷ tree_blocks file blocks) (data_blocks file blocks) block,
        times-append (0 ∷ 1 ∷ []) (lower_blocks file blocks) block,
        times-append upper (level file blocks 3) block,
        times-append (level file blocks 1) (level file blocks 2) block,
        level_times 1 block (2 + d + built.threes + built.twos) built.ones first built.first_are built.first_blocks,
        level_times 2 block (2 + d + built.threes) built.twos second built.second_are built.second_blocks,
        level_times 3 block (2 + d) built.threes third built.third_are built.third_blocks,
        data_times block,
        times_joined 0 2 (d + (built.threes + (built.twos + built.ones))) block,
        times_joined 2 d (built.threes + (built.twos + built.ones)) block,
        times_joined (2 + d) built.threes (built.twos + built.ones) block,
        times_joined (2 + d + built.threes) built.twos built.ones block,
        ap (λ (n : ℕ). times (range_with_len 0 n) block) built.sum,
        times_below blocks block,
      )

  pub one_role : OneRole nothing_loose file blocks 0
  one_role = record {
    references = λ block stands digit low. elim (stands_either (1 ∷ []) (lower_blocks file blocks) block stands) [
      | inl is_root ↦ subst (λ (b : ℕ). word_at file b digit < blocks) (only_one 1 block is_root) (built.root digit low)
      | inr lower ↦ (lower_full block lower).references digit low
    ];
    free = [];
    is_free = record {
      linked = refl;
      inside = λ number stands. absurd (omega (arith, stands));
      distinct = λ number. zero-le;
      stops = inl refl;
    };
    once = once;
  }

  used_is : (place : ℕ) → place < parts_needed format list
      → used_ids format (block_of file (2 + place)) ≡ ids_at (leaves file blocks) (2 + place)
  used_is place low =
      used_ids-entries format (block_of file (2 + place)) ∙ ap ids_of (part_is place low).used ∙ sym (ids_is place low)

  same_ids : (block : ℕ) → is_data file blocks block ≡ true
      → used_ids format (block_of file block) ≡ ids_at (leaves file blocks) block
  same_ids block is =
      let at = data_place block is in
      subst (λ (b : ℕ). used_ids format (block_of file b) ≡ ids_at (leaves file blocks) b) (sym at.2)
      (used_is at.0 at.1)

  states : (block : ℕ) → is_data file blocks block ≡ true
      → length (used_ids format (block_of file block)) ≡ stated_count file block
  states block is =
      let at = data_place block is in
      let part = part_is at.0 at.1 in
      subst (λ (b : ℕ). length (used_ids format (block_of file b)) ≡ stated_count file b) (sym at.2)
      (ap length (used_ids-entries format (block_of file (2 + at.0)))
      ∙ length-map (used_entries format (block_of file (2 + at.0))) (λ (entry : Entry). entry.id) ∙ ap length part.used
      ∙ sym part.stated)

  data_stands : (block : ℕ) → StandsIn (data_blocks file blocks) block → is_data file blocks block ≡ true
  data_stands block stands = elim (cases_Bool (is_data file blocks block)) [
    | inl is ↦ is
    | inr other ↦ absurd (omega (
      arith,
      stands,
      times-data_blocks file blocks block,
      ap {B = ℕ} (λ (b : Bool). if b then 1 else 0) other,
    ))
  ]

  pub filled : Filled nothing_loose format file blocks
  filled = record {
    not_empty = λ block lower. (lower_full block lower).not_empty;
    one_entry = λ block id leads_there. omega (
      arith,
      leads_there,
      ids_distinct file blocks block id,
      ap (λ (ns : List ℕ). times ns id) (same_ids block (data_of_id file blocks block id leads_there)),
    );
    stated = λ block stands. states block (data_stands block stands);
    counted = λ block stands. ap length (same_ids block (data_stands block stands));
  }

  room_at : (place : ℕ) → place < parts_needed format list
      → has_room nothing_loose format file blocks (2 + place)
      ≡ nat_lt (min (entries_per_block format) (length list - entries_per_block format * place))
      (entries_per_block format)
  room_at place low =
      ap (λ (b : Bool). b && has_unused format (block_of file (2 + place))) (data_yes place low)
      ∙ (part_is place low).room ∙ ap (λ (n : ℕ). nat_lt n (entries_per_block format)) (length_part format list 2 place)

  not_full : (place : ℕ) → place < parts_needed format list → place ≢ length list / entries_per_block format
      → has_room nothing_loose format file blocks (2 + place) ≡ false
  not_full place low other =
      room_at place low
      ∙ le-ltb _ (entries_per_block format) (omega (arith, full_part format built.tree (length list) place low other))

  no_data_no_room : (block : ℕ) → is_data file blocks block ≡ false
      → has_room nothing_loose format file blocks block ≡ false
  no_data_no_room block other = ap (λ (b : Bool). b && has_unused format (block_of file block)) other

  -- a block with room is the last data block
  room_is : (block : ℕ) → has_room nothing_loose format file blocks block ≡ true
      → (block ≡ 2 + length list / entries_per_block format) × (length list % entries_per_block format ≢ 0)
  room_is block room = elim (cases_Bool (is_data file blocks block)) [
    | inr other ↦ absurd (true≢false (sym room ∙ no_data_no_room block other))
    | inl is ↦
        let at = data_place block is in
        let here : has_room nothing_loose format file blocks (2 + at.0) ≡ true =
        ap (has_room nothing_loose format file blocks) (sym at.2) ∙ room in
        let last : at.0 ≡ length list / entries_per_block format =
        elim (cases_eq at.0 (length list / entries_per_block format)) [
          | inl same ↦ same
          | inr other ↦ absurd (true≢false (sym here ∙ not_full at.0 at.1 other))
        ] in
        (at.2 ∙ ap (λ (n : ℕ). 2 + n) last, λ none. no_last format built.tree (length list) at.0 none at.1 last)
  ]

  pub one_room : HasOneRoom format file blocks
  one_room one other is also_is =
      (room_is one (true_of (has_room nothing_loose format file blocks one) is)).0
      ∙ sym (room_is other (true_of (has_room nothing_loose format file blocks other) also_is)).0
    where
      true_of : (b : Bool) → IsTrue b → b ≡ true
      true_of b h = grind (arith, nat_tests)

  chained_none : length list % entries_per_block format ≡ 0 → Chained nothing_loose format file blocks 0
  chained_none none = record {
    chain = [];
    is_chain = record {
      linked = refl;
      inside = λ number stands. absurd (omega (arith, stands));
      distinct = λ number. zero-le;
      stops = inl refl;
    };
    has_those = λ block. elim (cases_Bool (has_room nothing_loose format file blocks block)) [
      | inl room ↦ absurd ((room_is block room).1 none)
      | inr full ↦ ap {B = ℕ} (λ (b : Bool). if b then 1 else 0) (sym full)
    ];
    previous = refl;
  }

  chained_last : length list % entries_per_block format ≢ 0
      → Chained nothing_loose format file blocks (2 + length list / entries_per_block format)
  chained_last some =
      let place : ℕ = length list / entries_per_block format in
      let last = last_part format built.tree (length list) some in
      let here : has_room nothing_loose format file blocks (2 + place) ≡ true =
      room_at place last.0 ∙ lt-ltb _ (entries_per_block format) last.1 in
      let part = part_is place last.0 in
      let below : 2 + place < blocks = omega (arith, data_within file blocks (2 + place) (data_yes place last.0)) in
      record {
        chain = (2 + place) ∷ [];
        is_chain = record {
          linked = ap (λ (n : ℕ). (2 + place) ∷ n ∷ []) (sym part.next);
          inside = λ number stands. subst (λ (n : ℕ). IsTrue (leads blocks n)) (only_one (2 + place) number stands)
              (leads_from blocks (2 + place) (omega arith) below);
          distinct = λ number. at_most_one (2 + place) number;
          stops = inl refl;
        };
        has_those = λ block. elim (cases_Bool (has_room nothing_loose format file blocks block)) [
          | inl room ↦ ap (times ((2 + place) ∷ [])) (room_is block room).0 ∙ times-cons-same (2 + place) []
              ∙ ap {B = ℕ} (λ (b : Bool). if b then 1 else 0) (sym room)
          | inr full ↦
              let other : 2 + place ≢ block =
              λ e. true≢false (sym here ∙ ap (has_room nothing_loose format file blocks) e ∙ full) in
              times-cons-other (2 + place) [] block other ∙ ap {B = ℕ} (λ (b : Bool). if b then 1 else 0) (sym full)
        ];
        previous = ap (λ (n : ℕ). n ∷ []) part.previous;
      }
    where
      at_most_one : (x n : ℕ) → times (x ∷ []) n ≤ 1
      at_most_one x n = elim (cases_eq x n) [
        | inl same ↦ omega (arith, times-cons-same x [], ap (times (x ∷ [])) same)
        | inr other ↦ omega (arith, times-cons-other x [] n other)
      ]

  pub chained : Chained nothing_loose format file blocks (first_room format list)
  chained = elim (cases_eq (length list % entries_per_block format) 0) [
    | inl none ↦ subst (Chained nothing_loose format file blocks)
        (sym (room_none (length list % entries_per_block format) (2 + length list / entries_per_block format) none))
        (chained_none none)
    | inr some ↦ subst (Chained nothing_loose format file blocks)
        (sym (room_some (length list % entries_per_block format) (2 + length list / entries_per_block format) some))
        (chained_last some)
  ]
    where
      room_none : (left last : ℕ) → left ≡ 0 → (if left == 0 then 0 else last) ≡ 0
      room_none left last e = grind (arith, nat_tests)

      room_some : (left last : ℕ) → left ≢ 0 → (if left == 0 then 0 else last) ≡ last
      room_some left last e = grind (arith, nat_tests)

  pub no_padding : ((at : ℕ) → 32 ≤ at → at < 1024 → byte_at file at ≡ 0) → HasNoPadding format file blocks
  no_padding header = record {
    behind_header = header;
    behind_count = λ block stands.
        let at = data_place block (data_stands block stands) in
        subst (λ (b : ℕ). (k : ℕ) → 10 ≤ k → k < 16 → byte_at (block_of file b) k ≡ 0) (sym at.2)
        (part_is at.0 at.1).behind_count;
    in_entries = λ block stands.
        let at = data_place block (data_stands block stands) in
        subst (λ (b : ℕ). (place : ℕ) → place < entries_per_block format
        → padding_of format (entry_bytes format (block_of file b) place) ≡ 0) (sym at.2) (part_is at.0 at.1).in_entries;
  }
