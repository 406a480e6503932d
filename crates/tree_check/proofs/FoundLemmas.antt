-- What the parts of a check find, as the damages of a file and as the parts of a sound one.
use Rattle.std.proofs.Common.{IsTrue, true≢false, ◌≡◌, ℕ, ◌<◌, ◌≤◌, Bool, true, ◌&&◌, nat_le, if◌then◌else◌, List, []}
use Rattle.std.proofs.Common.{◌∷◌, ◌++◌, length, get_or, map, Option, refl, sym, ap, subst, ◌∙◌, inl, inr, arith}
use Rattle.std.proofs.Common.{zero-le}
use Rattle.std.proofs.lemmas.Bool.{cases_Bool, cases_lt, le-leb, leb-true}
use Rattle.std.proofs.lemmas.List.{get_or_past}
use Rattle.std.proofs.lemmas.List.FromFn.{get_or-map-range_with_len, length-map-range_with_len}
use Rattle.std.specs.List.{range_with_len}
use Rattle.entry_codec.specs.Header.{HeaderNumbers}
use Rattle.quota_types.specs.declared.damage.Damage.{Damage}
use Rattle.quota_types.specs.declared.damage.DamageKind.{DamageKind}
use Rattle.quota_types.specs.declared.damage.DamageKind.TheVariants.{BadCount, BadPrev, ChainLoop, ChainOut}
use Rattle.quota_types.specs.declared.damage.DamageKind.TheVariants.{DoubleEntry, EmptyTree, ForeignInChain}
use Rattle.quota_types.specs.declared.damage.DamageKind.TheVariants.{MissingEntry, MissingInChain, NoRole}
use Rattle.quota_types.specs.declared.damage.DamageKind.TheVariants.{PartialRecord, RefOut, Short, StrayEntry, TwoRoles}
use Rattle.quota_types.specs.declared.file_kind.Format.{Format}
use Rattle.file_blocks.specs.declared.check_fault.CheckFault.{CheckFault}
use Rattle.file_blocks.specs.declared.check_fault.CheckFault.TheVariants.{Store, Damage as Damaged, Memory}
use Rattle.free_chains.specs.declared.chain_link.ChainLink.{ChainLink}
use Rattle.quota_radix.specs.declared.tree_path.TreePath.{TreePath}
use Rattle.file_blocks.specs.Block.{block_of, previous_of, bytes_of, leads}
use Rattle.free_chains.specs.Chain.{IsChain}
use Rattle.file_blocks.specs.CheckFault.{IsCheckFault}
use Rattle.byte_order.specs.declared.order.Order.{Order}
use Rattle.byte_order.specs.Words.{in_order, words_of}
use Rattle.outside.specs.World.{World}
use Rattle.tree_meaning.specs.Compared.{AreEntriesOf, HasEntriesOf, IsDataDefect, IsEntryDefect, leading_ids, is_room}
use Rattle.tree_meaning.specs.Compared.{rooms}
use Rattle.quota_types.specs.Times.{StandsIn, times}
use Rattle.tree_meaning.specs.Defect.{IsDefectOf, IsTreeDefectIn}
use Rattle.quota_types.specs.Damage.{NamesItsId}
use Rattle.tree_meaning.specs.Entries.{has_unused, stated_in, used_ids}
use Rattle.tree_check.specs.Found.{HasNoEmptyBlock, IsListedDefect}
use Rattle.tree_check.specs.Groups.{AreGroupsOf}
use Rattle.tree_meaning.specs.Loose.{nothing_loose}
use Rattle.tree_meaning.specs.Roles.{Chained, FilledBy, has_room}
use Rattle.quota_radix.specs.Tree.{data_blocks, ids_at, is_data, leaves, level}
use Rattle.free_chains.specs.Walk.{AreLinksTo, linked_blocks, previous_in}
use Rattle.tree_check.specs.EntryList.{AreListed, IsListDefect, IsListDefectOf}
use Rattle.quota_types.proofs.TimesLemmas.{length_same_times, times-filter-no, times-filter-yes, times-range-high}
use Rattle.quota_types.proofs.TimesLemmas.{times-range-within}
use Rattle.quota_radix.proofs.PathLemmas.{data_block_of_id, data_within, ids_distinct, times-data_blocks, length_ids}

ids_there : (blocks : ℕ) (ps : List TreePath) (groups : List (List ℕ)) (block : ℕ) → AreGroupsOf blocks ps groups
    → block < blocks → leading_ids groups block ≡ ids_at ps block
ids_there blocks ps groups block are low =
    ap (λ (g : List (List ℕ)). get_or g block []) are
    ∙ get_or-map-range_with_len (ids_at ps) 0 blocks block block [] low (omega arith)

-- a block to which identifiers lead is a block
led_within : (blocks : ℕ) (ps : List TreePath) (groups : List (List ℕ)) (block : ℕ) → AreGroupsOf blocks ps groups
    → 1 ≤ length (leading_ids groups block) → block < blocks
led_within blocks ps groups block are led = elim (cases_lt block blocks) [
  | inl low ↦ low
  | inr high ↦
      let long : length groups ≡ blocks = ap length are ∙ length-map-range_with_len (ids_at ps) 0 blocks in
      absurd (omega (arith, led, ap length (get_or_past groups block [] (omega arith))))
]

-- and a data block
led_data : (file : List ℕ) (blocks block : ℕ) → 1 ≤ length (ids_at (leaves file blocks) block)
    → is_data file blocks block ≡ true
led_data file blocks block led =
    le-leb 1 (times (level file blocks 4) block) (omega (arith, led, length_ids (leaves file blocks) block))

data_stands : (file : List ℕ) (blocks block : ℕ) → is_data file blocks block ≡ true
    → StandsIn (data_blocks file blocks) block
data_stands file blocks block is =
    omega (arith, times-data_blocks file blocks block, ap {B = ℕ} (λ (b : Bool). if b then 1 else 0) is)

room_there : (format : Format) (file : List ℕ) (blocks : ℕ) (groups : List (List ℕ)) (block : ℕ)
    → AreGroupsOf blocks (leaves file blocks) groups → block < blocks
    → is_room format file groups block ≡ has_room nothing_loose format file blocks block
room_there format file blocks groups block are low =
    ap (λ (ids : List ℕ). nat_le 1 (length ids) && has_unused format (block_of file block))
    (ids_there blocks (leaves file blocks) groups block are low)
    ∙ ap (λ (n : ℕ). nat_le 1 n && has_unused format (block_of file block)) (length_ids (leaves file blocks) block)

-- a data block with room is a block
room_within : (format : Format) (file : List ℕ) (blocks block : ℕ)
    → has_room nothing_loose format file blocks block ≡ true → block < blocks
room_within format file blocks block room = elim (cases_Bool (is_data file blocks block)) [
  | inl is ↦ data_within file blocks block is
  | inr other ↦ absurd (true≢false (sym room ∙ ap (λ (b : Bool). b && has_unused format (block_of file block)) other))
]

-- the data blocks with room, as the check finds them
times_rooms : (format : Format) (file : List ℕ) (blocks : ℕ) (groups : List (List ℕ)) (block : ℕ)
    → AreGroupsOf blocks (leaves file blocks) groups
    → times (rooms format file groups blocks) block ≡ (if has_room nothing_loose format file blocks block then 1 else 0)
times_rooms format file blocks groups block are = elim (cases_lt block blocks) [
  | inl low ↦
      let same = room_there format file blocks groups block are low in
      elim (cases_Bool (is_room format file groups block)) [
        | inl room ↦ times-filter-yes (is_room format file groups) (range_with_len 0 blocks) block room
            ∙ times-range-within 0 blocks block zero-le (omega arith)
            ∙ ap (λ (b : Bool). if b then 1 else 0) (sym room ∙ same)
        | inr none ↦ times-filter-no (is_room format file groups) (range_with_len 0 blocks) block none
            ∙ ap (λ (b : Bool). if b then 1 else 0) (sym none ∙ same)
      ]
  | inr high ↦
      let gone : times (rooms format file groups blocks) block ≡ 0 =
      elim (cases_Bool (is_room format file groups block)) [
        | inl room ↦ times-filter-yes (is_room format file groups) (range_with_len 0 blocks) block room
            ∙ times-range-high 0 blocks block (omega arith)
        | inr none ↦ times-filter-no (is_room format file groups) (range_with_len 0 blocks) block none
      ] in
      gone ∙ elim (cases_Bool (has_room nothing_loose format file blocks block)) [
        | inl room ↦ absurd (let low = room_within format file blocks block room in omega arith)
        | inr none ↦ ap (λ (b : Bool). if b then 1 else 0) (sym none)
      ]
]

pub chained : (format : Format) (file : List ℕ) (blocks first : ℕ) (groups : List (List ℕ)) (links : List ChainLink)
    → AreGroupsOf blocks (leaves file blocks) groups
    → IsChain file blocks first (linked_blocks links) 0 → AreLinksTo file first links 0
    → AreListed (rooms format file groups blocks) (linked_blocks links) (previous_in links)
    → Chained nothing_loose format file blocks first
chained format file blocks first groups links are is_chain linked listed = record {
  chain = linked_blocks links;
  is_chain = is_chain;
  has_those = λ block. listed.those block ∙ times_rooms format file blocks groups block are;
  previous = sym linked.previous ∙ listed.in_order;
}

pub filled : (order : Order) (format : Format) (read : List ℕ) (blocks : ℕ) (groups : List (List ℕ))
    → AreGroupsOf blocks (leaves (in_order order read) blocks) groups
    → ((block : ℕ) → block < blocks → HasEntriesOf order format read block (leading_ids groups block))
    → HasNoEmptyBlock (in_order order read) blocks
    → FilledBy (stated_in order read) nothing_loose format (in_order order read) blocks
filled order format read blocks groups are entries not_empty =
    let file : List ℕ = in_order order read in
    let here : (block : ℕ) → is_data file blocks block ≡ true
    → AreEntriesOf (stated_in order read block) (used_ids format (block_of file block))
    (ids_at (leaves file blocks) block) = λ block is.
    let low = data_within file blocks block is in
    let same = ids_there blocks (leaves file blocks) groups block are low in
    let led : 1 ≤ length (leading_ids groups block) = omega (
      arith,
      ap length same,
      length_ids (leaves file blocks) block,
      leb-true 1 (times (level file blocks 4) block) is,
    ) in
    subst (λ (ids : List ℕ). AreEntriesOf (stated_in order read block) (used_ids format (block_of file block)) ids) same
    (entries block low led) in
    let data_of : (block : ℕ) → StandsIn (data_blocks file blocks) block → is_data file blocks block ≡ true =
    λ block stands. elim (cases_Bool (is_data file blocks block)) [
      | inl is ↦ is
      | inr other ↦ absurd (omega (
        arith,
        stands,
        times-data_blocks file blocks block,
        ap {B = ℕ} (λ (b : Bool). if b then 1 else 0) other,
      ))
    ] in
    record {
      not_empty = not_empty;
      one_entry =
          λ block id leads. (here block (data_of block (data_block_of_id file blocks block id leads))).one id leads;
      stated = λ block is_data. (here block (data_of block is_data)).count;
      counted = λ block is_data. let is = here block (data_of block is_data) in
          length_same_times (used_ids format (block_of file block)) (ids_at (leaves file blocks) block)
          (λ id. elim (cases_lt 0 (times (ids_at (leaves file blocks) block) id)) [
            | inl leads ↦ omega (arith, is.one id leads, leads, ids_distinct file blocks block id)
            | inr stray ↦ let none : times (ids_at (leaves file blocks) block) id ≡ 0 = omega arith in
                is.none id none ∙ sym none
          ]);
    }

-- the damages of data blocks
entry_defect : (stated : ℕ → ℕ) (len : ℕ) (format : Format) (file : List ℕ) (numbers : HeaderNumbers) (block id : ℕ)
    (kind : DamageKind)
    → StandsIn (data_blocks file numbers.blocks) block
    → IsEntryDefect (stated block) (used_ids format (block_of file block))
    (ids_at (leaves file numbers.blocks) block) kind id
    → IsDefectOf stated len format file numbers kind block id × NamesItsId kind id
entry_defect stated len format file numbers block id BadCount is_data is =
    (record { is_data = is_data; other = is.0 }, is.1)
entry_defect stated len format file numbers block id MissingEntry is_data is =
    (record { leads = is.0; none = is.1 }, tt)
entry_defect stated len format file numbers block id StrayEntry is_data is =
    (record { is_data = is_data; used = is.0; stray = is.1 }, tt)
entry_defect stated len format file numbers block id DoubleEntry is_data is =
    (record { is_data = is_data; twice = is }, tt)
entry_defect stated len format file numbers block id Short is_data is = absurd is
entry_defect stated len format file numbers block id RefOut is_data is = absurd is
entry_defect stated len format file numbers block id TwoRoles is_data is = absurd is
entry_defect stated len format file numbers block id NoRole is_data is = absurd is
entry_defect stated len format file numbers block id EmptyTree is_data is = absurd is
entry_defect stated len format file numbers block id ChainOut is_data is = absurd is
entry_defect stated len format file numbers block id ChainLoop is_data is = absurd is
entry_defect stated len format file numbers block id ForeignInChain is_data is = absurd is
entry_defect stated len format file numbers block id MissingInChain is_data is = absurd is
entry_defect stated len format file numbers block id BadPrev is_data is = absurd is
entry_defect stated len format file numbers block id PartialRecord is_data is = absurd is

data_defect_there : (order : Order) (format : Format) (read : List ℕ) (numbers : HeaderNumbers)
    (groups : List (List ℕ)) (damage : Damage)
    → AreGroupsOf numbers.blocks (leaves (in_order order read) numbers.blocks) groups
    → IsDataDefect order format read (leading_ids groups damage.block) damage.block damage
    → IsTreeDefectIn order format read numbers damage
data_defect_there order format read numbers groups damage are is =
    let file : List ℕ = in_order order read in
    let low = led_within numbers.blocks (leaves file numbers.blocks) groups damage.block are is.led in
    let same = ids_there numbers.blocks (leaves file numbers.blocks) groups damage.block are low in
    let led : 1 ≤ length (ids_at (leaves file numbers.blocks) damage.block) = omega (arith, is.led, ap length same) in
    entry_defect (stated_in order read) (length read) format file numbers damage.block damage.id damage.kind
    (data_stands file numbers.blocks damage.block (led_data file numbers.blocks damage.block led))
    (subst (λ (ids : List ℕ). IsEntryDefect (stated_in order read damage.block)
    (used_ids format (block_of file damage.block)) ids damage.kind damage.id) same is.defect.defect)

pub data_defect : (order : Order) (format : Format) (file there : List ℕ) (numbers : HeaderNumbers) (blocks : ℕ)
    (groups : List (List ℕ)) (damage : Damage) → there ≡ file → numbers.blocks ≡ blocks
    → AreGroupsOf blocks (leaves (in_order order file) blocks) groups
    → IsDataDefect order format there (leading_ids groups damage.block) damage.block damage
    → IsTreeDefectIn order format file numbers damage
data_defect order format file there numbers blocks groups damage same_file same are is =
    data_defect_there order format file numbers groups damage
    (subst (λ (b : ℕ). AreGroupsOf b (leaves (in_order order file) b) groups) (sym same) are)
    (subst (λ (f : List ℕ). IsDataDefect order format f (leading_ids groups damage.block) damage.block damage) same_file
    is)

index_map : (f : ℕ → ℕ) (before : List ℕ) (n : ℕ) (behind : List ℕ)
    → get_or (map f (before ++ n ∷ behind)) (length before) 0 ≡ f n
index_map f [] n behind = refl
index_map f (b ∷ before) n behind = index_map f before n behind

list_defect_of : (stated : ℕ → ℕ) (len : ℕ) (format : Format) (file : List ℕ) (numbers : HeaderNumbers)
    (groups : List (List ℕ))
    (chain previous : List ℕ) (block id : ℕ) (kind : DamageKind)
    → AreGroupsOf numbers.blocks (leaves file numbers.blocks) groups → IsChain file numbers.blocks numbers.first chain 0
    → previous ≡ map (previous_of file) chain → id ≡ 0
    → IsListDefectOf (rooms format file groups numbers.blocks) chain previous kind block
    → IsDefectOf stated len format file numbers kind block id × NamesItsId kind id
list_defect_of stated len format file numbers groups chain previous block id ForeignInChain are is_chain e no_id is = (
  record {
    chain = chain;
    end = 0;
    is_chain = is_chain;
    listed = is.0;
    foreign = elim (cases_Bool (has_room nothing_loose format file numbers.blocks block)) [
      | inl room ↦ absurd (omega (
        arith,
        is.1,
        times_rooms format file numbers.blocks groups block are,
        ap {B = ℕ} (λ (b : Bool). if b then 1 else 0) room,
      ))
      | inr none ↦ none
    ];
  },
  no_id,
)
list_defect_of stated len format file numbers groups chain previous block id MissingInChain are is_chain e no_id is = (
  record {
    chain = chain;
    end = 0;
    is_chain = is_chain;
    room = elim (cases_Bool (has_room nothing_loose format file numbers.blocks block)) [
      | inl room ↦ room
      | inr none ↦ absurd (omega (
        arith,
        is.0,
        times_rooms format file numbers.blocks groups block are,
        ap {B = ℕ} (λ (b : Bool). if b then 1 else 0) none,
      ))
    ];
    missing = is.1;
  },
  no_id,
)
list_defect_of stated len format file numbers groups chain previous block id BadPrev are is_chain e no_id is = (
  record {
    before = is.before;
    behind = is.behind;
    end = 0;
    is_chain = subst (λ (c : List ℕ). IsChain file numbers.blocks numbers.first c 0) is.split is_chain;
    other = λ same. is.other (
        ap (λ (p : List ℕ). get_or p (length is.before) 0) (e ∙ ap (map (previous_of file)) is.split)
        ∙ index_map (previous_of file) is.before block is.behind ∙ same);
  },
  no_id,
)
list_defect_of stated len format file numbers groups chain previous block id Short are is_chain e no_id is = absurd is
list_defect_of stated len format file numbers groups chain previous block id RefOut are is_chain e no_id is = absurd is
list_defect_of stated len format file numbers groups chain previous block id TwoRoles are is_chain e no_id is =
    absurd is
list_defect_of stated len format file numbers groups chain previous block id NoRole are is_chain e no_id is = absurd is
list_defect_of stated len format file numbers groups chain previous block id EmptyTree are is_chain e no_id is =
    absurd is
list_defect_of stated len format file numbers groups chain previous block id ChainOut are is_chain e no_id is =
    absurd is
list_defect_of stated len format file numbers groups chain previous block id ChainLoop are is_chain e no_id is =
    absurd is
list_defect_of stated len format file numbers groups chain previous block id BadCount are is_chain e no_id is =
    absurd is
list_defect_of stated len format file numbers groups chain previous block id MissingEntry are is_chain e no_id is =
    absurd is
list_defect_of stated len format file numbers groups chain previous block id StrayEntry are is_chain e no_id is =
    absurd is
list_defect_of stated len format file numbers groups chain previous block id DoubleEntry are is_chain e no_id is =
    absurd is
list_defect_of stated len format file numbers groups chain previous block id PartialRecord are is_chain e no_id is =
    absurd is

pub list_defect : (order : Order) (format : Format) (read : List ℕ) (numbers : HeaderNumbers) (blocks first : ℕ)
    (groups : List (List ℕ)) (links : List ChainLink) (damage : Damage)
    → numbers.blocks ≡ blocks → numbers.first ≡ first
    → AreGroupsOf blocks (leaves (in_order order read) blocks) groups
    → IsChain (in_order order read) blocks first (linked_blocks links) 0
    → AreLinksTo (in_order order read) first links 0
    → IsListDefect (rooms format (in_order order read) groups blocks) (linked_blocks links) (previous_in links) damage
    → IsTreeDefectIn order format read numbers damage
list_defect order format read numbers blocks first groups links damage same same_first are is_chain linked is =
    let file : List ℕ = in_order order read in
    list_defect_of (stated_in order read) (length read) format file numbers groups (linked_blocks links)
    (previous_in links) damage.block damage.id damage.kind
    (subst (λ (b : ℕ). AreGroupsOf b (leaves file b) groups) (sym same) are)
    (subst (λ (b : ℕ). IsChain file b numbers.first (linked_blocks links) 0) (sym same)
    (subst (λ (h : ℕ). IsChain file blocks h (linked_blocks links) 0) (sym same_first) is_chain))
    linked.previous is.no_id
    (subst (λ (b : ℕ). IsListDefectOf (rooms format file groups b) (linked_blocks links) (previous_in links) damage.kind
    damage.block) (sym same) is.defect)

-- what the check of the data blocks was refused for
pub data_refused : (before between now : ℕ) (tells : Bool) (order : Order) (format : Format) (file there : List ℕ)
    (blocks first : ℕ)
    (groups : List (List ℕ)) (fault : CheckFault)
    → before ≤ between → there ≡ file
    → IsCheckFault between now
    (λ damage. IsTrue tells → IsDataDefect order format there (leading_ids groups damage.block) damage.block damage)
    fault
    → IsCheckFault before now
    (λ damage. IsTrue tells → AreGroupsOf blocks (leaves (in_order order file) blocks) groups
    → IsListedDefect order format file blocks first damage) fault
data_refused before between now tells order format file there blocks first groups Store later same_file is =
    omega (arith, is)
data_refused before between now tells order format file there blocks first groups (Damaged damage) later
    same_file is = (
      is.0,
      λ told are numbers same same_first.
          data_defect order format file there numbers blocks groups damage same_file same are (is.1 told),
    )
data_refused before between now tells order format file there blocks first groups Memory later same_file is = tt

-- the file of a name, in two stores with the same files
pub same_bytes : (files now : List ℕ → Option (List ℕ)) (name : List ℕ) → now ≡ files
    → bytes_of (now name) ≡ bytes_of (files name)
same_bytes files now name e = ap (λ (f : List ℕ → Option (List ℕ)). bytes_of (f name)) e

-- and its words
pub same_words : (order : Order) (files now : World) (name : List ℕ) → now ≡ files
    → words_of order now name ≡ words_of order files name
same_words order files now name e = ap (λ (f : World). words_of order f name) e
