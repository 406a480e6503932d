-- A sound tree file has no defect.
use Rattle.std.proofs.Common.{◌≡◌, ℕ, ◌<◌, ◌≤◌, Bool, if◌then◌else◌, nat_lt, List, [], ◌∷◌, ◌++◌, length, map, take}
use Rattle.std.proofs.Common.{sym, ap, subst, ◌∙◌, inl, inr, arith, Some, unwrap_or, lt-ltb}
use Rattle.std.specs.List.{last_or}
use Rattle.std.proofs.lemmas.Bool.{cases_lt, cases_Bool}
use Rattle.quota_types.specs.declared.damage.Damage.{Damage}
use Rattle.quota_types.specs.declared.damage.DamageKind.{DamageKind}
use Rattle.quota_types.specs.declared.damage.DamageKind.TheVariants.{Short, RefOut, TwoRoles, NoRole, EmptyTree}
use Rattle.quota_types.specs.declared.damage.DamageKind.TheVariants.{ChainOut, ChainLoop, ForeignInChain}
use Rattle.quota_types.specs.declared.damage.DamageKind.TheVariants.{MissingInChain, BadPrev, BadCount, MissingEntry}
use Rattle.quota_types.specs.declared.damage.DamageKind.TheVariants.{StrayEntry, DoubleEntry, PartialRecord}
use Rattle.quota_types.specs.declared.file_kind.Format.{Format}
use Rattle.entry_codec.specs.Header.{HeaderNumbers}
use Rattle.file_blocks.specs.Block.{block_of, previous_of}
use Rattle.free_chains.specs.Chain.{IsChain}
use Rattle.quota_types.specs.Times.{StandsIn, StandsTwiceIn, times}
use Rattle.byte_order.specs.declared.order.Order.{Order}
use Rattle.byte_order.specs.Words.{in_order}
use Rattle.tree_meaning.specs.Defect.{HasBadPrevious, HasNoRole, HasTwoRoles, HasStrayEntry, HasDoubleEntry, IsDefectOf}
use Rattle.tree_meaning.specs.Defect.{IsForeign, IsMissing, IsTreeDefectIn}
use Rattle.free_chains.specs.ChainDefect.{IsLoop, IsOut}
use Rattle.tree_meaning.specs.Entries.{stated_in, used_ids}
use Rattle.tree_meaning.specs.Loose.{nothing_loose}
use Rattle.tree_meaning.specs.Roles.{Chained, FilledBy, OneRole, roles}
use Rattle.quota_radix.specs.Tree.{data_blocks, ids_at, leaves}
use Rattle.tree_meaning.specs.TreeFile.{IsSoundBy, IsSoundIn}
use Rattle.file_blocks.proofs.LeadsLemmas.{leads_within}
use Rattle.free_chains.proofs.ChainLemmas.{one_chain}
use Rattle.quota_types.proofs.TimesLemmas.{length_of_times, times_cases}
use Rattle.quota_radix.proofs.PathLemmas.{ids_distinct}

-- a block has no second role
no_two_roles : (file : List ℕ) (blocks head block : ℕ) → OneRole nothing_loose file blocks head
    → HasTwoRoles file blocks head block → ⊥
no_two_roles file blocks head block sound two =
    let same : sound.free ≡ two.free =
    (one_chain file blocks head sound.free 0 two.free two.end sound.is_free two.is_free).0 in
    let twice : StandsTwiceIn (roles nothing_loose file blocks sound.free) block =
    subst (λ (free : List ℕ). StandsTwiceIn (roles nothing_loose file blocks free) block) (sym same) two.twice in
    elim (cases_Bool (nat_lt block blocks)) [
      | inl low ↦ omega (arith, twice, sound.once block, ap {B = ℕ} (λ (b : Bool). if b then 1 else 0) low)
      | inr high ↦ omega (arith, twice, sound.once block, ap {B = ℕ} (λ (b : Bool). if b then 1 else 0) high)
    ]

-- and each has one
no_role_less : (file : List ℕ) (blocks head block : ℕ) → OneRole nothing_loose file blocks head
    → HasNoRole file blocks head block → ⊥
no_role_less file blocks head block sound none =
    let same : sound.free ≡ none.free =
    (one_chain file blocks head sound.free 0 none.free none.end sound.is_free none.is_free).0 in
    let absent : times (roles nothing_loose file blocks sound.free) block ≡ 0 =
    ap (λ (free : List ℕ). times (roles nothing_loose file blocks free) block) same ∙ none.none in
    omega
    (arith, absent, sound.once block, ap {B = ℕ} (λ (b : Bool). if b then 1 else 0) (lt-ltb block blocks none.inside))

-- a list that ends at 0 leads nowhere else
not_out : (file : List ℕ) (blocks head block : ℕ) (chain : List ℕ) → 2 ≤ blocks → IsChain file blocks head chain 0
    → IsOut file blocks head block → ⊥
not_out file blocks head block chain two sound out =
    let same : 0 ≡ block = (one_chain file blocks head chain 0 out.chain block sound out.is_chain).1 in
    omega (arith, same, out.out, two)

not_loop : (file : List ℕ) (blocks head block : ℕ) (chain : List ℕ) → IsChain file blocks head chain 0
    → IsLoop file blocks head block → ⊥
not_loop file blocks head block chain sound loop =
    let same : 0 ≡ block = (one_chain file blocks head chain 0 loop.chain block sound loop.is_chain).1 in
    omega (arith, same, leads_within blocks block (loop.is_chain.inside block loop.met))

not_foreign : (format : Format) (file : List ℕ) (blocks first block : ℕ)
    → Chained nothing_loose format file blocks first → IsForeign format file blocks first block → ⊥
not_foreign format file blocks first block sound foreign =
    let same : sound.chain ≡ foreign.chain =
    (one_chain file blocks first sound.chain 0 foreign.chain foreign.end sound.is_chain foreign.is_chain).0 in
    omega (
      arith,
      foreign.listed,
      ap (λ (chain : List ℕ). times chain block) same,
      sound.has_those block,
      ap {B = ℕ} (λ (b : Bool). if b then 1 else 0) foreign.foreign,
    )

not_missing : (format : Format) (file : List ℕ) (blocks first block : ℕ)
    → Chained nothing_loose format file blocks first → IsMissing format file blocks first block → ⊥
not_missing format file blocks first block sound missing =
    let same : sound.chain ≡ missing.chain =
    (one_chain file blocks first sound.chain 0 missing.chain missing.end sound.is_chain missing.is_chain).0 in
    omega (
      arith,
      missing.missing,
      ap (λ (chain : List ℕ). times chain block) same,
      sound.has_those block,
      ap {B = ℕ} (λ (b : Bool). if b then 1 else 0) missing.room,
    )

-- the block before one of a list, where each of the list names the block before it
previous_at : (previous : ℕ → ℕ) (from : ℕ) (before : List ℕ) (block : ℕ) (behind : List ℕ)
    → map previous (before ++ block ∷ behind)
    ≡ take (length (before ++ block ∷ behind)) (from ∷ before ++ block ∷ behind)
    → previous block ≡ unwrap_or (last_or (Some from) before) 0
previous_at previous from [] block behind is = cc
previous_at previous from (x ∷ before) block behind is =
    let rest : map previous (before ++ block ∷ behind)
    ≡ take (length (before ++ block ∷ behind)) (x ∷ before ++ block ∷ behind) = cc in
    previous_at previous x before block behind rest

not_bad_previous : (format : Format) (file : List ℕ) (blocks first block : ℕ)
    → Chained nothing_loose format file blocks first → HasBadPrevious file blocks first block → ⊥
not_bad_previous format file blocks first block sound bad =
    let chain : List ℕ = bad.before ++ block ∷ bad.behind in
    let same : sound.chain ≡ chain =
    (one_chain file blocks first sound.chain 0 chain bad.end sound.is_chain bad.is_chain).0 in
    bad.other (previous_at (previous_of file) 0 bad.before block bad.behind
    (subst (λ (xs : List ℕ). map (previous_of file) xs ≡ take (length xs) (0 ∷ xs)) same sound.previous))

-- a list has more numbers than another one of distinct numbers, each of which it has once, where it has one more often
more_numbers : (ids used : List ℕ) (id : ℕ) → ((n : ℕ) → times ids n ≤ 1)
    → ((n : ℕ) → StandsIn ids n → times used n ≡ 1) → times ids id < times used id
    → length ids < length used
more_numbers ids used id distinct once more = length_of_times (id ∷ ids) used (λ n. elim (times_cases id ids n) [
  | inl same ↦ omega (arith, same.1, subst (λ (k : ℕ). times ids k < times used k) same.0 more)
  | inr other ↦ elim (cases_lt 0 (times ids n)) [
    | inl stands ↦ omega (arith, other.1, distinct n, once n stands)
    | inr none ↦ omega (arith, other.1, none)
  ]
])

-- where the used entries are as many as the leaves that name the block, none is left over
none_left_over : (stated : ℕ → ℕ) (format : Format) (file : List ℕ) (blocks block id : ℕ)
    → FilledBy stated nothing_loose format file blocks
    → StandsIn (data_blocks file blocks) block
    → times (ids_at (leaves file blocks) block) id < times (used_ids format (block_of file block)) id → ⊥
none_left_over stated format file blocks block id sound is_data more =
    omega (
      arith,
      more_numbers (ids_at (leaves file blocks) block) (used_ids format (block_of file block)) id
          (ids_distinct file blocks block) (sound.one_entry block) more,
      sound.counted block is_data,
    )

not_stray : (stated : ℕ → ℕ) (format : Format) (file : List ℕ) (blocks block id : ℕ)
    → FilledBy stated nothing_loose format file blocks
    → HasStrayEntry format file blocks block id → ⊥
not_stray stated format file blocks block id sound stray =
    none_left_over stated format file blocks block id sound stray.is_data (omega (arith, stray.stray, stray.used))

not_double : (stated : ℕ → ℕ) (format : Format) (file : List ℕ) (blocks block id : ℕ)
    → FilledBy stated nothing_loose format file blocks
    → HasDoubleEntry format file blocks block id → ⊥
not_double stated format file blocks block id sound double =
    none_left_over stated format file blocks block id sound double.is_data
    (omega (arith, double.twice, ids_distinct file blocks block id))

-- what is wrong with a sound file is no kind of damage
not_of_kind : (stated : ℕ → ℕ) (len : ℕ) (format : Format) (file : List ℕ) (numbers : HeaderNumbers)
    → IsSoundBy stated format file len numbers
    → (kind : DamageKind) (block id : ℕ) → IsDefectOf stated len format file numbers kind block id → ⊥
not_of_kind stated len format file numbers sound Short block id defect =
    omega (arith, sound.long defect.more, defect.short)
not_of_kind stated len format file numbers sound RefOut block id defect =
    omega (arith, sound.roles.references block defect.tree defect.digit defect.is_digit, defect.out)
not_of_kind stated len format file numbers sound TwoRoles block id defect =
    no_two_roles file numbers.blocks numbers.free block sound.roles defect
not_of_kind stated len format file numbers sound NoRole block id defect =
    no_role_less file numbers.blocks numbers.free block sound.roles defect
not_of_kind stated len format file numbers sound EmptyTree block id defect =
    sound.filled.not_empty block defect.lower defect.empty
not_of_kind stated len format file numbers sound ChainOut block id defect = elim defect [
  | inl free ↦ not_out file numbers.blocks numbers.free block sound.roles.free sound.two sound.roles.is_free free
  | inr first ↦
      not_out file numbers.blocks numbers.first block sound.chained.chain sound.two sound.chained.is_chain first
]
not_of_kind stated len format file numbers sound ChainLoop block id defect = elim defect [
  | inl free ↦ not_loop file numbers.blocks numbers.free block sound.roles.free sound.roles.is_free free
  | inr first ↦ not_loop file numbers.blocks numbers.first block sound.chained.chain sound.chained.is_chain first
]
not_of_kind stated len format file numbers sound ForeignInChain block id defect =
    not_foreign format file numbers.blocks numbers.first block sound.chained defect
not_of_kind stated len format file numbers sound MissingInChain block id defect =
    not_missing format file numbers.blocks numbers.first block sound.chained defect
not_of_kind stated len format file numbers sound BadPrev block id defect =
    not_bad_previous format file numbers.blocks numbers.first block sound.chained defect
not_of_kind stated len format file numbers sound BadCount block id defect =
    defect.other (sym (sound.filled.stated block defect.is_data))
not_of_kind stated len format file numbers sound MissingEntry block id defect =
    omega (arith, sound.filled.one_entry block id defect.leads, defect.none)
not_of_kind stated len format file numbers sound StrayEntry block id defect =
    not_stray stated format file numbers.blocks block id sound.filled defect
not_of_kind stated len format file numbers sound DoubleEntry block id defect =
    not_double stated format file numbers.blocks block id sound.filled defect
not_of_kind stated len format file numbers sound PartialRecord block id defect = defect

pub no_defect_of_sound : (order : Order) (format : Format) (file : List ℕ) (numbers : HeaderNumbers)
    → IsSoundIn order format file numbers → (damage : Damage) → ¬ IsTreeDefectIn order format file numbers damage
no_defect_of_sound order format file numbers sound damage defect =
    not_of_kind (stated_in order file) (length file) format (in_order order file) numbers sound damage.kind damage.block
    damage.id defect.0
