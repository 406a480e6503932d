-- A tree file with no defect is sound.
use Rattle.std.proofs.Common.{◌≡◌, ℕ, suc, ◌*◌, ◌/◌, ◌<◌, ◌≤◌, Bool, if◌then◌else◌, List, [], ◌∷◌, ◌++◌, length, map}
use Rattle.std.proofs.Common.{take, refl, sym, ap, subst, ◌∙◌, inl, inr, arith, Option, Some, unwrap_or, append_assoc}
use Rattle.std.proofs.Common.{lt-ltb, le-ltb}
use Rattle.std.specs.List.{last_or}
use Rattle.std.proofs.lemmas.Bool.{cases_lt, cases_eq, cases_Bool}
use Rattle.quota_types.specs.declared.damage.Damage.{Damage}
use Rattle.quota_types.specs.declared.damage.DamageKind.{DamageKind}
use Rattle.quota_types.specs.declared.damage.DamageKind.TheVariants.{Short, RefOut, TwoRoles, NoRole, EmptyTree}
use Rattle.quota_types.specs.declared.damage.DamageKind.TheVariants.{ChainOut, ChainLoop, ForeignInChain}
use Rattle.quota_types.specs.declared.damage.DamageKind.TheVariants.{MissingInChain, BadPrev, BadCount, MissingEntry}
use Rattle.quota_types.specs.declared.damage.DamageKind.TheVariants.{StrayEntry, DoubleEntry}
use Rattle.quota_types.specs.declared.file_kind.Format.{Format}
use Rattle.entry_codec.specs.Header.{HeaderNumbers}
use Rattle.file_blocks.specs.Block.{block_of, previous_of, word_at, leads}
use Rattle.free_chains.specs.Chain.{IsChain}
use Rattle.quota_types.specs.Times.{StandsIn, times}
use Rattle.tree_meaning.specs.Defect.{IsDefectOf}
use Rattle.free_chains.specs.ChainDefect.{IsLoop, IsOut}
use Rattle.quota_types.specs.Damage.{NamesItsId}
use Rattle.tree_meaning.specs.Entries.{used_ids}
use Rattle.tree_meaning.specs.Loose.{nothing_loose}
use Rattle.tree_meaning.specs.Roles.{Chained, FilledBy, OneRole, has_room, roles}
use Rattle.quota_radix.specs.Tree.{data_blocks, ids_at, leaves, level, lower_blocks, tree_blocks}
use Rattle.tree_meaning.specs.TreeFile.{IsSoundBy}
use Rattle.file_blocks.proofs.LeadsLemmas.{leads_within}
use Rattle.free_chains.proofs.ChainLemmas.{some_chain}
use Rattle.quota_types.proofs.TimesLemmas.{length_same_times, stands_cons, stands_either}
use Rattle.quota_radix.proofs.PathLemmas.{data_block_of_id, data_blocks_within, ids_distinct, level_leads}

-- no damage is one of the file
abbrev pub HasNoDefect : (stated : ℕ → ℕ) → (len : ℕ) → Format → List ℕ → HeaderNumbers → Type 0
HasNoDefect stated len format file numbers = (kind : DamageKind) (block id : ℕ) → NamesItsId kind id
    → IsDefectOf stated len format file numbers kind block id → ⊥

-- a list that leads neither out nor back to itself ends at 0
ends_well : (file : List ℕ) (blocks head : ℕ) (chain : List ℕ) (end : ℕ) → IsChain file blocks head chain end
    → ¬ IsOut file blocks head end → ¬ IsLoop file blocks head end → IsChain file blocks head chain 0
ends_well file blocks head chain end is_chain not_out not_loop = elim is_chain.stops [
  | inl none ↦ subst (λ (e : ℕ). IsChain file blocks head chain e) none is_chain
  | inr (inl out) ↦ absurd (not_out (record { chain = chain; is_chain = is_chain; out = out }))
  | inr (inr met) ↦ absurd (not_loop (record { chain = chain; is_chain = is_chain; met = met }))
]

-- the blocks of the tree are blocks
tree_within : (file : List ℕ) (blocks block : ℕ) → 2 ≤ blocks → StandsIn (tree_blocks file blocks) block
    → block < blocks
tree_within file blocks block two stands =
    let below : (digits : ℕ) → StandsIn (level file blocks (suc digits)) block → block < blocks =
    λ digits here. (leads_within blocks block (level_leads file blocks digits block here)).1 in
    elim (stands_cons 1 (lower_blocks file blocks) block stands) [
      | inl same ↦ omega (arith, same, two)
      | inr lower ↦
          elim (stands_either (level file blocks 1 ++ level file blocks 2) (level file blocks 3) block lower) [
            | inl upper ↦ elim (stands_either (level file blocks 1) (level file blocks 2) block upper) [
              | inl here ↦ below 0 here
              | inr here ↦ below 1 here
            ]
            | inr here ↦ below 2 here
          ]
    ]

-- whatever has a role is a block
role_within : (file : List ℕ) (blocks head block : ℕ) (free : List ℕ) → 2 ≤ blocks → IsChain file blocks head free 0
    → StandsIn (roles nothing_loose file blocks free) block → block < blocks
role_within file blocks head block free two is_free stands =
    elim (stands_cons 0 (tree_blocks file blocks ++ data_blocks file blocks ++ free) block stands) [
      | inl same ↦ omega (arith, same, two)
      | inr some ↦ elim (stands_either (tree_blocks file blocks ++ data_blocks file blocks) free block some) [
        | inl used ↦ elim (stands_either (tree_blocks file blocks) (data_blocks file blocks) block used) [
          | inl tree ↦ tree_within file blocks block two tree
          | inr is ↦ data_blocks_within file blocks block is
        ]
        | inr listed ↦ (leads_within blocks block (is_free.inside block listed)).1
      ]
    ]

one_role : (stated : ℕ → ℕ) (len : ℕ) (format : Format) (file : List ℕ) (numbers : HeaderNumbers)
    → 2 ≤ numbers.blocks → HasNoDefect stated len format file numbers
    → OneRole nothing_loose file numbers.blocks numbers.free
one_role stated len format file numbers two none =
    let found = some_chain file numbers.blocks numbers.free in
    let free : List ℕ = found.0 in
    let is_free : IsChain file numbers.blocks numbers.free free 0 =
    ends_well file numbers.blocks numbers.free free found.1 found.2
    (λ out. none ChainOut found.1 0 refl (inl out)) (λ met. none ChainLoop found.1 0 refl (inl met)) in
    record {
      references = λ block tree digit is_digit. elim (cases_lt (word_at file block digit) numbers.blocks) [
        | inl low ↦ low
        | inr out ↦
            absurd (none RefOut block 0 refl (record { tree = tree; digit = digit; is_digit = is_digit; out = out }))
      ];
      free = free;
      is_free = is_free;
      once = λ block. elim (cases_lt block numbers.blocks) [
        | inl low ↦ elim (cases_lt 0 (times (roles nothing_loose file numbers.blocks free) block)) [
          | inl some ↦ elim (cases_lt 1 (times (roles nothing_loose file numbers.blocks free) block)) [
            | inl twice ↦
                absurd (none TwoRoles block 0 refl (record { free = free; end = 0; is_free = is_free; twice = twice }))
            | inr once ↦ omega
                (arith, some, once, ap {B = ℕ} (λ (b : Bool). if b then 1 else 0) (lt-ltb block numbers.blocks low))
          ]
          | inr absent ↦ absurd (none NoRole block 0 refl (record {
            free = free;
            end = 0;
            is_free = is_free;
            inside = low;
            none = omega (arith, absent);
          }))
        ]
        | inr high ↦ elim (cases_lt 0 (times (roles nothing_loose file numbers.blocks free) block)) [
          | inl some ↦
              absurd (omega (arith, high, role_within file numbers.blocks numbers.free block free two is_free some))
          | inr absent ↦
              omega (arith, absent, ap {B = ℕ} (λ (b : Bool). if b then 1 else 0) (le-ltb block numbers.blocks high))
        ]
      ];
    }

last_or-append : (o : Option ℕ) (xs : List ℕ) (x : ℕ) → last_or o (xs ++ x ∷ []) ≡ Some x
last_or-append o [] x = refl
last_or-append o (y ∷ xs) x = last_or-append (Some y) xs x

-- where each number of a list names the one before it, the list of those names is the list one place on
all_previous : (previous : ℕ → ℕ) (from : ℕ) (before behind : List ℕ)
    → ((front : List ℕ) (block : ℕ) (back : List ℕ) → before ++ behind ≡ front ++ block ∷ back
    → previous block ≡ unwrap_or (last_or (Some 0) front) 0)
    → unwrap_or (last_or (Some 0) before) 0 ≡ from → map previous behind ≡ take (length behind) (from ∷ behind)
all_previous previous from before [] each is = refl
all_previous previous from before (x ∷ behind) each is =
    let first : previous x ≡ from = each before x behind refl ∙ is in
    let rest : map previous behind ≡ take (length behind) (x ∷ behind) =
    all_previous previous x (before ++ x ∷ []) behind
    (λ front block back split. each front block back (sym (append_assoc before (x ∷ []) behind) ∙ split))
    (ap (λ (o : Option ℕ). unwrap_or o 0) (last_or-append (Some 0) before x)) in
    ap (λ (y : ℕ). y ∷ map previous behind) first ∙ ap (λ (xs : List ℕ). from ∷ xs) rest

chained : (stated : ℕ → ℕ) (len : ℕ) (format : Format) (file : List ℕ) (numbers : HeaderNumbers)
    → HasNoDefect stated len format file numbers
    → Chained nothing_loose format file numbers.blocks numbers.first
chained stated len format file numbers none =
    let found = some_chain file numbers.blocks numbers.first in
    let chain : List ℕ = found.0 in
    let is_chain : IsChain file numbers.blocks numbers.first chain 0 =
    ends_well file numbers.blocks numbers.first chain found.1 found.2
    (λ out. none ChainOut found.1 0 refl (inr out)) (λ met. none ChainLoop found.1 0 refl (inr met)) in
    record {
      chain = chain;
      is_chain = is_chain;
      has_those = λ block. elim (cases_Bool (has_room nothing_loose format file numbers.blocks block)) [
        | inl room ↦ elim (cases_lt 0 (times chain block)) [
          | inl listed ↦
              omega (arith, listed, is_chain.distinct block, ap {B = ℕ} (λ (b : Bool). if b then 1 else 0) room)
          | inr missing ↦ absurd (none MissingInChain block 0 refl (record {
            chain = chain;
            end = 0;
            is_chain = is_chain;
            room = room;
            missing = omega (arith, missing);
          }))
        ]
        | inr foreign ↦ elim (cases_lt 0 (times chain block)) [
          | inl listed ↦ absurd (none ForeignInChain block 0 refl (record {
            chain = chain;
            end = 0;
            is_chain = is_chain;
            listed = listed;
            foreign = foreign;
          }))
          | inr missing ↦ omega (arith, missing, ap {B = ℕ} (λ (b : Bool). if b then 1 else 0) foreign)
        ]
      ];
      previous = all_previous (previous_of file) 0 [] chain
          (λ before block behind split.
          elim (cases_eq (previous_of file block) (unwrap_or (last_or (Some 0) before) 0)) [
            | inl same ↦ same
            | inr other ↦ absurd (none BadPrev block 0 refl (record {
              before = before;
              behind = behind;
              end = 0;
              is_chain = subst (λ (xs : List ℕ). IsChain file numbers.blocks numbers.first xs 0) split is_chain;
              other = other;
            }))
          ])
          refl;
    }

filled : (stated : ℕ → ℕ) (len : ℕ) (format : Format) (file : List ℕ) (numbers : HeaderNumbers)
    → HasNoDefect stated len format file numbers
    → FilledBy stated nothing_loose format file numbers.blocks
filled stated len format file numbers none =
    let ids : ℕ → List ℕ = λ block. ids_at (leaves file numbers.blocks) block in
    let used : ℕ → List ℕ = λ block. used_ids format (block_of file block) in
    let once : (block id : ℕ) → StandsIn (ids block) id → times (used block) id ≡ 1 =
    λ block id leads. elim (cases_lt 0 (times (used block) id)) [
      | inl some ↦ elim (cases_lt 1 (times (used block) id)) [
        | inl twice ↦ absurd (none DoubleEntry block id tt (record {
          is_data = data_block_of_id file numbers.blocks block id leads;
          twice = twice;
        }))
        | inr one ↦ omega (arith, some, one)
      ]
      | inr absent ↦ absurd (none MissingEntry block id tt (record { leads = leads; none = omega (arith, absent) }))
    ] in
    record {
      not_empty = λ block lower empty. none EmptyTree block 0 refl (record { lower = lower; empty = empty });
      one_entry = once;
      stated = λ block is_data. elim (cases_eq (stated block) (length (used block))) [
        | inl same ↦ sym same
        | inr other ↦ absurd (none BadCount block 0 refl (record { is_data = is_data; other = other }))
      ];
      counted =
          λ block is_data. length_same_times (used block) (ids block) (λ id. elim (cases_lt 0 (times (ids block) id)) [
            | inl leads ↦ omega (arith, leads, ids_distinct file numbers.blocks block id, once block id leads)
            | inr stray ↦ elim (cases_lt 0 (times (used block) id)) [
              | inl some ↦ absurd
                  (none StrayEntry block id tt (record {
                    is_data = is_data;
                    used = some;
                    stray = omega (arith, stray);
                  }))
              | inr absent ↦ omega (arith, stray, absent)
            ]
          ]);
    }

pub sound_of_no_defect : (stated : ℕ → ℕ) (len : ℕ) (format : Format) (file : List ℕ) (numbers : HeaderNumbers)
    → 2 ≤ numbers.blocks → HasNoDefect stated len format file numbers → IsSoundBy stated format file len numbers
sound_of_no_defect stated len format file numbers two none = record {
  two = two;
  long = λ more. elim (cases_lt len (1024 * numbers.blocks)) [
    | inl short ↦ absurd (none Short (len / 1024) 0 refl (record { more = more; short = short; cut = refl }))
    | inr long ↦ long
  ];
  roles = one_role stated len format file numbers two none;
  chained = chained stated len format file numbers none;
  filled = filled stated len format file numbers none;
}
