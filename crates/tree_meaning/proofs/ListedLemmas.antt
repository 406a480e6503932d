-- A misplaced block that enters the entry list, or leaves it.
use Rattle.std.proofs.Common.{◌≡◌, ◌≢◌, ℕ, suc, nat_lt, ◌+◌, ◌<◌, ◌≤◌, Bool, true, false, not, ◌&&◌, if◌then◌else◌}
use Rattle.std.proofs.Common.{IsTrue, List, [], ◌∷◌, ◌++◌, Option, Some, None, refl, sym, ap, subst, ◌∙◌, ◌⊎◌, inl, inr}
use Rattle.std.proofs.Common.{arith, eq-eqb, ne_eqb}
use Rattle.std.proofs.lemmas.Bool.{cases_eq, cases_lt}
use Rattle.std.proofs.lemmas.Bool.Decides.{eqb_tells}
use Rattle.quota_types.specs.declared.file_kind.Format.{Format}
use Rattle.quota_types.specs.Times.{StandsIn, times}
use Rattle.quota_types.proofs.TimesLemmas.{found_in, only_one, stands_cons, stands_either, stands_right, times-append}
use Rattle.quota_types.proofs.TimesLemmas.{times-cons-other, times-cons-same}
use Rattle.file_blocks.specs.Block.{block_of, leads, next_of, previous_of}
use Rattle.quota_value.specs.QuotaValue.{Records}
use Rattle.quota_types.specs.KeptBytes.{KeepsOutside}
use Rattle.file_blocks.proofs.LeadsLemmas.{leads_within}
use Rattle.quota_pages.specs.KeptBlocks.{KeepsBlocksBut}
use Rattle.free_chains.specs.Chain.{IsChain}
use Rattle.free_chains.specs.EntryList.{EntersList, LeavesList, NamesPrevious}
use Rattle.free_chains.specs.Links.{led_to}
use Rattle.free_chains.specs.declared.heads.Heads.{Heads}
use Rattle.free_chains.proofs.SpliceLemmas.{GoesBy, chain-stays, first_is_head, goes_linked, goes_split, last_behind}
use Rattle.free_chains.proofs.SpliceLemmas.{last_cases, names_named, names_split, none_of_one}
use Rattle.quota_radix.specs.declared.tree_path.TreePath.{TreePath}
use Rattle.quota_radix.specs.Tree.{tree_blocks}
use Rattle.tree_meaning.specs.Entries.{has_unused}
use Rattle.tree_meaning.specs.IsTree.{IsTree}
use Rattle.tree_meaning.specs.KeepsEntries.{KeepsEntries}
use Rattle.tree_meaning.specs.Loose.{Loose, but_misplaced, loose_of}
use Rattle.tree_meaning.specs.Roles.{counts_as_data, data_with, has_room, roles}
use Rattle.tree_meaning.proofs.FrameLemmas.{data_leads}
use Rattle.tree_meaning.proofs.MovedLemmas.{keeps_entries, times-data_with, times-roles, tree_with_lists}

pub misplaced-same : (block : ℕ) (holds : Bool) → but_misplaced (Some block) block holds ≡ not holds
misplaced-same block holds = ap (λ (b : Bool). if b then not holds else holds) (eq-eqb block block refl)

pub misplaced-other : (block number : ℕ) (holds : Bool) → block ≢ number
    → but_misplaced (Some block) number holds ≡ holds
misplaced-other block number holds other = ap (λ (b : Bool). if b then not holds else holds) (ne_eqb block number other)

left_true : (a b : Bool) → (a && b) ≡ true → a ≡ true
left_true true b both = refl
left_true false b both = both

some_if : (holds : Bool) → 1 ≤ (if holds then 1 else 0) → holds ≡ true
some_if true some = refl
some_if false some = absurd (omega (arith, some))

-- a link is that of one block, where it leads to one
stands_led : (link number : ℕ) → StandsIn (led_to link) number → (link ≢ 0) × (link ≡ number)
stands_led link number stands = elim (eqb_tells link 0) [
  | inl same ↦ absurd (omega (arith, stands, ap (λ (b : Bool). times (if b then [] else link ∷ []) number) same.0))
  | inr other ↦ (
    other.1,
    only_one link number (subst (λ (b : Bool). StandsIn (if b then [] else link ∷ []) number) other.0 stands),
  )
]

-- the first block of a list is in it
first_stands : (file : List ℕ) (blocks head : ℕ) (chain : List ℕ) → IsChain file blocks head chain 0 → head ≢ 0
    → StandsIn chain head
first_stands file blocks head [] c some = absurd (some (sym (goes_linked (next_of file) head [] 0 c.linked)))
first_stands file blocks head (first ∷ rest) c some =
    subst (StandsIn (first ∷ rest)) (first_is_head file blocks head first rest 0 c)
    (omega (arith, times-cons-same first rest))

-- a block that is not in a list is not its head
not_first : (file : List ℕ) (blocks head : ℕ) (chain : List ℕ) (block : ℕ) → IsChain file blocks head chain 0
    → times chain block ≡ 0 → 0 < block → block ≢ head
not_first file blocks head chain block c none some same =
    omega (
      arith,
      none,
      subst (StandsIn chain) (sym same)
          (first_stands file blocks head chain c (λ zero_head. omega (arith, zero_head, same, some))),
    )

-- what keeps all bytes outside of one link keeps all behind both
both_links : (from to : ℕ) (old new : List ℕ) → to ≤ 8 → KeepsOutside from to old new → KeepsOutside 0 8 old new
both_links from to old new few keeps = record {
  before = λ at low. absurd (omega (arith, low));
  behind = λ at high. keeps.behind at (omega (arith, high, few));
}

-- A block that is held, or is data, is neither one of the tree nor free.
apart_by_role : (loose : Loose) (format : Format) (file : List ℕ) (len : ℕ) (heads : Heads) (records : Records)
    (tree : IsTree loose format file len heads records) (block : ℕ)
    → StandsIn (loose.held ++ data_with loose file heads.blocks) block
    → (times (tree_blocks file heads.blocks) block ≡ 0) × (times tree.roles.free block ≡ 0)
apart_by_role loose format file len heads records tree block role =
    let one : times (roles loose file heads.blocks tree.roles.free) block ≤ 1 =
    subst (λ (n : ℕ). n ≤ 1) (sym (tree.roles.once block)) (one_at_most (nat_lt block heads.blocks)) in
    let here : StandsIn (loose.held ++ data_with loose file heads.blocks) block = role in (
      omega (
        arith,
        one,
        here,
        times-append loose.held (data_with loose file heads.blocks) block,
        times-roles loose file heads.blocks tree.roles.free block,
      ),
      omega (
        arith,
        one,
        here,
        times-append loose.held (data_with loose file heads.blocks) block,
        times-roles loose file heads.blocks tree.roles.free block,
      ),
    )
  where
    one_at_most : (b : Bool) → (if b then 1 else 0) ≤ 1
    one_at_most true = omega arith
    one_at_most false = omega arith

module _ (held : List ℕ) (awaited : Option TreePath) (format : Format) (old : List ℕ) (len : ℕ) (heads : Heads)
    (records : Records) (block : ℕ)
    (tree : IsTree (loose_of held awaited (Some block)) format old len heads records) where
  -- a data block stands among those with a role
  data_role : (number : ℕ) → counts_as_data (loose_of held awaited (Some block)) old heads.blocks number ≡ true
      → StandsIn (held ++ data_with (loose_of held awaited (Some block)) old heads.blocks) number
  data_role number is =
      stands_right held (data_with (loose_of held awaited (Some block)) old heads.blocks) number (omega (
        arith,
        times-data_with (loose_of held awaited (Some block)) old heads.blocks number tree.awaited,
        ap {B = ℕ} (λ (b : Bool). if b then 1 else 0) is,
      ))

  -- a block of the list other than the misplaced one is data
  listed_data : (number : ℕ) → StandsIn tree.chained.chain number → block ≢ number
      → counts_as_data (loose_of held awaited (Some block)) old heads.blocks number ≡ true
  listed_data number stands other =
      let room : Bool = has_room (loose_of held awaited (Some block)) format old heads.blocks number in
      let count : times tree.chained.chain number ≡ (if room then 1 else 0) =
      tree.chained.has_those number ∙ ap (λ (b : Bool). if b then 1 else 0) (misplaced-other block number room other) in
      left_true (counts_as_data (loose_of held awaited (Some block)) old heads.blocks number)
      (has_unused format (block_of old number)) (some_if room (omega (arith, stands, count)))

  listed_role : (number : ℕ) → StandsIn tree.chained.chain number → block ≢ number
      → StandsIn (held ++ data_with (loose_of held awaited (Some block)) old heads.blocks) number
  listed_role number stands other = data_role number (listed_data number stands other)

  -- Where bytes of no blocks changed but of the misplaced one and of some of the list, and of those the links alone,
  -- the tree and its free list stay.
  module _ (new numbers : List ℕ) (keeps : KeepsBlocksBut numbers old new)
      (role : StandsIn (held ++ data_with (loose_of held awaited (Some block)) old heads.blocks) block)
      (which : (number : ℕ) → StandsIn numbers number → (block ≡ number) ⊎ StandsIn tree.chained.chain number)
      (links : (number : ℕ) → StandsIn numbers number
      → KeepsOutside 0 8 (block_of old number) (block_of new number)) where
    changed_role : (number : ℕ) → StandsIn numbers number
        → StandsIn (held ++ data_with (loose_of held awaited (Some block)) old heads.blocks) number
    changed_role number stands = elim (cases_eq block number) [
      | inl same ↦ subst (StandsIn (held ++ data_with (loose_of held awaited (Some block)) old heads.blocks)) same role
      | inr other ↦
          elim (which number stands) [ inl same ↦ absurd (other same) | inr listed ↦ listed_role number listed other ]
    ]

    changed_apart : (number : ℕ) → StandsIn numbers number
        → (times (tree_blocks old heads.blocks) number ≡ 0) × (times tree.roles.free number ≡ 0)
    changed_apart number stands =
        apart_by_role (loose_of held awaited (Some block)) format old len heads records tree number
        (changed_role number stands)

    entries_stay : KeepsEntries (loose_of held awaited None) format heads.blocks heads.blocks old new
    entries_stay =
        keeps_entries (loose_of held awaited None) format heads.blocks heads.blocks old new numbers (omega arith) keeps
        (λ number stands. (changed_apart number stands).0) (λ number stands named. links number stands)

    free_stays : IsChain new heads.blocks heads.free tree.roles.free 0
    free_stays = chain-stays numbers old new heads.blocks heads.free tree.roles.free 0 keeps
        (λ number free. elim (cases_lt 0 (times numbers number)) [
          | inl changed ↦ absurd (omega (arith, free, (changed_apart number changed).1))
          | inr other ↦ omega (arith, other)
        ])
        tree.roles.is_free

    -- the tree with another entry list
    pub listed_anew : (first now_len : ℕ) (chain : List ℕ) → len ≤ now_len → IsChain new heads.blocks first chain 0
        → NamesPrevious new chain
        → ((number : ℕ)
        → times chain number ≡ (if has_room (loose_of held awaited None) format old heads.blocks number then 1 else 0))
        → IsTree (loose_of held awaited None) format new now_len (record heads { first = first }) records
    listed_anew first now_len chain longer is_chain previous has_those =
        tree_with_lists held held awaited (Some block) None format old new len now_len heads
        (record heads { first = first }) records tree entries_stay
        (record {
          free = tree.roles.free;
          is_free = free_stays;
          once = tree.roles.once;
          chain = chain;
          is_chain = is_chain;
          has_those = has_those;
          previous = previous;
        })
        (λ more. omega (arith, tree.long more, longer))

-- a block that has room is put before the list
module _ (held : List ℕ) (awaited : Option TreePath) (format : Format) (old new : List ℕ) (len : ℕ) (heads : Heads)
    (records : Records) (block : ℕ)
    (tree : IsTree (loose_of held awaited (Some block)) format old len heads records)
    (room : has_room (loose_of held awaited (Some block)) format old heads.blocks block ≡ true)
    (keeps : KeepsBlocksBut (block ∷ led_to heads.first) old new) (enters : EntersList old new heads block) where
  is_data : counts_as_data (loose_of held awaited (Some block)) old heads.blocks block ≡ true
  is_data =
      left_true (counts_as_data (loose_of held awaited (Some block)) old heads.blocks block)
      (has_unused format (block_of old block)) room

  inside : IsTrue (leads heads.blocks block)
  inside = data_leads (loose_of held awaited (Some block)) old heads.blocks block tree.awaited is_data

  not_listed : times tree.chained.chain block ≡ 0
  not_listed = tree.chained.has_those block
      ∙ ap (λ (b : Bool). if b then 1 else 0)
      (misplaced-same block (has_room (loose_of held awaited (Some block)) format old heads.blocks block) ∙ ap not room)

  no_head : block ≢ heads.first
  no_head =
      not_first old heads.blocks heads.first tree.chained.chain block tree.chained.is_chain not_listed
      (leads_within heads.blocks block inside).0

  enter_cases : (number : ℕ) → StandsIn (block ∷ led_to heads.first) number
      → (block ≡ number) ⊎ ((heads.first ≢ 0) × (heads.first ≡ number))
  enter_cases number stands = elim (stands_cons block (led_to heads.first) number stands) [
    | inl same ↦ inl same
    | inr led ↦ inr (stands_led heads.first number led)
  ]

  pub entered : (now_len : ℕ) → len ≤ now_len
      → IsTree (loose_of held awaited None) format new now_len (record heads { first = block }) records
  entered now_len longer =
      listed_anew held awaited format old len heads records block tree new (block ∷ led_to heads.first) keeps
      (data_role held awaited format old len heads records block tree block is_data)
      (λ number stands. elim (enter_cases number stands) [
        | inl same ↦ inl same
        | inr led ↦ inr (subst (StandsIn tree.chained.chain) led.1
            (first_stands old heads.blocks heads.first tree.chained.chain tree.chained.is_chain led.0))
      ])
      (λ number stands. elim (enter_cases number stands) [
        | inl same ↦
            subst (λ (n : ℕ). KeepsOutside 0 8 (block_of old n) (block_of new n)) same (enters.links no_head).others
        | inr led ↦ subst (λ (n : ℕ). KeepsOutside 0 8 (block_of old n) (block_of new n)) led.1
            (both_links 4 8 (block_of old heads.first) (block_of new heads.first) (omega arith)
            (enters.behind no_head led.0).others)
      ])
      block now_len (block ∷ tree.chained.chain) longer
      (enters.chain tree.chained.chain 0 tree.chained.is_chain not_listed inside)
      (enters.previous tree.chained.chain 0 tree.chained.is_chain not_listed inside tree.chained.previous)
      (λ number. elim (cases_eq block number) [
        | inl same ↦ subst
            (λ (n : ℕ). times (block ∷ tree.chained.chain) n
            ≡ (if has_room (loose_of held awaited None) format old heads.blocks n then 1 else 0)) same
            (times-cons-same block tree.chained.chain ∙ ap suc not_listed
            ∙ ap {B = ℕ} (λ (b : Bool). if b then 1 else 0) (sym room))
        | inr other ↦ times-cons-other block tree.chained.chain number other ∙ tree.chained.has_those number
            ∙ ap (λ (b : Bool). if b then 1 else 0)
            (misplaced-other block number
            (has_room (loose_of held awaited (Some block)) format old heads.blocks number) other)
      ])

-- a block that has no room is taken out of the list
module _ (held : List ℕ) (awaited : Option TreePath) (format : Format) (old new : List ℕ) (len : ℕ) (heads : Heads)
    (records : Records) (first block : ℕ)
    (tree : IsTree (loose_of held awaited (Some block)) format old len heads records)
    (role : StandsIn (held ++ data_with (loose_of held awaited (Some block)) old heads.blocks) block)
    (room : has_room (loose_of held awaited (Some block)) format old heads.blocks block ≡ false)
    (keeps : KeepsBlocksBut (block ∷ led_to (previous_of old block) ++ led_to (next_of old block)) old new)
    (front back : List ℕ) (split : tree.chained.chain ≡ front ++ block ∷ back)
    (leaves : LeavesList old new heads (record heads { first = first }) block front back) where
  was_chain : IsChain old heads.blocks heads.first (front ++ block ∷ back) 0
  was_chain = subst (λ (chain : List ℕ). IsChain old heads.blocks heads.first chain 0) split tree.chained.is_chain

  -- the block before it is the last one in front
  before_it : previous_of old block ≢ 0 → (done : List ℕ) × (front ≡ done ++ previous_of old block ∷ [])
  before_it some =
      let named : NamesPrevious old (front ++ block ∷ back) =
      subst (λ (chain : List ℕ). NamesPrevious old chain) split tree.chained.previous in
      let last : previous_of old block ≡ last_behind 0 front = (names_split (previous_of old) 0 front (block ∷ back)
      (names_named (previous_of old) 0 (front ++ block ∷ back) named)).1.0 in
      elim (last_cases 0 front) [
        | inl none ↦ absurd (some (last ∙ none.1))
        | inr there ↦ (there.0, there.2 ∙ ap (λ (n : ℕ). there.0 ++ n ∷ []) (sym (last ∙ there.3)))
      ]

  -- and the one behind it the first one there
  behind_it : next_of old block ≢ 0 → (rest : List ℕ) × (back ≡ next_of old block ∷ rest)
  behind_it some =
      let goes = goes_split (next_of old) heads.first front (block ∷ back) 0
      (goes_linked (next_of old) heads.first (front ++ block ∷ back) 0 was_chain.linked) in
      next_there back goes.2.1
    where
      next_there : (xs : List ℕ) → GoesBy (next_of old) (next_of old block) xs 0
          → (rest : List ℕ) × (xs ≡ next_of old block ∷ rest)
      next_there [] goes = absurd (some (sym goes))
      next_there (x ∷ xs) goes = (xs, ap (λ (n : ℕ). n ∷ xs) goes.0)

  times-split : (number : ℕ)
      → times tree.chained.chain number ≡ times front number + times (block ∷ []) number + times back number
  times-split number =
      omega (
        arith,
        ap (λ (xs : List ℕ). times xs number) split,
        times-append front (block ∷ back) number,
        times-append (block ∷ []) back number,
      )

  leave_cases : (number : ℕ) → StandsIn (block ∷ led_to (previous_of old block) ++ led_to (next_of old block)) number
      → (block ≡ number) ⊎ ((previous_of old block ≢ 0) × (previous_of old block ≡ number))
      ⊎ ((next_of old block ≢ 0) × (next_of old block ≡ number))
  leave_cases number stands =
      elim (stands_either (block ∷ led_to (previous_of old block)) (led_to (next_of old block)) number stands) [
        | inl here ↦ elim (stands_cons block (led_to (previous_of old block)) number here) [
          | inl same ↦ inl same
          | inr led ↦ inr (inl (stands_led (previous_of old block) number led))
        ]
        | inr led ↦ inr (inr (stands_led (next_of old block) number led))
      ]

  pub left : (now_len : ℕ) → len ≤ now_len
      → IsTree (loose_of held awaited None) format new now_len (record heads { first = first }) records
  left now_len longer =
      listed_anew held awaited format old len heads records block tree new
      (block ∷ led_to (previous_of old block) ++ led_to (next_of old block)) keeps role
      (λ number stands. elim (leave_cases number stands) [
        | inl same ↦ inl same
        | inr (inl led) ↦
            let there = before_it led.0 in
            let last : StandsIn front (previous_of old block) = omega (
              arith,
              ap (λ (xs : List ℕ). times xs (previous_of old block)) there.1,
              times-append there.0 (previous_of old block ∷ []) (previous_of old block),
              times-cons-same (previous_of old block) [],
            ) in
            inr (subst (StandsIn tree.chained.chain) led.1 (omega (arith, times-split (previous_of old block), last)))
        | inr (inr led) ↦
            let there = behind_it led.0 in
            let next : StandsIn back (next_of old block) = omega (
              arith,
              ap (λ (xs : List ℕ). times xs (next_of old block)) there.1,
              times-cons-same (next_of old block) there.0,
            ) in
            inr (subst (StandsIn tree.chained.chain) led.1 (omega (arith, times-split (next_of old block), next)))
      ])
      (λ number stands. elim (leave_cases number stands) [
        | inl same ↦ subst (λ (n : ℕ). KeepsOutside 0 8 (block_of old n) (block_of new n)) same leaves.links.others
        | inr (inl led) ↦
            let there = before_it led.0 in
            subst (λ (n : ℕ). KeepsOutside 0 8 (block_of old n) (block_of new n)) led.1
            (both_links 0 4 (block_of old (previous_of old block)) (block_of new (previous_of old block)) (omega arith)
            (leaves.before there.0 (previous_of old block) there.1).others)
        | inr (inr led) ↦
            let there = behind_it led.0 in
            subst (λ (n : ℕ). KeepsOutside 0 8 (block_of old n) (block_of new n)) led.1
            (both_links 4 8 (block_of old (next_of old block)) (block_of new (next_of old block)) (omega arith)
            (leaves.behind (next_of old block) there.0 there.1).others)
      ])
      first now_len (front ++ back) longer leaves.chain leaves.previous
      (λ number. elim (cases_eq block number) [
        | inl same ↦ subst
            (λ (n : ℕ). times (front ++ back) n
            ≡ (if has_room (loose_of held awaited None) format old heads.blocks n then 1 else 0)) same (omega (
              arith,
              was_chain.distinct block,
              times-split block,
              ap (λ (xs : List ℕ). times xs block) split,
              times-append front back block,
              times-cons-same block [],
              ap {B = ℕ} (λ (b : Bool). if b then 1 else 0) room,
            ))
        | inr other ↦ omega (
          arith,
          times-split number,
          times-append front back number,
          none_of_one block number (λ same. other (sym same)),
          tree.chained.has_those number,
          ap {B = ℕ} (λ (b : Bool). if b then 1 else 0)
              (misplaced-other block number
              (has_room (loose_of held awaited (Some block)) format old heads.blocks number) other),
        )
      ])

-- the list has the block, in front of some and behind others
module _ (held : List ℕ) (awaited : Option TreePath) (format : Format) (old new : List ℕ) (len : ℕ) (heads : Heads)
    (records : Records) (first block : ℕ)
    (tree : IsTree (loose_of held awaited (Some block)) format old len heads records)
    (role : StandsIn (held ++ data_with (loose_of held awaited (Some block)) old heads.blocks) block)
    (room : has_room (loose_of held awaited (Some block)) format old heads.blocks block ≡ false)
    (keeps : KeepsBlocksBut (block ∷ led_to (previous_of old block) ++ led_to (next_of old block)) old new)
    (leaves : (front back : List ℕ) → IsChain old heads.blocks heads.first (front ++ block ∷ back) 0
    → NamesPrevious old (front ++ block ∷ back)
    → LeavesList old new heads (record heads { first = first }) block front back) where
  pub left_list : (now_len : ℕ) → len ≤ now_len
      → IsTree (loose_of held awaited None) format new now_len (record heads { first = first }) records
  left_list now_len longer =
      let there : times tree.chained.chain block ≡ 1 = tree.chained.has_those block
      ∙ ap (λ (b : Bool). if b then 1 else 0)
      (misplaced-same block (has_room (loose_of held awaited (Some block)) format old heads.blocks block)
      ∙ ap not room) in
      let found = found_in block tree.chained.chain (omega (arith, there)) in
      left held awaited format old new len heads records first block tree role room keeps found.0 found.1 found.2
      (leaves found.0 found.1
      (subst (λ (chain : List ℕ). IsChain old heads.blocks heads.first chain 0) found.2 tree.chained.is_chain)
      (subst (λ (chain : List ℕ). NamesPrevious old chain) found.2 tree.chained.previous))
      now_len longer
