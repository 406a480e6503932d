-- Blocks that are taken from a tree, one after another.
use Rattle.std.proofs.Common.{◌≡◌, ◌≢◌, ℕ, ◌+◌, ◌-◌, ◌*◌, ◌<◌, ◌≤◌, Bool, if◌then◌else◌, nat_le, nat_lt, List, [], ◌∷◌}
use Rattle.std.proofs.Common.{◌++◌, length, Option, None, sym, ap, subst, ◌∙◌, inl, inr, arith, lt-ltb, le-ltb}
use Rattle.std.proofs.Common.{length-append}
use Rattle.std.proofs.lemmas.Bool.{cases_eq, cases_lt}
use Rattle.quota_types.specs.Bytes.{number_at}
use Rattle.quota_types.specs.declared.file_kind.Format.{Format}
use Rattle.quota_types.specs.Times.{StandsIn, times}
use Rattle.quota_types.proofs.TimesLemmas.{only_one, stands_either, times-append, times-cons-same}
use Rattle.file_blocks.specs.Block.{block_of, next_of}
use Rattle.file_blocks.proofs.LeadsLemmas.{leads_within}
use Rattle.quota_value.specs.QuotaValue.{Records}
use Rattle.quota_pages.specs.KeptBlocks.{KeepsBlocksBut}
use Rattle.quota_radix.specs.Tree.{blocks_of, tree_blocks}
use Rattle.quota_radix.specs.declared.tree_path.TreePath.{TreePath}
use Rattle.quota_radix.proofs.MoreBlocksLemmas.{KeepsReferences, leaves-among_more, way-among_more}
use Rattle.free_chains.specs.Chain.{IsChain}
use Rattle.free_chains.specs.FreeList.{StopsTaking, TakesBlock, TakesHead, TakesListed, TakesNew}
use Rattle.free_chains.specs.declared.heads.Heads.{Heads}
use Rattle.free_chains.proofs.ChainLemmas.{one_chain}
use Rattle.free_chains.proofs.SpliceLemmas.{chain-none, first_is_head, goes_linked, head_leads, links_lead, none_of_one}
use Rattle.free_chains.proofs.SpliceLemmas.{other_than}
use Rattle.tree_meaning.specs.Loose.{Loose, leaves_with, loose_of}
use Rattle.tree_meaning.specs.Roles.{OneRole, roles}
use Rattle.tree_meaning.proofs.AsideLemmas.{reordered}
use Rattle.tree_meaning.proofs.MovedLemmas.{times-data_with, times-roles}
use Rattle.tree_meaning.proofs.TakenLemmas.{taken}
use Rattle.tree_change.specs.declared.change_fault.ChangeFault.{ChangeFault}
use Rattle.tree_change.specs.Fresh.{HasFresh, IsTakeFault, TakesFresh}
use Rattle.tree_change.specs.Putting.{TakesCounted}
use Rattle.tree_change.specs.Room.{FileHasRoom}
use Rattle.tree_change.specs.Shows.{IsNoTree, IsWholeTree}
use Rattle.tree_change.proofs.BehindLemmas.{behind_of, taken_low}
use Rattle.tree_change.proofs.ChangeFaultLemmas.{of_later}
use Rattle.tree_change.proofs.CountedLemmas.{counted_then, room_after}
use Rattle.tree_change.proofs.HeaderStaysLemmas.{header_apart}

-- what is a block or not counts once or not at all
pub role_below : (blocks number : ℕ) → number < blocks → ◌≡◌ {A = ℕ} (if nat_lt number blocks then 1 else 0) 1
role_below blocks number low = ap {B = ℕ} (λ (b : Bool). if b then 1 else 0) (lt-ltb number blocks low)

pub role_above : (blocks number : ℕ) → blocks ≤ number → ◌≡◌ {A = ℕ} (if nat_lt number blocks then 1 else 0) 0
role_above blocks number high = ap {B = ℕ} (λ (b : Bool). if b then 1 else 0) (le-ltb number blocks high)

-- so a block with a role is one of the file
pub role_low : (loose : Loose) (file : List ℕ) (blocks head : ℕ) (are : OneRole loose file blocks head) (number : ℕ)
    → StandsIn (roles loose file blocks are.free) number → number < blocks
role_low loose file blocks head are number stands = elim (cases_lt number blocks) [
  | inl low ↦ low
  | inr high ↦ absurd (omega (arith, stands, are.once number, role_above blocks number high))
]

-- an empty list has the head 0
pub no_head : (file : List ℕ) (blocks head : ℕ) → IsChain file blocks head [] 0 → head ≡ 0
no_head file blocks head empty = sym (goes_linked (next_of file) head [] 0 empty.linked)

module _ (held : List ℕ) (awaited : Option TreePath) (format : Format) (old new : List ℕ) (heads now : Heads)
    (records : Records) (block : ℕ)
    (keeps : KeepsBlocksBut (block ∷ []) old new) (takes : TakesBlock old new heads now block)
    (head : TakesHead heads now block)
    (tree : IsWholeTree (loose_of held awaited None) format old heads records) where
  -- a block that is taken was none of the tree
  was_no_tree : times (tree_blocks old heads.blocks) block ≡ 0
  was_no_tree =
      let all = times-roles (loose_of held awaited None) old heads.blocks tree.roles.free block in
      elim (takes.chain tree.roles.free tree.roles.is_free) [
        | inl empty ↦
            let is : TakesNew heads now block = head.none
            (no_head old heads.blocks heads.free
            (subst (λ (chain : List ℕ). IsChain old heads.blocks heads.free chain 0) empty.0 tree.roles.is_free)) in
            omega (arith, tree.roles.once block, role_above heads.blocks block (omega (arith, is.block_is)), all)
        | inr some ↦
            let full : IsChain old heads.blocks heads.free (block ∷ some.0) 0 =
            subst (λ (chain : List ℕ). IsChain old heads.blocks heads.free chain 0) some.1 tree.roles.is_free in
            let within =
            leads_within heads.blocks block (full.inside block (omega (arith, times-cons-same block some.0))) in
            omega (
              arith,
              tree.roles.once block,
              role_below heads.blocks block within.1,
              all,
              ap (λ (free : List ℕ). times free block) some.1,
              times-cons-same block some.0,
            )
      ]

  no_fewer_blocks : heads.blocks ≤ now.blocks
  no_fewer_blocks = elim (cases_eq heads.free 0) [
    | inl none ↦ omega (arith, (head.none none).blocks)
    | inr some ↦ omega (arith, (head.some some).blocks)
  ]

  keeps_references : KeepsReferences old new heads.blocks (tree_blocks old heads.blocks)
  keeps_references = record {
    inside = tree.roles.references;
    same = λ number stands digit low. ap (λ (bytes : List ℕ). number_at 4 bytes (4 * digit))
        (keeps.others number
        (none_of_one block number (other_than (tree_blocks old heads.blocks) block number was_no_tree stands)));
  }

  -- whether leaves name a block, as a number
  abbrev named : ℕ → List TreePath → ℕ
  named number leaves = if nat_le 1 (times (blocks_of (leaves_with awaited leaves)) number) then 1 else 0

  pub has_one_fresh : 1024 * block + 1024 ≤ length new
      → HasFresh (block ∷ []) held awaited format old new heads now records
  has_one_fresh whole =
      let with_it : IsWholeTree (loose_of (block ∷ held) awaited None) format new now records =
      taken held awaited format old new (length old) heads now records block keeps takes head tree (length new)
      keeps.longer whole in
      record {
        tree = with_it;
        blank = λ number stands. ap (block_of new) (sym (only_one block number stands)) ∙ takes.blank;
        distinct = λ number. elim (cases_eq block number) [
          | inl same ↦ omega (arith, times-cons-same block [], ap (times (block ∷ [])) same)
          | inr other ↦ omega (arith, none_of_one block number (λ same. other (sym same)))
        ];
        ways = λ id small. way-among_more old new heads.blocks now.blocks id no_fewer_blocks small keeps_references;
        same_data = λ number.
            times-data_with (loose_of (block ∷ held) awaited None) new now.blocks number with_it.awaited
            ∙ ap (named number) (leaves-among_more old new heads.blocks now.blocks no_fewer_blocks keeps_references)
            ∙ sym (times-data_with (loose_of held awaited None) old heads.blocks number tree.awaited);
        header = keeps.others 0 (omega (
          arith,
          (header_apart (loose_of (block ∷ held) awaited None) new now.blocks now.free with_it.roles).0,
          times-append (block ∷ []) held 0,
        ));
      }

-- where there is room for more, there is for fewer
pub room_for_fewer : (file : List ℕ) (heads : Heads) (limit few more : ℕ) → few ≤ more
    → FileHasRoom file heads limit more → FileHasRoom file heads limit few
room_for_fewer file heads limit few more fewer room =
    record { free = room.free; is_free = room.is_free; room = omega (arith, room.room, fewer) }

-- the list of free blocks is shorter by it, or there is a new block
one_less : (old new : List ℕ) (heads now : Heads) (block : ℕ) → TakesBlock old new heads now block
    → TakesHead heads now block → (free : List ℕ) → IsChain old heads.blocks heads.free free 0
    → (now.blocks ≡ heads.blocks + (1 - length free)) × (rest : List ℕ) × IsChain new now.blocks now.free rest 0
    × (length rest ≡ length free - 1)
one_less old new heads now block takes head free is_free =
    elim (takes.chain free is_free) [
      | inl empty ↦
          let is : TakesNew heads now block = head.none
          (no_head old heads.blocks heads.free
          (subst (λ (chain : List ℕ). IsChain old heads.blocks heads.free chain 0) empty.0 is_free)) in
          let none : length free ≡ 0 = ap {B = ℕ} length empty.0 in
          (omega (arith, none, is.blocks), [], empty.1, omega (arith, none))
      | inr some ↦
          let full : IsChain old heads.blocks heads.free (block ∷ some.0) 0 =
          subst (λ (chain : List ℕ). IsChain old heads.blocks heads.free chain 0) some.1 is_free in
          let first : block ≡ heads.free = first_is_head old heads.blocks heads.free block some.0 0 full in
          let within =
          leads_within heads.blocks block (full.inside block (omega (arith, times-cons-same block some.0))) in
          let is : TakesListed heads now block = head.some (λ none. omega (arith, none, first, within.0)) in
          let more : length free ≡ length some.0 + 1 = omega (arith, ap {B = ℕ} length some.1) in
          (omega (arith, more, is.blocks), some.0, some.2, omega (arith, more))
    ]

-- A block was taken.
pub takes_one : (old new : List ℕ) (heads now : Heads) (block : ℕ) → KeepsBlocksBut (block ∷ []) old new
    → TakesBlock old new heads now block → TakesHead heads now block
    → 1024 * block + 1024 ≤ length new → TakesFresh (block ∷ []) old new heads now
takes_one old new heads now block keeps takes head whole = record {
  each = λ held awaited format records tree.
      has_one_fresh held awaited format old new heads now records block keeps takes head tree whole;
  counted = record {
    sum = λ free is_free. (one_less old new heads now block takes head free is_free).0;
    rest = λ free is_free. let less = one_less old new heads now block takes head free is_free in
        (less.1, less.2, less.3);
    behind =
        let low = taken_low heads now block head in
        behind_of (block ∷ []) heads.blocks now.blocks old new low.0
        (λ number stands. omega (arith, only_one block number stands, low.1)) keeps;
  };
}

-- A block that was taken is fresh behind those before it.
has_one_more : (fresh held : List ℕ) (awaited : Option TreePath) (format : Format) (old between new : List ℕ)
    (heads middle now : Heads) (records : Records) (block : ℕ)
    → KeepsBlocksBut (block ∷ []) between new → HasFresh fresh held awaited format old between heads middle records
    → HasFresh (block ∷ []) (fresh ++ held) awaited format between new middle now records
    → HasFresh (fresh ++ block ∷ []) held awaited format old new heads now records
has_one_more fresh held awaited format old between new heads middle now records block keeps first second =
    let tree : IsWholeTree (loose_of ((fresh ++ block ∷ []) ++ held) awaited None) format new now records =
    reordered (block ∷ fresh ++ held) ((fresh ++ block ∷ []) ++ held) awaited None format new (length new) now records
    (λ number. omega (
      arith,
      times-append (block ∷ []) (fresh ++ held) number,
      times-append (fresh ++ block ∷ []) held number,
      times-append fresh (block ∷ []) number,
      times-append fresh held number,
    ))
    second.tree in
    let few : (number : ℕ) → times (fresh ++ block ∷ []) number ≤ 1 = λ number.
    elim (cases_lt number now.blocks) [
      | inl low ↦ omega (
        arith,
        tree.roles.once number,
        role_below now.blocks number low,
        times-roles (loose_of ((fresh ++ block ∷ []) ++ held) awaited None) new now.blocks tree.roles.free number,
        times-append (fresh ++ block ∷ []) held number,
      )
      | inr high ↦ omega (
        arith,
        tree.roles.once number,
        role_above now.blocks number high,
        times-roles (loose_of ((fresh ++ block ∷ []) ++ held) awaited None) new now.blocks tree.roles.free number,
        times-append (fresh ++ block ∷ []) held number,
      )
    ] in
    record {
      tree = tree;
      blank = λ number stands. elim (stands_either fresh (block ∷ []) number stands) [
        | inl before ↦ keeps.others number (none_of_one block number
            (other_than fresh block number
            (omega (arith, few block, times-append fresh (block ∷ []) block, times-cons-same block [])) before))
            ∙ first.blank number before
        | inr it ↦ second.blank number it
      ];
      distinct = few;
      ways = λ id small. second.ways id small ∙ first.ways id small;
      same_data = λ number. second.same_data number ∙ first.same_data number;
      header = second.header ∙ first.header;
    }

pub takes_one_more : (fresh : List ℕ) (old between new : List ℕ) (heads middle now : Heads) (block : ℕ)
    → KeepsBlocksBut (block ∷ []) between new
    → TakesFresh fresh old between heads middle → TakesFresh (block ∷ []) between new middle now
    → TakesFresh (fresh ++ block ∷ []) old new heads now
takes_one_more fresh old between new heads middle now block keeps first second = record {
  each = λ held awaited format records tree.
      let before = first.each held awaited format records tree in
      has_one_more fresh held awaited format old between new heads middle now records block keeps before
      (second.each (fresh ++ held) awaited format records before.tree);
  counted =
      subst (λ (count : ℕ). TakesCounted count old new heads now)
      (let e : length fresh + 1 ≡ length (fresh ++ block ∷ []) = omega (arith, length-append fresh (block ∷ [])) in e)
      (counted_then (length fresh) 1 old between new heads middle now first.counted second.counted);
}

-- a head that is not 0 stands in its list
pub head_stands : (file : List ℕ) (blocks head : ℕ) (chain : List ℕ) → IsChain file blocks head chain 0 → head ≢ 0
    → StandsIn chain head
head_stands file blocks head [] is_chain some = absurd (some (no_head file blocks head is_chain))
head_stands file blocks head (block ∷ rest) is_chain some =
    let first : block ≡ head = first_is_head file blocks head block rest 0 is_chain in
    omega (arith, times-cons-same block rest, ap (times (block ∷ rest)) first)

-- A number that stops the taking of a block is one of no tree.
pub stops_no_tree : (file : List ℕ) (heads : Heads) (number : ℕ) → heads.free ≢ 0 → heads.blocks ≤ number
    → StopsTaking file heads number → (format : Format) → IsNoTree format file heads
stops_no_tree file heads number some out stops format = λ held awaited records tree.
    elim (head_leads file heads.blocks heads.free tree.roles.free tree.roles.is_free) [
      | inl none ↦ some none
      | inr leads ↦
          let within = leads_within heads.blocks heads.free leads in
          elim (links_lead file heads.blocks heads.free tree.roles.free heads.free tree.roles.is_free
          (head_stands file heads.blocks heads.free tree.roles.free tree.roles.is_free some)) [
            | inl end ↦ omega (arith, stops.link within.1, end, tree.two, out)
            | inr inside ↦
                omega (arith, stops.link within.1, (leads_within heads.blocks (next_of file heads.free) inside).1, out)
          ]
    ]

-- Where no block is free and there are as many as there may be, there is no room for one.
pub full_no_room : (file : List ℕ) (heads : Heads) (limit : ℕ) → heads.free ≡ 0 → limit ≤ heads.blocks
    → ¬ FileHasRoom file heads limit 1
full_no_room file heads limit none full room =
    let empty : IsChain file heads.blocks heads.free [] 0 =
    subst (λ (head : ℕ). IsChain file heads.blocks head [] 0) (sym none) (chain-none file heads.blocks) in
    omega
    (arith, room.room, ap {B = ℕ} length (one_chain file heads.blocks heads.free room.free 0 [] 0 room.is_free empty).0)

-- Where blocks were taken, what is no tree then was none before.
pub no_tree_before : (fresh : List ℕ) (old new : List ℕ) (heads now : Heads) → TakesFresh fresh old new heads now
    → ((format : Format) → IsNoTree format new now) → (format : Format) → IsNoTree format old heads
no_tree_before fresh old new heads now takes none format = λ held awaited records tree.
    none format (fresh ++ held) awaited records (takes.each held awaited format records tree).tree

-- And where there is no room for one more, there was none for this many.
pub no_room_before : (fresh : List ℕ) (limit count : ℕ) (old new : List ℕ) (heads now : Heads)
    → TakesFresh fresh old new heads now
    → length fresh + 1 ≤ count → ¬ FileHasRoom new now limit 1 → ¬ FileHasRoom old heads limit count
no_room_before fresh limit count old new heads now takes fewer none room =
    none (room_after (length fresh) 1 limit old new heads now takes.counted
    (room_for_fewer old heads limit (length fresh + 1) count fewer room))

-- The taking of one more block was refused, where blocks were taken already.
pub taking_refused : (before between now : ℕ) (known still : Type 0) (fresh : List ℕ) (limit count : ℕ)
    (old new : List ℕ) (heads middle : Heads) (fault : ChangeFault)
    → before ≤ between → (known → still) → (known → TakesFresh fresh old new heads middle) → length fresh + 1 ≤ count
    → IsTakeFault between now still new middle limit 1 fault → IsTakeFault before now known old heads limit count fault
taking_refused before between now known still fresh limit count old new heads middle fault later stays takes fewer h =
    of_later before between now (still → (format : Format) → IsNoTree format new middle)
    (known → (format : Format) → IsNoTree format old heads)
    (λ blocks most. (most ≡ limit) × (limit < blocks) × (still → ¬ FileHasRoom new middle limit 1))
    (λ blocks most. (most ≡ limit) × (limit < blocks) × (known → ¬ FileHasRoom old heads limit count)) fault later
    (λ wrong is. no_tree_before fresh old new heads middle (takes is) (wrong (stays is)))
    (λ blocks most full. (
      full.0,
      full.1,
      λ is. no_room_before fresh limit count old new heads middle (takes is) fewer (full.2 (stays is)),
    )) h
