-- A record that is entered in the first block of the entry list, which leaves the list where it has no room then.
use Rattle.std.proofs.Common.{◌≡◌, ◌≢◌, ◌⊎◌, ℕ, ◌+◌, ◌^◌, ◌<◌, ◌≤◌, Bool, true, false, true≢false, ◌&&◌, if◌then◌else◌}
use Rattle.std.proofs.Common.{List, [], ◌∷◌, ◌++◌, length, None, Some, refl, sym, ap, subst, ◌∙◌, inl, inr, arith}
use Rattle.std.proofs.lemmas.Bool.{cases_eq, le-leb}
use Rattle.std.specs.FinMap.{get, insert}
use Rattle.quota_types.specs.Bytes.{number_at}
use Rattle.quota_types.proofs.BytesLemmas.{number_same}
use Rattle.quota_types.specs.declared.file_kind.Format.{Format}
use Rattle.quota_types.specs.declared.record.Entry.{Entry}
use Rattle.quota_types.specs.declared.record.Rec.{Rec}
use Rattle.quota_types.specs.Times.{StandsIn, times}
use Rattle.quota_types.proofs.TimesLemmas.{only_one, stands_cons, stands_either, stands_right, times-cons-same}
use Rattle.file_blocks.specs.Block.{block_of, next_of, previous_of}
use Rattle.file_blocks.proofs.LeadsLemmas.{leads_within}
use Rattle.quota_value.specs.QuotaValue.{Records}
use Rattle.quota_pages.specs.KeptBlocks.{KeepsBlocksBut}
use Rattle.quota_radix.specs.Tree.{blocks_of, leaves as tree_leaves}
use Rattle.free_chains.specs.Chain.{IsChain}
use Rattle.free_chains.specs.ChainFault.{IsChainFault}
use Rattle.free_chains.specs.EntryList.{LeavesList, NamesPrevious, StopsLeaving}
use Rattle.free_chains.specs.Links.{led_to}
use Rattle.free_chains.specs.declared.chain_fault.ChainFault.{ChainFault}
use Rattle.free_chains.specs.declared.heads.Heads.{Heads}
use Rattle.free_chains.proofs.SpliceLemmas.{chain-rest, first_is_head, head_leads, names_named}
use Rattle.tree_meaning.specs.Entries.{has_unused}
use Rattle.tree_meaning.specs.Loose.{Loose, loose_of}
use Rattle.tree_meaning.specs.Roles.{counts_as_data, data_with, has_room}
use Rattle.tree_meaning.proofs.ListedLemmas.{left_list}
use Rattle.tree_meaning.proofs.MovedLemmas.{times-data_with}
use Rattle.block_changes.specs.EntryChanges.{WritesEntry}
use Rattle.tree_change.specs.declared.change_fault.ChangeFault.{ChangeFault}
use Rattle.tree_change.specs.ChangeFault.{IsStepFault, of_chain_fault}
use Rattle.tree_change.specs.Enters.{EntersRecord}
use Rattle.tree_change.specs.Shows.{IsNoTree, IsWholeTree}
use Rattle.tree_change.proofs.AddedLemmas.{led_is}
use Rattle.tree_change.proofs.ChangeFaultLemmas.{of_chain, of_later}
use Rattle.tree_change.proofs.CountedLemmas.{counted_then}
use Rattle.tree_change.proofs.FreshLemmas.{head_stands, no_head}
use Rattle.tree_change.proofs.StaysLemmas.{counted_stays, data_of_room, data_stays, header_stays, listed_beside}
use Rattle.tree_change.proofs.StaysLemmas.{listed_data, ways_stay}
use Rattle.tree_change.proofs.StepLemmas.{written_fills, written_leaves_room}

-- The first block of a list names none before it, and the one behind it is in the list.
pub record IsFirst (file chain : List ℕ) (block : ℕ) : Type 0 where
  pub stands : StandsIn chain block
  pub previous : previous_of file block ≡ 0
  pub next : (next_of file block ≡ 0) ⊎ StandsIn chain (next_of file block)

pub is_first : (file : List ℕ) (blocks head : ℕ) (chain : List ℕ) → IsChain file blocks head chain 0
    → NamesPrevious file chain → head ≢ 0 → IsFirst file chain head
is_first file blocks head [] is_chain named some = absurd (some (no_head file blocks head is_chain))
is_first file blocks head (block ∷ rest) is_chain named some =
    let same : block ≡ head = first_is_head file blocks head block rest 0 is_chain in
    let behind : IsChain file blocks (next_of file block) rest 0 = chain-rest file blocks head block rest is_chain in
    subst (IsFirst file (block ∷ rest)) same
    (record {
      stands = omega (arith, times-cons-same block rest);
      previous = (names_named (previous_of file) 0 (block ∷ rest) named).0;
      next = elim (cases_eq (next_of file block) 0) [
        | inl none ↦ inl none
        | inr there ↦ inr
            (stands_right (block ∷ []) rest (next_of file block)
            (head_stands file blocks (next_of file block) rest behind there))
      ];
    })

right_true : (a b : Bool) → (a && b) ≡ true → b ≡ true
right_true true b both = both
right_true false b both = absurd (true≢false (sym both))

right_false : (a b : Bool) → b ≡ false → (a && b) ≡ false
right_false true b none = none
right_false false b none = refl

-- Where the first block of the list has no room, or is past the last block, the file is no tree.
pub first_no_tree : (format : Format) (file : List ℕ) (heads : Heads) → heads.first ≢ 0
    → (heads.blocks ≤ heads.first) ⊎ (has_unused format (block_of file heads.first) ≡ false)
    → IsNoTree format file heads
first_no_tree format file heads some (inl out) = λ held awaited records tree.
    elim (head_leads file heads.blocks heads.first tree.chained.chain tree.chained.is_chain) [
      | inl none ↦ some none
      | inr leads ↦ omega (arith, (leads_within heads.blocks heads.first leads).1, out)
    ]
first_no_tree format file heads some (inr full) = λ held awaited records tree.
    let stands : StandsIn tree.chained.chain heads.first =
    head_stands file heads.blocks heads.first tree.chained.chain tree.chained.is_chain some in
    true≢false (sym (right_true (counts_as_data (loose_of held awaited None) file heads.blocks heads.first)
    (has_unused format (block_of file heads.first))
    (listed_data held awaited format file heads records heads.first tree stands)) ∙ full)

pub placing_refused : (before now : ℕ) (known : Type 0) (format : Format) (file : List ℕ) (heads : Heads)
    (fault : ChangeFault) → heads.first ≢ 0
    → IsStepFault before now
    (known → (heads.blocks ≤ heads.first) ⊎ (has_unused format (block_of file heads.first) ≡ false)) fault
    → IsStepFault before now (known → IsNoTree format file heads) fault
placing_refused before now known format file heads fault some h =
    of_later before before now
    (known → (heads.blocks ≤ heads.first) ⊎ (has_unused format (block_of file heads.first) ≡ false))
    (known → IsNoTree format file heads)
    (λ blocks limit. ⊥) (λ blocks limit. ⊥) fault (omega arith)
    (λ wrong is. first_no_tree format file heads some (wrong is)) (λ blocks limit is. is) h

-- the links of a block in which an entry was written
same_link : (format : Format) (block place at : ℕ) (entry : Entry) (old new : List ℕ) → at + 4 ≤ 8
    → WritesEntry format block place entry old new
    → number_at 4 (block_of new block) at ≡ number_at 4 (block_of old block) at
same_link format block place at entry old new few writes =
    number_same 4 at (block_of new block) (block_of old block)
    (λ k from to. writes.links.before k (omega (arith, to, few)))

-- A number that stops the first block of the list from leaving it is one of no tree.
pub stops_leaving_no_tree : (format : Format) (place number : ℕ) (entry : Entry) (old new : List ℕ) (heads : Heads)
    → heads.first ≢ 0 → WritesEntry format heads.first place entry old new
    → heads.blocks ≤ number → StopsLeaving new heads.blocks heads.first number → IsNoTree format old heads
stops_leaving_no_tree format place number entry old new heads some writes out stops = λ held awaited records tree.
    let first : IsFirst old tree.chained.chain heads.first =
    is_first old heads.blocks heads.first tree.chained.chain tree.chained.is_chain tree.chained.previous some in
    let next : next_of new heads.first ≡ next_of old heads.first =
    same_link format heads.first place 0 entry old new (omega arith) writes in
    let previous : previous_of new heads.first ≡ 0 =
    same_link format heads.first place 4 entry old new (omega arith) writes ∙ first.previous in
    let low : next_of new heads.first < heads.blocks = elim first.next [
      | inl none ↦ omega (arith, next, none, tree.two)
      | inr there ↦ omega (
        arith,
        next,
        (leads_within heads.blocks (next_of old heads.first)
            (tree.chained.is_chain.inside (next_of old heads.first) there)).1,
      )
    ] in
    omega (arith, stops.previous low, previous, out, tree.two)

-- So the leaving was refused since the file is no tree.
pub leaving_refused : (before between now : ℕ) (known still : Type 0) (format : Format) (place : ℕ) (entry : Entry)
    (old new : List ℕ) (heads : Heads) (fault : ChainFault)
    → before ≤ between → heads.first ≢ 0 → (known → still)
    → (known → WritesEntry format heads.first place entry old new)
    → IsChainFault heads.blocks between now (λ number. still → StopsLeaving new heads.blocks heads.first number) fault
    → IsStepFault before now (known → IsNoTree format old heads) (of_chain_fault fault)
leaving_refused before between now known still format place entry old new heads fault later some stays writes h =
    let wrong : Type 0 = known → IsNoTree format old heads in
    of_later before between now wrong wrong (λ blocks limit. ⊥) (λ blocks limit. ⊥) (of_chain_fault fault) later
    (λ is. is) (λ blocks limit is. is)
    (of_chain heads.blocks between now (λ number. still → StopsLeaving new heads.blocks heads.first number) wrong
    (λ blocks limit. ⊥) fault
    (λ number out stops is.
    stops_leaving_no_tree format place number entry old new heads some (writes is) out (stops (stays is))) h)

module _ (held : List ℕ) (format : Format) (old one : List ℕ) (heads : Heads) (records : Records)
    (place id : ℕ) (rec : Rec)
    (small : id < 2 ^ 32) (none : get records id ≡ None) (some : heads.first ≢ 0)
    (writes : WritesEntry format heads.first place (record { id = id; rec = rec }) old one)
    (tree : IsWholeTree (loose_of held None None) format old heads records) where
  was_data : StandsIn (data_with (loose_of held None None) old heads.blocks) heads.first
  was_data = data_of_room (loose_of held None None) format old heads records heads.first tree
      (listed_data held None format old heads records heads.first tree
      (head_stands old heads.blocks heads.first tree.chained.chain tree.chained.is_chain some))

  in_data : (number : ℕ) → StandsIn (heads.first ∷ []) number
      → StandsIn (held ++ data_with (loose_of held None None) old heads.blocks) number
  in_data number stands =
      stands_right held (data_with (loose_of held None None) old heads.blocks) number
      (subst (StandsIn (data_with (loose_of held None None) old heads.blocks))
      (only_one heads.first number stands) was_data)

  -- the block has room still
  pub entered_with_room : has_unused format (block_of one heads.first) ≡ true
      → EntersRecord heads.first id rec 0 held format old one heads heads records
  entered_with_room room = record {
    tree = written_leaves_room held format old one heads records heads.first place id rec small none writes
        tree was_data room;
    ways =
        ways_stay (loose_of held None None) format old one heads records (heads.first ∷ []) tree writes.keeps in_data;
    counted = counted_stays (loose_of held None None) format old one heads records (heads.first ∷ []) tree writes.keeps
        in_data heads refl refl;
    same_data =
        λ zero.
        data_stays (loose_of held None None) format old one heads records (heads.first ∷ []) tree writes.keeps in_data
        (loose_of held (Some (record { number = id; block = heads.first })) None) heads.first (insert records id rec)
        (written_leaves_room held format old one heads records heads.first place id rec small none writes tree was_data
        room) (λ number. refl);
    header = header_stays (loose_of held None None) format old one heads records (heads.first ∷ []) tree
        writes.keeps in_data;
  }

  -- it has none, and left the list
  module _ (two : List ℕ) (next previous first : ℕ) (full : has_unused format (block_of one heads.first) ≡ false)
      (next_is : next ≡ next_of one heads.first) (previous_is : previous ≡ previous_of one heads.first)
      (keeps : KeepsBlocksBut (heads.first ∷ led_to previous ++ led_to next) one two)
      (leaves : (front back : List ℕ) → IsChain one heads.blocks heads.first (front ++ heads.first ∷ back) 0
      → NamesPrevious one (front ++ heads.first ∷ back)
      → LeavesList one two heads (record heads { first = first }) heads.first front back) where
    abbrev with_full : Loose
    with_full = loose_of held (Some (record { number = id; block = heads.first })) (Some heads.first)

    filled : IsWholeTree with_full format one heads (insert records id rec)
    filled =
        written_fills held format old one heads records heads.first place id rec small none writes tree was_data full

    still_data : StandsIn (data_with with_full one heads.blocks) heads.first
    still_data =
        let counts : counts_as_data with_full one heads.blocks heads.first ≡ true =
        le-leb 1 (times (heads.first ∷ blocks_of (tree_leaves one heads.blocks)) heads.first)
        (omega (arith, times-cons-same heads.first (blocks_of (tree_leaves one heads.blocks)))) in
        omega (
          arith,
          times-data_with with_full one heads.blocks heads.first filled.awaited,
          ap {B = ℕ} (λ (b : Bool). if b then 1 else 0) counts,
        )

    no_room : has_room with_full format one heads.blocks heads.first ≡ false
    no_room =
        right_false (counts_as_data with_full one heads.blocks heads.first)
        (has_unused format (block_of one heads.first)) full

    is_it : IsFirst one filled.chained.chain heads.first
    is_it =
        is_first one heads.blocks heads.first filled.chained.chain filled.chained.is_chain filled.chained.previous some

    are_data : (number : ℕ) → StandsIn (heads.first ∷ led_to previous ++ led_to next) number
        → StandsIn (held ++ data_with with_full one heads.blocks) number
    are_data number stands =
        stands_right held (data_with with_full one heads.blocks) number (elim (cases_eq heads.first number) [
          | inl same ↦ subst (StandsIn (data_with with_full one heads.blocks)) same still_data
          | inr other ↦ elim (stands_either (heads.first ∷ led_to previous) (led_to next) number stands) [
            | inl here ↦ elim (stands_cons heads.first (led_to previous) number here) [
              | inl same ↦ absurd (other same)
              | inr led ↦ absurd ((led_is previous number led).0 (previous_is ∙ is_it.previous))
            ]
            | inr led ↦
                let is = led_is next number led in
                elim is_it.next [
                  | inl end ↦ absurd (is.0 (next_is ∙ end))
                  | inr there ↦ data_of_room with_full format one heads (insert records id rec) number filled
                      (listed_beside held (Some (record { number = id; block = heads.first })) heads.first
                      format one heads
                      (insert records id rec) number filled
                      (subst (StandsIn filled.chained.chain) (sym next_is ∙ is.1) there) other)
                ]
          ]
        ])

    abbrev changed : List ℕ
    changed = heads.first ∷ led_to previous ++ led_to next

    left : IsWholeTree (loose_of held (Some (record { number = id; block = heads.first })) None) format two
        (record heads { first = first }) (insert records id rec)
    left =
        left_list held (Some (record { number = id; block = heads.first })) format one two (length one) heads
        (insert records id rec) first heads.first filled
        (stands_right held (data_with with_full one heads.blocks) heads.first still_data) no_room
        (subst
        (λ (n : ℕ). KeepsBlocksBut (heads.first ∷ led_to (previous_of one heads.first) ++ led_to n) one two) next_is
        (subst (λ (n : ℕ). KeepsBlocksBut (heads.first ∷ led_to n ++ led_to next) one two) previous_is keeps))
        leaves (length two) keeps.longer

    pub entered_and_left : EntersRecord heads.first id rec 0 held format old two heads
        (record heads { first = first }) records
    entered_and_left = record {
      tree = left;
      ways = λ other low.
          ways_stay with_full format one two heads (insert records id rec) changed filled keeps are_data other low
          ∙ ways_stay (loose_of held None None) format old one heads records (heads.first ∷ []) tree writes.keeps
          in_data other low;
      counted = counted_then 0 0 old one two heads heads (record heads { first = first })
          (counted_stays (loose_of held None None) format old one heads records (heads.first ∷ []) tree writes.keeps
          in_data heads refl refl)
          (counted_stays with_full format one two heads (insert records id rec) changed filled keeps are_data
          (record heads { first = first }) refl refl);
      same_data = λ zero number.
          data_stays with_full format one two heads (insert records id rec) changed filled keeps are_data
          (loose_of held (Some (record { number = id; block = heads.first })) None) first (insert records id rec) left
          (λ other. refl) number
          ∙ data_stays (loose_of held None None) format old one heads records (heads.first ∷ []) tree writes.keeps
          in_data with_full heads.first (insert records id rec) filled (λ other. refl) number;
      header =
          header_stays with_full format one two heads (insert records id rec) changed filled keeps are_data
          ∙ header_stays (loose_of held None None) format old one heads records (heads.first ∷ []) tree
          writes.keeps in_data;
    }
