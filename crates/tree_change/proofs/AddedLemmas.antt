-- A block that is taken for a record, and put into the entry list.
use Rattle.std.proofs.Common.{◌≡◌, ◌≢◌, ℕ, ◌^◌, ◌<◌, ◌≤◌, Bool, true, if◌then◌else◌, List, [], ◌∷◌, ◌++◌, length}
use Rattle.std.proofs.Common.{replicate, Option, None, Some, refl, ap, subst, ◌∙◌, inl, inr, arith}
use Rattle.std.proofs.lemmas.Bool.{cases_eq}
use Rattle.std.proofs.lemmas.Bool.Decides.{eqb_tells}
use Rattle.std.specs.FinMap.{get, insert}
use Rattle.quota_types.specs.declared.file_kind.Format.{Format}
use Rattle.quota_types.specs.declared.record.Rec.{Rec}
use Rattle.quota_types.specs.Times.{StandsIn, times}
use Rattle.quota_types.proofs.TimesLemmas.{only_one, stands_cons, stands_left, stands_right, times-cons-same}
use Rattle.entry_codec.specs.Entry.{is_unused}
use Rattle.file_blocks.specs.Block.{block_of}
use Rattle.file_blocks.proofs.LeadsLemmas.{leads_within}
use Rattle.quota_value.specs.QuotaValue.{Records}
use Rattle.quota_pages.specs.KeptBlocks.{KeepsBlocksBut}
use Rattle.quota_radix.specs.declared.tree_path.TreePath.{TreePath}
use Rattle.free_chains.specs.ChainFault.{IsChainFault}
use Rattle.free_chains.specs.EntryList.{EntersList}
use Rattle.free_chains.specs.Links.{led_to}
use Rattle.free_chains.specs.declared.chain_fault.ChainFault.{ChainFault}
use Rattle.free_chains.specs.declared.heads.Heads.{Heads}
use Rattle.free_chains.proofs.SpliceLemmas.{head_leads}
use Rattle.tree_meaning.specs.Entries.{entry_bytes}
use Rattle.tree_meaning.specs.Loose.{Loose, loose_of}
use Rattle.tree_meaning.specs.Roles.{data_with, has_room}
use Rattle.tree_meaning.proofs.BlankLemmas.{blank_unused}
use Rattle.tree_meaning.proofs.ListedLemmas.{entered}
use Rattle.block_changes.specs.EntryChanges.{WritesEntry}
use Rattle.tree_change.specs.ChangeFault.{of_chain_fault}
use Rattle.tree_change.specs.Enters.{EntersRecord}
use Rattle.tree_change.specs.Fresh.{HasFresh, IsTakeFault, TakesFresh}
use Rattle.tree_change.specs.Putting.{TakesCounted}
use Rattle.tree_change.specs.Room.{FileHasRoom}
use Rattle.tree_change.specs.Shows.{IsNoTree, IsWholeTree}
use Rattle.tree_change.proofs.ChangeFaultLemmas.{of_chain, of_later}
use Rattle.tree_change.proofs.CountedLemmas.{counted_then}
use Rattle.tree_change.proofs.FreshLemmas.{head_stands}
use Rattle.tree_change.proofs.StaysLemmas.{counted_stays, data_of_room, header_stays, listed_beside, ways_stay}
use Rattle.tree_change.proofs.StepLemmas.{first_has_room, first_written}

-- a link that leads to a block is that block
pub led_is : (link number : ℕ) → StandsIn (led_to link) number → (link ≢ 0) × (link ≡ number)
led_is link number stands = elim (eqb_tells link 0) [
  | inl same ↦ absurd (omega (arith, stands, ap (λ (b : Bool). times (if b then [] else link ∷ []) number) same.0))
  | inr other ↦ (
    other.1,
    only_one link number (subst (λ (b : Bool). StandsIn (if b then [] else link ∷ []) number) other.0 stands),
  )
]

-- the blocks that change where one with room is put before the list are data
pub entering_data : (held : List ℕ) (awaited : Option TreePath) (block : ℕ) (format : Format) (old : List ℕ)
    (heads : Heads) (records : Records)
    → IsWholeTree (loose_of held awaited (Some block)) format old heads records
    → has_room (loose_of held awaited (Some block)) format old heads.blocks block ≡ true
    → (number : ℕ) → StandsIn (block ∷ led_to heads.first) number
    → StandsIn (held ++ data_with (loose_of held awaited (Some block)) old heads.blocks) number
entering_data held awaited block format old heads records tree room number stands =
    let loose : Loose = loose_of held awaited (Some block) in
    stands_right held (data_with loose old heads.blocks) number (elim (cases_eq block number) [
      | inl same ↦ subst (StandsIn (data_with loose old heads.blocks)) same
          (data_of_room loose format old heads records block tree room)
      | inr other ↦ elim (stands_cons block (led_to heads.first) number stands) [
        | inl it ↦ absurd (other it)
        | inr led ↦
            let is = led_is heads.first number led in
            data_of_room loose format old heads records number tree
            (listed_beside held awaited block format old heads records number tree
            (subst (StandsIn tree.chained.chain) is.1
            (head_stands old heads.blocks heads.first tree.chained.chain tree.chained.is_chain is.0)) other)
      ]
    ])

-- Where the entry list leads past the last block, once a block was taken, the file was no tree.
pub entering_refused : (before between now : ℕ) (known : Type 0) (block limit : ℕ) (old new : List ℕ)
    (heads middle : Heads) (fault : ChainFault)
    → before ≤ between → (known → TakesFresh (block ∷ []) old new heads middle)
    → IsChainFault middle.blocks between now (λ number. number ≡ middle.first) fault
    → IsTakeFault before now known old heads limit 1 (of_chain_fault fault)
entering_refused before between now known block limit old new heads middle fault later takes h =
    let wrong : Type 0 = known → (format : Format) → IsNoTree format old heads in
    let full : ℕ → ℕ → Type 0 =
    λ blocks most. (most ≡ limit) × (limit < blocks) × (known → ¬ FileHasRoom old heads limit 1) in
    of_later before between now wrong wrong full full (of_chain_fault fault) later (λ is. is) (λ blocks most is. is)
    (of_chain middle.blocks between now (λ number. number ≡ middle.first) wrong full fault
    (λ number out is known format held awaited records tree.
    let has : HasFresh (block ∷ []) held awaited format old new heads middle records =
    (takes known).each held awaited format records tree in
    elim (head_leads new middle.blocks middle.first has.tree.chained.chain has.tree.chained.is_chain) [
      | inl none ↦ omega (arith, none, is, out, has.tree.two)
      | inr leads ↦ omega (arith, (leads_within middle.blocks middle.first leads).1, is, out)
    ]) h)

module _ (held : List ℕ) (format : Format) (zero one two three : List ℕ) (heads middle : Heads) (records : Records)
    (block id : ℕ) (rec : Rec)
    (small : id < 2 ^ 32) (none : get records id ≡ None) (takes : TakesFresh (block ∷ []) zero one heads middle)
    (put : is_unused (entry_bytes format (block_of one block) 0) ≡ true
    → WritesEntry format block 0 (record { id = id; rec = rec }) one two)
    (keeps : KeepsBlocksBut (block ∷ led_to middle.first) two three) (enters : EntersList two three middle block)
    (tree : IsWholeTree (loose_of held None None) format zero heads records) where
  taken : HasFresh (block ∷ []) held None format zero one heads middle records
  taken = takes.each held None format records tree

  blank : block_of one block ≡ replicate 1024 0
  blank = taken.blank block (omega (arith, times-cons-same block []))

  writes : WritesEntry format block 0 (record { id = id; rec = rec }) one two
  writes = put (ap (λ (bytes : List ℕ). is_unused (entry_bytes format bytes 0)) blank ∙ blank_unused format 0)

  abbrev with_first : Loose
  with_first = loose_of held (Some (record { number = id; block = block })) (Some block)

  written : IsWholeTree with_first format two middle (insert records id rec)
  written = first_written held format one two middle records block 0 id rec small none writes taken.tree blank

  -- the block and the first one of the list are data blocks
  are_data : (number : ℕ) → StandsIn (block ∷ led_to middle.first) number
      → StandsIn (held ++ data_with with_first two middle.blocks) number
  are_data =
      entering_data held (Some (record { number = id; block = block })) block format two middle
      (insert records id rec) written
      (first_has_room held format one two middle records block 0 id rec small none writes taken.tree blank)

  pub added : EntersRecord block id rec 1 held format zero three heads (record middle { first = block }) records
  added = record {
    tree =
        entered held (Some (record { number = id; block = block })) format two three (length two) middle
        (insert records id rec) block written
        (first_has_room held format one two middle records block 0 id rec small none writes taken.tree blank) keeps
        enters (length three) keeps.longer;
    ways = λ other low.
        ways_stay with_first format two three middle (insert records id rec) (block ∷ led_to middle.first) written keeps
        are_data other low
        ∙ ways_stay (loose_of (block ∷ held) None None) format one two middle records (block ∷ []) taken.tree
        writes.keeps in_hand other low
        ∙ taken.ways other low;
    counted = counted_then 1 0 zero one three heads middle (record middle { first = block }) taken_one
        (counted_then 0 0 one two three middle middle (record middle { first = block })
        (counted_stays (loose_of (block ∷ held) None None) format one two middle records (block ∷ []) taken.tree
        writes.keeps in_hand middle refl refl)
        (counted_stays with_first format two three middle (insert records id rec) (block ∷ led_to middle.first) written
        keeps are_data (record middle { first = block }) refl refl));
    same_data = λ none_taken number. absurd (omega (arith, none_taken));
    header =
        header_stays with_first format two three middle (insert records id rec) (block ∷ led_to middle.first)
        written keeps are_data
        ∙ header_stays (loose_of (block ∷ held) None None) format one two middle records (block ∷ []) taken.tree
        writes.keeps in_hand
        ∙ taken.header;
  }
    where
      taken_one : TakesCounted 1 zero one heads middle
      taken_one = takes.counted

      in_hand : (number : ℕ) → StandsIn (block ∷ []) number
          → StandsIn ((block ∷ held) ++ data_with (loose_of (block ∷ held) None None) one middle.blocks) number
      in_hand number stands =
          stands_left (block ∷ held) (data_with (loose_of (block ∷ held) None None) one middle.blocks) number
          (stands_left (block ∷ []) held number stands)
