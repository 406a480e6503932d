-- A record that is put: why it was not, and what the steps make of a tree together.
use Rattle.std.proofs.Common.{◌≡◌, ◌≢◌, ℕ, ◌+◌, ◌-◌, ◌^◌, ◌<◌, ◌≤◌, Bool, if◌then◌else◌, List, length, take, slice_get}
use Rattle.std.proofs.Common.{get_or, ◌⊎◌, Option, Some, None, sym, ap, subst, ◌∙◌, inl, inr, arith, eq-eqb, ne_eqb}
use Rattle.std.proofs.Common.{le-ltb, lt-ltb}
use Rattle.std.proofs.lemmas.List.{take_all}
use Rattle.std.proofs.lemmas.Option.{slice_get_cases}
use Rattle.std.specs.FinMap.{get, insert}
use Rattle.std.specs.Option.{option_and_then}
use Rattle.quota_types.specs.declared.damage.Damage.{Damage}
use Rattle.quota_types.specs.declared.damage.DamageKind.{DamageKind}
use Rattle.quota_types.specs.declared.damage.DamageKind.TheVariants.{RefOut}
use Rattle.quota_types.specs.declared.file_kind.Format.{Format}
use Rattle.quota_types.specs.declared.record.Rec.{Rec}
use Rattle.file_blocks.specs.Block.{block_of}
use Rattle.quota_value.specs.QuotaValue.{Records}
use Rattle.quota_radix.specs.Descent.{leaf_block}
use Rattle.quota_radix.specs.Lookup.{IsWayFault, IsWayFaultOf}
use Rattle.quota_radix.specs.TreeDefect.{IsRefOut}
use Rattle.quota_radix.specs.WalkFault.{IsWalkFault}
use Rattle.quota_radix.specs.Way.{IsOutOnWay}
use Rattle.quota_radix.specs.OnWay.{blocks_on_way}
use Rattle.quota_radix.specs.declared.tree_path.TreePath.{TreePath}
use Rattle.quota_radix.specs.declared.walk_fault.WalkFault.{WalkFault}
use Rattle.quota_radix.specs.declared.walk_fault.WalkFault.TheVariants.{Store as NoStore, Damage as Damages}
use Rattle.quota_radix.proofs.InsideLemmas.{out_on_way}
use Rattle.quota_radix.proofs.LeafLemmas.{no_leaf_of_block}
use Rattle.free_chains.specs.Chain.{IsChain}
use Rattle.free_chains.specs.declared.heads.Heads.{Heads}
use Rattle.tree_meaning.specs.Loose.{loose_of}
use Rattle.tree_meaning.specs.TreeFile.{record_in}
use Rattle.tree_change.specs.declared.change_fault.ChangeFault.{ChangeFault}
use Rattle.tree_change.specs.ChangeFault.{IsChangeFault, IsStepFault, of_walk_fault}
use Rattle.tree_change.specs.Enters.{EntersRecord}
use Rattle.tree_change.specs.Fresh.{IsTakeFault}
use Rattle.tree_change.specs.Leads.{LeadsLeaf}
use Rattle.tree_change.specs.Overwrites.{OverwritesRecord}
use Rattle.tree_change.specs.Putting.{IsEnterFault, IsPutFault, IsPutInFault, PutsIn, TakesCounted}
use Rattle.tree_change.specs.BlocksWanted.{blocks_taken, blocks_wanted, blocks_with, data_wanted}
use Rattle.tree_change.specs.Room.{FileHasRoom, LeavesRoom, NeedsBlocks}
use Rattle.tree_change.specs.Shows.{IsNoCompleteTree, IsNoTree, IsWholeTree}
use Rattle.tree_change.proofs.ChangeFaultLemmas.{of_later}
use Rattle.tree_change.proofs.FreedLemmas.{free_are}
use Rattle.tree_change.proofs.CountedLemmas.{counted_then, room_after}
use Rattle.tree_change.proofs.FreshLemmas.{room_for_fewer}

pub wanted_one : (heads : Heads) → heads.first ≡ 0 → data_wanted heads ≡ 1
wanted_one heads none = ap (λ (b : Bool). if b then 1 else 0) (eq-eqb heads.first 0 none)

pub wanted_none : (heads : Heads) → heads.first ≢ 0 → data_wanted heads ≡ 0
wanted_none heads some = ap (λ (b : Bool). if b then 1 else 0) (ne_eqb heads.first 0 some)

-- what takes blocks was refused, so the record was not entered
pub take_enters : (before now : ℕ) (known : Type 0) (format : Format) (file : List ℕ) (heads : Heads) (limit count : ℕ)
    (fault : ChangeFault)
    → IsTakeFault before now known file heads limit count fault
    → IsEnterFault before now known format file heads limit count fault
take_enters before now known format file heads limit count fault h =
    of_later before before now (known → (every : Format) → IsNoTree every file heads)
    (known → IsNoTree format file heads)
    (λ blocks most. (most ≡ limit) × (limit < blocks) × (known → ¬ FileHasRoom file heads limit count))
    (λ blocks most. (most ≡ limit) × (limit < blocks) × (known → ¬ FileHasRoom file heads limit count))
    fault (omega arith)
    (λ wrong is. wrong is format) (λ blocks most full. full) h

-- nor was it where a step that takes none was refused
pub step_enters : (before now : ℕ) (known : Type 0) (format : Format) (file : List ℕ) (heads : Heads) (limit count : ℕ)
    (fault : ChangeFault)
    → IsStepFault before now (known → IsNoTree format file heads) fault
    → IsEnterFault before now known format file heads limit count fault
step_enters before now known format file heads limit count fault h =
    of_later before before now (known → IsNoTree format file heads) (known → IsNoTree format file heads)
    (λ blocks most. ⊥)
    (λ blocks most. (most ≡ limit) × (limit < blocks) × (known → ¬ FileHasRoom file heads limit count))
    fault (omega arith)
    (λ wrong. wrong) (λ blocks most none. absurd none) h

-- A tree can go on: it is one, whatever is held of it and whether a leaf is awaited, and there is room for this many
-- blocks.
pub record CanGoOn (format : Format) (file : List ℕ) (heads : Heads) (limit count : ℕ) : Type 0 where
  pub held : List ℕ
  pub awaited : Option TreePath
  pub records : Records
  pub tree : IsWholeTree (loose_of held awaited None) format file heads records
  pub room : FileHasRoom file heads limit count

-- A step behind others was refused, though a tree could go on: so the file was none.
pub step_refused : (before between now : ℕ) (known still : Type 0) (format : Format) (old new : List ℕ)
    (heads middle : Heads) (limit need count : ℕ) (fault : ChangeFault) → before ≤ between → (known → still)
    → (known → (held : List ℕ) (records : Records) → IsWholeTree (loose_of held None None) format old heads records
    → CanGoOn format new middle limit count)
    → IsEnterFault between now still format new middle limit count fault
    → IsPutFault before now known format old heads limit need fault
step_refused before between now known still format old new heads middle limit need count fault later stays goes h =
    of_later before between now (still → IsNoTree format new middle) (known → IsNoCompleteTree format old heads)
    (λ blocks most. (most ≡ limit) × (limit < blocks) × (still → ¬ FileHasRoom new middle limit count))
    (λ blocks most. (most ≡ limit) × (limit < blocks)
    × (known → (held : List ℕ) (records : Records) → IsWholeTree (loose_of held None None) format old heads records
    → NeedsBlocks old heads need blocks))
    fault later
    (λ wrong is held records tree. let on = goes is held records tree in
    wrong (stays is) on.held on.awaited on.records on.tree)
    (λ blocks most full.
    (full.0, full.1, λ is held records tree. absurd (full.2 (stays is) (goes is held records tree).room))) h

-- There was no room from the start.
pub no_room_refused : (before now : ℕ) (known still : Type 0) (format : Format) (file : List ℕ) (heads : Heads)
    (limit need : ℕ) (fault : ChangeFault) → (known → still)
    → IsChangeFault before now (still → (every : Format) → IsNoTree every file heads)
    (λ blocks most. (most ≡ limit) × (limit < blocks) × (still → NeedsBlocks file heads need blocks)) fault
    → IsPutFault before now known format file heads limit need fault
no_room_refused before now known still format file heads limit need fault stays h =
    of_later before before now (still → (every : Format) → IsNoTree every file heads)
    (known → IsNoCompleteTree format file heads)
    (λ blocks most. (most ≡ limit) × (limit < blocks) × (still → NeedsBlocks file heads need blocks))
    (λ blocks most. (most ≡ limit) × (limit < blocks)
    × (known → (held : List ℕ) (records : Records) → IsWholeTree (loose_of held None None) format file heads records
    → NeedsBlocks file heads need blocks))
    fault (omega arith)
    (λ wrong is held records tree. wrong (stays is) format held None records tree)
    (λ blocks most full. (full.0, full.1, λ is held records tree. full.2 (stays is))) h

-- where there is room for this many blocks, a tree has it
pub tree_has_room : (format : Format) (file : List ℕ) (heads : Heads) (limit need few : ℕ) (held : List ℕ)
    (records : Records) → few ≤ need
    → ((free : List ℕ) → IsChain file heads.blocks heads.free free 0 → LeavesRoom heads limit need free)
    → IsWholeTree (loose_of held None None) format file heads records → FileHasRoom file heads limit few
tree_has_room format file heads limit need few held records fewer room tree =
    room_for_fewer file heads limit few need fewer
    (record { free = tree.roles.free; is_free = tree.roles.is_free; room = room tree.roles.free tree.roles.is_free })

pub goes_on : (format : Format) (old between : List ℕ) (heads : Heads) (limit need few : ℕ) (held : List ℕ)
    (records : Records) → between ≡ old → few ≤ need
    → ((free : List ℕ) → IsChain old heads.blocks heads.free free 0 → LeavesRoom heads limit need free)
    → IsWholeTree (loose_of held None None) format old heads records → CanGoOn format between heads limit few
goes_on format old between heads limit need few held records same fewer room tree = record {
  held = held;
  awaited = None;
  records = records;
  tree = subst (λ (file : List ℕ). IsWholeTree (loose_of held None None) format file heads records) (sym same) tree;
  room = subst (λ (file : List ℕ). FileHasRoom file heads limit few) (sym same)
      (tree_has_room format old heads limit need few held records fewer room tree);
}

pub goes_on_entered : (format : Format) (old new : List ℕ) (heads middle : Heads) (limit taken more need block id : ℕ)
    (rec : Rec) (held : List ℕ) (records : Records) → taken + more ≤ need
    → FileHasRoom old heads limit need → EntersRecord block id rec taken held format old new heads middle records
    → CanGoOn format new middle limit more
goes_on_entered format old new heads middle limit taken more need block id rec held records fewer room enters = record {
  held = held;
  awaited = Some (record { number = id; block = block });
  records = insert records id rec;
  tree = enters.tree;
  room = room_after taken more limit old new heads middle enters.counted
      (room_for_fewer old heads limit (taken + more) need fewer room);
}

-- an identifier whose way leads to no data block has no record
pub no_record_of : (held : List ℕ) (format : Format) (file : List ℕ) (heads : Heads) (records : Records) (id : ℕ)
    → id < 2 ^ 32 → leaf_block file heads.blocks id ≡ None
    → IsWholeTree (loose_of held None None) format file heads records → get records id ≡ None
no_record_of held format file heads records id small none tree =
    tree.each_record id
    ∙ ap (option_and_then (λ (leaf : TreePath). record_in format (block_of file leaf.block) id))
    (no_leaf_of_block file heads.blocks id small (sym none))

-- the blocks of a way that leads to no data block are four at most
pub short_way_found : (found : List ℕ) → slice_get found 4 ≡ None → length found ≤ 4
short_way_found found none = few (slice_get_cases found 4).1
  where
    few : ((x : ℕ) × (4 < length found) × (slice_get found 4 ≡ Some x) × (get_or found 4 x ≡ x))
        ⊎ ((length found ≤ 4) × (slice_get found 4 ≡ None)) → length found ≤ 4
    few (inl there) = absurd (let both : None ≡ Some there.0 = sym none ∙ there.2 in cc)
    few (inr past) = past.0

pub whole_way_found : (found : List ℕ) → slice_get found 4 ≡ None → take 4 found ≡ found
whole_way_found found none = take_all 4 found (short_way_found found none)

-- An identifier whose way has four blocks at most takes those that the way lacks, and the data blocks that are needed.
pub taken_absent : (file : List ℕ) (heads : Heads) (id : ℕ) → length (blocks_on_way file heads.blocks id) ≤ 4
    → blocks_taken file heads id ≡ (4 - length (blocks_on_way file heads.blocks id)) + data_wanted heads
taken_absent file heads id few =
    ap (λ (b : Bool). if b then 0 else blocks_wanted file heads id)
    (le-ltb 4 (length (blocks_on_way file heads.blocks id)) few)

pub taken_present : (file : List ℕ) (heads : Heads) (id : ℕ) → 4 < length (blocks_on_way file heads.blocks id)
    → blocks_taken file heads id ≡ 0
taken_present file heads id many =
    ap (λ (b : Bool). if b then 0 else blocks_wanted file heads id)
    (lt-ltb 4 (length (blocks_on_way file heads.blocks id)) many)

-- a way that leads to a data block has five blocks
pub long_way_found : (found : List ℕ) (block : ℕ) → slice_get found 4 ≡ Some block → 4 < length found
long_way_found found block is = many (slice_get_cases found 4).1
  where
    many : ((x : ℕ) × (4 < length found) × (slice_get found 4 ≡ Some x) × (get_or found 4 x ≡ x))
        ⊎ ((length found ≤ 4) × (slice_get found 4 ≡ None)) → 4 < length found
    many (inl there) = there.1
    many (inr past) = absurd (let both : None ≡ Some block = sym past.1 ∙ is in cc)

-- The record was entered, and the way was led to it.
pub put_whole : (held : List ℕ) (format : Format) (old between new found : List ℕ) (heads middle last : Heads)
    (records : Records) (block id : ℕ) (rec : Rec) → id < 2 ^ 32
    → found ≡ blocks_on_way old heads.blocks id → length found ≤ 4
    → EntersRecord block id rec (data_wanted heads) held format old between heads middle records
    → (found ≡ blocks_on_way between middle.blocks id
    → IsWholeTree (loose_of held (Some (record { number = id; block = block })) None) format between middle
    (insert records id rec)
    → LeadsLeaf (4 - length found) (record { number = id; block = block }) held format between new middle last
    (insert records id rec))
    → PutsIn id rec held format old new heads last records
put_whole held format old between new found heads middle last records block id rec small way few enters leads =
    let led = leads (way ∙ sym (enters.ways id small)) enters.tree in
    let same : length found ≡ length (blocks_on_way old heads.blocks id) = ap {B = ℕ} length way in
    record {
      tree = led.tree;
      counted = subst (λ (count : ℕ). TakesCounted count old new heads last)
          (let e : data_wanted heads + (4 - length found) ≡ blocks_taken old heads id =
          omega (arith, same, taken_absent old heads id (omega (arith, same, few))) in e)
          (counted_then (data_wanted heads) (4 - length found) old between new heads middle last
          enters.counted led.counted);
      same_data = λ some number. led.same_data number ∙ enters.same_data (wanted_none heads some) number;
      header = led.header ∙ enters.header;
    }

-- The record was overwritten.
pub put_over_whole : (held : List ℕ) (format : Format) (old new : List ℕ) (heads : Heads) (records : Records) (id : ℕ)
    (rec : Rec) → 4 < length (blocks_on_way old heads.blocks id)
    → OverwritesRecord id rec held format old new heads records → PutsIn id rec held format old new heads heads records
put_over_whole held format old new heads records id rec many over = record {
  tree = over.tree;
  counted = subst (λ (count : ℕ). TakesCounted count old new heads heads)
      (sym (taken_present old heads id many)) over.counted;
  same_data = λ some number. over.same_data number;
  header = over.header;
}

-- Where the file is full it would have as many blocks as with the record.
pub put_refused : (before now : ℕ) (known : Type 0) (format : Format) (file : List ℕ) (heads : Heads) (limit id : ℕ)
    (fault : ChangeFault)
    → IsPutFault before now known format file heads limit (blocks_taken file heads id) fault
    → IsPutInFault before now known format file heads limit id fault
put_refused before now known format file heads limit id fault h =
    of_later before before now (known → IsNoCompleteTree format file heads) (known → IsNoCompleteTree format file heads)
    (λ blocks most. (most ≡ limit) × (limit < blocks)
    × (known → (held : List ℕ) (records : Records) → IsWholeTree (loose_of held None None) format file heads records
    → NeedsBlocks file heads (blocks_taken file heads id) blocks))
    (λ blocks most. (most ≡ limit) × (limit < blocks)
    × (known → (held : List ℕ) (records : Records) → IsWholeTree (loose_of held None None) format file heads records
    → blocks ≡ blocks_with file heads id))
    fault (omega arith) (λ wrong. wrong)
    (λ blocks most full. (
      full.0,
      full.1,
      λ is held records tree.
          let free : List ℕ = tree.roles.free in
          (full.2 is held records tree).sum free tree.roles.is_free
          ∙ ap (λ (xs : List ℕ). heads.blocks + (blocks_taken file heads id - length xs))
          (sym (free_are file heads free tree.roles.is_free)),
    )) h

-- A step behind others was not done, of the same file: why that was so, with a number of needed blocks that is another
-- one where the file is known.
pub wanted_as : (before between now : ℕ) (known still : Type 0) (format : Format) (file : List ℕ) (heads : Heads)
    (limit need wanted : ℕ) (fault : ChangeFault) → before ≤ between → (still → known) → (still → need ≡ wanted)
    → IsPutFault between now known format file heads limit need fault
    → IsPutFault before now still format file heads limit wanted fault
wanted_as before between now known still format file heads limit need wanted fault later stays same h =
    of_later before between now (known → IsNoCompleteTree format file heads)
    (still → IsNoCompleteTree format file heads)
    (λ blocks most. (most ≡ limit) × (limit < blocks)
    × (known → (held : List ℕ) (records : Records) → IsWholeTree (loose_of held None None) format file heads records
    → NeedsBlocks file heads need blocks))
    (λ blocks most. (most ≡ limit) × (limit < blocks)
    × (still → (held : List ℕ) (records : Records) → IsWholeTree (loose_of held None None) format file heads records
    → NeedsBlocks file heads wanted blocks))
    fault later (λ wrong is. wrong (stays is))
    (λ blocks most full. (
      full.0,
      full.1,
      λ is held records tree.
          subst (λ (n : ℕ). NeedsBlocks file heads n blocks) (same is) (full.2 (stays is) held records tree),
    )) h

-- A record was not overwritten.
pub over_refused : (before between now : ℕ) (known still : Type 0) (format : Format) (old new : List ℕ) (heads : Heads)
    (limit need block id : ℕ) (fault : ChangeFault) → before ≤ between → (still → known) → new ≡ old
    → (still → leaf_block old heads.blocks id ≡ Some block)
    → IsStepFault between now
    (known → (these : Heads) → leaf_block new these.blocks id ≡ Some block → IsNoCompleteTree format new these) fault
    → IsPutFault before now still format old heads limit need fault
over_refused before between now known still format old new heads limit need block id fault later stays same led h =
    of_later before between now
    (known → (these : Heads) → leaf_block new these.blocks id ≡ Some block → IsNoCompleteTree format new these)
    (still → IsNoCompleteTree format old heads)
    (λ blocks most. ⊥)
    (λ blocks most. (most ≡ limit) × (limit < blocks)
    × (still → (held : List ℕ) (records : Records) → IsWholeTree (loose_of held None None) format old heads records
    → NeedsBlocks old heads need blocks))
    fault later
    (λ wrong is held records tree. wrong (stays is) heads
    (subst (λ (file : List ℕ). leaf_block file heads.blocks id ≡ Some block) (sym same) (led is)) held records
    (subst (λ (file : List ℕ). IsWholeTree (loose_of held None None) format file heads records) (sym same) tree))
    (λ blocks most none. absurd none) h

-- A reference on the way leads past the last block.
pub way_refused : (before now : ℕ) (known : Type 0) (there : Damage → Type 0) (format : Format) (file : List ℕ)
    (heads : Heads) (limit need id : ℕ) (fault : WalkFault)
    → IsWalkFault before now
    (λ damage. (damage.kind ≡ RefOut) × there damage × (known → IsOutOnWay file heads.blocks id damage.block)) fault
    → IsPutFault before now known format file heads limit need (of_walk_fault fault)
way_refused before now known there format file heads limit need id NoStore h = h
way_refused before now known there format file heads limit need id (Damages damage) h = (
  h.0,
  λ is held records tree.
      let fault : IsWayFault file heads.blocks damage = out_on_way file heads.blocks id damage h.1.0 h.0 (h.1.2 is) in
      let ref : IsRefOut file heads.blocks damage.block =
      subst (λ (kind : DamageKind). IsWayFaultOf file heads.blocks kind damage.block) h.1.0 fault.fault in
      omega (arith, ref.out, tree.roles.references damage.block ref.tree ref.digit ref.is_digit),
)
