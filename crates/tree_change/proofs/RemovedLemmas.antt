-- An entry that is removed from a block of a tree, with what follows of it for the lists.
use Rattle.std.proofs.Common.{◌≡◌, ℕ, ◌≤◌, List, [], ◌∷◌, ◌++◌, length, Option, Some, None, inl, inr, refl, sym, subst}
use Rattle.std.proofs.Common.{◌∙◌, arith}
use Rattle.std.specs.FinMap.{remove}
use Rattle.quota_types.specs.Times.{StandsIn, times}
use Rattle.quota_types.specs.declared.file_kind.Format.{Format}
use Rattle.quota_types.proofs.TimesLemmas.{only_one, stands_right, times-append, times-cons-same}
use Rattle.file_blocks.proofs.LeadsLemmas.{leads_within}
use Rattle.quota_value.specs.QuotaValue.{Records}
use Rattle.quota_pages.specs.KeptBlocks.{KeepsBlocksBut}
use Rattle.quota_radix.specs.Tree.{data_blocks}
use Rattle.free_chains.specs.EntryList.{EntersList}
use Rattle.free_chains.specs.FreeList.{GivesBlock}
use Rattle.free_chains.specs.Links.{led_to}
use Rattle.free_chains.specs.declared.heads.Heads.{Heads}
use Rattle.free_chains.proofs.SpliceLemmas.{head_leads}
use Rattle.tree_meaning.specs.Loose.{Loose, loose_of}
use Rattle.tree_meaning.specs.Roles.{data_with}
use Rattle.tree_meaning.proofs.ListedLemmas.{entered}
use Rattle.tree_meaning.proofs.MovedLemmas.{times-roles}
use Rattle.tree_meaning.proofs.TakenLemmas.{given}
use Rattle.block_changes.specs.EntryChanges.{LosesEntry}
use Rattle.block_changes.proofs.ClearedLemmas.{cleared_of_full, cleared_with_room, last_cleared, last_room, room_now}
use Rattle.block_changes.proofs.KeptLemmas.{awaited_data}
use Rattle.block_changes.proofs.OneBlockLemmas.{one_role}
use Rattle.tree_change.specs.declared.clearing.Cleared.TheVariants.{Last, WasFull, HadRoom}
use Rattle.tree_change.specs.Removes.{AwaitsInNoTree, EntersTree, GivesTree, IsNoTreeMisplacing, IsNoTreeOf, LeavesTree}
use Rattle.tree_change.specs.Removes.{RemovesEntry}
use Rattle.tree_change.specs.Clears.{LosesRecord}
use Rattle.tree_change.specs.Freed.{free_blocks}
use Rattle.tree_change.specs.FreedTree.{BecomesTree, FreesBeside}
use Rattle.tree_change.specs.Shows.{IsWholeTree}
use Rattle.tree_change.proofs.AddedLemmas.{entering_data}
use Rattle.tree_change.proofs.FreedLemmas.{beside_then, free_are, frees_one, named_one, unnamed_one}
use Rattle.tree_change.proofs.StaysLemmas.{data_stays, none_freed}

-- a head past the last block is one of no tree
pub entering_no_tree : (format : Format) (file : List ℕ) (heads : Heads) → heads.blocks ≤ heads.first
    → IsNoTreeOf format file heads
entering_no_tree format file heads out =
    λ loose records tree. elim (head_leads file heads.blocks heads.first tree.chained.chain tree.chained.is_chain) [
      | inl none ↦ omega (arith, none, tree.two, out)
      | inr leads ↦ omega (arith, (leads_within heads.blocks heads.first leads).1, out)
    ]

-- a block was put before the list
pub enters_tree : (format : Format) (block : ℕ) (old new : List ℕ) (heads now : Heads)
    → now ≡ record heads { first = block } → KeepsBlocksBut (block ∷ led_to heads.first) old new
    → EntersList old new heads block → EntersTree format block old new heads now
enters_tree format block old new heads now is keeps enters = λ held awaited records room tree.
    subst (λ (h : Heads). BecomesTree (loose_of held awaited None) [] format old new heads h records) (sym is) (
      entered held awaited format old new (length old) heads records block tree room keeps enters
          (length new) keeps.longer,
      none_freed (loose_of held awaited (Some block)) format old new heads records
          (block ∷ led_to heads.first) tree keeps
          (entering_data held awaited block format old heads records tree room) block,
    )

-- a block left the list, and was given then
pub gives_tree : (format : Format) (block : ℕ) (old between new : List ℕ) (heads middle now : Heads)
    → now ≡ record middle { free = block } → LeavesTree format block old between heads middle
    → KeepsBlocksBut (block ∷ []) between new → GivesBlock between new middle block
    → GivesTree format block old new heads now
gives_tree format block old between new heads middle now is leaves keeps gives = λ held awaited records room tree.
    let role : StandsIn
    ((block ∷ held) ++ data_with (loose_of (block ∷ held) awaited (Some block)) old heads.blocks) block =
    omega (
      arith,
      times-append (block ∷ held) (data_with (loose_of (block ∷ held) awaited (Some block)) old heads.blocks) block,
      times-cons-same block held,
    ) in
    let left = leaves (block ∷ held) awaited records role room tree in
    subst
    (λ (h : Heads). BecomesTree (loose_of held awaited None) (block ∷ []) format old new heads h records) (sym is) (
      given held awaited format between new (length between) middle records block keeps gives left.0
          (length new) keeps.longer,
      beside_then [] (block ∷ []) old between new heads middle (record middle { free = block }) left.1
          (frees_one held awaited format between new middle records block keeps left.0 gives),
    )

-- What an entry that was cleared leaves of a tree in which its leaf was awaited: the block was data, and is where it is
-- not held.
module _ (format : Format) (id block place : ℕ) (old new : List ℕ) (heads : Heads)
    (loses : LosesEntry format block place id old new)
    (held : List ℕ) (records : Records)
    (tree : IsWholeTree (loose_of held (Some (record { number = id; block = block })) None) format old
    heads records) where
  abbrev was : Loose
  was = loose_of held (Some (record { number = id; block = block })) None

  was_data : StandsIn (data_with was old heads.blocks) block
  was_data = awaited_data held None format old (length old) heads records (record { number = id; block = block }) tree

  in_data : (number : ℕ) → StandsIn (block ∷ []) number → StandsIn (held ++ data_with was old heads.blocks) number
  in_data number stands =
      stands_right held (data_with was old heads.blocks) number
      (subst (StandsIn (data_with was old heads.blocks)) (only_one block number stands) was_data)

  clearing_frees : FreesBeside [] old new heads heads
  clearing_frees = none_freed was format old new heads records (block ∷ []) tree loses.keeps in_data heads.first

  still_named : (misplaced : Option ℕ) → IsWholeTree (loose_of held None misplaced) format new heads (remove records id)
      → StandsIn (data_blocks new heads.blocks) block
  still_named misplaced after = omega (
    arith,
    was_data,
    data_stays was format old new heads records (block ∷ []) tree loses.keeps in_data (loose_of held None misplaced)
        heads.first (remove records id) after (λ number. refl) block,
  )

-- the block had room, and has others
pub removed_with_room : (format : Format) (id block : ℕ) (old new : List ℕ) (heads : Heads)
    → LosesRecord format block id HadRoom old new → RemovesEntry format id block old new heads heads
removed_with_room format id block old new heads lost = λ held records tree.
    let after = cleared_with_room held format old new (length old) heads records block lost.place id tree lost.loses
    lost.left.0 (length new) lost.left.1 lost.loses.keeps.longer in
    let named = still_named format id block lost.place old new heads lost.loses held records tree None after in (
      after,
      subst (λ (freed : List ℕ). FreesBeside freed old new heads heads) (sym (named_one new heads.blocks block named))
          (clearing_frees format id block lost.place old new heads lost.loses held records tree),
    )

module _ (format : Format) (id block : ℕ) (old between : List ℕ) (heads : Heads)
    (lost : LosesRecord format block id WasFull old between) where
  misplaced : (held : List ℕ) (records : Records)
      → IsWholeTree (loose_of held (Some (record { number = id; block = block })) None) format old heads records
      → IsWholeTree (loose_of held None (Some block)) format between heads (remove records id)
  misplaced held records tree =
      cleared_of_full held format old between (length old) heads records block lost.place id tree lost.loses lost.left.0
      (length between) lost.left.1 lost.loses.keeps.longer

  -- it was full, and entered the list
  pub removed_of_full : (new : List ℕ) (now : Heads) → EntersTree format block between new heads now
      → RemovesEntry format id block old new heads now
  removed_of_full new now enters = λ held records tree.
      let after = enters held None (remove records id)
      (room_now held format old between (length old) heads records block lost.place id tree lost.loses lost.left.0)
      (misplaced held records tree) in
      let named = subst (λ (numbers : List ℕ). StandsIn numbers block) (sym after.1.named)
      (still_named format id block lost.place old between heads lost.loses held records tree (Some block)
      (misplaced held records tree)) in (
        after.0,
        subst (λ (freed : List ℕ). FreesBeside freed old new heads now) (sym (named_one new now.blocks block named))
            (beside_then [] [] old between new heads heads now
            (clearing_frees format id block lost.place old between heads lost.loses held records tree) after.1),
      )

  pub full_in_no_tree : IsNoTreeOf format between heads → AwaitsInNoTree format old heads id block
  full_in_no_tree wrong =
      λ held records tree. wrong (loose_of held None (Some block)) (remove records id) (misplaced held records tree)

module _ (format : Format) (id block : ℕ) (old between : List ℕ) (heads : Heads)
    (lost : LosesRecord format block id Last old between) where
  without : (held : List ℕ) (records : Records)
      → IsWholeTree (loose_of held (Some (record { number = id; block = block })) None) format old heads records
      → IsWholeTree (loose_of (block ∷ held) None (Some block)) format between heads (remove records id)
  without held records tree =
      last_cleared held format old between (length old) heads records block lost.place id tree lost.loses lost.left
      (length between) lost.loses.keeps.longer

  -- it has no entry, and is free
  pub removed_last : (new : List ℕ) (now : Heads) → GivesTree format block between new heads now
      → RemovesEntry format id block old new heads now
  removed_last new now gives = λ held records tree.
      let after = gives held None (remove records id)
      (last_room held format old between (length old) heads records block lost.place id tree lost.loses lost.left)
      (without held records tree) in
      let free : StandsIn after.0.roles.free block = subst (λ (numbers : List ℕ). StandsIn numbers block)
      (sym after.1.frees.list ∙ free_are new now after.0.roles.free after.0.roles.is_free)
      (omega (arith, times-cons-same block (free_blocks between heads))) in
      let none : times (data_blocks new now.blocks) block ≡ 0 = omega (
        arith,
        free,
        one_role (loose_of held None None) new now.blocks now.free after.0.roles block,
        times-roles (loose_of held None None) new now.blocks after.0.roles.free block,
      ) in (
        after.0,
        subst (λ (freed : List ℕ). FreesBeside freed old new heads now) (sym (unnamed_one new now.blocks block none))
            (beside_then [] (block ∷ []) old between new heads heads now
            (clearing_frees format id block lost.place old between heads lost.loses held records tree) after.1),
      )

  pub last_in_no_tree : IsNoTreeMisplacing format between heads block → AwaitsInNoTree format old heads id block
  last_in_no_tree wrong = λ held records tree.
      wrong (block ∷ held) None (remove records id)
      (last_room held format old between (length old) heads records block lost.place id tree lost.loses lost.left)
      (without held records tree)
