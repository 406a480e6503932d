-- What stays while blocks change that are held or data: the ways and the free list; and what is there while a leaf is
-- awaited: its entry.
use Rattle.std.proofs.Common.{◌≡◌, ℕ, ◌*◌, ◌^◌, ◌<◌, Bool, true, false, ◌&&◌, List, ◌++◌, Option, Some, refl, sym, ap}
use Rattle.std.proofs.Common.{subst, ◌∙◌, inl, inr, arith}
use Rattle.std.proofs.lemmas.Bool.{cases_lt}
use Rattle.quota_types.specs.Bytes.{number_at}
use Rattle.quota_types.specs.declared.file_kind.Format.{Format}
use Rattle.quota_types.specs.Times.{StandsIn, times}
use Rattle.quota_types.proofs.TimesLemmas.{times-append, times-cons-same}
use Rattle.file_blocks.specs.Block.{block_of}
use Rattle.quota_value.specs.QuotaValue.{Records}
use Rattle.quota_pages.specs.KeptBlocks.{KeepsBlocksBut}
use Rattle.free_chains.specs.Chain.{IsChain}
use Rattle.free_chains.specs.declared.heads.Heads.{Heads}
use Rattle.free_chains.proofs.ChainLemmas.{one_chain}
use Rattle.free_chains.proofs.SpliceLemmas.{chain-stays}
use Rattle.quota_radix.specs.declared.tree_path.TreePath.{TreePath}
use Rattle.quota_radix.specs.Tree.{ids_at, leaves, tree_blocks}
use Rattle.quota_radix.specs.OnWay.{blocks_on_way}
use Rattle.quota_radix.proofs.MoreBlocksLemmas.{KeepsReferences, tree_blocks-among_more, way-among_more}
use Rattle.tree_meaning.specs.Entries.{has_unused, used_ids}
use Rattle.tree_meaning.specs.IsTree.{IsTree}
use Rattle.tree_meaning.specs.Loose.{Loose, loose_of}
use Rattle.tree_meaning.specs.Roles.{counts_as_data, data_with, has_room}
use Rattle.tree_meaning.proofs.MovedLemmas.{times-data_with, times-roles}
use Rattle.block_changes.proofs.OneBlockLemmas.{count_of, one_role}
use Rattle.block_changes.proofs.OneLeafLemmas.{awaited_counts, ids_same}

-- No block changed but such as are held or data.
module _ (was : Loose) (format : Format) (old new numbers : List ℕ) (len : ℕ) (heads : Heads) (records : Records)
    (tree : IsTree was format old len heads records)
    (each : (block : ℕ) → StandsIn numbers block → StandsIn (was.held ++ data_with was old heads.blocks) block)
    (keeps : KeepsBlocksBut numbers old new) where
  -- these are none of the tree, and are not free
  apart : (block : ℕ) → StandsIn numbers block
      → (times (tree_blocks old heads.blocks) block ≡ 0) × (times tree.roles.free block ≡ 0)
  apart block stands =
      let role = each block stands in
      let both = times-append was.held (data_with was old heads.blocks) block in
      let once = one_role was old heads.blocks heads.free tree.roles block in
      let all = times-roles was old heads.blocks tree.roles.free block in (
        omega (arith, role, both, once, all),
        omega (arith, role, both, once, all),
      )

  others : (blocks : List ℕ) → ((block : ℕ) → StandsIn numbers block → times blocks block ≡ 0) → (block : ℕ)
      → StandsIn blocks block → times numbers block ≡ 0
  others blocks none block stands = elim (cases_lt 0 (times numbers block)) [
    | inl changed ↦ absurd (omega (arith, stands, none block changed))
    | inr same ↦ omega (arith, same)
  ]

  keeps_references : KeepsReferences old new heads.blocks (tree_blocks old heads.blocks)
  keeps_references = record {
    inside = tree.roles.references;
    same = λ block stands digit low.
        ap (λ (bytes : List ℕ). number_at 4 bytes (4 * digit))
        (keeps.others block
        (others (tree_blocks old heads.blocks) (λ one changed. (apart one changed).0) block stands));
  }

  pub ways_stay : (id : ℕ) → id < 2 ^ 32 → blocks_on_way new heads.blocks id ≡ blocks_on_way old heads.blocks id
  ways_stay id small = way-among_more old new heads.blocks heads.blocks id (omega arith) small keeps_references

  same_free : IsChain new heads.blocks heads.free tree.roles.free 0
  same_free =
      chain-stays numbers old new heads.blocks heads.free tree.roles.free 0 keeps
      (others tree.roles.free (λ one changed. (apart one changed).1)) tree.roles.is_free

  pub free_stays : (free : List ℕ) → IsChain old heads.blocks heads.free free 0
      → IsChain new heads.blocks heads.free free 0
  free_stays free is =
      subst (λ (chain : List ℕ). IsChain new heads.blocks heads.free chain 0)
      (one_chain old heads.blocks heads.free tree.roles.free 0 free 0 tree.roles.is_free is).0 same_free

  -- the other roles are as they were, so those two together are
  pub held_or_data_stay : (now : Loose) (now_len first : ℕ) (now_records : Records)
      → IsTree now format new now_len (record heads { first = first }) now_records
      → (block : ℕ) → times (now.held ++ data_with now new heads.blocks) block
      ≡ times (was.held ++ data_with was old heads.blocks) block
  held_or_data_stay now now_len first now_records now_tree block = omega (
    arith,
    tree.roles.once block,
    now_tree.roles.once block,
    times-roles was old heads.blocks tree.roles.free block,
    times-roles now new heads.blocks now_tree.roles.free block,
    times-append was.held (data_with was old heads.blocks) block,
    times-append now.held (data_with now new heads.blocks) block,
    ap (λ (xs : List ℕ). times xs block)
        (tree_blocks-among_more old new heads.blocks heads.blocks (omega arith) keeps_references),
    ap (λ (xs : List ℕ). times xs block)
        (one_chain new heads.blocks heads.free tree.roles.free 0 now_tree.roles.free 0 same_free
        now_tree.roles.is_free).0,
  )

module _ (held : List ℕ) (misplaced : Option ℕ) (format : Format) (file : List ℕ) (len : ℕ) (heads : Heads)
    (records : Records) (leaf : TreePath)
    (tree : IsTree (loose_of held (Some leaf) misplaced) format file len heads records) where
  pub awaited_data : StandsIn (data_with (loose_of held (Some leaf) misplaced) file heads.blocks) leaf.block
  awaited_data = omega (
    arith,
    times-data_with (loose_of held (Some leaf) misplaced) file heads.blocks leaf.block tree.awaited,
    ap count_of (awaited_counts held misplaced file heads.blocks leaf),
  )

  pub awaited_entry : times (used_ids format (block_of file leaf.block)) leaf.number ≡ 1
  awaited_entry = tree.filled.one_entry leaf.block leaf.number
      (subst (λ (ids : List ℕ). StandsIn ids leaf.number) (sym (ids_same leaf (leaves file heads.blocks)))
      (omega (arith, times-cons-same leaf.number (ids_at (leaves file heads.blocks) leaf.block))))

pub full_no_room : (loose : Loose) (format : Format) (file : List ℕ) (blocks block : ℕ)
    → has_unused format (block_of file block) ≡ false → has_room loose format file blocks block ≡ false
full_no_room loose format file blocks block full =
    ap (λ (b : Bool). counts_as_data loose file blocks block && b) full
    ∙ and_false (counts_as_data loose file blocks block)
  where
    and_false : (b : Bool) → (b && false) ≡ false
    and_false true = refl
    and_false false = refl
