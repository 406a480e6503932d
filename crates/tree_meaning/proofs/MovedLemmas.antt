-- A tree whose entries stay and whose lists change.
use Rattle.std.proofs.Common.{◌≡◌, ℕ, ◌+◌, ◌*◌, ◌<◌, ◌≤◌, Bool, false, true≢false, ◌&&◌, if◌then◌else◌, nat_lt, List}
use Rattle.std.proofs.Common.{[], ◌∷◌, ◌++◌, Option, Some, None, sym, ap, subst, ◌∙◌, inl, inr, arith, zero-le}
use Rattle.std.specs.Prelude.{IfSome}
use Rattle.std.specs.List.{range_with_len}
use Rattle.std.proofs.lemmas.Bool.{cases_Bool, cases_lt, le-leb}
use Rattle.quota_types.specs.Bytes.{number_at}
use Rattle.quota_types.specs.Format.{record_size}
use Rattle.quota_types.specs.declared.file_kind.Format.{Format}
use Rattle.quota_types.specs.Times.{StandsIn, times}
use Rattle.quota_types.proofs.TimesLemmas.{only_one, times-append, times-filter-no, times-filter-yes}
use Rattle.quota_types.proofs.TimesLemmas.{times-range-within}
use Rattle.file_blocks.specs.Block.{block_of}
use Rattle.quota_value.specs.QuotaValue.{Records}
use Rattle.quota_types.specs.KeptBytes.{KeepsOutside}
use Rattle.file_blocks.proofs.LeadsLemmas.{leads_from, leads_within}
use Rattle.file_blocks.proofs.WordLemmas.{length-block_of, same_part}
use Rattle.quota_types.proofs.BytesLemmas.{number_same}
use Rattle.quota_pages.specs.KeptBlocks.{KeepsBlocksBut}
use Rattle.free_chains.specs.Chain.{IsChain}
use Rattle.free_chains.specs.EntryList.{NamesPrevious}
use Rattle.free_chains.specs.declared.heads.Heads.{Heads}
use Rattle.free_chains.proofs.SpliceLemmas.{chain-more, chain-stays, names-stay, none_of_one}
use Rattle.quota_radix.specs.declared.tree_path.TreePath.{TreePath}
use Rattle.quota_radix.specs.Tree.{blocks_of, leaves, numbers_of, tree_blocks}
use Rattle.tree_meaning.specs.Entries.{entry_bytes, has_unused}
use Rattle.tree_meaning.specs.IsTree.{IsAwaited, IsTree}
use Rattle.tree_meaning.specs.KeepsEntries.{IsNamed, KeepsEntries}
use Rattle.tree_meaning.specs.Loose.{Loose, but_misplaced, loose_of}
use Rattle.tree_meaning.specs.Roles.{counted_leaves, counts_as_data, data_with, has_room, roles}
use Rattle.tree_meaning.proofs.FrameLemmas.{data_leads, filled_kept, paths_kept, records_kept, references_kept}
use Rattle.tree_meaning.proofs.FrameLemmas.{roles_kept, room_kept}

-- Where no block of the tree changed, and of the data blocks none but in its links, the tree and the entries stay.
pub keeps_entries : (loose : Loose) (format : Format) (blocks more : ℕ) (old new numbers : List ℕ) → blocks ≤ more
    → KeepsBlocksBut numbers old new
    → ((block : ℕ) → StandsIn numbers block → times (tree_blocks old blocks) block ≡ 0)
    → ((block : ℕ) → StandsIn numbers block → IsNamed loose old blocks block
    → KeepsOutside 0 8 (block_of old block) (block_of new block))
    → KeepsEntries loose format blocks more old new
keeps_entries loose format blocks more old new numbers grows keeps no_tree links = record {
  at_least = grows;
  words = λ block stands digit low. elim (cases_lt 0 (times numbers block)) [
    | inl changed ↦ absurd (omega (arith, stands, no_tree block changed))
    | inr other ↦ ap (λ (bytes : List ℕ). number_at 4 bytes (4 * digit)) (keeps.others block (omega arith))
  ];
  entries = λ block named place low. elim (cases_lt 0 (times numbers block)) [
    | inl changed ↦
        same_part (record_size format) (16 + record_size format * place) (block_of new block) (block_of old block)
        (length-block_of new block ∙ sym (length-block_of old block))
        (λ k from to. (links block changed named).behind k (omega (arith, from)))
    | inr other ↦ ap (λ (bytes : List ℕ). entry_bytes format bytes place) (keeps.others block (omega arith))
  ];
  stated = λ block named. elim (cases_lt 0 (times numbers block)) [
    | inl changed ↦ number_same 2 8 (block_of new block) (block_of old block)
        (λ k from to. (links block changed named).behind k from)
    | inr other ↦ ap (λ (bytes : List ℕ). number_at 2 bytes 8) (keeps.others block (omega arith))
  ];
}

-- an awaited leaf is one of a file that has the same leaves, and maybe more blocks
pub awaited_kept : (awaited : Option TreePath) (old new : List ℕ) (blocks more : ℕ) → blocks ≤ more
    → leaves new more ≡ leaves old blocks
    → IfSome awaited (IsAwaited old blocks) → IfSome awaited (IsAwaited new more)
awaited_kept None old new blocks more grows same is = tt
awaited_kept (Some leaf) old new blocks more grows same is = record {
  small = is.small;
  absent = ap (λ (ps : List TreePath). times (numbers_of ps) leaf.number) same ∙ is.absent;
  inside = let within = leads_within blocks leaf.block is.inside in
      leads_from more leaf.block within.0 (omega (arith, within.1, grows));
}

-- a data block stands once among the data blocks, and no other block does
pub times-data_with : (loose : Loose) (file : List ℕ) (blocks block : ℕ) → IfSome loose.awaited (IsAwaited file blocks)
    → times (data_with loose file blocks) block ≡ (if counts_as_data loose file blocks block then 1 else 0)
times-data_with loose file blocks block awaited = elim (cases_Bool (counts_as_data loose file blocks block)) [
  | inl is ↦ times-filter-yes (counts_as_data loose file blocks) (range_with_len 0 blocks) block is
      ∙ times-range-within 0 blocks block zero-le
      (let within = leads_within blocks block (data_leads loose file blocks block awaited is) in omega (
        arith,
        within.1,
      ))
      ∙ ap (λ (b : Bool). if b then 1 else 0) (sym is)
  | inr other ↦ times-filter-no (counts_as_data loose file blocks) (range_with_len 0 blocks) block other
      ∙ ap (λ (b : Bool). if b then 1 else 0) (sym other)
]

-- how often a block stands in the roles
pub times-roles : (loose : Loose) (file : List ℕ) (blocks : ℕ) (free : List ℕ) (block : ℕ)
    → times (roles loose file blocks free) block
    ≡ times loose.held block + times (0 ∷ []) block + times (tree_blocks file blocks) block
    + times (data_with loose file blocks) block + times free block
times-roles loose file blocks free block = omega (
  arith,
  times-append (loose.held ++ 0 ∷ tree_blocks file blocks ++ data_with loose file blocks) free block,
  times-append (loose.held ++ 0 ∷ tree_blocks file blocks) (data_with loose file blocks) block,
  times-append loose.held (0 ∷ tree_blocks file blocks) block,
  times-append (0 ∷ []) (tree_blocks file blocks) block,
)

-- a block that is no data block has no room
no_room_without_data : (loose : Loose) (format : Format) (file : List ℕ) (blocks block : ℕ)
    → counts_as_data loose file blocks block ≡ false → has_room loose format file blocks block ≡ false
no_room_without_data loose format file blocks block other =
    ap (λ (b : Bool). b && has_unused format (block_of file block)) other

-- The lists of the new file, and what is loose of it now: each block has one role, and the entry list has those of its
-- blocks that are to be there.
pub record HasLists (loose : Loose) (format : Format) (blocks : ℕ) (old new : List ℕ) (now : Heads) : Type 0 where
  pub free : List ℕ
  pub is_free : IsChain new now.blocks now.free free 0
  pub once : (number : ℕ) → times (roles loose old blocks free) number ≡ (if nat_lt number now.blocks then 1 else 0)
  pub chain : List ℕ
  pub is_chain : IsChain new now.blocks now.first chain 0
  pub has_those : (number : ℕ)
      → times chain number
      ≡ (if but_misplaced loose.misplaced number (has_room loose format old blocks number) then 1 else 0)
  pub previous : NamesPrevious new chain

-- a tree with the same entries and these lists
pub tree_with_lists : (held now_held : List ℕ) (awaited : Option TreePath) (misplaced now_misplaced : Option ℕ)
    (format : Format) (old new : List ℕ) (len now_len : ℕ) (heads now : Heads) (records : Records)
    → IsTree (loose_of held awaited misplaced) format old len heads records
    → KeepsEntries (loose_of now_held awaited now_misplaced) format heads.blocks now.blocks old new
    → HasLists (loose_of now_held awaited now_misplaced) format heads.blocks old new now
    → (2 < now.blocks → 1024 * now.blocks ≤ now_len)
    → IsTree (loose_of now_held awaited now_misplaced) format new now_len now records
tree_with_lists held now_held awaited misplaced now_misplaced format old new len now_len heads now records tree
    kept lists long =
    let loose : Loose = loose_of now_held awaited now_misplaced in
    let low = tree.roles.references in
    record {
      two = omega (arith, tree.two, kept.at_least);
      long = long;
      awaited = awaited_kept awaited old new heads.blocks now.blocks kept.at_least
          (paths_kept loose format old new heads.blocks now.blocks kept low tree.awaited 4 (omega arith)) tree.awaited;
      roles = record {
        references = references_kept loose format old new heads.blocks now.blocks kept low tree.awaited;
        free = lists.free;
        is_free = lists.is_free;
        once = λ number. ap (λ (xs : List ℕ). times xs number)
            (roles_kept loose format old new heads.blocks now.blocks kept low tree.awaited lists.free)
            ∙ lists.once number;
      };
      chained = record {
        chain = lists.chain;
        is_chain = lists.is_chain;
        has_those = λ number. lists.has_those number
            ∙ ap (λ (b : Bool). if but_misplaced now_misplaced number b then 1 else 0)
            (sym (room_kept loose format old new heads.blocks now.blocks kept low tree.awaited number));
        previous = lists.previous;
      };
      filled = filled_kept loose format old new heads.blocks now.blocks kept low tree.awaited (record {
        not_empty = tree.filled.not_empty;
        one_entry = tree.filled.one_entry;
        stated = tree.filled.stated;
        counted = tree.filled.counted;
      });
      each_record = λ id. tree.each_record id
          ∙ sym (records_kept loose format old new heads.blocks now.blocks kept low tree.awaited id);
    }

-- One block alone changed, which is neither one of the tree nor a data block, and with what is held now and the list
-- that is free now each block has one role.
pub record MovesBlock (held now_held : List ℕ) (awaited : Option TreePath) (old new : List ℕ) (heads now : Heads)
    (block : ℕ) : Type 0 where
  pub keeps : KeepsBlocksBut (block ∷ []) old new
  pub grows : heads.blocks ≤ now.blocks
  pub first : now.first ≡ heads.first
  pub no_tree : times (tree_blocks old heads.blocks) block ≡ 0
  pub no_data : times (data_with (loose_of held awaited None) old heads.blocks) block ≡ 0
  pub free : List ℕ
  pub is_free : IsChain new now.blocks now.free free 0
  pub once : (number : ℕ)
      → times (roles (loose_of now_held awaited None) old heads.blocks free) number
      ≡ (if nat_lt number now.blocks then 1 else 0)

pub moved : (held now_held : List ℕ) (awaited : Option TreePath) (format : Format) (old new : List ℕ) (len now_len : ℕ)
    (heads now : Heads) (records : Records) (block : ℕ)
    → MovesBlock held now_held awaited old new heads now block → (2 < now.blocks → 1024 * now.blocks ≤ now_len)
    → IsTree (loose_of held awaited None) format old len heads records
    → IsTree (loose_of now_held awaited None) format new now_len now records
moved held now_held awaited format old new len now_len heads now records block moves long tree =
    let loose : Loose = loose_of now_held awaited None in
    let counts : Bool = counts_as_data loose old heads.blocks block in
    let no_data : counts ≡ false = elim (cases_Bool counts) [
      | inl is ↦ absurd (omega (
        arith,
        moves.no_data,
        times-data_with loose old heads.blocks block tree.awaited,
        ap {B = ℕ} (λ (b : Bool). if b then 1 else 0) is,
      ))
      | inr other ↦ other
    ] in
    let not_named : IsNamed loose old heads.blocks block → ⊥ =
    λ named.
    true≢false (sym (le-leb 1 (times (blocks_of (counted_leaves loose old heads.blocks)) block) named) ∙ no_data) in
    let is_it : (number : ℕ) → StandsIn (block ∷ []) number → block ≡ number =
    λ number stands. only_one block number stands in
    let kept : KeepsEntries loose format heads.blocks now.blocks old new =
    keeps_entries loose format heads.blocks now.blocks old new (block ∷ []) moves.grows moves.keeps
    (λ number stands. ap (times (tree_blocks old heads.blocks)) (sym (is_it number stands)) ∙ moves.no_tree)
    (λ number stands named.
    absurd (not_named (subst (IsNamed loose old heads.blocks) (sym (is_it number stands)) named))) in
    let apart : (number : ℕ) → StandsIn tree.chained.chain number → times (block ∷ []) number ≡ 0 = λ number stands.
    none_of_one block number (λ same. absurd (omega (
      arith,
      stands,
      tree.chained.has_those number,
      ap {B = ℕ} (λ (b : Bool). if b then 1 else 0)
          (no_room_without_data loose format old heads.blocks number
          (ap (counts_as_data loose old heads.blocks) same ∙ no_data)),
    ))) in
    tree_with_lists held now_held awaited None None format old new len now_len heads now records tree kept
    (record {
      free = moves.free;
      is_free = moves.is_free;
      once = moves.once;
      chain = tree.chained.chain;
      is_chain = subst (λ (head : ℕ). IsChain new now.blocks head tree.chained.chain 0) (sym moves.first)
          (chain-more new heads.blocks now.blocks heads.first tree.chained.chain moves.grows
          (chain-stays (block ∷ []) old new heads.blocks heads.first tree.chained.chain 0 moves.keeps apart
          tree.chained.is_chain));
      has_those = tree.chained.has_those;
      previous = names-stay (block ∷ []) old new tree.chained.chain moves.keeps apart tree.chained.previous;
    })
    long
