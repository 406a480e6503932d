-- The free blocks and the ways of a tree, where blocks changed that are not free, or not of the tree, and where one of
-- them was given.
use Rattle.std.proofs.Common.{◌≡◌, ℕ, ◌*◌, ◌<◌, ◌≤◌, ◌^◌, nat_le, Bool, if◌then◌else◌, List, [], ◌∷◌, ◌++◌, filter}
use Rattle.std.proofs.Common.{Option, None, refl, sym, ap, subst, ◌∙◌, inl, inr, arith, eq-eqb, ne_eqb}
use Rattle.std.specs.Prelude.{IsTrue}
use Rattle.std.specs.List.{range_with_len}
use Rattle.std.proofs.lemmas.Bool.{cases_eq, cases_lt}
use Rattle.std.proofs.lemmas.List.{append_assoc}
use Rattle.quota_types.specs.Bytes.{byte_at, number_at}
use Rattle.quota_types.specs.declared.file_kind.Format.{Format}
use Rattle.quota_types.specs.Times.{StandsIn, times}
use Rattle.quota_types.proofs.TimesLemmas.{only_one, stands_either, stands_left, stands_right, times-append}
use Rattle.quota_types.proofs.TimesLemmas.{times-cons-same}
use Rattle.file_blocks.specs.Block.{block_of, leads}
use Rattle.file_blocks.proofs.LeadsLemmas.{leads_from, leads_within}
use Rattle.quota_value.specs.QuotaValue.{Records}
use Rattle.quota_pages.specs.KeptBlocks.{KeepsBlocksBut}
use Rattle.quota_radix.specs.Tree.{blocks_of, data_blocks, leaves, tree_blocks}
use Rattle.quota_radix.specs.OnWay.{blocks_on_way}
use Rattle.quota_radix.specs.declared.tree_path.TreePath.{TreePath}
use Rattle.quota_radix.proofs.MoreBlocksLemmas.{KeepsReferences, leaves-among_more, way-among_more}
use Rattle.free_chains.specs.Chain.{IsChain}
use Rattle.free_chains.specs.FreeList.{GivesBlock}
use Rattle.free_chains.specs.declared.heads.Heads.{Heads}
use Rattle.free_chains.proofs.ChainLemmas.{chain_is_met, few_of_chain}
use Rattle.free_chains.proofs.SpliceLemmas.{chain-stays}
use Rattle.tree_meaning.specs.Loose.{Loose, loose_of}
use Rattle.tree_meaning.proofs.MovedLemmas.{times-roles}
use Rattle.block_changes.proofs.OneBlockLemmas.{one_role}
use Rattle.tree_change.specs.Freed.{FreesBlocks, HasLinkAlone, free_blocks, unnamed_of}
use Rattle.tree_change.specs.FreedTree.{FreesBeside}
use Rattle.tree_change.specs.Shows.{IsWholeTree}
use Rattle.tree_change.proofs.BehindLemmas.{behind_none, behind_of, behind_then}
use Rattle.tree_change.proofs.FreshLemmas.{role_above}
use Rattle.tree_change.proofs.HeaderStaysLemmas.{header_apart}

-- the free blocks are those of a list that ends
pub free_are : (file : List ℕ) (heads : Heads) (free : List ℕ) → IsChain file heads.blocks heads.free free 0
    → free_blocks file heads ≡ free
free_are file heads free is =
    chain_is_met file heads.blocks heads.free heads.blocks free is (few_of_chain file heads.blocks heads.free free 0 is)

-- Blocks changed, of which none is free.
module _ (loose : Loose) (format : Format) (old new : List ℕ) (heads : Heads) (records : Records) (numbers : List ℕ)
    (tree : IsWholeTree loose format old heads records) (keeps : KeepsBlocksBut numbers old new)
    (apart : (number : ℕ) → StandsIn numbers number → times tree.roles.free number ≡ 0) where
  pub not_changed : (number : ℕ) → StandsIn tree.roles.free number → times numbers number ≡ 0
  not_changed number stands = elim (cases_lt 0 (times numbers number)) [
    | inl changed ↦ absurd (omega (arith, stands, apart number changed))
    | inr other ↦ omega (arith, other)
  ]

  pub free_kept : (block : ℕ) → StandsIn (free_blocks old heads) block → block_of new block ≡ block_of old block
  free_kept block stands =
      keeps.others block
      (not_changed block
      (subst (λ (free : List ℕ). StandsIn free block) (free_are old heads tree.roles.free tree.roles.is_free) stands))

  -- none was freed, whatever became of the entry list
  pub frees_none : ((number : ℕ) → StandsIn numbers number → number < heads.blocks) → (first : ℕ)
      → FreesBlocks [] old new heads (record heads { first = first })
  frees_none inside first = record {
    list =
        free_are new heads tree.roles.free
        (chain-stays numbers old new heads.blocks heads.free tree.roles.free 0 keeps not_changed tree.roles.is_free)
        ∙ sym (free_are old heads tree.roles.free tree.roles.is_free);
    blank = λ block stands. absurd (omega (arith, stands));
    kept = free_kept;
    behind = behind_of numbers heads.blocks heads.blocks old new (omega arith) inside keeps;
  }

-- Nor is one of them of the tree.
module _ (loose : Loose) (format : Format) (old new : List ℕ) (heads : Heads) (records : Records) (numbers : List ℕ)
    (tree : IsWholeTree loose format old heads records) (keeps : KeepsBlocksBut numbers old new)
    (apart : (number : ℕ) → StandsIn numbers number → times (tree_blocks old heads.blocks) number ≡ 0) where
  keeps_references : KeepsReferences old new heads.blocks (tree_blocks old heads.blocks)
  keeps_references = record {
    inside = tree.roles.references;
    same = λ number stands digit low. ap (λ (bytes : List ℕ). number_at 4 bytes (4 * digit))
        (keeps.others number (elim (cases_lt 0 (times numbers number)) [
          | inl changed ↦ absurd (omega (arith, stands, apart number changed))
          | inr other ↦ omega (arith, other)
        ]));
  }

  pub ways_apart : (other : ℕ) → other < 2 ^ 32
      → blocks_on_way new heads.blocks other ≡ blocks_on_way old heads.blocks other
  ways_apart other small = way-among_more old new heads.blocks heads.blocks other (omega arith) small keeps_references

  pub named_apart : data_blocks new heads.blocks ≡ data_blocks old heads.blocks
  named_apart =
      let same : leaves new heads.blocks ≡ leaves old heads.blocks =
      leaves-among_more old new heads.blocks heads.blocks (omega arith) keeps_references in
      λ i. filter (λ (block : ℕ). nat_le 1 (times (blocks_of (same i)) block)) (range_with_len 0 heads.blocks)

-- A block that was held was given.
module _ (held : List ℕ) (awaited : Option TreePath) (format : Format) (old new : List ℕ) (heads : Heads)
    (records : Records) (block : ℕ)
    (keeps : KeepsBlocksBut (block ∷ []) old new)
    (tree : IsWholeTree (loose_of (block ∷ held) awaited None) format old heads records)
    (gives : GivesBlock old new heads block) where
  abbrev was : Loose
  was = loose_of (block ∷ held) awaited None

  held_apart : (times (tree_blocks old heads.blocks) block ≡ 0) × (times tree.roles.free block ≡ 0)
  held_apart =
      let one = one_role was old heads.blocks heads.free tree.roles block in
      let all = times-roles was old heads.blocks tree.roles.free block in
      (omega (arith, one, all, times-cons-same block held), omega (arith, one, all, times-cons-same block held))

  is_apart : (number : ℕ) → StandsIn (block ∷ []) number
      → (times (tree_blocks old heads.blocks) number ≡ 0) × (times tree.roles.free number ≡ 0)
  is_apart number stands =
      subst (λ (n : ℕ). (times (tree_blocks old heads.blocks) n ≡ 0) × (times tree.roles.free n ≡ 0))
      (only_one block number stands) held_apart

  is_inside : IsTrue (leads heads.blocks block)
  is_inside = elim (cases_eq block 0) [
    | inl none ↦ absurd (omega (
      arith,
      times-cons-same block held,
      ap (times (block ∷ held)) none,
      (header_apart was old heads.blocks heads.free tree.roles).0,
    ))
    | inr some ↦ elim (cases_lt block heads.blocks) [
      | inl low ↦ leads_from heads.blocks block (omega (arith, some)) low
      | inr high ↦ absurd (omega (
        arith,
        tree.roles.once block,
        role_above heads.blocks block (omega (arith, high)),
        times-roles was old heads.blocks tree.roles.free block,
        times-cons-same block held,
      ))
    ]
  ]

  pub frees_one : FreesBeside (block ∷ []) old new heads (record heads { free = block })
  frees_one = record {
    frees = record {
      list =
          free_are new (record heads { free = block }) (block ∷ tree.roles.free)
          (gives.chain tree.roles.free 0 tree.roles.is_free held_apart.1 is_inside)
          ∙ ap (λ (free : List ℕ). block ∷ free) (sym (free_are old heads tree.roles.free tree.roles.is_free));
      blank = λ number stands. subst (HasLinkAlone new) (only_one block number stands) gives.blank;
      kept = free_kept was format old new heads records (block ∷ []) tree keeps
          (λ number stands. (is_apart number stands).1);
      behind = behind_of (block ∷ []) heads.blocks heads.blocks old new (omega arith)
          (λ number stands. omega (arith, only_one block number stands, (leads_within heads.blocks block is_inside).1))
          keeps;
    };
    ways = ways_apart was format old new heads records (block ∷ []) tree keeps
        (λ number stands. (is_apart number stands).0);
    named = named_apart was format old new heads records (block ∷ []) tree keeps
        (λ number stands. (is_apart number stands).0);
    header = keeps.others 0
        (omega (arith, (header_apart was old heads.blocks heads.free tree.roles).0, times-append (block ∷ []) held 0));
  }

-- Blocks were freed, and others then: those stand before them.
pub frees_then : (first second : List ℕ) (old between new : List ℕ) (heads middle now : Heads)
    → FreesBlocks first old between heads middle → FreesBlocks second between new middle now
    → FreesBlocks (second ++ first) old new heads now
frees_then first second old between new heads middle now one two =
    let in_list : (block : ℕ) → StandsIn (first ++ free_blocks old heads) block
    → StandsIn (free_blocks between middle) block = λ block stands.
    subst (λ (free : List ℕ). StandsIn free block) (sym one.list) stands in
    record {
      list = two.list ∙ ap (λ (free : List ℕ). second ++ free) one.list
          ∙ sym (append_assoc second first (free_blocks old heads));
      blank = λ block stands. elim (stands_either second first block stands) [
        | inl later ↦ two.blank block later
        | inr before ↦ subst (λ (bytes : List ℕ). (at : ℕ) → 4 ≤ at → byte_at bytes at ≡ 0)
            (sym (two.kept block (in_list block (stands_left first (free_blocks old heads) block before))))
            (one.blank block before)
      ];
      kept = λ block stands. two.kept block (in_list block (stands_right first (free_blocks old heads) block stands))
          ∙ one.kept block stands;
      behind = behind_then heads.blocks middle.blocks now.blocks old between new one.behind two.behind;
    }

pub beside_then : (first second : List ℕ) (old between new : List ℕ) (heads middle now : Heads)
    → FreesBeside first old between heads middle → FreesBeside second between new middle now
    → FreesBeside (second ++ first) old new heads now
beside_then first second old between new heads middle now one two = record {
  frees = frees_then first second old between new heads middle now one.frees two.frees;
  ways = λ id small. two.ways id small ∙ one.ways id small;
  named = two.named ∙ one.named;
  header = two.header ∙ one.header;
}

-- nothing was done
pub beside_none : (file : List ℕ) (heads : Heads) → FreesBeside [] file file heads heads
beside_none file heads = record {
  frees = record {
    list = refl;
    blank = λ block stands. absurd (omega (arith, stands));
    kept = λ block stands. refl;
    behind = behind_none heads.blocks file;
  };
  ways = λ id small. refl;
  named = refl;
  header = refl;
}

-- a block to which a leaf leads is none of the others, and one to which none leads is
pub named_one : (file : List ℕ) (blocks block : ℕ) → StandsIn (data_blocks file blocks) block
    → unnamed_of file blocks (block ∷ []) ≡ []
named_one file blocks block stands =
    ap (λ (b : Bool). if b then block ∷ [] else [])
    (ne_eqb (times (data_blocks file blocks) block) 0 (λ none. omega (arith, none, stands)))

pub unnamed_one : (file : List ℕ) (blocks block : ℕ) → times (data_blocks file blocks) block ≡ 0
    → unnamed_of file blocks (block ∷ []) ≡ block ∷ []
unnamed_one file blocks block none =
    ap (λ (b : Bool). if b then block ∷ [] else []) (eq-eqb (times (data_blocks file blocks) block) 0 none)
