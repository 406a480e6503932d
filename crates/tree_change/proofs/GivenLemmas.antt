-- Blocks that are given to the list of free blocks of a tree, one after another.
use Rattle.std.proofs.Common.{◌≡◌, ℕ, ◌<◌, ◌≤◌, ◌+◌, Bool, true, if◌then◌else◌, List, [], ◌∷◌, ◌++◌, length, get_or}
use Rattle.std.proofs.Common.{drop, reverse, take, Option, None, refl, sym, ap, subst, ◌∙◌, arith, le-leb}
use Rattle.std.proofs.lemmas.List.{drop_all, drop_more, reverse-append, take_all, take_more}
use Rattle.quota_types.specs.declared.file_kind.Format.{Format}
use Rattle.quota_types.specs.Times.{times}
use Rattle.quota_types.proofs.TimesLemmas.{StandsIn-get_or, only_one, times-append, times-cons-same}
use Rattle.quota_value.specs.QuotaValue.{Records}
use Rattle.outside.specs.Seen.{StoreSeen}
use Rattle.quota_pages.specs.Page.{is_buffered}
use Rattle.quota_pages.specs.Pages.{pages_of}
use Rattle.quota_pages.specs.Used.{UsesPages, missing}
use Rattle.quota_pages.specs.KeptBlocks.{KeepsBlocksBut}
use Rattle.quota_pages.specs.declared.page_buffer.Pages.{Pages}
use Rattle.quota_pages.proofs.UsedLemmas.{missing-there}
use Rattle.quota_pages.proofs.UsesLemmas.{uses_more, uses_then}
use Rattle.quota_radix.specs.Link.{AreBuffered}
use Rattle.quota_radix.specs.Tree.{blocks_of, tree_blocks}
use Rattle.quota_radix.specs.declared.tree_path.TreePath.{TreePath}
use Rattle.free_chains.specs.FreeList.{GivesBlock}
use Rattle.free_chains.specs.declared.heads.Heads.{Heads}
use Rattle.tree_meaning.specs.KeepsEntries.{IsNamed}
use Rattle.tree_meaning.specs.Loose.{Loose, loose_of}
use Rattle.tree_meaning.specs.Roles.{counted_leaves, data_with}
use Rattle.tree_meaning.proofs.FrameLemmas.{data_kept}
use Rattle.tree_meaning.proofs.MovedLemmas.{keeps_entries, times-data_with, times-roles}
use Rattle.tree_meaning.proofs.TakenLemmas.{given}
use Rattle.block_changes.proofs.OneBlockLemmas.{one_role}
use Rattle.tree_change.specs.FreedTree.{FreesBeside}
use Rattle.tree_change.specs.Shows.{IsWholeTree}
use Rattle.tree_change.specs.Unlinked.{GivesHeld, TreeStays}
use Rattle.tree_change.proofs.FreedLemmas.{beside_none, beside_then, frees_one}
use Rattle.tree_change.proofs.HeaderStaysLemmas.{header_apart}

module _ (held : List ℕ) (awaited : Option TreePath) (format : Format) (old new : List ℕ) (heads : Heads)
    (records : Records) (block : ℕ)
    (keeps : KeepsBlocksBut (block ∷ []) old new)
    (tree : IsWholeTree (loose_of (block ∷ held) awaited None) format old heads records) where
  abbrev was : Loose
  was = loose_of (block ∷ held) awaited None

  -- a block that is held is none of the tree, and no data block
  apart : (times (tree_blocks old heads.blocks) block ≡ 0) × (times (data_with was old heads.blocks) block ≡ 0)
  apart =
      let one = one_role was old heads.blocks heads.free tree.roles block in
      let all = times-roles was old heads.blocks tree.roles.free block in
      (omega (arith, one, all, times-cons-same block held), omega (arith, one, all, times-cons-same block held))

  not_named : ¬ IsNamed was old heads.blocks block
  not_named named = omega (
    arith,
    apart.1,
    times-data_with was old heads.blocks block tree.awaited,
    ap {B = ℕ} (λ (b : Bool). if b then 1 else 0)
        (le-leb 1 (times (blocks_of (counted_leaves was old heads.blocks)) block) named),
  )

  -- so where it alone changed the data blocks are the same
  same_data : data_with was new heads.blocks ≡ data_with was old heads.blocks
  same_data = data_kept was format old new heads.blocks heads.blocks
      (keeps_entries was format heads.blocks heads.blocks old new (block ∷ []) (omega arith) keeps
      (λ number stands. ap (times (tree_blocks old heads.blocks)) (sym (only_one block number stands)) ∙ apart.0)
      (λ number stands named.
      absurd (not_named (subst (IsNamed was old heads.blocks) (sym (only_one block number stands)) named))))
      tree.roles.references tree.awaited

  -- the block is given
  given_stays : (now : Heads) → GivesBlock old new heads block → now ≡ record heads { free = block }
      → TreeStays (loose_of (block ∷ held) awaited None) (loose_of held awaited None) format old new heads now records
      × FreesBeside (block ∷ []) old new heads now
  given_stays now gives is =
      subst (λ (next : Heads). TreeStays (loose_of (block ∷ held) awaited None) (loose_of held awaited None) format old
      new heads next records × FreesBeside (block ∷ []) old new heads next) (sym is) (
        record {
          tree = given held awaited format old new (length old) heads records block keeps gives tree
              (length new) keeps.longer;
          same_data = same_data;
          header = keeps.others 0 (omega (
            arith,
            (header_apart was old heads.blocks heads.free tree.roles).0,
            times-append (block ∷ []) held 0,
          ));
        },
        frees_one held awaited format old new heads records block keeps tree gives,
      )

-- Of the blocks that a tree held besides, these are left, and those were freed.
abbrev pub GivesBut : (blocks left freed : List ℕ) → (old new : List ℕ) → (heads now : Heads) → Type 0
GivesBut blocks left freed old new heads now =
    (held : List ℕ) (awaited : Option TreePath) (format : Format) (records : Records)
    → IsWholeTree (loose_of (blocks ++ held) awaited None) format old heads records
    → TreeStays (loose_of (blocks ++ held) awaited None) (loose_of (left ++ held) awaited None) format old new
    heads now records
    × FreesBeside freed old new heads now

-- none was given yet
pub gives_none : (blocks : List ℕ) (file : List ℕ) (heads : Heads) → GivesBut blocks blocks [] file file heads heads
gives_none blocks file heads =
    λ held awaited format records tree.
    (record { tree = tree; same_data = refl; header = refl }, beside_none file heads)

-- one more was given
gives_one : (blocks left freed : List ℕ) (block : ℕ) (old between new : List ℕ) (heads middle now : Heads)
    → KeepsBlocksBut (block ∷ []) between new → GivesBlock between new middle block
    → now ≡ record middle { free = block } → GivesBut blocks (block ∷ left) freed old between heads middle
    → GivesBut blocks left (block ∷ freed) old new heads now
gives_one blocks left freed block old between new heads middle now keeps gives is before =
    λ held awaited format records tree.
    let so_far = before held awaited format records tree in
    let rest =
    given_stays (left ++ held) awaited format between new middle records block keeps so_far.0.tree now gives is in (
      record {
        tree = rest.0.tree;
        same_data = rest.0.same_data ∙ so_far.0.same_data;
        header = rest.0.header ∙ so_far.0.header;
      },
      beside_then freed (block ∷ []) old between new heads middle now so_far.1 rest.1,
    )

-- the last one that was given comes first
given_last : (blocks : List ℕ) (place : ℕ) → place < length blocks
    → reverse (take (place + 1) blocks) ≡ get_or blocks place 0 ∷ reverse (take place blocks)
given_last blocks place low =
    ap reverse (take_more blocks place 0 low) ∙ reverse-append (take place blocks) (get_or blocks place 0 ∷ [])

-- and so the one at a place
pub gives_more : (blocks : List ℕ) (place : ℕ) (old between new : List ℕ) (heads middle now : Heads)
    → place < length blocks → KeepsBlocksBut (get_or blocks place 0 ∷ []) between new
    → GivesBlock between new middle (get_or blocks place 0) → now ≡ record middle { free = get_or blocks place 0 }
    → GivesBut blocks (drop place blocks) (reverse (take place blocks)) old between heads middle
    → GivesBut blocks (drop (place + 1) blocks) (reverse (take (place + 1) blocks)) old new heads now
gives_more blocks place old between new heads middle now low keeps gives is before =
    subst (λ (freed : List ℕ). GivesBut blocks (drop (place + 1) blocks) freed old new heads now)
    (sym (given_last blocks place low))
    (gives_one blocks (drop (place + 1) blocks) (reverse (take place blocks)) (get_or blocks place 0) old between new
    heads middle now keeps gives is
    (subst (λ (left : List ℕ). GivesBut blocks left (reverse (take place blocks)) old between heads middle)
    (drop_more blocks place 0 low) before))

-- none is left
pub gives_all : (blocks : List ℕ) (place : ℕ) (old new : List ℕ) (heads now : Heads) → length blocks ≤ place
    → GivesBut blocks (drop place blocks) (reverse (take place blocks)) old new heads now
    → GivesHeld blocks old new heads now
gives_all blocks place old new heads now end gives =
    subst (λ (freed : List ℕ). GivesBut blocks [] freed old new heads now) (ap reverse (take_all place blocks end))
    (subst (λ (left : List ℕ). GivesBut blocks left (reverse (take place blocks)) old new heads now)
    (drop_all place blocks end) gives)

-- a block of some that were buffered still is
pub still_there : {tells ok : Bool} {count : ℕ} {before now : StoreSeen} (old new : Pages) (blocks : List ℕ) (place : ℕ)
    → UsesPages tells ok count before now old new → AreBuffered (pages_of old) blocks
    → place < length blocks → is_buffered (pages_of new) (get_or blocks place 0) ≡ true
still_there old new blocks place uses there low =
    uses.stay (get_or blocks place 0) (there (get_or blocks place 0) (StandsIn-get_or blocks place low))

-- a call for one more block that is buffered uses no further page
pub uses_there : {tells ok : Bool} {count : ℕ} {before between now : StoreSeen} {old middle new : Pages} (block : ℕ)
    → is_buffered (pages_of middle) block ≡ true
    → UsesPages tells true count before between old middle
    → UsesPages tells ok (missing (pages_of middle) block) between now middle new
    → UsesPages tells ok count before now old new
uses_there {count = count} {middle = middle} block there first second =
    uses_more count (omega (arith, missing-there (pages_of middle) block there)) (uses_then first second)
