-- A leaf that is linked by fresh blocks.
use Rattle.std.proofs.Common.{true, ◌≡◌, ℕ, suc, ◌+◌, ◌-◌, ◌^◌, ◌<◌, ◌≤◌, List, ◌++◌, length, get_or, None, Some, ◌⊎◌}
use Rattle.std.proofs.Common.{inl, inr, sym, ap, subst, ◌∙◌, arith}
use Rattle.quota_types.specs.declared.file_kind.Format.{Format}
use Rattle.quota_types.specs.Times.{StandsIn, times}
use Rattle.quota_types.proofs.TimesLemmas.{StandsIn-get_or, stands_cons, times-append}
use Rattle.quota_value.specs.QuotaValue.{Records}
use Rattle.quota_pages.specs.Page.{Page, is_buffered}
use Rattle.quota_pages.specs.KeptBlocks.{KeepsBlocksBut}
use Rattle.quota_radix.specs.Link.{AreBuffered, AreDistinct, GainsBlocks, IsLinkable, LeadsAlong, changed_blocks}
use Rattle.quota_radix.specs.Link.{whole_way, with_path}
use Rattle.quota_radix.specs.Tree.{leaves, tree_blocks}
use Rattle.quota_radix.specs.OnWay.{blocks_on_way}
use Rattle.quota_radix.specs.declared.tree_path.TreePath.{TreePath}
use Rattle.quota_radix.proofs.LinkWayLemmas.{changed_distinct}
use Rattle.free_chains.specs.declared.heads.Heads.{Heads}
use Rattle.tree_meaning.specs.Loose.{Loose, loose_of}
use Rattle.tree_meaning.proofs.LinkedLemmas.{changed_which, data_same, linkable, linked_found, not_free}
use Rattle.tree_meaning.proofs.MovedLemmas.{times-roles}
use Rattle.tree_change.specs.Fresh.{HasFresh, TakesFresh}
use Rattle.tree_change.specs.Leads.{LeadsLeaf}
use Rattle.tree_change.specs.Putting.{TakesCounted}
use Rattle.tree_change.specs.Shows.{IsWholeTree}
use Rattle.tree_change.proofs.CountedLemmas.{counted_none, counted_then}
use Rattle.tree_change.proofs.FreshLemmas.{role_low}
use Rattle.tree_change.proofs.HeaderStaysLemmas.{none_is_header_or_fresh}

-- the blocks that a link changes are buffered where the way and the fresh ones are
pub changed_buffered : (old new : List Page) (found fresh : List ℕ) → 1 ≤ length found
    → ((number : ℕ) → is_buffered old number ≡ true → is_buffered new number ≡ true)
    → AreBuffered old found → AreBuffered new fresh → AreBuffered new (changed_blocks found fresh)
changed_buffered old new found fresh some stay way taken = λ number stands.
    elim (stands_cons (get_or found (length found - 1) 0) fresh number stands) [
      | inl last ↦ ap (is_buffered new) (sym last)
          ∙ stay _ (way _ (StandsIn-get_or found (length found - 1) (omega (arith, some))))
      | inr it ↦ taken number it
    ]

-- What a link of a leaf makes of a file, where it can be linked.
pub record LinksLeaf (found fresh : List ℕ) (id leaf_block blocks : ℕ) (old new : List ℕ) : Type 0 where
  pub keeps : KeepsBlocksBut (changed_blocks found fresh) old new
  pub words : AreDistinct (changed_blocks found fresh)
      → LeadsAlong (whole_way found fresh leaf_block) (length found - 1) id old new
  pub leaves : IsLinkable old blocks found fresh id leaf_block
      → leaves new blocks ≡ with_path (leaves old blocks) (record { number = id; block = leaf_block })
  pub levels : IsLinkable old blocks found fresh id leaf_block
      → GainsBlocks (whole_way found fresh leaf_block) fresh (length found) blocks old new

-- Blocks were taken, and the leaf was linked by them: it is awaited no longer, and the blocks are no longer held.
pub led_by_fresh : (fresh held : List ℕ) (format : Format) (old between new found : List ℕ) (heads now : Heads)
    (records : Records) (id leaf_block : ℕ)
    → 1 ≤ length found → length found + length fresh ≡ 4 → id < 2 ^ 32
    → TakesFresh fresh old between heads now → LinksLeaf found fresh id leaf_block now.blocks between new
    → found ≡ blocks_on_way old heads.blocks id
    → IsWholeTree (loose_of held (Some (record { number = id; block = leaf_block })) None) format old heads records
    → LeadsLeaf (length fresh) (record { number = id; block = leaf_block }) held format old new heads now records
led_by_fresh fresh held format old between new found heads now records id leaf_block some four small takes
    links way tree =
    let leaf : TreePath = record { number = id; block = leaf_block } in
    let has : HasFresh fresh held (Some leaf) format old between heads now records =
    takes.each held (Some leaf) format records tree in
    let can : IsLinkable between now.blocks found fresh id leaf_block =
    linkable held None format between found fresh (length between) now records leaf has.tree
    (way ∙ sym (has.ways id small)) has.blank in
    let gone : ℕ = length found - 1 in
    let is_suc : length found ≡ suc gone = omega (arith, some) in
    let along : LeadsAlong (whole_way found fresh leaf_block) gone id between new = links.words
    (changed_distinct between found fresh now.blocks id leaf_block gone is_suc
    (omega (arith, is_suc, four)) small can) in
    let gains : GainsBlocks (whole_way found fresh leaf_block) fresh (suc gone) now.blocks between new =
    subst (λ (count : ℕ). GainsBlocks (whole_way found fresh leaf_block) fresh count now.blocks between new) is_suc
    (links.levels can) in
    let which : (block : ℕ) → StandsIn (changed_blocks found fresh) block
    → StandsIn (tree_blocks between now.blocks) block ⊎ StandsIn fresh block =
    changed_which held format between new found fresh (length between) now records id leaf_block gone is_suc four small
    has.tree can links.keeps along (links.leaves can) gains in
    let was : Loose = loose_of (fresh ++ held) (Some leaf) None in
    let low : (block : ℕ) → StandsIn (tree_blocks between now.blocks) block ⊎ StandsIn fresh block
    → block < now.blocks = λ block either. elim either [
      | inl in_tree ↦ role_low was between now.blocks now.free has.tree.roles block
          (omega (arith, in_tree, times-roles was between now.blocks has.tree.roles.free block))
      | inr is_fresh ↦ role_low was between now.blocks now.free has.tree.roles block (omega (
        arith,
        is_fresh,
        times-append fresh held block,
        times-roles was between now.blocks has.tree.roles.free block,
      ))
    ] in
    record {
      tree = linked_found held format between new found fresh (length between) (length new) now records id leaf_block
          has.tree some four can links.keeps along (links.leaves can) (links.levels can) links.keeps.longer;
      counted =
          subst (λ (count : ℕ). TakesCounted count old new heads now)
          (let e : length fresh + 0 ≡ length fresh = omega arith in e)
          (counted_then (length fresh) 0 old between new heads now now takes.counted
          (counted_none (changed_blocks found fresh) between new now now has.tree.roles.free links.keeps (omega arith)
          (omega arith) has.tree.roles.is_free
          (not_free held format between new found fresh (length between) now records id leaf_block gone is_suc four
          small has.tree can links.keeps along (links.leaves can) gains)
          (λ block stands. low block (which block stands))));
      same_data = λ block.
          ap (λ (xs : List ℕ). times xs block)
          (data_same held format between new found fresh (length between) now records id leaf_block gone is_suc four
          small has.tree can links.keeps along (links.leaves can) gains)
          ∙ has.same_data block;
      header = links.keeps.others 0
          (none_is_header_or_fresh fresh held (Some leaf) between now.blocks now.free has.tree.roles
          (changed_blocks found fresh) which) ∙ has.header;
    }
