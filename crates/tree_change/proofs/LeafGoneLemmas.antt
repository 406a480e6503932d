-- A leaf that is unlinked, and whose emptied tree blocks are given then.
use Rattle.std.proofs.Common.{◌≡◌, ℕ, zero, suc, ◌-◌, ◌^◌, ◌<◌, ◌≤◌, nat_le, List, [], ◌∷◌, ◌++◌, length, get_or, drop}
use Rattle.std.proofs.Common.{reverse, take, filter, None, Some, refl, sym, ap, subst, ◌∙◌, arith, append-nil}
use Rattle.std.proofs.Common.{length-take}
use Rattle.std.specs.List.{range_with_len}
use Rattle.quota_types.specs.Times.{StandsIn, times}
use Rattle.file_blocks.specs.Block.{block_of}
use Rattle.quota_pages.specs.KeptBlocks.{KeepsBlocksBut}
use Rattle.quota_radix.specs.Link.{AreDistinct}
use Rattle.quota_radix.specs.Tree.{blocks_of, leaves, numbers_of, tree_blocks}
use Rattle.quota_radix.specs.OnWay.{blocks_on_way}
use Rattle.quota_radix.specs.declared.tree_path.TreePath.{TreePath}
use Rattle.quota_radix.specs.Unlink.{AreAllWithoutOther, ClearsAlong, IsUnlinkable, LosesLeaf, lowest_blocks}
use Rattle.quota_radix.proofs.PathLemmas.{Rises-paths}
use Rattle.quota_radix.proofs.UnlinkEndLemmas.{way_distinct}
use Rattle.free_chains.specs.declared.heads.Heads.{Heads}
use Rattle.tree_meaning.specs.Loose.{loose_of}
use Rattle.tree_meaning.specs.Roles.{data_with}
use Rattle.tree_meaning.proofs.AwaitedLemmas.{times-blocks}
use Rattle.tree_meaning.proofs.MovedLemmas.{times-roles}
use Rattle.block_changes.proofs.OneBlockLemmas.{one_role}
use Rattle.block_changes.proofs.UnlinkedLemmas.{changed_old, unlinkable, unlinked}
use Rattle.tree_change.specs.Freed.{FreesBlocks, lost_blocks}
use Rattle.tree_change.specs.Unlinked.{GivesHeld, UnlinksLeaf}
use Rattle.tree_change.proofs.FreedLemmas.{frees_none, frees_then}
use Rattle.tree_change.proofs.FreshLemmas.{role_low}
use Rattle.tree_change.proofs.HeaderStaysLemmas.{none_is_header}

-- The same blocks are data once the leaf is awaited.
same_data : (way emptied : List ℕ) (id : ℕ) (old new : List ℕ) (blocks : ℕ) → LosesLeaf way emptied id blocks old new
    → times (numbers_of (leaves new blocks)) id ≡ 0
    → data_with (loose_of [] (Some (record { number = id; block = get_or way 4 0 })) None) new blocks
    ≡ data_with (loose_of [] None None) old blocks
same_data way emptied id old new blocks loses absent =
    let leaf : TreePath = record { number = id; block = get_or way 4 0 } in
    let same : (block : ℕ)
    → nat_le 1 (times (blocks_of (leaves old blocks)) block)
    ≡ nat_le 1 (times (blocks_of (leaf ∷ leaves new blocks)) block) = λ block.
    ap (λ (paths : List TreePath). nat_le 1 (times (blocks_of paths) block)) loses.leaves
    ∙ ap (λ (n : ℕ). nat_le 1 n)
    (times-blocks (leaves new blocks) leaf 0 (256 ^ 4) (Rises-paths new blocks 4) absent block) in
    λ i. filter (λ block. sym (same block) i) (range_with_len 0 blocks)

-- the lowest blocks of a whole way, from the top down
lowest_down : (way : List ℕ) (count : ℕ) → length way ≡ 5 → count ≤ 3
    → reverse (lowest_blocks way count) ≡ drop (4 - count) (take 4 way)
lowest_down (a ∷ b ∷ c ∷ d ∷ e ∷ []) zero five few = refl
lowest_down (a ∷ b ∷ c ∷ d ∷ e ∷ []) (suc zero) five few = refl
lowest_down (a ∷ b ∷ c ∷ d ∷ e ∷ []) (suc (suc zero)) five few = refl
lowest_down (a ∷ b ∷ c ∷ d ∷ e ∷ []) (suc (suc (suc zero))) five few = refl
lowest_down (a ∷ b ∷ c ∷ d ∷ e ∷ []) (suc (suc (suc (suc count)))) five few = absurd (omega (arith, few))
lowest_down [] count five few = absurd (omega (arith, five))
lowest_down (a ∷ []) count five few = absurd (omega (arith, five))
lowest_down (a ∷ b ∷ []) count five few = absurd (omega (arith, five))
lowest_down (a ∷ b ∷ c ∷ []) count five few = absurd (omega (arith, five))
lowest_down (a ∷ b ∷ c ∷ d ∷ []) count five few = absurd (omega (arith, five))
lowest_down (a ∷ b ∷ c ∷ d ∷ e ∷ f ∷ way) count five few = absurd (omega (arith, five))

-- They are those that the way has lost, where it ends above them.
lost_down : (way emptied : List ℕ) (id blocks : ℕ) (old new : List ℕ) → length way ≡ 5 → length emptied ≤ 3
    → emptied ≡ lowest_blocks way (length emptied)
    → way ≡ blocks_on_way old blocks id → take (4 - length emptied) way ≡ blocks_on_way new blocks id
    → reverse emptied ≡ lost_blocks old new blocks id
lost_down way emptied id blocks old new five few answered is left =
    ap reverse answered
    ∙ lowest_down way (length emptied) five few
    ∙ ap (λ (count : ℕ). drop count (take 4 way))
    (let e : 4 - length emptied ≡ length (blocks_on_way new blocks id) =
    omega (arith, ap {B = ℕ} length left, length-take (4 - length emptied) way, five) in e)
    ∙ ap (λ (xs : List ℕ). drop (length (blocks_on_way new blocks id)) (take 4 xs)) is

-- The leaf is unlinked, and the blocks that were emptied are given.
pub unlinks_leaf : (way emptied : List ℕ) (id : ℕ) (old between new : List ℕ) (heads now : Heads)
    → length way ≡ 5 → id < 2 ^ 32
    → emptied ≡ lowest_blocks way (length emptied) → now.blocks ≡ heads.blocks
    → (AreDistinct (take 4 way) → ClearsAlong way (3 - length emptied) id old between)
    → (AreDistinct (take 4 way) → AreAllWithoutOther way (length emptied) id old)
    → (IsUnlinkable old heads.blocks way id → LosesLeaf way emptied id heads.blocks old between)
    → KeepsBlocksBut (emptied ++ get_or way (3 - length emptied) 0 ∷ []) old between
    → GivesHeld emptied between new heads now → UnlinksLeaf way id old new heads now
unlinks_leaf way emptied id old between new heads now five small answered same clears empties loses keeps gives =
    λ held format records is tree.
    let can : IsUnlinkable old heads.blocks way id =
    unlinkable held way format old (length old) heads records id tree is in
    let distinct : AreDistinct (take 4 way) = way_distinct old way heads.blocks id five small can in
    let gone = unlinked held way emptied format old between (length old) heads records id tree small five
    (empties distinct).few (clears distinct) keeps (loses can) (length between) keeps.longer in
    let rest = gives held (Some (record { number = id; block = get_or way 4 0 })) format records gone in
    let changed : List ℕ = emptied ++ get_or way (3 - length emptied) 0 ∷ [] in
    let in_tree : (block : ℕ) → StandsIn changed block → StandsIn (tree_blocks old heads.blocks) block =
    changed_old held way emptied format old between (length old) heads records id tree small five (empties distinct).few
    (clears distinct) keeps (loses can) in
    let header : block_of between 0 ≡ block_of old 0 = keeps.others 0
    (none_is_header (loose_of held None None) old heads.blocks heads.free tree.roles changed in_tree) in
    let unlinked_none : FreesBlocks [] old between heads heads =
    frees_none (loose_of held None None) format old between heads records changed tree keeps
    (λ block stands. omega (
      arith,
      in_tree block stands,
      one_role (loose_of held None None) old heads.blocks heads.free tree.roles block,
      times-roles (loose_of held None None) old heads.blocks tree.roles.free block,
    )) (λ block stands. role_low (loose_of held None None) old heads.blocks heads.free tree.roles block (omega (
      arith,
      in_tree block stands,
      times-roles (loose_of held None None) old heads.blocks tree.roles.free block,
    ))) heads.first in
    let left : take (4 - length emptied) way ≡ blocks_on_way new heads.blocks id =
    (loses can).can.way ∙ sym (rest.1.ways id small) ∙ ap (λ (n : ℕ). blocks_on_way new n id) same in (
      record {
        tree = rest.0.tree;
        same_data =
            rest.0.same_data ∙ same_data way emptied id old between heads.blocks (loses can) gone.awaited.absent;
        header = rest.0.header ∙ header;
      },
      subst (λ (freed : List ℕ). FreesBlocks freed old new heads now)
          (append-nil (reverse emptied)
          ∙ lost_down way emptied id heads.blocks old new five (empties distinct).few answered is left
          ∙ ap (λ (n : ℕ). lost_blocks old new n id) (sym same))
          (frees_then [] (reverse emptied) old between new heads heads now unlinked_none rest.1.frees),
    )
