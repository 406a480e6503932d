-- How many blocks a check reads.
use Rattle.std.proofs.Common.{◌≡◌, ℕ, zero, suc, ◌+◌, ◌<◌, ◌≤◌, Bool, cond, nat_le, List, [], ◌∷◌, ◌++◌, length, get_or}
use Rattle.std.proofs.Common.{map, take, drop, refl, sym, ap, ◌∙◌, arith, length-append}
use Rattle.std.proofs.lemmas.List.{length-map, take-append-drop}
use Rattle.std.proofs.lemmas.List.Sums.{length-filter, sum_by-append, sum_by-cons}
use Rattle.std.proofs.lemmas.List.Filters.{length-filter_more}
use Rattle.std.specs.List.{count_by, range_with_len}
use Rattle.free_chains.specs.declared.chain_link.ChainLink.{ChainLink}
use Rattle.quota_radix.specs.declared.tree_path.TreePath.{TreePath}
use Rattle.file_blocks.specs.BlockSet.{AreFlagsOf}
use Rattle.quota_types.specs.Times.{times}
use Rattle.tree_check.specs.Groups.{AreGroupsOf, named_blocks}
use Rattle.quota_radix.specs.Tree.{blocks_of, ids_at}
use Rattle.quota_radix.specs.Reads.{AreMarkedReads}
use Rattle.tree_check.specs.Reads.{led_blocks}
use Rattle.free_chains.specs.Walk.{linked_blocks}
use Rattle.tree_check.proofs.GroupLemmas.{count_ids}
use Rattle.file_blocks.proofs.MarkedLemmas.{marked_fit}

-- one more block, and whether identifiers lead to it
pub led_more : (groups : List (List ℕ)) (i : ℕ) (d : List ℕ) → i < length groups
    → led_blocks (take (i + 1) groups) ≡ led_blocks (take i groups) + cond (nat_le 1 (length (get_or groups i d))) 1 0
led_more groups i d low =
    let test : List ℕ → Bool = λ ids. nat_le 1 (length ids) in
    sym (length-filter test (take (i + 1) groups)) ∙ length-filter_more test groups i d low
    ∙ ap (λ (n : ℕ). n + cond (test (get_or groups i d)) 1 0) (length-filter test (take i groups))

-- the first blocks have no more
pub led_first : (groups : List (List ℕ)) (i : ℕ) → led_blocks (take i groups) ≤ led_blocks groups
led_first groups i =
    let test : List ℕ → Bool = λ ids. nat_le 1 (length ids) in
    omega (
      arith,
      sum_by-append (λ (ids : List ℕ). cond (test ids) 1 0) (take i groups) (drop i groups),
      ap led_blocks (take-append-drop i groups),
    )

-- the blocks that leaves name are those to which identifiers lead
led_from : (leaves : List TreePath) (low count : ℕ)
    → led_blocks (map (ids_at leaves) (range_with_len low count))
    ≡ count_by (λ block. nat_le 1 (times (blocks_of leaves) block)) (range_with_len low count)
led_from leaves low zero = refl
led_from leaves low (suc count) =
    let named : ℕ → Bool = λ block. nat_le 1 (times (blocks_of leaves) block) in
    let led : List ℕ → Bool = λ ids. nat_le 1 (length ids) in
    let rest : List ℕ = range_with_len (low + 1) count in
    let same : cond (led (ids_at leaves low)) 1 0 ≡ cond (named low) 1 0 =
    ap {B = ℕ} (λ (n : ℕ). cond (nat_le 1 n) 1 0) (count_ids leaves low) in
    omega (
      arith,
      sum_by-cons (λ (ids : List ℕ). cond (led ids) 1 0) (ids_at leaves low) (map (ids_at leaves) rest),
      sum_by-cons (λ (block : ℕ). cond (named block) 1 0) low rest,
      same,
      led_from leaves (low + 1) count,
    )

pub led_named : (blocks : ℕ) (leaves : List TreePath) (groups : List (List ℕ)) → AreGroupsOf blocks leaves groups
    → led_blocks groups ≡ length (named_blocks blocks leaves)
led_named blocks leaves groups are =
    ap led_blocks are ∙ led_from leaves 0 blocks
    ∙ sym (length-filter (λ (block : ℕ). nat_le 1 (times (blocks_of leaves) block)) (range_with_len 0 blocks))

-- the blocks that were read for their roles, and the data blocks, which are not read yet, are no more than there are
pub roles_few : (blocks : ℕ) (found flags : List Bool) (leaves : List TreePath) (groups : List (List ℕ))
    (links : List ChainLink) (before between now : ℕ)
    → (so_far : AreMarkedReads blocks found (0 ∷ []) before between) → now ≤ between + length links
    → AreGroupsOf blocks leaves groups
    → AreFlagsOf blocks flags ((((0 ∷ []) ++ so_far.more) ++ named_blocks blocks leaves) ++ linked_blocks links)
    → now + led_blocks groups ≤ before + blocks
roles_few blocks found flags leaves groups links before between now so_far few are marked =
    let tree : List ℕ = (0 ∷ []) ++ so_far.more in
    omega (
      arith,
      so_far.few,
      few,
      led_named blocks leaves groups are,
      marked_fit blocks flags ((tree ++ named_blocks blocks leaves) ++ linked_blocks links) marked,
      length-append (tree ++ named_blocks blocks leaves) (linked_blocks links),
      length-append tree (named_blocks blocks leaves),
      length-map links (λ (link : ChainLink). link.block),
    )
