-- Leaves that stand by their blocks, taken block by block.
use Rattle.std.proofs.Common.{◌≡◌, ◌≢◌, ℕ, ◌+◌, ◌<◌, ◌≤◌, ◌==◌, Bool, not, ◌&&◌, cond, List, [], ◌∷◌, ◌++◌, length}
use Rattle.std.proofs.Common.{get_or, map, take, drop, filter, zero, suc, IsTrue, subst, refl, sym, ap, ◌∙◌, arith}
use Rattle.std.proofs.Common.{length-drop, append-nil}
use Rattle.std.specs.Prelude.{All}
use Rattle.std.specs.List.{range_with_len}
use Rattle.std.specs.List.Sorted.{IsStableByKey, ties}
use Rattle.std.specs.Ordering.{nat_cmp, is_lt}
use Rattle.std.proofs.lemmas.Bool.{eq-eqb, ne_eqb}
use Rattle.std.proofs.lemmas.Bool.Decides.{nat_tests}
use Rattle.std.proofs.lemmas.List.{append_assoc, get_or-drop, length-map, map-append, take-append-drop}
use Rattle.std.proofs.lemmas.List.Elements.{All-append, All-head, All-nil, All-tail, All-weaker, filter-append}
use Rattle.std.proofs.lemmas.List.Elements.{filter_agree}
use Rattle.std.proofs.lemmas.List.FromFn.{get_or-map-range_with_len, length-map-range_with_len}
use Rattle.std.proofs.lemmas.List.Sorted.{IsNonDecreasingBy-drop}
use Rattle.quota_radix.specs.declared.tree_path.TreePath.{TreePath}
use Rattle.quota_radix.specs.Tree.{ids_at, numbers_of}
use Rattle.byte_order.specs.declared.order.Order.{Order}
use Rattle.tree_meaning.specs.Compared.{IsDataDefect, leading_ids}
use Rattle.quota_types.specs.declared.damage.Damage.{Damage}
use Rattle.quota_types.specs.declared.file_kind.Format.{Format}
use Rattle.file_blocks.specs.CheckFault.{IsCheckFault}
use Rattle.file_blocks.specs.declared.check_fault.CheckFault.{CheckFault}
use Rattle.file_blocks.specs.declared.check_fault.CheckFault.TheVariants.{Store, Damage as Damaged, Memory}
use Rattle.tree_check.specs.Groups.{AreByBlock, AreGroupsOf, AreLeftFrom, groups_of}

-- the identifiers that lead to a block which none of some leaves names, or which each of them names
ids_none : (leaves : List TreePath) (block : ℕ) → All (λ (leaf : TreePath). leaf.block ≢ block) leaves
    → ids_at leaves block ≡ []
ids_none [] block none = refl
ids_none (leaf ∷ leaves) block none =
    ap (λ (b : Bool). map (λ (path : TreePath). path.number)
    (cond b (leaf ∷ filter (λ (path : TreePath). path.block == block) leaves)
    (filter (λ (path : TreePath). path.block == block) leaves)))
    (ne_eqb leaf.block block (All-head (λ (leaf : TreePath). leaf.block ≢ block) leaf leaves none))
    ∙ ids_none leaves block (All-tail (λ (leaf : TreePath). leaf.block ≢ block) leaf leaves none)

ids_all : (leaves : List TreePath) (block : ℕ) → All (λ (leaf : TreePath). leaf.block ≡ block) leaves
    → ids_at leaves block ≡ numbers_of leaves
ids_all [] block each = refl
ids_all (leaf ∷ leaves) block each =
    ap (λ (b : Bool). map (λ (path : TreePath). path.number)
    (cond b (leaf ∷ filter (λ (path : TreePath). path.block == block) leaves)
    (filter (λ (path : TreePath). path.block == block) leaves)))
    (eq-eqb leaf.block block (All-head (λ (leaf : TreePath). leaf.block ≡ block) leaf leaves each))
    ∙ ap (λ (ns : List ℕ). leaf.number ∷ ns)
    (ids_all leaves block (All-tail (λ (leaf : TreePath). leaf.block ≡ block) leaf leaves each))

-- the identifiers that lead to a block, of two lists of leaves
ids_both : (xs ys : List TreePath) (block : ℕ) → ids_at (xs ++ ys) block ≡ ids_at xs block ++ ids_at ys block
ids_both xs ys block =
    ap (λ (ps : List TreePath). map (λ (path : TreePath). path.number) ps)
    (filter-append (λ (path : TreePath). path.block == block) xs ys)
    ∙ map-append (λ (path : TreePath). path.number) (filter (λ (path : TreePath). path.block == block) xs)
    (filter (λ (path : TreePath). path.block == block) ys)

-- what stands behind the leaves of a block names later ones
past : (rest : List TreePath) (block count : ℕ) → AreByBlock rest → All (λ (leaf : TreePath). block ≤ leaf.block) rest
    → ((d : TreePath) → count < length rest → (get_or rest count d).block ≢ block)
    → All (λ (leaf : TreePath). block + 1 ≤ leaf.block) (drop count rest)
past rest block count by_block from other = λ k d in_drop.
    let inside : count + k < length rest = omega (arith, in_drop, length-drop count rest) in
    let first : block ≤ (get_or rest count d).block = from count d (omega (arith, inside)) in
    let later : (get_or rest count d).block ≤ (get_or rest (count + k) d).block =
    by_block count (count + k) d (omega arith) inside in
    let not_here : (get_or rest count d).block ≢ block = other d (omega (arith, inside)) in
    let same : (get_or (drop count rest) k d).block ≡ (get_or rest (count + k) d).block =
    ap (λ (leaf : TreePath). leaf.block) (get_or-drop count rest k d) in
    omega (arith, first, later, not_here, same)

-- those of a block are taken off
pub taken : (leaves rest : List TreePath) (block count : ℕ) → AreLeftFrom leaves block rest
    → All (λ (leaf : TreePath). leaf.block ≡ block) (take count rest)
    → ((d : TreePath) → count < length rest → (get_or rest count d).block ≢ block)
    → numbers_of (take count rest) ≡ ids_at leaves block
taken leaves rest block count left those other =
    let here : List TreePath = take count rest in
    let behind : List TreePath = drop count rest in
    let none_before : ids_at left.front block ≡ [] =
    ids_none left.front block
    (All-weaker (λ (leaf : TreePath). leaf.block < block) (λ (leaf : TreePath). leaf.block ≢ block)
    (λ leaf low same. omega (arith, low, same)) left.front left.below) in
    let none_behind : ids_at behind block ≡ [] =
    ids_none behind block
    (All-weaker (λ (leaf : TreePath). block + 1 ≤ leaf.block) (λ (leaf : TreePath). leaf.block ≢ block)
    (λ leaf high same. omega (arith, high, same)) behind (past rest block count left.by_block left.from other)) in
    sym
    (ap (λ (ps : List TreePath). ids_at ps block)
    (left.split ∙ ap (λ (ps : List TreePath). left.front ++ ps) (sym (take-append-drop count rest)))
    ∙ ids_both left.front (here ++ behind) block
    ∙ ap (λ (ns : List ℕ). ns ++ ids_at (here ++ behind) block) none_before
    ∙ ids_both here behind block
    ∙ ap (λ (ns : List ℕ). ids_at here block ++ ns) none_behind
    ∙ append-nil (ids_at here block)
    ∙ ids_all here block those)

pub left_behind : (leaves rest : List TreePath) (block count : ℕ) → AreLeftFrom leaves block rest
    → All (λ (leaf : TreePath). leaf.block ≡ block) (take count rest)
    → ((d : TreePath) → count < length rest → (get_or rest count d).block ≢ block)
    → AreLeftFrom leaves (block + 1) (drop count rest)
left_behind leaves rest block count left those other = record {
  front = left.front ++ take count rest;
  split = left.split ∙ ap (λ (ps : List TreePath). left.front ++ ps) (sym (take-append-drop count rest))
      ∙ sym (append_assoc left.front (take count rest) (drop count rest));
  below = All-append (λ (leaf : TreePath). leaf.block < block + 1) left.front (take count rest)
      (All-weaker (λ (leaf : TreePath). leaf.block < block) (λ (leaf : TreePath). leaf.block < block + 1)
      (λ leaf low. omega (arith, low)) left.front left.below)
      (All-weaker (λ (leaf : TreePath). leaf.block ≡ block) (λ (leaf : TreePath). leaf.block < block + 1)
      (λ leaf same. omega (arith, same)) (take count rest) those);
  from = past rest block count left.by_block left.from other;
  by_block = IsNonDecreasingBy-drop (λ (leaf : TreePath). leaf.block) count rest left.by_block;
}

-- at first all leaves are left
pub all_left : (leaves : List TreePath) → AreByBlock leaves → AreLeftFrom leaves 0 leaves
all_left leaves by_block = record {
  front = [];
  split = refl;
  below = All-nil (λ (leaf : TreePath). leaf.block < 0);
  from = λ k d low. omega arith;
  by_block = by_block;
}

-- two blocks tie where they are one
tie : (a b : ℕ) → (not (is_lt (nat_cmp a b)) && not (is_lt (nat_cmp b a))) ≡ (b == a)
tie a b = grind (arith, nat_tests)

-- a stable sort by block keeps the identifiers that lead to each one, in order
pub same_ids : (leaves sorted : List TreePath) (block : ℕ)
    → IsStableByKey (λ (leaf : TreePath). leaf.block) nat_cmp leaves sorted → ids_at sorted block ≡ ids_at leaves block
same_ids leaves sorted block stable =
    let named : TreePath → Bool = λ path. path.block == block in
    let tied : TreePath → Bool =
    ties (λ (x y : TreePath). is_lt (nat_cmp x.block y.block)) (record { number = 0; block = block }) in
    let agree : (path : TreePath) → tied path ≡ named path = λ path. tie block path.block in
    ap (λ (ps : List TreePath). map (λ (path : TreePath). path.number) ps)
    (sym (filter_agree tied named agree sorted) ∙ stable (record { number = 0; block = block })
    ∙ filter_agree tied named agree leaves)

-- the groups of leaves that lead to the same identifiers at each block
groups_from : (xs ys : List TreePath) (low count : ℕ) → ((block : ℕ) → ids_at xs block ≡ ids_at ys block)
    → map (ids_at xs) (range_with_len low count) ≡ map (ids_at ys) (range_with_len low count)
groups_from xs ys low zero same = refl
groups_from xs ys low (suc count) same =
    ap (λ (ids : List ℕ). ids ∷ map (ids_at xs) (range_with_len (low + 1) count)) (same low)
    ∙ ap (λ (all : List (List ℕ)). ids_at ys low ∷ all) (groups_from xs ys (low + 1) count same)

pub same_groups : (blocks : ℕ) (leaves sorted : List TreePath)
    → ((block : ℕ) → ids_at sorted block ≡ ids_at leaves block) → AreGroupsOf blocks leaves (groups_of blocks sorted)
same_groups blocks leaves sorted same = groups_from sorted leaves 0 blocks same

-- the identifiers of one block, by leaves that have the same groups
ids_here : (blocks : ℕ) (leaves sorted : List TreePath) (block : ℕ)
    → AreGroupsOf blocks leaves (groups_of blocks sorted) → block < blocks → ids_at sorted block ≡ ids_at leaves block
ids_here blocks leaves sorted block are low =
    sym (get_or-map-range_with_len (ids_at sorted) 0 blocks block block [] low (omega arith))
    ∙ ap (λ (all : List (List ℕ)). get_or all block []) are
    ∙ get_or-map-range_with_len (ids_at leaves) 0 blocks block block [] low (omega arith)

-- as many identifiers lead to a block as there are leaves of it
pub count_here : (blocks : ℕ) (leaves sorted here : List TreePath) (block : ℕ)
    → AreGroupsOf blocks leaves (groups_of blocks sorted) → block < blocks → numbers_of here ≡ ids_at sorted block
    → length (ids_at leaves block) ≡ length here
count_here blocks leaves sorted here block are low is =
    ap length (sym (ids_here blocks leaves sorted block are low)) ∙ ap length (sym is)
    ∙ length-map here (λ (path : TreePath). path.number)

-- as many groups as blocks, and the group of a block as a list that was made of its leaves
pub length_groups : (blocks : ℕ) (leaves : List TreePath) → length (groups_of blocks leaves) ≡ blocks
length_groups blocks leaves = length-map-range_with_len (ids_at leaves) 0 blocks

pub led_here : (blocks : ℕ) (leaves here : List TreePath) (block : ℕ) (ids slice : List ℕ) → block < blocks
    → numbers_of here ≡ ids_at leaves block → ids ≡ numbers_of here → slice ≡ ids
    → leading_ids (groups_of blocks leaves) block ≡ slice
led_here blocks leaves here block ids slice low is made as_slice =
    get_or-map-range_with_len (ids_at leaves) 0 blocks block block [] low (omega arith) ∙ sym is
    ∙ sym made ∙ sym as_slice

-- a damage of a block by the list of its leaves is one by the groups
led_damage : (order : Order) (format : Format) (file there : List ℕ) (groups : List (List ℕ)) (block : ℕ) (ids : List ℕ)
    (damage : Damage) → there ≡ file → leading_ids groups block ≡ ids
    → IsDataDefect order format there ids block damage
    → IsDataDefect order format file (leading_ids groups damage.block) damage.block damage
led_damage order format file there groups block ids damage same_file group is =
    subst (λ (f : List ℕ). IsDataDefect order format f (leading_ids groups damage.block) damage.block damage) same_file
    (subst (λ (b : ℕ). IsDataDefect order format there (leading_ids groups b) b damage) (sym is.defect.block_is)
    (subst (λ (ns : List ℕ). IsDataDefect order format there ns block damage) (sym group) is))

pub led_refused : (before between now : ℕ) (tells : Bool) (order : Order) (format : Format) (file there : List ℕ)
    (groups : List (List ℕ)) (block : ℕ) (ids : List ℕ) (fault : CheckFault)
    → before ≤ between → there ≡ file → leading_ids groups block ≡ ids
    → IsCheckFault between now (λ damage. IsTrue tells → IsDataDefect order format there ids block damage) fault
    → IsCheckFault before now
    (λ damage. IsTrue tells → IsDataDefect order format file (leading_ids groups damage.block) damage.block damage)
    fault
led_refused before between now tells order format file there groups block ids Store later same_file group is =
    omega (arith, is)
led_refused before between now tells order format file there groups block ids (Damaged damage) later
    same_file group is = (
      is.0,
      λ told. led_damage order format file there groups block ids damage same_file group (is.1 told),
    )
led_refused before between now tells order format file there groups block ids Memory later same_file group is = tt
