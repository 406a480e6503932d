-- The blocks that leaves name, taken block by block.
use Rattle.std.proofs.Common.{◌≡◌, ℕ, suc, ◌+◌, ◌<◌, ◌≤◌, ◌==◌, cond, List, [], ◌∷◌, ◌++◌, length, map, filter, refl}
use Rattle.std.proofs.Common.{sym, ap, subst, ◌∙◌, inl, inr, arith, nat_le}
use Rattle.std.specs.Prelude.{Bool, true, false}
use Rattle.std.specs.List.{range_with_len}
use Rattle.std.proofs.lemmas.List.{append_assoc, append-nil}
use Rattle.std.proofs.lemmas.List.Elements.{filter-append}
use Rattle.std.proofs.lemmas.Bool.{eqb-false, eqb-true, le-leb, lt-leb}
use Rattle.std.proofs.lemmas.Bool.Decides.{eqb_tells}
use Rattle.quota_radix.specs.declared.tree_path.TreePath.{TreePath}
use Rattle.file_blocks.specs.BlockSet.{AreFlagsOf}
use Rattle.quota_types.specs.Times.{StandsIn, StandsTwiceIn, times}
use Rattle.tree_check.specs.Groups.{named_blocks}
use Rattle.quota_radix.specs.Tree.{blocks_of, ids_at}
use Rattle.quota_types.proofs.TimesLemmas.{times-append, times-cons-same, times-cons-other, times-filter-yes}
use Rattle.quota_types.proofs.TimesLemmas.{times-range-high, times-range-within}
use Rattle.quota_radix.proofs.StepLemmas.{range_push}

-- a block has as many identifiers as leaves name it
pub count_ids : (leaves : List TreePath) (block : ℕ) → length (ids_at leaves block) ≡ times (blocks_of leaves) block
count_ids [] block = refl
count_ids (leaf ∷ leaves) block =
    let rest : List TreePath = filter (λ (path : TreePath). path.block == block) leaves in
    elim (eqb_tells leaf.block block) [
      | inl same ↦ ap (λ (b : Bool). length (map (λ (path : TreePath). path.number) (cond b (leaf ∷ rest) rest))) same.0
          ∙ ap suc (count_ids leaves block) ∙ ap (λ (n : ℕ). suc (times (blocks_of leaves) n)) (sym same.1)
          ∙ sym (times-cons-same leaf.block (blocks_of leaves))
          ∙ ap (λ (n : ℕ). times (leaf.block ∷ blocks_of leaves) n) same.1
      | inr other ↦
          ap (λ (b : Bool). length (map (λ (path : TreePath). path.number) (cond b (leaf ∷ rest) rest))) other.0
          ∙ count_ids leaves block ∙ sym (times-cons-other leaf.block (blocks_of leaves) block other.1)
    ]

-- one block more, which leaves name or not
named_yes : (count : ℕ) (leaves : List TreePath) → 1 ≤ times (blocks_of leaves) count
    → named_blocks (count + 1) leaves ≡ named_blocks count leaves ++ count ∷ []
named_yes count leaves some =
    let test : ℕ → Bool = λ block. nat_le 1 (times (blocks_of leaves) block) in
    ap (λ (ks : List ℕ). filter test ks) (range_push 0 count)
    ∙ filter-append test (range_with_len 0 count) ((0 + count) ∷ [])
    ∙ ap (λ (k : ℕ). named_blocks count leaves ++ filter test (k ∷ [])) zero_plus
    ∙ ap (λ (b : Bool). named_blocks count leaves ++ cond b (count ∷ []) [])
    (le-leb 1 (times (blocks_of leaves) count) some)
  where
    zero_plus : 0 + count ≡ count
    zero_plus = omega arith

named_no : (count : ℕ) (leaves : List TreePath) → times (blocks_of leaves) count ≡ 0
    → named_blocks (count + 1) leaves ≡ named_blocks count leaves
named_no count leaves none =
    let test : ℕ → Bool = λ block. nat_le 1 (times (blocks_of leaves) block) in
    ap (λ (ks : List ℕ). filter test ks) (range_push 0 count)
    ∙ filter-append test (range_with_len 0 count) ((0 + count) ∷ [])
    ∙ ap (λ (k : ℕ). named_blocks count leaves ++ filter test (k ∷ [])) zero_plus
    ∙ ap (λ (b : Bool). named_blocks count leaves ++ cond b (count ∷ []) [])
    (lt-leb 1 (times (blocks_of leaves) count) (omega arith))
    ∙ append-nil (named_blocks count leaves)
  where
    zero_plus : 0 + count ≡ count
    zero_plus = omega arith

-- a block that leaves name, and that was met before, stands twice
pub named_twice : (blocks block : ℕ) (leaves : List TreePath) (numbers : List ℕ) → block < blocks
    → 1 ≤ length (ids_at leaves block)
    → StandsIn (numbers ++ named_blocks block leaves) block
    → StandsTwiceIn (numbers ++ named_blocks blocks leaves) block
named_twice blocks block leaves numbers low some stands =
    let test : ℕ → Bool = λ other. nat_le 1 (times (blocks_of leaves) other) in
    let named : test block ≡ true =
    le-leb 1 (times (blocks_of leaves) block) (omega (arith, some, count_ids leaves block)) in
    omega (
      arith,
      stands,
      times-append numbers (named_blocks block leaves) block,
      times-append numbers (named_blocks blocks leaves) block,
      times-filter-yes test (range_with_len 0 block) block named,
      times-filter-yes test (range_with_len 0 blocks) block named,
      times-range-high 0 block block (omega arith),
      times-range-within 0 blocks block (omega arith) (omega arith),
    )

-- the set after one more block
pub marked_yes : (blocks block : ℕ) (flags : List Bool) (leaves : List TreePath) (numbers : List ℕ)
    → 1 ≤ length (ids_at leaves block)
    → AreFlagsOf blocks flags ((numbers ++ named_blocks block leaves) ++ block ∷ [])
    → AreFlagsOf blocks flags (numbers ++ named_blocks (block + 1) leaves)
marked_yes blocks block flags leaves numbers some are =
    subst (λ (all : List ℕ). AreFlagsOf blocks flags all)
    (append_assoc numbers (named_blocks block leaves) (block ∷ [])
    ∙ ap (λ (all : List ℕ). numbers ++ all)
    (sym (named_yes block leaves (omega (arith, some, count_ids leaves block))))) are

pub marked_no : (blocks block : ℕ) (flags : List Bool) (leaves : List TreePath) (numbers : List ℕ)
    → length (ids_at leaves block) ≡ 0
    → AreFlagsOf blocks flags (numbers ++ named_blocks block leaves)
    → AreFlagsOf blocks flags (numbers ++ named_blocks (block + 1) leaves)
marked_no blocks block flags leaves numbers none are =
    subst (λ (all : List ℕ). AreFlagsOf blocks flags (numbers ++ all))
    (sym (named_no block leaves (sym (count_ids leaves block) ∙ none))) are

-- a length that is not 0, by a test
pub some_of : (len : ℕ) → false ≡ (len == 0) → 1 ≤ len
some_of len not_zero = let ne = eqb-false len 0 (sym not_zero) in omega (arith, ne)

pub none_of : (len : ℕ) → true ≡ (len == 0) → len ≡ 0
none_of len is_zero = eqb-true len 0 (sym is_zero)
