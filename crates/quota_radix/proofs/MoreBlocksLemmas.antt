-- A tree of which no reference leads past the last block is the same tree where there are more blocks.
use Rattle.std.proofs.Common.{◌≡◌, ℕ, zero, suc, ◌+◌, ◌*◌, ◌/◌, ◌^◌, ◌<◌, ◌≤◌, ◌&&◌, ◌==◌, not, Bool, Option, List, []}
use Rattle.std.proofs.Common.{◌∷◌, ◌++◌, find, map, filter_map, flat_map, option_map, refl, sym, ap, subst, ◌∙◌, inl}
use Rattle.std.proofs.Common.{inr, arith}
use Rattle.std.specs.Prelude.{Some, None, if◌then◌else◌}
use Rattle.std.specs.List.{cons_option, range_with_len}
use Rattle.std.proofs.lemmas.Bool.{cases_lt, lt-ltb}
use Rattle.quota_types.specs.Times.{StandsIn}
use Rattle.quota_types.proofs.TimesLemmas.{times-cons, times-cons-same}
use Rattle.file_blocks.specs.Block.{leads, word_at}
use Rattle.quota_radix.specs.declared.tree_path.TreePath.{TreePath}
use Rattle.quota_radix.specs.OnWay.{block_led_to, block_on_way, blocks_on_way}
use Rattle.quota_radix.specs.Tree.{leaves, level, lower_blocks, paths, step, steps, tree_blocks}
use Rattle.quota_radix.proofs.DescentLemmas.{path_led_to}
use Rattle.quota_radix.proofs.LinkPathLemmas.{front_of, front_small, level_in_tree}

-- Each reference of some blocks, by any digit, is that of another file, and leads past the last block of neither.
pub record KeepsReferences (old new : List ℕ) (blocks : ℕ) (numbers : List ℕ) : Type 0 where
  pub inside : (block : ℕ) → StandsIn numbers block → (digit : ℕ) → digit < 256 → word_at old block digit < blocks
  pub same : (block : ℕ) → StandsIn numbers block → (digit : ℕ) → digit < 256
      → word_at new block digit ≡ word_at old block digit

-- a reference that is inside leads to a block among more of them where it did before
leads_among_more : (blocks more reference : ℕ) → blocks ≤ more → reference < blocks
    → leads more reference ≡ leads blocks reference
leads_among_more blocks more reference fewer low =
    ap (λ (b : Bool). not (reference == 0) && b)
    (lt-ltb reference more (omega arith) ∙ sym (lt-ltb reference blocks low))

-- the path that goes on by a digit, where it does
abbrev goes_by : (leads_there : Bool) → TreePath → (digit reference : ℕ) → Option TreePath
goes_by leads_there path digit reference =
    if leads_there then Some (record { number = 256 * path.number + digit; block = reference }) else None

step_among_more : (old new : List ℕ) (blocks more : ℕ) (path : TreePath) (digit : ℕ) → blocks ≤ more
    → word_at old path.block digit < blocks → word_at new path.block digit ≡ word_at old path.block digit
    → step new more path digit ≡ step old blocks path digit
step_among_more old new blocks more path digit fewer low same =
    ap (λ (reference : ℕ). goes_by (leads more reference) path digit reference) same
    ∙ ap (λ (there : Bool). goes_by there path digit (word_at old path.block digit))
    (leads_among_more blocks more (word_at old path.block digit) fewer low)

-- what is given for each number of a range is the same where it is the same for each of them
given_same : {A : Type 0} (f g : ℕ → Option A) (first count : ℕ)
    → ((digit : ℕ) → first ≤ digit → digit < first + count → f digit ≡ g digit)
    → filter_map f (range_with_len first count) ≡ filter_map g (range_with_len first count)
given_same f g first zero same = refl
given_same {A} f g first (suc count) same =
    ap (λ (found : Option A). cons_option found (filter_map f (range_with_len (first + 1) count)))
    (same first (omega arith) (omega arith))
    ∙ ap (cons_option (g first))
    (given_same f g (first + 1) count (λ digit from low. same digit (omega arith) (omega arith)))

steps_among_more : (old new : List ℕ) (blocks more : ℕ) (path : TreePath) → blocks ≤ more
    → KeepsReferences old new blocks (path.block ∷ []) → steps new more path ≡ steps old blocks path
unfolding steps
steps_among_more old new blocks more path fewer keeps =
    let here : StandsIn (path.block ∷ []) path.block = omega (arith, times-cons-same path.block []) in
    given_same (step new more path) (step old blocks path) 0 256
    (λ digit from low. step_among_more old new blocks more path digit fewer
    (keeps.inside path.block here digit (omega arith)) (keeps.same path.block here digit (omega arith)))

-- of some blocks, or of fewer
keeps_fewer : {old new : List ℕ} {blocks : ℕ} {numbers : List ℕ} (few : List ℕ)
    → ((number : ℕ) → StandsIn few number → StandsIn numbers number) → KeepsReferences old new blocks numbers
    → KeepsReferences old new blocks few
keeps_fewer few among keeps = record {
  inside = λ block stands. keeps.inside block (among block stands);
  same = λ block stands. keeps.same block (among block stands);
}

first_alone : (number : ℕ) (numbers : List ℕ) (other : ℕ) → StandsIn (number ∷ []) other
    → StandsIn (number ∷ numbers) other
first_alone number numbers other stands =
    omega (arith, stands, times-cons number [] other, times-cons number numbers other)

others_alone : (number : ℕ) (numbers : List ℕ) (other : ℕ) → StandsIn numbers other → StandsIn (number ∷ numbers) other
others_alone number numbers other stands = omega (arith, stands, times-cons number numbers other)

go_on_among_more : (old new : List ℕ) (blocks more : ℕ) (ps : List TreePath) → blocks ≤ more
    → KeepsReferences old new blocks (map (λ path. path.block) ps)
    → flat_map (steps new more) ps ≡ flat_map (steps old blocks) ps
go_on_among_more old new blocks more [] fewer keeps = refl
go_on_among_more old new blocks more (path ∷ ps) fewer keeps =
    ap (λ (these : List TreePath). these ++ flat_map (steps new more) ps)
    (steps_among_more old new blocks more path fewer
    (keeps_fewer (path.block ∷ []) (first_alone path.block (map (λ path. path.block) ps)) keeps))
    ∙ ap (λ (those : List TreePath). steps old blocks path ++ those)
    (go_on_among_more old new blocks more ps fewer
    (keeps_fewer (map (λ path. path.block) ps) (others_alone path.block (map (λ path. path.block) ps)) keeps))

-- the paths of this many digits
pub paths-among_more : (old new : List ℕ) (blocks more digits : ℕ) → blocks ≤ more
    → KeepsReferences old new blocks (tree_blocks old blocks) → digits ≤ 4
    → paths new more digits ≡ paths old blocks digits
paths-among_more old new blocks more zero fewer keeps few = refl
paths-among_more old new blocks more (suc digits) fewer keeps few =
    ap (flat_map (steps new more)) (paths-among_more old new blocks more digits fewer keeps (omega arith))
    ∙ go_on_among_more old new blocks more (paths old blocks digits) fewer
    (keeps_fewer (level old blocks digits)
    (λ block stands. level_in_tree old blocks digits block (omega arith) stands) keeps)

-- the leaves
pub leaves-among_more : (old new : List ℕ) (blocks more : ℕ) → blocks ≤ more
    → KeepsReferences old new blocks (tree_blocks old blocks) → leaves new more ≡ leaves old blocks
leaves-among_more old new blocks more fewer keeps = paths-among_more old new blocks more 4 fewer keeps (omega arith)

-- the blocks of a level
pub level-among_more : (old new : List ℕ) (blocks more digits : ℕ) → blocks ≤ more
    → KeepsReferences old new blocks (tree_blocks old blocks) → digits ≤ 4
    → level new more digits ≡ level old blocks digits
level-among_more old new blocks more digits fewer keeps few =
    ap (map {A = TreePath} {B = ℕ} (λ path. path.block)) (paths-among_more old new blocks more digits fewer keeps few)

-- the blocks of the tree
pub lower_blocks-among_more : (old new : List ℕ) (blocks more : ℕ) → blocks ≤ more
    → KeepsReferences old new blocks (tree_blocks old blocks) → lower_blocks new more ≡ lower_blocks old blocks
lower_blocks-among_more old new blocks more fewer keeps =
    ap (λ (blocks' : List ℕ). blocks' ++ level new more 2 ++ level new more 3)
    (level-among_more old new blocks more 1 fewer keeps (omega arith))
    ∙ ap (λ (blocks' : List ℕ). level old blocks 1 ++ blocks' ++ level new more 3)
    (level-among_more old new blocks more 2 fewer keeps (omega arith))
    ∙ ap (λ (blocks' : List ℕ). level old blocks 1 ++ level old blocks 2 ++ blocks')
    (level-among_more old new blocks more 3 fewer keeps (omega arith))

pub tree_blocks-among_more : (old new : List ℕ) (blocks more : ℕ) → blocks ≤ more
    → KeepsReferences old new blocks (tree_blocks old blocks) → tree_blocks new more ≡ tree_blocks old blocks
tree_blocks-among_more old new blocks more fewer keeps =
    ap (λ (blocks' : List ℕ). blocks' ++ lower_blocks new more)
    (level-among_more old new blocks more 0 fewer keeps (omega arith))
    ∙ ap (λ (blocks' : List ℕ). level old blocks 0 ++ blocks') (lower_blocks-among_more old new blocks more fewer keeps)

-- the block to which a number of this many digits leads
led-among_more : (old new : List ℕ) (blocks more digits number : ℕ) → blocks ≤ more
    → KeepsReferences old new blocks (tree_blocks old blocks) → digits ≤ 4 → number < 256 ^ digits
    → block_led_to new more digits number ≡ block_led_to old blocks digits number
led-among_more old new blocks more digits number fewer keeps few low =
    path_led_to new more digits number low
    ∙ ap (λ (ps : List TreePath). option_map (λ (path : TreePath). path.block)
    (find (λ (path : TreePath). path.number == number) ps))
    (paths-among_more old new blocks more digits fewer keeps few)
    ∙ sym (path_led_to old blocks digits number low)

-- the number that this many digits of an identifier make is one of that many digits
front_low : (id digits : ℕ) → id < 2 ^ 32 → digits ≤ 4 → front_of id digits < 256 ^ digits
front_low id digits small few = elim (cases_lt digits 4) [
  | inl fewer ↦ front_small id digits small fewer
  | inr all ↦
      let four : digits ≡ 4 = omega arith in
      subst (λ (k : ℕ). front_of id k < 256 ^ k) (sym four) (let whole : id / 1 < 256 ^ 4 = omega arith in whole)
]

-- the blocks on the way of an identifier
pub way-among_more : (old new : List ℕ) (blocks more id : ℕ) → blocks ≤ more → id < 2 ^ 32
    → KeepsReferences old new blocks (tree_blocks old blocks) → blocks_on_way new more id ≡ blocks_on_way old blocks id
unfolding block_on_way blocks_on_way
way-among_more old new blocks more id fewer small keeps =
    given_same (block_on_way new more id) (block_on_way old blocks id) 0 5
    (λ gone from low. led-among_more old new blocks more gone (front_of id gone) fewer keeps (omega arith)
    (front_low id gone small (omega arith)))
