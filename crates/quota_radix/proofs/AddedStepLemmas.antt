-- What reading the references of a block of the tree one after another appends.
use Rattle.std.proofs.Common.{◌≡◌, ◌≢◌, ℕ, zero, suc, ◌+◌, ◌*◌, ◌<◌, ◌≤◌, ◌==◌, if◌then◌else◌, IsTrue, List, [], ◌∷◌}
use Rattle.std.proofs.Common.{◌++◌, length, Option, refl, sym, ap, subst, ◌∙◌, inl, inr, arith, length-append}
use Rattle.std.specs.List.{cons_option}
use Rattle.std.proofs.lemmas.List.{append_assoc, append-nil}
use Rattle.std.proofs.lemmas.List.Elements.{All-cons, All-append, All-nil}
use Rattle.std.proofs.lemmas.Bool.{cases_eq}
use Rattle.quota_radix.specs.declared.tree_path.TreePath.{TreePath}
use Rattle.file_blocks.specs.Block.{block_of, word_at, leads}
use Rattle.quota_types.specs.declared.damage.DamageKind.TheVariants.{EmptyTree}
use Rattle.quota_radix.specs.Levels.{AreWithin, IsLevelDefect, IsWhole}
use Rattle.quota_radix.specs.TreeDefect.{IsEmpty}
use Rattle.quota_radix.specs.Tree.{steps}
use Rattle.quota_types.proofs.TimesLemmas.{times-cons-same}
use Rattle.quota_radix.proofs.StepLemmas.{none_by, none_of_zeros, path_by, step_cases, steps_all, steps_from}
use Rattle.quota_radix.proofs.StepLemmas.{steps_more, word_in}

-- the paths that go on lead to blocks, and have one more digit
pub steps_within : (words : ℕ → ℕ) (blocks bound : ℕ) (path : TreePath) (first count : ℕ) → path.number < bound
    → first + count ≤ 256
    → AreWithin blocks (256 * bound) (steps_from words blocks path first count)
steps_within words blocks bound path first zero low few =
    All-nil (λ (p : TreePath). (p.number < 256 * bound) × IsTrue (leads blocks p.block))
steps_within words blocks bound path first (suc count) low few = elim (step_cases words blocks path first) [
  | inl there ↦
      subst (λ (o : Option TreePath).
      AreWithin blocks (256 * bound) (cons_option o (steps_from words blocks path (first + 1) count))) (sym there.1)
      (All-cons (λ (p : TreePath). (p.number < 256 * bound) × IsTrue (leads blocks p.block))
      (path_by (words first) path first)
      (steps_from words blocks path (first + 1) count) (omega arith, there.0)
      (steps_within words blocks bound path (first + 1) count low (omega arith)))
  | inr not_there ↦
      subst (λ (o : Option TreePath).
      AreWithin blocks (256 * bound) (cons_option o (steps_from words blocks path (first + 1) count))) (sym not_there.1)
      (steps_within words blocks bound path (first + 1) count low (omega arith))
]

-- what was appended, and that nothing was
module _ (file block : List ℕ) (blocks : ℕ) (path : TreePath) (old new : List TreePath) (count : ℕ) (all : count ≡ 256)
    (is : block ≡ block_of file path.block)
    (added : new ≡ old ++ steps_from (word_in block) blocks path 0 count)
    (references : (digit : ℕ) → digit < count → word_in block digit < blocks) where
  pub steps_added : new ≡ old ++ steps file blocks path
  steps_added = added ∙ ap (λ (ps : List TreePath). old ++ ps) (steps_all file block blocks path count all is)

  word_same : (digit : ℕ) → word_in block digit ≡ word_at file path.block digit
  word_same digit = ap (λ (bytes : List ℕ). word_in bytes digit) is

  pub block_empty : length new ≡ length old → IsEmpty file path.block
  block_empty nothing =
      let none : length (steps_from (word_in block) blocks path 0 count) ≡ 0 =
      omega (arith, nothing, ap length added, length-append old (steps_from (word_in block) blocks path 0 count)) in
      λ digit low. sym (word_same digit)
      ∙ none_by (word_in block) blocks path 0 count none digit (omega arith) (omega arith)
      (references digit (omega arith))

  pub block_whole : (length new ≡ length old → path.block ≡ 1) → IsWhole file blocks path.block
  block_whole root = record {
    references = λ digit low. subst (λ (word : ℕ). word < blocks) (word_same digit) (references digit (omega arith));
    not_empty = λ below empty.
        let none : steps_from (word_in block) blocks path 0 count ≡ [] =
        none_of_zeros (word_in block) blocks path 0 count (λ digit low. word_same digit ∙ empty digit (omega arith)) in
        below (root
        (ap length added ∙ ap (λ (ps : List TreePath). length (old ++ ps)) none ∙ ap length (append-nil old)));
  }

  pub block_empty_defect : length new ≡ length old → path.block ≢ 1
      → IsLevelDefect file blocks (path.block ∷ []) (record { kind = EmptyTree; block = path.block; id = 0 })
  block_empty_defect nothing below = record {
    stands = omega (arith, times-cons-same path.block []);
    defect = (below, block_empty nothing);
    no_id = refl;
  }

-- all paths that are there then lead to blocks, and have one more digit
pub all_within : (words : ℕ → ℕ) (blocks bound : ℕ) (path : TreePath) (old new : List TreePath) (count : ℕ)
    → count ≤ 256
    → new ≡ old ++ steps_from words blocks path 0 count → path.number < bound → AreWithin blocks (256 * bound) old
    → AreWithin blocks (256 * bound) new
all_within words blocks bound path old new count few added low before =
    subst (λ (ps : List TreePath). AreWithin blocks (256 * bound) ps) (sym added)
    (All-append (λ (p : TreePath). (p.number < 256 * bound) × IsTrue (leads blocks p.block)) old
    (steps_from words blocks path 0 count)
    before (steps_within words blocks bound path 0 count low (omega arith)))

-- what was appended, with one more digit
pub added_more : (block : List ℕ) (blocks : ℕ) (path : TreePath) (old next new : List TreePath) (count reference : ℕ)
    → reference ≡ word_in block count
    → reference < blocks → next ≡ old ++ steps_from (word_in block) blocks path 0 count
    → new ≡ next ++ (if reference == 0 then [] else path_by reference path count ∷ [])
    → new ≡ old ++ steps_from (word_in block) blocks path 0 (count + 1)
added_more block blocks path old next new count reference is low before pushed =
    let low_word : word_in block count < blocks = subst (λ (word : ℕ). word < blocks) is low in
    let first : List TreePath = steps_from (word_in block) blocks path 0 count in
    let last : ℕ → List TreePath = λ word. (if word == 0 then [] else path_by word path count ∷ []) in
    pushed ∙ ap (λ (ps : List TreePath). ps ++ last reference) before ∙ append_assoc old first (last reference)
    ∙ ap (λ (word : ℕ). old ++ (first ++ last word)) is
    ∙ ap (λ (ps : List TreePath). old ++ ps) (sym (steps_more (word_in block) blocks path count low_word))

-- each reference so far, with one more
pub references_more : (block : List ℕ) (blocks count reference : ℕ) → reference ≡ word_in block count
    → reference < blocks
    → ((digit : ℕ) → digit < count → word_in block digit < blocks) → (digit : ℕ) → digit < count + 1
    → word_in block digit < blocks
references_more block blocks count reference is low before digit below = elim (cases_eq digit count) [
  | inl same ↦ subst (λ (k : ℕ). word_in block k < blocks) (sym same) (subst (λ (word : ℕ). word < blocks) is low)
  | inr other ↦ before digit (omega arith)
]
