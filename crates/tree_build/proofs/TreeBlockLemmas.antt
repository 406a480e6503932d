-- A tree block that is filled reference by reference.
use Rattle.std.proofs.Common.{◌≡◌, ◌≢◌, ℕ, zero, suc, ◌+◌, ◌*◌, ◌/◌, ◌%◌, ◌<◌, ◌≤◌, Bool, false, IsTrue, List, [], ◌∷◌}
use Rattle.std.proofs.Common.{length, get_or, replicate, Option, refl, sym, ap, subst, ◌∙◌, ◌⊎◌, inl, inr, arith}
use Rattle.std.proofs.lemmas.Bool.{cases_lt, cases_eq}
use Rattle.std.proofs.lemmas.Bool.Decides.{nat_tests}
use Rattle.std.specs.List.{AllByRecursion, cons_option}
use Rattle.std.specs.List.Sorted.{IsStrictlyIncreasing}
use Rattle.quota_types.proofs.AscendsLemmas.{Ascends, Ascends-apart, Ascends-of}
use Rattle.quota_types.proofs.ListLemmas.{AllByRecursion-weaker}
use Rattle.quota_types.proofs.BytesLemmas.{number_at-zeros, number_same}
use Rattle.quota_types.specs.KeptBytes.{KeepsOutside}
use Rattle.quota_radix.specs.declared.tree_path.TreePath.{TreePath}
use Rattle.file_blocks.specs.Block.{block_of, leads}
use Rattle.tree_build.specs.NewFile.{AllLead, AreSiblings}
use Rattle.quota_radix.specs.Tree.{numbers_of, steps}
use Rattle.tree_meaning.proofs.BlankLemmas.{zero_bytes}
use Rattle.file_blocks.proofs.LeadsLemmas.{leads_below, leads_within}
use Rattle.quota_radix.proofs.OrderLemmas.{each_at, each_both, each_of_places, length_numbers, number_at_place}
use Rattle.quota_radix.proofs.OrderLemmas.{rises_bound, rises_of}
use Rattle.quota_radix.proofs.PathLemmas.{Rises}
use Rattle.quota_radix.proofs.StepLemmas.{path_by, step_cases, steps_all, steps_from, word_in}

-- a path in the place of one that is not there
abbrev pub no_path : TreePath
no_path = record { number = 0; block = 0 }

-- the last digit of a path, by its place
abbrev pub digit_at : List TreePath → ℕ → ℕ
digit_at paths place = (get_or paths place no_path).number % 256

-- the last digits of paths differ
abbrev pub AreApart : List TreePath → Type 0
AreApart paths = (j k : ℕ) → j < k → k < length paths → digit_at paths j ≢ digit_at paths k

-- a block that has the references of this many paths, and otherwise zeros
pub record HasReferences (block : List ℕ) (paths : List TreePath) (count : ℕ) : Type 0 where
  pub written : AreApart paths → (place : ℕ) → place < count
      → word_in block (digit_at paths place) ≡ (get_or paths place no_path).block
  pub zeros : (digit : ℕ) → ((place : ℕ) → place < count → digit_at paths place ≢ digit) → word_in block digit ≡ 0
  pub known : (digit : ℕ)
      → (word_in block digit ≡ 0)
      ⊎ ((place : ℕ) × (place < count) × (word_in block digit ≡ (get_or paths place no_path).block))

pub references_none : (paths : List TreePath) → HasReferences (replicate 1024 0) paths 0
references_none paths = record {
  written = λ apart place low. absurd (omega arith);
  zeros = λ digit none. number_at-zeros 4 (4 * digit) (replicate 1024 0) (λ k from to. zero_bytes k);
  known = λ digit. inl (number_at-zeros 4 (4 * digit) (replicate 1024 0) (λ k from to. zero_bytes k));
}

-- a write at one digit leaves the references at all others
other_word : (old new : List ℕ) (digit other : ℕ) → KeepsOutside (4 * digit) (4 * digit + 4) old new → other ≢ digit
    → word_in new other ≡ word_in old other
other_word old new digit other kept ne = elim (cases_lt other digit) [
  | inl low ↦ number_same 4 (4 * other) new old (λ k from to. kept.before k (omega arith))
  | inr high ↦ number_same 4 (4 * other) new old (λ k from to. kept.behind k (omega (arith, ne)))
]

pub references_more : (old new : List ℕ) (paths : List TreePath) (count digit : ℕ) → digit ≡ digit_at paths count
    → count < length paths
    → word_in new digit ≡ (get_or paths count no_path).block → KeepsOutside (4 * digit) (4 * digit + 4) old new
    → HasReferences old paths count → HasReferences new paths (count + 1)
references_more old new paths count digit is low written kept so_far = record {
  written = λ apart place below. elim (cases_eq place count) [
    | inl same ↦ subst (λ (k : ℕ). word_in new (digit_at paths k) ≡ (get_or paths k no_path).block) (sym same)
        (subst (λ (d : ℕ). word_in new d ≡ (get_or paths count no_path).block) is written)
    | inr other ↦
        let earlier : place < count = omega (arith, other, below) in
        other_word old new digit (digit_at paths place) kept (λ e. apart place count earlier low (e ∙ is))
        ∙ so_far.written apart place earlier
  ];
  zeros = λ other none.
      other_word old new digit other kept (λ e. none count (omega arith) (sym is ∙ sym e))
      ∙ so_far.zeros other (λ place below. none place (omega arith));
  known = λ other. elim (cases_eq other digit) [
    | inl same ↦ inr (count, omega arith, ap (word_in new) same ∙ written)
    | inr differs ↦
        let stays = other_word old new digit other kept differs in
        elim (so_far.known other) [
          | inl none ↦ inl (stays ∙ none)
          | inr there ↦ inr (there.0, omega (arith, there.1), stays ∙ there.2)
        ]
  ];
}

-- no reference is past the last block
pub inside_of : (block : List ℕ) (paths : List TreePath) (count blocks digit : ℕ) → count ≤ length paths → 1 ≤ blocks
    → AllLead blocks paths → HasReferences block paths count → word_in block digit < blocks
inside_of block paths count blocks digit under some leading has = elim (has.known digit) [
  | inl none ↦ omega (arith, none)
  | inr there ↦
      let low : (get_or paths there.0 no_path).block < blocks =
      leads_below blocks (get_or paths there.0 no_path).block
      (each_at (λ (p : TreePath). IsTrue (leads blocks p.block)) no_path paths leading there.0 (omega (
        arith,
        there.1,
      ))) in
      omega (arith, there.2, low)
]

-- no digit of paths that come behind one
behind : (number digit low high : ℕ) (paths : List TreePath) → Rises low paths high → 256 * number + digit < low
    → high ≤ 256 * number + 256
    → AllByRecursion (λ (p : TreePath). p.number % 256 ≢ digit) paths
behind number digit low high [] r above below = tt
behind number digit low high (p ∷ paths) r above below =
    let from : low ≤ p.number = r.0 in
    let to : suc p.number ≤ high = rises_bound (suc p.number) high paths r.1 in
    ((λ e. omega (arith, e)), behind number digit (suc p.number) high paths r.1 (omega arith) below)

false_not : (b : Bool) → b ≡ false → IsTrue b → ⊥
false_not b is_false is_true = grind (arith, nat_tests)

-- where each path has its reference and each other one is 0, the steps are the paths
steps_are : (words : ℕ → ℕ) (blocks : ℕ) (path : TreePath) (low count : ℕ) (paths : List TreePath) → low + count ≤ 256
    → Rises (256 * path.number + low) paths (256 * path.number + (low + count))
    → AllByRecursion (λ (p : TreePath). (words (p.number % 256) ≡ p.block) × IsTrue (leads blocks p.block)) paths
    → ((digit : ℕ) → low ≤ digit → digit < low + count → AllByRecursion (λ (p : TreePath). p.number % 256 ≢ digit) paths
    → words digit ≡ 0)
    → steps_from words blocks path low count ≡ paths
steps_are words blocks path low zero [] few r reads zeros = refl
steps_are words blocks path low zero (p ∷ paths) few r reads zeros =
    let from : 256 * path.number + low ≤ p.number = r.0 in
    absurd (omega (arith, from, rises_bound (suc p.number) (256 * path.number + (low + 0)) paths r.1))
steps_are words blocks path low (suc count) [] few r reads zeros =
    let none : words low ≡ 0 = zeros low (omega arith) (omega arith) tt in
    elim (step_cases words blocks path low) [
      | inl there ↦ absurd (omega (arith, leads_within blocks (words low) there.0, none))
      | inr not_there ↦
          ap (λ (o : Option TreePath). cons_option o (steps_from words blocks path (low + 1) count)) not_there.1
          ∙ steps_are words blocks path (low + 1) count [] (omega arith) (omega arith) tt
          (λ digit from to avoid. zeros digit (omega arith) (omega arith) avoid)
    ]
steps_are words blocks path low (suc count) (p ∷ paths) few r reads zeros =
    let from : 256 * path.number + low ≤ p.number = r.0 in
    let high : 256 * path.number + (low + suc count) ≡ 256 * path.number + (low + 1 + count) = omega arith in
    let rest : Rises (suc p.number) paths (256 * path.number + (low + 1 + count)) =
    subst (Rises (suc p.number) paths) high r.1 in
    elim (cases_eq p.number (256 * path.number + low)) [
      | inl same ↦
          let digit : p.number % 256 ≡ low = omega arith in
          let word : words low ≡ p.block = ap words (sym digit) ∙ reads.0.0 in
          let next : suc p.number ≡ 256 * path.number + (low + 1) = omega arith in
          let this : path_by (words low) path low ≡ p = ap (λ (w : ℕ). path_by w path low) word
          ∙ ap (λ (n : ℕ). record { number = n; block = p.block }) (sym same) in
          elim (step_cases words blocks path low) [
            | inl there ↦
                ap (λ (o : Option TreePath). cons_option o (steps_from words blocks path (low + 1) count)) there.1
                ∙ ap (λ (q : TreePath). q ∷ steps_from words blocks path (low + 1) count) this
                ∙ ap (λ (ps : List TreePath). p ∷ ps)
                (steps_are words blocks path (low + 1) count paths (omega arith)
                (subst (λ (n : ℕ). Rises n paths (256 * path.number + (low + 1 + count))) next rest) reads.1
                (λ other above below avoid.
                zeros other (omega arith) (omega arith) ((λ e. omega (arith, e, digit, above)), avoid)))
            | inr not_there ↦ absurd
                (false_not (leads blocks (words low)) not_there.0
                (subst (λ (w : ℕ). IsTrue (leads blocks w)) (sym word) reads.0.1))
          ]
      | inr other ↦
          let later : Rises (256 * path.number + (low + 1)) (p ∷ paths) (256 * path.number + (low + 1 + count)) =
          (omega (arith, from, other), rest) in
          let none : words low ≡ 0 = zeros low (omega arith) (omega arith)
          (behind path.number low (256 * path.number + (low + 1)) (256 * path.number + (low + 1 + count)) (p ∷ paths)
          later (omega arith) (omega arith)) in
          elim (step_cases words blocks path low) [
            | inl there ↦ absurd (omega (arith, leads_within blocks (words low) there.0, none))
            | inr not_there ↦
                ap (λ (o : Option TreePath). cons_option o (steps_from words blocks path (low + 1) count)) not_there.1
                ∙ steps_are words blocks path (low + 1) count (p ∷ paths) (omega arith) later reads
                (λ digit above below avoid. zeros digit (omega arith) (omega arith) avoid)
          ]
    ]

-- siblings whose numbers ascend have digits that differ
siblings_apart : (number : ℕ) (paths : List TreePath) → IsStrictlyIncreasing (numbers_of paths)
    → AreSiblings number paths → AreApart paths
siblings_apart number paths rising siblings j k lt within same =
    let long = length_numbers paths in
    let order : get_or (numbers_of paths) j 0 < get_or (numbers_of paths) k 0 =
    Ascends-apart 0 (numbers_of paths) (Ascends-of (numbers_of paths) rising) j k lt (omega arith) in
    let j_is = number_at_place paths j no_path (omega arith) in
    let k_is = number_at_place paths k no_path within in
    let j_of : (get_or paths j no_path).number / 256 ≡ number =
    each_at (λ (p : TreePath). p.number / 256 ≡ number) no_path paths siblings j (omega arith) in
    let k_of : (get_or paths k no_path).number / 256 ≡ number =
    each_at (λ (p : TreePath). p.number / 256 ≡ number) no_path paths siblings k within in
    omega (arith, same)

pub filled_steps : (file block : List ℕ) (blocks count : ℕ) (path : TreePath) (paths : List TreePath)
    → block_of file path.block ≡ block → length paths ≤ count → count ≤ length paths
    → IsStrictlyIncreasing (numbers_of paths) → AreSiblings path.number paths → AllLead blocks paths
    → HasReferences block paths count → steps file blocks path ≡ paths
filled_steps file block blocks count path paths is over under rising siblings leading has =
    let number : ℕ = path.number in
    let apart = siblings_apart number paths rising siblings in
    let reads : AllByRecursion (λ (p : TreePath). word_in block (p.number % 256) ≡ p.block) paths =
    each_of_places (λ (p : TreePath). word_in block (p.number % 256) ≡ p.block) no_path paths
    (λ k lt. has.written apart k (omega arith)) in
    let below : AllByRecursion (λ (p : TreePath). p.number < 256 * number + (0 + 256)) paths =
    AllByRecursion-weaker (λ (p : TreePath). p.number / 256 ≡ number)
    (λ (p : TreePath). p.number < 256 * number + (0 + 256)) paths (λ p of'. omega (arith, of')) siblings in
    sym (steps_all file block blocks path 256 refl (sym is))
    ∙ steps_are (word_in block) blocks path 0 256 paths (omega arith)
    (rises_of (256 * number + 0) (256 * number + (0 + 256)) paths (omega arith)
    (ascends_siblings number paths (Ascends-of (numbers_of paths) rising) siblings) below)
    (each_both (λ (p : TreePath). word_in block (p.number % 256) ≡ p.block)
    (λ (p : TreePath). IsTrue (leads blocks p.block)) paths reads leading)
    (λ digit from to avoid. has.zeros digit
    (λ place lt. each_at (λ (p : TreePath). p.number % 256 ≢ digit) no_path paths avoid place (omega arith)))
  where
    ascends_siblings : (number : ℕ) (ps : List TreePath) → Ascends 0 (numbers_of ps) → AreSiblings number ps
        → Ascends (256 * number + 0) (numbers_of ps)
    ascends_siblings number [] r siblings = tt
    ascends_siblings number (p ∷ ps) r siblings = let of' : p.number / 256 ≡ number = siblings.0 in (omega arith, r.1)
