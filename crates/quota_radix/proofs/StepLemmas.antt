-- The paths that go on from one, reference by reference.
use Rattle.std.proofs.Common.{◌≡◌, ℕ, zero, suc, ◌+◌, ◌*◌, ◌<◌, ◌≤◌, ◌==◌, Bool, true, false, not, ◌&&◌, nat_lt, cond}
use Rattle.std.proofs.Common.{if◌then◌else◌, IsTrue, List, [], ◌∷◌, ◌++◌, length, Option, Some, None, refl, sym, ap}
use Rattle.std.proofs.Common.{◌∙◌, ◌⊎◌, inl, inr, arith}
use Rattle.std.specs.List.{cons_option, filter_map, range_with_len}
use Rattle.std.proofs.lemmas.List.Elements.{filter_map-append}
use Rattle.std.proofs.lemmas.Bool.{cases_Bool, cases_eq, false≢true, lt-ltb}
use Rattle.std.proofs.lemmas.Bool.Decides.{nat_tests}
use Rattle.quota_types.specs.Bytes.{number_at}
use Rattle.quota_radix.specs.declared.tree_path.TreePath.{TreePath}
use Rattle.file_blocks.specs.Block.{block_of, leads}
use Rattle.file_blocks.proofs.LeadsLemmas.{leads_within}
use Rattle.quota_radix.specs.Tree.{steps}

-- the reference at a digit's place in a block of these bytes
abbrev pub word_in : List ℕ → ℕ → ℕ
word_in block digit = number_at 4 block (4 * digit)

-- the path that goes on by a digit, and where
abbrev pub path_by : ℕ → TreePath → ℕ → TreePath
path_by word path digit = record { number = 256 * path.number + digit; block = word }

-- the path that goes on by a digit, where the word there is a reference
abbrev pub step_by : (ℕ → ℕ) → ℕ → TreePath → ℕ → Option TreePath
step_by words blocks path digit = if leads blocks (words digit) then Some (path_by (words digit) path digit) else None

-- the paths that go on by this many digits from a first one on
abbrev pub steps_from : (ℕ → ℕ) → ℕ → TreePath → ℕ → ℕ → List TreePath
steps_from words blocks path first count = filter_map (step_by words blocks path) (range_with_len first count)

pub range_push : (first count : ℕ)
    → range_with_len first (count + 1) ≡ range_with_len first count ++ (first + count) ∷ []
range_push first zero = let same : first ≡ first + 0 = omega arith in ap (λ (k : ℕ). k ∷ []) same
range_push first (suc count) =
    let one : suc count + 1 ≡ suc (count + 1) = omega arith in
    let last : first + 1 + count ≡ first + suc count = omega arith in
    ap (λ (k : ℕ). range_with_len first k) one
    ∙ ap (λ (ks : List ℕ). first ∷ ks)
    (range_push (first + 1) count ∙ ap (λ (k : ℕ). range_with_len (first + 1) count ++ k ∷ []) last)

last_of : (is_zero inside : Bool) (path : TreePath) → inside ≡ true
    → cons_option (if (not is_zero && inside) then Some path else None) [] ≡ (if is_zero then [] else path ∷ [])
last_of true true path in_blocks = refl
last_of true false path in_blocks = refl
last_of false true path in_blocks = refl
last_of false false path in_blocks = absurd (false≢true in_blocks)

-- one more digit
pub steps_more : (words : ℕ → ℕ) (blocks : ℕ) (path : TreePath) (count : ℕ) → words count < blocks
    → steps_from words blocks path 0 (count + 1)
    ≡ steps_from words blocks path 0 count ++ (if words count == 0 then [] else path_by (words count) path count ∷ [])
steps_more words blocks path count low =
    ap (λ (ks : List ℕ). filter_map (step_by words blocks path) ks) (range_push 0 count)
    ∙ filter_map-append (step_by words blocks path) (range_with_len 0 count) ((0 + count) ∷ [])
    ∙ ap (λ (k : ℕ). steps_from words blocks path 0 count ++ cons_option (step_by words blocks path k) []) zero_plus
    ∙ ap (λ (ps : List TreePath). steps_from words blocks path 0 count ++ ps)
    (last_of (words count == 0) (nat_lt (words count) blocks) (path_by (words count) path count)
    (lt-ltb (words count) blocks low))
  where
    zero_plus : 0 + count ≡ count
    zero_plus = omega arith

-- a step by a digit is there or not
pub step_cases : (words : ℕ → ℕ) (blocks : ℕ) (path : TreePath) (digit : ℕ)
    → (IsTrue (leads blocks (words digit))
    × (step_by words blocks path digit ≡ Some (path_by (words digit) path digit)))
    ⊎ ((leads blocks (words digit) ≡ false) × (step_by words blocks path digit ≡ None))
step_cases words blocks path digit = elim (cases_Bool (leads blocks (words digit))) [
  | inl leading ↦ inl (leading, ap (λ (b : Bool). cond b (Some (path_by (words digit) path digit)) None) leading)
  | inr other ↦ inr (other, ap (λ (b : Bool). cond b (Some (path_by (words digit) path digit)) None) other)
]

pub zero_of : (blocks word : ℕ) → leads blocks word ≡ false → word < blocks → word ≡ 0
zero_of blocks word not_leading low = grind (arith, nat_tests)

-- a reference that leads
pub leads_on : (blocks word : ℕ) → word < blocks → (word ≡ 0 → ⊥) → leads blocks word ≡ true
leads_on blocks word inside some = grind (arith, nat_tests)

-- where no path goes on, each word is 0
pub none_by : (words : ℕ → ℕ) (blocks : ℕ) (path : TreePath) (first count : ℕ)
    → length (steps_from words blocks path first count) ≡ 0
    → (digit : ℕ) → first ≤ digit → digit < first + count → words digit < blocks → words digit ≡ 0
none_by words blocks path first zero none digit from to low = absurd (omega arith)
none_by words blocks path first (suc count) none digit from to low = elim (step_cases words blocks path first) [
  | inl there ↦
      let some =
      ap (λ (o : Option TreePath). length (cons_option o (steps_from words blocks path (first + 1) count))) there.1 in
      absurd (omega (arith, some, none))
  | inr not_there ↦
      let rest : length (steps_from words blocks path (first + 1) count) ≡ 0 =
      sym (ap (λ (o : Option TreePath). length (cons_option o (steps_from words blocks path (first + 1) count)))
      not_there.1) ∙ none in
      elim (cases_eq first digit) [
        | inl same ↦ zero_of blocks (words digit) (ap (λ (k : ℕ). leads blocks (words k)) (sym same) ∙ not_there.0) low
        | inr other ↦
            none_by words blocks path (first + 1) count rest digit (omega (arith, from, other)) (omega (arith, to)) low
      ]
]

-- where each word is 0, no path goes on
pub none_of_zeros : (words : ℕ → ℕ) (blocks : ℕ) (path : TreePath) (first count : ℕ)
    → ((digit : ℕ) → digit < first + count → words digit ≡ 0)
    → steps_from words blocks path first count ≡ []
none_of_zeros words blocks path first zero zeros = refl
none_of_zeros words blocks path first (suc count) zeros = elim (step_cases words blocks path first) [
  | inl there ↦ absurd (omega (arith, leads_within blocks (words first) there.0, zeros first (omega arith)))
  | inr not_there ↦
      ap (λ (o : Option TreePath). cons_option o (steps_from words blocks path (first + 1) count)) not_there.1
      ∙ none_of_zeros words blocks path (first + 1) count (λ digit low. zeros digit (omega arith))
]

-- all 256 digits of a block of the file
pub steps_all : (file block : List ℕ) (blocks : ℕ) (path : TreePath) (count : ℕ) → count ≡ 256
    → block ≡ block_of file path.block
    → steps_from (word_in block) blocks path 0 count ≡ steps file blocks path
unfolding steps
steps_all file block blocks path count all is =
    ap (λ (k : ℕ). steps_from (word_in block) blocks path 0 k) all
    ∙ ap (λ (bytes : List ℕ). steps_from (word_in bytes) blocks path 0 256) is
