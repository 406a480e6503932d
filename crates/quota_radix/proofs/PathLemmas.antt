-- The paths of a tree: their numbers ascend, and each leads to a block.
use Rattle.std.proofs.Common.{◌≡◌, ℕ, zero, suc, ◌+◌, ◌*◌, ◌^◌, ◌<◌, ◌≤◌, Bool, true, false, cond, ◌==◌, if◌then◌else◌}
use Rattle.std.proofs.Common.{IsTrue, List, [], ◌∷◌, ◌++◌, Some, None, map, filter, filter_map, flat_map, refl, sym, ap}
use Rattle.std.proofs.Common.{subst, ◌∙◌, inl, inr, arith, zero-le, pow-suc, length}
use Rattle.std.specs.List.{cons_option, range_with_len, AllByRecursion}
use Rattle.std.proofs.lemmas.Bool.{cases_Bool, eq-eqb, le-leb, leb-true}
use Rattle.std.proofs.lemmas.Bool.Decides.{eqb_tells}
use Rattle.quota_radix.specs.declared.tree_path.TreePath.{TreePath}
use Rattle.file_blocks.specs.Block.{word_at, leads}
use Rattle.quota_types.specs.Times.{StandsIn, times}
use Rattle.quota_radix.specs.Tree.{data_blocks, ids_at, is_data, leaves, level, paths, step, steps}
use Rattle.file_blocks.proofs.LeadsLemmas.{leads_within}
use Rattle.quota_types.proofs.TimesLemmas.{times-cons, times-cons-other, times-cons-same, times-filter-no}
use Rattle.quota_types.proofs.TimesLemmas.{times-filter-yes, times-range-within, times_cases}
use Rattle.quota_types.proofs.ListLemmas.{AllByRecursion-weaker}

-- what holds of each element of two lists holds of each of the joined one
pub each-append : {X : Type 0} (P : X → Type 0) (xs ys : List X) → AllByRecursion P xs → AllByRecursion P ys
    → AllByRecursion P (xs ++ ys)
each-append P [] ys a b = b
each-append P (x ∷ xs) ys a b = (a.0, each-append P xs ys a.1 b)

-- a number that an element gives is given by one of which the same holds as of each
pub one_with : {X : Type 0} (P : X → Type 0) (f : X → ℕ) (xs : List X) (n : ℕ) → AllByRecursion P xs
    → StandsIn (map f xs) n → (x : X) × P x × (f x ≡ n)
one_with P f [] n all stands = absurd (omega arith)
one_with P f (x ∷ xs) n all stands = elim (times_cases (f x) (map f xs) n) [
  | inl same ↦ (x, all.0, same.0)
  | inr other ↦ one_with P f xs n all.1 (omega (arith, stands, other.1))
]

-- the numbers of paths strictly ascend, from one number on and below another one
abbrev pub Rises : ℕ → List TreePath → ℕ → Type 0
Rises low [] high = low ≤ high
Rises low (path ∷ paths) high = (low ≤ path.number) × Rises (suc path.number) paths high

pub Rises_wider : (low low' : ℕ) (ps : List TreePath) (high high' : ℕ) → low' ≤ low → high ≤ high' → Rises low ps high
    → Rises low' ps high'
Rises_wider low low' [] high high' l h r = omega arith
Rises_wider low low' (p ∷ ps) high high' l h r =
    let from : low ≤ p.number = r.0 in
    (omega arith, Rises_wider (suc p.number) (suc p.number) ps high high' (omega arith) h r.1)

pub Rises-append : (low middle high : ℕ) (ps qs : List TreePath) → Rises low ps middle → Rises middle qs high
    → Rises low (ps ++ qs) high
Rises-append low middle high [] qs a b = Rises_wider middle low qs high high a (omega arith) b
Rises-append low middle high (p ∷ ps) qs a b = (a.0, Rises-append (suc p.number) middle high ps qs a.1 b)

pub Rises-filter : (test : TreePath → Bool) (low high : ℕ) (ps : List TreePath) → Rises low ps high
    → Rises low (filter test ps) high
Rises-filter test low high [] r = r
Rises-filter test low high (p ∷ ps) r =
    let rest : Rises (suc p.number) (filter test ps) high = Rises-filter test (suc p.number) high ps r.1 in
    let from : low ≤ p.number = r.0 in
    elim (test p) as (λ (b : Bool). Rises low (cond b (p ∷ filter test ps) (filter test ps)) high) [
      | true ↦ (from, rest)
      | false ↦ Rises_wider (suc p.number) low (filter test ps) high high (omega arith) (omega arith) rest
    ]

-- no number below the first
pub times_rising-low : (low high : ℕ) (ps : List TreePath) (n : ℕ) → Rises low ps high → n < low
    → times (map (λ path. path.number) ps) n ≡ 0
times_rising-low low high [] n r h = refl
times_rising-low low high (p ∷ ps) n r h =
    let from : low ≤ p.number = r.0 in
    times-cons-other p.number (map (λ path. path.number) ps) n (λ e. omega (arith, e, h, from))
    ∙ times_rising-low (suc p.number) high ps n r.1 (omega arith)

-- numbers that ascend are distinct
pub times_rising : (low high : ℕ) (ps : List TreePath) (n : ℕ) → Rises low ps high
    → times (map (λ path. path.number) ps) n ≤ 1
times_rising low high [] n r = zero-le
times_rising low high (p ∷ ps) n r = elim (times_cases p.number (map (λ path. path.number) ps) n) [
  | inl same ↦ omega (arith, same.1, times_rising-low (suc p.number) high ps n r.1 (omega (arith, same.0)))
  | inr other ↦ omega (arith, other.1, times_rising (suc p.number) high ps n r.1)
]

pub rising_steps : (file : List ℕ) (blocks : ℕ) (path : TreePath) (digit count : ℕ)
    → Rises (256 * path.number + digit) (filter_map (step file blocks path) (range_with_len digit count))
    (256 * path.number + (digit + count))
rising_steps file blocks path digit zero = omega arith
rising_steps file blocks path digit (suc count) =
    let next : TreePath = record { number = 256 * path.number + digit; block = word_at file path.block digit } in
    let rest : List TreePath = filter_map (step file blocks path) (range_with_len (digit + 1) count) in
    let more : Rises (256 * path.number + (digit + 1)) rest (256 * path.number + (digit + 1 + count)) =
    rising_steps file blocks path (digit + 1) count in
    elim (leads blocks (word_at file path.block digit)) as
    (λ (b : Bool). Rises (256 * path.number + digit) (cons_option (if b then Some next else None) rest)
    (256 * path.number + (digit + suc count))) [
      | true ↦ (
        omega arith,
        Rises_wider (256 * path.number + (digit + 1)) (suc (256 * path.number + digit)) rest _ _ (omega arith)
            (omega arith) more,
      )
      | false ↦ Rises_wider (256 * path.number + (digit + 1)) (256 * path.number + digit) rest _ _ (omega arith)
          (omega arith) more
    ]

-- the paths that go on from one
pub Rises-steps : (file : List ℕ) (blocks : ℕ) (path : TreePath)
    → Rises (256 * path.number) (steps file blocks path) (256 * suc path.number)
unfolding steps
Rises-steps file blocks path =
    Rises_wider (256 * path.number + 0) (256 * path.number) _ (256 * path.number + (0 + 256)) (256 * suc path.number)
    (omega arith) (omega arith) (rising_steps file blocks path 0 256)

pub Rises-flat_map : (file : List ℕ) (blocks low high : ℕ) (ps : List TreePath) → Rises low ps high
    → Rises (256 * low) (flat_map (steps file blocks) ps) (256 * high)
Rises-flat_map file blocks low high [] r = omega arith
Rises-flat_map file blocks low high (p ∷ ps) r =
    let from : low ≤ p.number = r.0 in
    Rises-append (256 * low) (256 * suc p.number) (256 * high) (steps file blocks p) (flat_map (steps file blocks) ps)
    (Rises_wider (256 * p.number) (256 * low) (steps file blocks p) _ _ (omega arith) (omega arith)
    (Rises-steps file blocks p))
    (Rises-flat_map file blocks (suc p.number) high ps r.1)

-- the numbers of paths of this many digits ascend, each of that many digits to the base 256
pub Rises-paths : (file : List ℕ) (blocks digits : ℕ) → Rises 0 (paths file blocks digits) (256 ^ digits)
Rises-paths file blocks zero = (zero-le, omega arith)
Rises-paths file blocks (suc digits) =
    Rises_wider (256 * 0) 0 (flat_map (steps file blocks) (paths file blocks digits)) (256 * 256 ^ digits)
    (256 ^ suc digits) (omega arith) (omega (arith, pow-suc 256 digits))
    (Rises-flat_map file blocks 0 (256 ^ digits) (paths file blocks digits) (Rises-paths file blocks digits))

leading_steps : (file : List ℕ) (blocks : ℕ) (path : TreePath) (digit count : ℕ)
    → AllByRecursion (λ (p : TreePath). IsTrue (leads blocks p.block))
    (filter_map (step file blocks path) (range_with_len digit count))
leading_steps file blocks path digit zero = tt
leading_steps file blocks path digit (suc count) =
    let next : TreePath = record { number = 256 * path.number + digit; block = word_at file path.block digit } in
    let rest : List TreePath = filter_map (step file blocks path) (range_with_len (digit + 1) count) in
    let more : AllByRecursion (λ (p : TreePath). IsTrue (leads blocks p.block)) rest =
    leading_steps file blocks path (digit + 1) count in
    elim (cases_Bool (leads blocks (word_at file path.block digit))) [
      | inl goes ↦ subst
          (λ (b : Bool). AllByRecursion (λ (p : TreePath). IsTrue (leads blocks p.block))
          (cons_option (if b then Some next else None) rest)) (sym goes) (goes, more)
      | inr ends ↦ subst
          (λ (b : Bool). AllByRecursion (λ (p : TreePath). IsTrue (leads blocks p.block))
          (cons_option (if b then Some next else None) rest)) (sym ends) more
    ]

leads-steps : (file : List ℕ) (blocks : ℕ) (path : TreePath)
    → AllByRecursion (λ (p : TreePath). IsTrue (leads blocks p.block)) (steps file blocks path)
unfolding steps
leads-steps file blocks path = leading_steps file blocks path 0 256

leads-flat_map : (file : List ℕ) (blocks : ℕ) (ps : List TreePath)
    → AllByRecursion (λ (p : TreePath). IsTrue (leads blocks p.block)) (flat_map (steps file blocks) ps)
leads-flat_map file blocks [] = tt
leads-flat_map file blocks (p ∷ ps) =
    each-append (λ (q : TreePath). IsTrue (leads blocks q.block)) (steps file blocks p)
    (flat_map (steps file blocks) ps) (leads-steps file blocks p) (leads-flat_map file blocks ps)

-- a path of some digits leads to a block
pub paths_lead : (file : List ℕ) (blocks digits : ℕ)
    → AllByRecursion (λ (path : TreePath). IsTrue (leads blocks path.block)) (paths file blocks (suc digits))
paths_lead file blocks digits = leads-flat_map file blocks (paths file blocks digits)

pub level_leads : (file : List ℕ) (blocks digits block : ℕ) → StandsIn (level file blocks (suc digits)) block
    → IsTrue (leads blocks block)
level_leads file blocks digits block stands =
    let one = one_with (λ (path : TreePath). IsTrue (leads blocks path.block)) (λ path. path.block)
    (paths file blocks (suc digits)) block (paths_lead file blocks digits) stands in
    subst (λ (b : ℕ). IsTrue (leads blocks b)) one.2 one.1

-- the data blocks are blocks
pub data_within : (file : List ℕ) (blocks block : ℕ) → is_data file blocks block ≡ true → block < blocks
data_within file blocks block is =
    (leads_within blocks block (level_leads file blocks 3 block (leb-true 1 (times (level file blocks 4) block) is))).1

-- each stands once among the data blocks, and no other does
pub times-data_blocks : (file : List ℕ) (blocks block : ℕ)
    → times (data_blocks file blocks) block ≡ (if is_data file blocks block then 1 else 0)
times-data_blocks file blocks block = elim (cases_Bool (is_data file blocks block)) [
  | inl is ↦ times-filter-yes (is_data file blocks) (range_with_len 0 blocks) block is
      ∙ times-range-within 0 blocks block zero-le (let low = data_within file blocks block is in omega arith)
      ∙ ap (λ (b : Bool). if b then 1 else 0) (sym is)
  | inr other ↦ times-filter-no (is_data file blocks) (range_with_len 0 blocks) block other
      ∙ ap (λ (b : Bool). if b then 1 else 0) (sym other)
]

pub data_blocks_within : (file : List ℕ) (blocks block : ℕ) → StandsIn (data_blocks file blocks) block → block < blocks
data_blocks_within file blocks block stands = elim (cases_Bool (is_data file blocks block)) [
  | inl is ↦ data_within file blocks block is
  | inr other ↦ absurd
      (omega (arith, stands, times-data_blocks file blocks block, ap {B = ℕ} (λ (b : Bool). if b then 1 else 0) other))
]

-- an identifier that leads to a block makes it one to which paths lead
stands_of_id : (ps : List TreePath) (block id : ℕ) → StandsIn (ids_at ps block) id
    → StandsIn (map (λ path. path.block) ps) block
stands_of_id [] block id stands = absurd (omega arith)
stands_of_id (p ∷ ps) block id stands = elim (eqb_tells p.block block) [
  | inl same ↦ omega (
    arith,
    times-cons-same p.block (map (λ path. path.block) ps),
    ap (λ (b : ℕ). times (map (λ path. path.block) (p ∷ ps)) b) same.1,
  )
  | inr other ↦
      let rest = subst
      (λ (b : Bool). StandsIn
      (map (λ path. path.number)
      (cond b (p ∷ filter (λ path. path.block == block) ps) (filter (λ path. path.block == block) ps))) id)
      other.0 stands in
      omega (arith, times-cons-other p.block (map (λ path. path.block) ps) block other.1, stands_of_id ps block id rest)
]

-- so it is a data block
pub data_of_id : (file : List ℕ) (blocks block id : ℕ) → StandsIn (ids_at (leaves file blocks) block) id
    → is_data file blocks block ≡ true
data_of_id file blocks block id stands =
    le-leb 1 (times (level file blocks 4) block) (stands_of_id (leaves file blocks) block id stands)

pub data_block_of_id : (file : List ℕ) (blocks block id : ℕ) → StandsIn (ids_at (leaves file blocks) block) id
    → StandsIn (data_blocks file blocks) block
data_block_of_id file blocks block id stands =
    omega (
      arith,
      times-data_blocks file blocks block,
      ap {B = ℕ} (λ (b : Bool). if b then 1 else 0) (data_of_id file blocks block id stands),
    )

-- the identifiers that lead to a block are distinct
pub ids_distinct : (file : List ℕ) (blocks block id : ℕ) → times (ids_at (leaves file blocks) block) id ≤ 1
ids_distinct file blocks block id =
    times_rising 0 (256 ^ 4) (filter (λ path. path.block == block) (leaves file blocks)) id
    (Rises-filter (λ path. path.block == block) 0 (256 ^ 4) (leaves file blocks) (Rises-paths file blocks 4))

-- each leaf's identifier is one of those that lead to its block
leads_itself : (ps : List TreePath)
    → AllByRecursion (λ (leaf : TreePath). StandsIn (ids_at ps leaf.block) leaf.number) ps
leads_itself [] = tt
leads_itself (p ∷ ps) = (
  subst (λ (b : Bool). StandsIn
      (map (λ path. path.number)
      (cond b (p ∷ filter (λ path. path.block == p.block) ps) (filter (λ path. path.block == p.block) ps))) p.number)
      (sym (eq-eqb p.block p.block refl))
      (omega (arith, times-cons-same p.number (map (λ path. path.number) (filter (λ path. path.block == p.block) ps)))),
  AllByRecursion-weaker (λ (leaf : TreePath). StandsIn (ids_at ps leaf.block) leaf.number)
      (λ (leaf : TreePath). StandsIn (ids_at (p ∷ ps) leaf.block) leaf.number) ps
      (λ leaf stands. elim (p.block == leaf.block) as
      (λ (b : Bool). StandsIn
      (map (λ path. path.number)
      (cond b (p ∷ filter (λ path. path.block == leaf.block) ps) (filter (λ path. path.block == leaf.block) ps)))
      leaf.number) [
        | true ↦ omega (
          arith,
          stands,
          times-cons p.number (map (λ path. path.number) (filter (λ path. path.block == leaf.block) ps)) leaf.number,
        )
        | false ↦ stands
      ])
      (leads_itself ps),
)

pub leaves_lead : (file : List ℕ) (blocks : ℕ)
    → AllByRecursion (λ (leaf : TreePath). StandsIn (ids_at (leaves file blocks) leaf.block) leaf.number)
    (leaves file blocks)
leaves_lead file blocks = leads_itself (leaves file blocks)

-- as many identifiers lead to a block as paths do
pub length_ids : (ps : List TreePath) (block : ℕ) → length (ids_at ps block) ≡ times (map (λ path. path.block) ps) block
length_ids [] block = refl
length_ids (p ∷ ps) block = elim (eqb_tells p.block block) [
  | inl same ↦
      ap (λ (b : Bool). length
      (map (λ path. path.number)
      (cond b (p ∷ filter (λ path. path.block == block) ps) (filter (λ path. path.block == block) ps)))) same.0
      ∙ ap suc (length_ids ps block)
      ∙ sym (ap (λ (b : ℕ). times (b ∷ map (λ path. path.block) ps) block) same.1
      ∙ times-cons-same block (map (λ path. path.block) ps))
  | inr other ↦
      ap (λ (b : Bool). length
      (map (λ path. path.number)
      (cond b (p ∷ filter (λ path. path.block == block) ps) (filter (λ path. path.block == block) ps)))) other.0
      ∙ length_ids ps block
      ∙ sym (times-cons-other p.block (map (λ path. path.block) ps) block other.1)
]
