-- The levels of a tree in which references were cleared: no block stands in them more often than before, and those of a
-- way that was cleared less often.
use Rattle.std.proofs.Common.{◌≡◌, ℕ, zero, suc, ◌+◌, ◌<◌, ◌≤◌, ◌⊎◌, Bool, cond, IsTrue, List, [], ◌∷◌, ◌++◌, Option}
use Rattle.std.proofs.Common.{Some, None, refl, sym, ap, ◌∙◌, inl, inr, arith}
use Rattle.std.specs.List.{cons_option, flat_map}
use Rattle.std.proofs.lemmas.Bool.{cases_eq}
use Rattle.quota_types.specs.Times.{times}
use Rattle.quota_types.proofs.TimesLemmas.{times-append}
use Rattle.file_blocks.specs.Block.{word_at, leads}
use Rattle.quota_radix.specs.declared.tree_path.TreePath.{TreePath}
use Rattle.quota_radix.specs.Tree.{blocks_of, level, paths, steps}
use Rattle.quota_radix.proofs.StepLemmas.{path_by, step_by, steps_from}

-- the sum of what each of some paths weighs
abbrev pub weigh : (TreePath → ℕ) → List TreePath → ℕ
weigh w [] = 0
weigh w (p ∷ ps) = w p + weigh w ps

weigh-append : (w : TreePath → ℕ) (ps qs : List TreePath) → weigh w (ps ++ qs) ≡ weigh w ps + weigh w qs
weigh-append w [] qs = omega arith
weigh-append w (p ∷ ps) qs = omega (arith, weigh-append w ps qs)

weigh-flat_map : (w : TreePath → ℕ) (f : TreePath → List TreePath) (ps : List TreePath)
    → weigh w (flat_map f ps) ≡ weigh (λ (p : TreePath). weigh w (f p)) ps
weigh-flat_map w f [] = refl
weigh-flat_map w f (p ∷ ps) = omega (arith, weigh-append w (f p) (flat_map f ps), weigh-flat_map w f ps)

weigh_less : (w v : TreePath → ℕ) (ps : List TreePath) → ((p : TreePath) → w p ≤ v p) → weigh w ps ≤ weigh v ps
weigh_less w v [] less = omega arith
weigh_less w v (p ∷ ps) less = omega (arith, less p, weigh_less w v ps less)

-- one of them weighs that much less
pub weigh_one : (w v : TreePath → ℕ) (before behind : List TreePath) (path : TreePath) (less : ℕ)
    → ((p : TreePath) → w p ≤ v p) → w path + less ≤ v path
    → weigh w (before ++ path ∷ behind) + less ≤ weigh v (before ++ path ∷ behind)
weigh_one w v before behind path less all here =
    omega (
      arith,
      here,
      weigh-append w before (path ∷ behind),
      weigh-append v before (path ∷ behind),
      weigh_less w v before all,
      weigh_less w v behind all,
    )

-- how often a block stands among those of paths is what they weigh, where each weighs 1 that leads to it
pub times_weighed : (ps : List TreePath) (block : ℕ)
    → times (blocks_of ps) block ≡ weigh (λ (p : TreePath). times (p.block ∷ []) block) ps
times_weighed [] block = refl
times_weighed (p ∷ ps) block = omega (arith, times-append (p.block ∷ []) (blocks_of ps) block, times_weighed ps block)

abbrev weigh_option : (TreePath → ℕ) → Option TreePath → ℕ
weigh_option w None = 0
weigh_option w (Some p) = w p

weigh-cons_option : (w : TreePath → ℕ) (o : Option TreePath) (ps : List TreePath)
    → weigh w (cons_option o ps) ≡ weigh_option w o + weigh w ps
weigh-cons_option w None ps = omega arith
weigh-cons_option w (Some p) ps = refl

option_less : (w v : TreePath → ℕ) (o : Option TreePath) → ((p : TreePath) → w p ≤ v p)
    → weigh_option w o ≤ weigh_option v o
option_less w v None less = omega arith
option_less w v (Some p) less = less p

-- each reference is as it was, or 0
abbrev pub AreCleared : (old new : ℕ → ℕ) → Type 0
AreCleared old new = (digit : ℕ) → (new digit ≡ old digit) ⊎ (new digit ≡ 0)

module _ (old new : ℕ → ℕ) (blocks : ℕ) (path : TreePath) (w v : TreePath → ℕ) (cleared : AreCleared old new)
    (less : (p : TreePath) → w p ≤ v p) where
  none_by_zero : (digit : ℕ) → new digit ≡ 0 → step_by new blocks path digit ≡ None
  none_by_zero digit none = ap (λ (word : ℕ). cond (leads blocks word) (Some (path_by word path digit)) None) none

  step_less : (digit : ℕ)
      → weigh_option w (step_by new blocks path digit) ≤ weigh_option v (step_by old blocks path digit)
  step_less digit = elim (cleared digit) [
    | inl same ↦
        let is : step_by new blocks path digit ≡ step_by old blocks path digit =
        ap (λ (word : ℕ). cond (leads blocks word) (Some (path_by word path digit)) None) same in
        omega (arith, ap (weigh_option w) is, option_less w v (step_by old blocks path digit) less)
    | inr none ↦ omega (arith, ap (weigh_option w) (none_by_zero digit none))
  ]

  pub steps_less : (first count : ℕ)
      → weigh w (steps_from new blocks path first count) ≤ weigh v (steps_from old blocks path first count)
  steps_less first zero = omega arith
  steps_less first (suc count) =
      omega (
        arith,
        weigh-cons_option w (step_by new blocks path first) (steps_from new blocks path (first + 1) count),
        weigh-cons_option v (step_by old blocks path first) (steps_from old blocks path (first + 1) count),
        step_less first,
        steps_less (first + 1) count,
      )

  -- where one led on that does no longer
  pub steps_lose : (digit first count : ℕ) → first ≤ digit → digit < first + count → new digit ≡ 0
      → IsTrue (leads blocks (old digit))
      → weigh w (steps_from new blocks path first count) + v (path_by (old digit) path digit)
      ≤ weigh v (steps_from old blocks path first count)
  steps_lose digit first zero from to none leading = absurd (omega arith)
  steps_lose digit first (suc count) from to none leading =
      let now = weigh-cons_option w (step_by new blocks path first) (steps_from new blocks path (first + 1) count) in
      let was = weigh-cons_option v (step_by old blocks path first) (steps_from old blocks path (first + 1) count) in
      elim (cases_eq digit first) [
        | inl same ↦
            let gone : weigh_option w (step_by new blocks path first) ≡ 0 = ap
            (λ (k : ℕ). weigh_option w (step_by new blocks path k)) (sym same)
            ∙ ap (weigh_option w) (none_by_zero digit none) in
            let there : weigh_option v (step_by old blocks path first) ≡ v (path_by (old digit) path digit) =
            ap (λ (k : ℕ). weigh_option v (step_by old blocks path k)) (sym same)
            ∙ ap (λ (b : Bool). weigh_option v (cond b (Some (path_by (old digit) path digit)) None)) leading in
            omega (arith, now, was, gone, there, steps_less (first + 1) count)
        | inr other ↦ omega (
          arith,
          now,
          was,
          step_less first,
          steps_lose digit (first + 1) count (omega arith) (omega arith) none leading,
        )
      ]

-- each reference of a file's blocks is as it was, or 0
abbrev pub IsClearedFile : (old new : List ℕ) → Type 0
IsClearedFile old new = (block : ℕ) → AreCleared (word_at old block) (word_at new block)

module _ (old new : List ℕ) (blocks : ℕ) (cleared : IsClearedFile old new) where
  pub onward_less : (w v : TreePath → ℕ) → ((p : TreePath) → w p ≤ v p) → (path : TreePath)
      → weigh w (steps new blocks path) ≤ weigh v (steps old blocks path)
  unfolding steps
  onward_less w v less path =
      steps_less (word_at old path.block) (word_at new path.block) blocks path w v (cleared path.block) less 0 256

  pub onward_lose : (w v : TreePath → ℕ) → ((p : TreePath) → w p ≤ v p) → (path : TreePath) (digit : ℕ) → digit < 256
      → word_at new path.block digit ≡ 0 → IsTrue (leads blocks (word_at old path.block digit))
      → weigh w (steps new blocks path) + v (path_by (word_at old path.block digit) path digit)
      ≤ weigh v (steps old blocks path)
  unfolding steps
  onward_lose w v less path digit low none leading =
      steps_lose (word_at old path.block) (word_at new path.block) blocks path w v (cleared path.block) less digit 0 256
      (omega arith) (omega arith) none leading

  -- no path of this many digits is one more
  pub paths_less : (digits : ℕ) (w v : TreePath → ℕ) → ((p : TreePath) → w p ≤ v p)
      → weigh w (paths new blocks digits) ≤ weigh v (paths old blocks digits)
  paths_less zero w v less = omega (arith, less (record { number = 0; block = 1 }))
  paths_less (suc digits) w v less =
      omega (
        arith,
        weigh-flat_map w (steps new blocks) (paths new blocks digits),
        weigh-flat_map v (steps old blocks) (paths old blocks digits),
        paths_less digits (λ (p : TreePath). weigh w (steps new blocks p))
            (λ (p : TreePath). weigh v (steps old blocks p)) (onward_less w v less),
      )

  pub level_less : (digits block : ℕ) → times (level new blocks digits) block ≤ times (level old blocks digits) block
  level_less digits block =
      let one : TreePath → ℕ = λ p. times (p.block ∷ []) block in
      omega (
        arith,
        times_weighed (paths new blocks digits) block,
        times_weighed (paths old blocks digits) block,
        paths_less digits one one (λ p. omega arith),
      )

  -- the next level, where one path is lost of this one, or leads on no longer
  pub next_loses : (digits : ℕ) (before behind : List TreePath) (path : TreePath) (digit : ℕ)
      → paths new blocks digits ≡ before ++ path ∷ behind
      → digit < 256 → word_at new path.block digit ≡ 0 → IsTrue (leads blocks (word_at old path.block digit))
      → (w v : TreePath → ℕ) → ((p : TreePath) → w p ≤ v p)
      → weigh w (paths new blocks (suc digits)) + v (path_by (word_at old path.block digit) path digit)
      ≤ weigh v (paths old blocks (suc digits))
  next_loses digits before behind path digit is low none leading w v less =
      let f : TreePath → ℕ = λ p. weigh w (steps new blocks p) in
      let g : TreePath → ℕ = λ p. weigh v (steps old blocks p) in
      let next : ℕ = v (path_by (word_at old path.block digit) path digit) in
      let here : weigh f (before ++ path ∷ behind) + next ≤ weigh g (before ++ path ∷ behind) =
      weigh_one f g before behind path next (onward_less w v less) (onward_lose w v less path digit low none leading) in
      omega (
        arith,
        here,
        ap (weigh f) is,
        ap (weigh g) is,
        weigh-flat_map w (steps new blocks) (paths new blocks digits),
        weigh-flat_map v (steps old blocks) (paths old blocks digits),
        paths_less digits g g (λ p. omega arith),
      )

  -- what a path leads on to weighs no more than all that it leads on to
  leads_there : (path : TreePath) (digit : ℕ) (v : TreePath → ℕ) → digit < 256
      → IsTrue (leads blocks (word_at old path.block digit))
      → v (path_by (word_at old path.block digit) path digit) ≤ weigh v (steps old blocks path)
  unfolding steps
  leads_there path digit v low leading =
      omega (
        arith,
        steps_lose (word_at old path.block) (λ (k : ℕ). 0) blocks path v v (λ k. inr refl) (λ p. omega arith) digit 0
            256 (omega arith) (omega arith) refl leading,
      )

  pub further_loses : (digits : ℕ) (path : TreePath) (digit : ℕ)
      → ((w v : TreePath → ℕ) → ((p : TreePath) → w p ≤ v p)
      → weigh w (paths new blocks digits) + v path ≤ weigh v (paths old blocks digits))
      → digit < 256 → IsTrue (leads blocks (word_at old path.block digit))
      → (w v : TreePath → ℕ) → ((p : TreePath) → w p ≤ v p)
      → weigh w (paths new blocks (suc digits)) + v (path_by (word_at old path.block digit) path digit)
      ≤ weigh v (paths old blocks (suc digits))
  further_loses digits path digit lost low leading w v less =
      let f : TreePath → ℕ = λ p. weigh w (steps new blocks p) in
      let g : TreePath → ℕ = λ p. weigh v (steps old blocks p) in
      omega (
        arith,
        lost f g (onward_less w v less),
        leads_there path digit v low leading,
        weigh-flat_map w (steps new blocks) (paths new blocks digits),
        weigh-flat_map v (steps old blocks) (paths old blocks digits),
      )
