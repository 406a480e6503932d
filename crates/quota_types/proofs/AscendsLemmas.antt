-- Numbers that strictly ascend.
use Rattle.std.proofs.Common.{◌≡◌, ℕ, zero, suc, ◌+◌, ◌<◌, ◌≤◌, List, [], ◌∷◌, ◌++◌, length, get_or, subst, arith}
use Rattle.std.specs.List.Sorted.{IsStrictlyIncreasing}

-- numbers strictly ascend, from one on
abbrev pub Ascends : ℕ → List ℕ → Type 0
Ascends low [] = Unit {0}
Ascends low (x ∷ xs) = (low ≤ x) × Ascends (suc x) xs

Ascends-from : (x : ℕ) (xs : List ℕ) → IsStrictlyIncreasing (x ∷ xs) → Ascends x (x ∷ xs)
Ascends-from x [] rising = (omega arith, tt)
Ascends-from x (y ∷ ys) rising =
    let next : x < y = rising 0 (omega arith) in
    let rest : Ascends y (y ∷ ys) = Ascends-from y ys (λ k lt.
    let same : suc k + 1 ≡ suc (k + 1) = omega arith in
    subst (λ (n : ℕ). get_or (y ∷ ys) k 0 < get_or (x ∷ y ∷ ys) n 0) same (rising (suc k) (omega arith))) in
    (omega arith, (omega arith, rest.1))

pub Ascends-of : (xs : List ℕ) → IsStrictlyIncreasing xs → Ascends 0 xs
Ascends-of [] rising = tt
Ascends-of (x ∷ xs) rising = (omega arith, (Ascends-from x xs rising).1)

pub Ascends-fewer : (low few : ℕ) (xs : List ℕ) → few ≤ low → Ascends low xs → Ascends few xs
Ascends-fewer low few [] le r = tt
Ascends-fewer low few (x ∷ xs) le r = let from : low ≤ x = r.0 in (omega arith, r.1)

Ascends-above : (low : ℕ) (xs : List ℕ) → Ascends low xs → (k : ℕ) → k < length xs → low ≤ get_or xs k 0
Ascends-above low [] r k lt = absurd (omega arith)
Ascends-above low (x ∷ xs) r zero lt = r.0
Ascends-above low (x ∷ xs) r (suc k) lt =
    let from : low ≤ x = r.0 in
    let rest : suc x ≤ get_or xs k 0 = Ascends-above (suc x) xs r.1 k (omega arith) in
    omega arith

pub Ascends-apart : (low : ℕ) (xs : List ℕ) → Ascends low xs → (j k : ℕ) → j < k → k < length xs
    → get_or xs j 0 < get_or xs k 0
Ascends-apart low [] r j k lt within = absurd (omega arith)
Ascends-apart low (x ∷ xs) r j zero lt within = absurd (omega arith)
Ascends-apart low (x ∷ xs) r zero (suc k) lt within = Ascends-above (suc x) xs r.1 k (omega arith)
Ascends-apart low (x ∷ xs) r (suc j) (suc k) lt within = Ascends-apart (suc x) xs r.1 j k (omega arith) (omega arith)

pub IsStrictlyIncreasing-of : (low : ℕ) (xs : List ℕ) → Ascends low xs → IsStrictlyIncreasing xs
IsStrictlyIncreasing-of low xs r = λ k lt. Ascends-apart low xs r k (k + 1) (omega arith) lt

pub Ascends-left : (low : ℕ) (xs ys : List ℕ) → Ascends low (xs ++ ys) → Ascends low xs
Ascends-left low [] ys r = tt
Ascends-left low (x ∷ xs) ys r = (r.0, Ascends-left (suc x) xs ys r.1)

-- what ascends behind a number ascends from above it
pub Ascends-right : (low : ℕ) (xs ys : List ℕ) → Ascends low (xs ++ ys) → Ascends low ys
Ascends-right low [] ys r = r
Ascends-right low (x ∷ xs) ys r =
    let from : low ≤ x = r.0 in
    Ascends-fewer (suc x) low ys (omega arith) (Ascends-right (suc x) xs ys r.1)
