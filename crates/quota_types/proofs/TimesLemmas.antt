-- How often numbers stand in lists.
use Rattle.std.proofs.Common.{◌≡◌, ◌≢◌, ℕ, zero, suc, ◌+◌, ◌<◌, ◌≤◌, Bool, true, false, cond, ◌||◌, ◌==◌, List, [], ◌∷◌}
use Rattle.std.proofs.Common.{◌++◌, length, get_or, filter, refl, sym, ap, ◌∙◌, ◌⊎◌, inl, inr, arith, true≢false}
use Rattle.std.proofs.Common.{zero-le, length-append, ne_eqb, eq-eqb}
use Rattle.std.proofs.lemmas.List.Sums.{sum_by-cons, sum_by-append}
use Rattle.std.proofs.lemmas.Bool.{cases_Bool, cases_lt}
use Rattle.std.proofs.lemmas.Bool.Decides.{eqb_tells}
use Rattle.std.proofs.lemmas.List.FromFn.{length-range_with_len}
use Rattle.std.specs.List.{list_any, range_with_len}
use Rattle.quota_types.specs.Times.{StandsIn, times}

pub times-cons : (x : ℕ) (xs : List ℕ) (n : ℕ) → times (x ∷ xs) n ≡ cond (x == n) 1 0 + times xs n
times-cons x xs n = sum_by-cons (λ other. cond (other == n) 1 0) x xs

pub times-append : (xs ys : List ℕ) (n : ℕ) → times (xs ++ ys) n ≡ times xs n + times ys n
times-append xs ys n = sum_by-append (λ other. cond (other == n) 1 0) xs ys

-- a first number is the one that is looked for, or another one
pub times_cases : (x : ℕ) (xs : List ℕ) (n : ℕ)
    → ((x ≡ n) × (times (x ∷ xs) n ≡ suc (times xs n))) ⊎ ((x ≢ n) × (times (x ∷ xs) n ≡ times xs n))
times_cases x xs n = elim (eqb_tells x n) [
  | inl same ↦ inl (same.1, times-cons x xs n ∙ ap (λ (b : Bool). cond b 1 0 + times xs n) same.0 ∙ omega arith)
  | inr other ↦ inr (other.1, times-cons x xs n ∙ ap (λ (b : Bool). cond b 1 0 + times xs n) other.0 ∙ omega arith)
]

pub times-cons-same : (x : ℕ) (xs : List ℕ) → times (x ∷ xs) x ≡ suc (times xs x)
times-cons-same x xs = elim (times_cases x xs x) [ inl same ↦ same.1 | inr other ↦ absurd (other.0 refl) ]

pub times-cons-other : (x : ℕ) (xs : List ℕ) (n : ℕ) → x ≢ n → times (x ∷ xs) n ≡ times xs n
times-cons-other x xs n ne = elim (times_cases x xs n) [ inl same ↦ absurd (ne same.0) | inr other ↦ other.1 ]

pub stands_cons : (x : ℕ) (xs : List ℕ) (n : ℕ) → StandsIn (x ∷ xs) n → (x ≡ n) ⊎ StandsIn xs n
stands_cons x xs n stands =
    elim (times_cases x xs n) [ inl same ↦ inl same.0 | inr other ↦ inr (omega (arith, other.1, stands)) ]

-- what stands in two lists that are joined stands in one of them
pub stands_either : (xs ys : List ℕ) (n : ℕ) → StandsIn (xs ++ ys) n → StandsIn xs n ⊎ StandsIn ys n
stands_either xs ys n stands = elim (cases_lt 0 (times xs n)) [
  | inl first ↦ inl first
  | inr none ↦ inr (omega (arith, times-append xs ys n, none, stands))
]

pub stands_left : (xs ys : List ℕ) (n : ℕ) → StandsIn xs n → StandsIn (xs ++ ys) n
stands_left xs ys n stands = omega (arith, times-append xs ys n, stands)

pub stands_right : (xs ys : List ℕ) (n : ℕ) → StandsIn ys n → StandsIn (xs ++ ys) n
stands_right xs ys n stands = omega (arith, times-append xs ys n, stands)

-- a list has a number that a test finds in it
pub StandsIn-list_any : (xs : List ℕ) (n : ℕ) → list_any (λ other. other == n) xs ≡ true → StandsIn xs n
StandsIn-list_any [] n found = absurd (true≢false (sym found))
StandsIn-list_any (x ∷ xs) n found = elim (times_cases x xs n) [
  | inl same ↦ omega (arith, same.1)
  | inr other ↦ omega (
    arith,
    other.1,
    StandsIn-list_any xs n
        (sym (ap (λ (b : Bool). b || list_any (λ other. other == n) xs) (ne_eqb x n other.0)) ∙ found),
  )
]

-- and otherwise does not have it
pub times-list_any : (xs : List ℕ) (n : ℕ) → list_any (λ other. other == n) xs ≡ false → times xs n ≡ 0
times-list_any [] n absent = refl
times-list_any (x ∷ xs) n absent = elim (times_cases x xs n) [
  | inl same ↦
      absurd (true≢false (sym (ap (λ (b : Bool). b || list_any (λ other. other == n) xs) (eq-eqb x n same.0)) ∙ absent))
  | inr other ↦ other.1
      ∙ times-list_any xs n
      (sym (ap (λ (b : Bool). b || list_any (λ other. other == n) xs) (ne_eqb x n other.0)) ∙ absent)
]

-- a number stands in the list at whose place it is
pub StandsIn-get_or : (xs : List ℕ) (k : ℕ) → k < length xs → StandsIn xs (get_or xs k 0)
StandsIn-get_or [] k low = absurd (omega arith)
StandsIn-get_or (x ∷ xs) zero low = omega (arith, times-cons-same x xs)
StandsIn-get_or (x ∷ xs) (suc k) low = stands_right (x ∷ []) xs (get_or xs k 0) (StandsIn-get_or xs k (omega arith))

-- a number that stands in a list stands at some place
pub found_in : (x : ℕ) (ys : List ℕ) → StandsIn ys x
    → (before : List ℕ) × (behind : List ℕ) × (ys ≡ before ++ x ∷ behind)
found_in x [] stands = absurd (omega arith)
found_in x (y ∷ ys) stands = elim (times_cases y ys x) [
  | inl same ↦ ([], ys, ap (λ (z : ℕ). z ∷ ys) same.0)
  | inr other ↦
      let rest = found_in x ys (omega (arith, stands, other.1)) in
      (y ∷ rest.0, rest.1, ap (λ (zs : List ℕ). y ∷ zs) rest.2)
]

-- a list in which no number stands more often than in another one is not longer
pub length_of_times : (xs ys : List ℕ) → ((n : ℕ) → times xs n ≤ times ys n) → length xs ≤ length ys
length_of_times [] ys fewer = zero-le
length_of_times (x ∷ xs) ys fewer =
    let split = found_in x ys (omega (arith, fewer x, times-cons-same x xs)) in
    let before : List ℕ = split.0 in
    let behind : List ℕ = split.1 in
    let rest : length xs ≤ length (before ++ behind) = length_of_times xs (before ++ behind) (λ n.
    omega (
      arith,
      fewer n,
      times-cons x xs n,
      times-cons x behind n,
      times-append before (x ∷ behind) n,
      times-append before behind n,
      ap (λ (zs : List ℕ). times zs n) split.2,
    )) in
    omega (arith, rest, ap length split.2, length-append before (x ∷ behind), length-append before behind)

-- two lists in which each number stands equally often have the same length
pub length_same_times : (xs ys : List ℕ) → ((n : ℕ) → times xs n ≡ times ys n) → length xs ≡ length ys
length_same_times xs ys same =
    let le : length xs ≤ length ys = length_of_times xs ys (λ n. omega (arith, same n)) in
    let ge : length ys ≤ length xs = length_of_times ys xs (λ n. omega (arith, same n)) in
    omega arith

pub times-range-low : (low count n : ℕ) → n < low → times (range_with_len low count) n ≡ 0
times-range-low low zero n h = refl
times-range-low low (suc count) n h =
    times-cons-other low (range_with_len (low + 1) count) n (λ e. omega (arith, e, h))
    ∙ times-range-low (low + 1) count n (omega arith)

pub times-range-high : (low count n : ℕ) → low + count ≤ n → times (range_with_len low count) n ≡ 0
times-range-high low zero n h = refl
times-range-high low (suc count) n h =
    times-cons-other low (range_with_len (low + 1) count) n (λ e. omega (arith, e, h))
    ∙ times-range-high (low + 1) count n (omega arith)

pub times-range-within : (low count n : ℕ) → low ≤ n → n < low + count → times (range_with_len low count) n ≡ 1
times-range-within low zero n ge lt = absurd (omega arith)
times-range-within low (suc count) n ge lt = elim (times_cases low (range_with_len (low + 1) count) n) [
  | inl same ↦ omega (arith, same.1, times-range-low (low + 1) count n (omega (arith, same.0)))
  | inr other ↦
      other.1 ∙ (let ne : low ≢ n = other.0 in times-range-within (low + 1) count n (omega arith) (omega arith))
]

-- a range in two parts
pub range_with_len-add : (low one two : ℕ)
    → range_with_len low (one + two) ≡ range_with_len low one ++ range_with_len (low + one) two
range_with_len-add low zero two =
    let none : zero + two ≡ two = omega arith in
    let same : low ≡ low + zero = omega arith in
    ap (range_with_len low) none ∙ ap (λ (k : ℕ). range_with_len k two) same
range_with_len-add low (suc one) two =
    let more : suc one + two ≡ suc (one + two) = omega arith in
    let same : low + 1 + one ≡ low + suc one = omega arith in
    ap (range_with_len low) more
    ∙ ap (λ (ns : List ℕ). low ∷ ns)
    (range_with_len-add (low + 1) one two ∙ ap (λ (k : ℕ). range_with_len (low + 1) one ++ range_with_len k two) same)

-- where each number stands once at most, there are no more than there are numbers below a bound
pub few_of_distinct : (bound : ℕ) (numbers : List ℕ) → ((n : ℕ) → times numbers n ≤ 1)
    → ((n : ℕ) → StandsIn numbers n → n < bound) → length numbers ≤ bound
few_of_distinct bound numbers distinct inside =
    let fewer : (n : ℕ) → times numbers n ≤ times (range_with_len 0 bound) n = λ n. elim (cases_lt n bound) [
      | inl low ↦ omega (arith, distinct n, times-range-within 0 bound n zero-le (omega arith))
      | inr high ↦ elim (cases_lt 0 (times numbers n)) [
        | inl stands ↦ absurd (omega (arith, inside n stands, high))
        | inr none ↦ omega arith
      ]
    ] in
    omega (arith, length_of_times numbers (range_with_len 0 bound) fewer, length-range_with_len 0 bound)

-- what a filter keeps of a number that passes
pub times-filter-yes : (test : ℕ → Bool) (xs : List ℕ) (n : ℕ) → test n ≡ true → times (filter test xs) n ≡ times xs n
times-filter-yes test [] n passes = refl
times-filter-yes test (x ∷ xs) n passes =
    let rest : times (filter test xs) n ≡ times xs n = times-filter-yes test xs n passes in
    elim (cases_Bool (test x)) [
      | inl kept ↦ ap (λ (b : Bool). times (cond b (x ∷ filter test xs) (filter test xs)) n) kept
          ∙ times-cons x (filter test xs) n ∙ ap (λ (k : ℕ). cond (x == n) 1 0 + k) rest ∙ sym (times-cons x xs n)
      | inr dropped ↦ ap (λ (b : Bool). times (cond b (x ∷ filter test xs) (filter test xs)) n) dropped
          ∙ rest ∙ sym (times-cons-other x xs n (λ same. true≢false (sym passes ∙ ap test (sym same) ∙ dropped)))
    ]

-- and of one that does not
pub times-filter-no : (test : ℕ → Bool) (xs : List ℕ) (n : ℕ) → test n ≡ false → times (filter test xs) n ≡ 0
times-filter-no test [] n fails = refl
times-filter-no test (x ∷ xs) n fails =
    let rest : times (filter test xs) n ≡ 0 = times-filter-no test xs n fails in
    elim (cases_Bool (test x)) [
      | inl kept ↦ ap (λ (b : Bool). times (cond b (x ∷ filter test xs) (filter test xs)) n) kept
          ∙ times-cons-other x (filter test xs) n (λ same. true≢false (sym kept ∙ ap test same ∙ fails)) ∙ rest
      | inr dropped ↦ ap (λ (b : Bool). times (cond b (x ∷ filter test xs) (filter test xs)) n) dropped ∙ rest
    ]

-- the one number of a list that has one
pub only_one : (x n : ℕ) → StandsIn (x ∷ []) n → x ≡ n
only_one x n stands =
    elim (times_cases x [] n) [ inl same ↦ same.0 | inr other ↦ absurd (omega (arith, stands, other.1)) ]
