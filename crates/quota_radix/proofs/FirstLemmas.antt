-- The first leaf from a number on, by the way down: along the digits of the number, or else by the next greater digit.
use Rattle.std.proofs.Common.{◌≡◌, ℕ, suc, ◌+◌, ◌-◌, ◌*◌, ◌^◌, ◌<◌, ◌≤◌, List, [], ◌∷◌, ◌++◌, length, get_or, Option}
use Rattle.std.proofs.Common.{Some, None, option_and_then, refl, sym, ap, subst, ◌∙◌, arith, pow-suc, mul-le-mul_left}
use Rattle.std.proofs.lemmas.List.Concat.{flat_map-append}
use Rattle.std.proofs.lemmas.List.Elements.{filter_map-append}
use Rattle.std.specs.List.{cons_option, filter_map, flat_map, range_with_len}
use Rattle.std.specs.Option.{option_or}
use Rattle.quota_types.proofs.TimesLemmas.{range_with_len-add}
use Rattle.quota_radix.specs.declared.tree_path.TreePath.{TreePath}
use Rattle.quota_radix.specs.Descent.{later_steps, path_from, paths_below, with_digits}
use Rattle.quota_radix.specs.Tree.{step, steps}
use Rattle.quota_radix.proofs.DescentLemmas.{Rises-below, all_from, from-append, none_from, not_some, some_same}
use Rattle.quota_radix.proofs.PathLemmas.{rising_steps}
use Rattle.quota_radix.proofs.WayLemmas.{first_here, later_here, step_is}

-- the first of what goes on from some paths is the first of what goes on from their first, where that has any
pub first_of_first : (on : TreePath → List TreePath) (ps : List TreePath) (next leaf : TreePath)
    → path_from 0 ps ≡ Some next → path_from 0 (on next) ≡ Some leaf
    → path_from 0 (flat_map on ps) ≡ Some leaf
first_of_first on [] next leaf first found = absurd (not_some next (sym first))
first_of_first on (p ∷ ps) next leaf first found =
    let same : p ≡ next = some_same p next (sym (first_here p ps) ∙ first) in
    from-append 0 (on p) (flat_map on ps)
    ∙ ap (λ (o : Option TreePath). option_or o (path_from 0 (flat_map on ps)))
    (ap (λ (q : TreePath). path_from 0 (on q)) same ∙ found)

pub none_of_none : (on : TreePath → List TreePath) (ps : List TreePath) → path_from 0 ps ≡ None
    → path_from 0 (flat_map on ps) ≡ None
none_of_none on [] none = refl
none_of_none on (p ∷ ps) none = absurd (not_some p (sym (first_here p ps) ∙ none))

-- the least leaf below a path is that below its first step, where that has one
pub least_below_step : (file : List ℕ) (blocks digits : ℕ) (path next leaf : TreePath)
    → path_from 0 (later_steps file blocks path 0) ≡ Some next
    → path_from 0 (paths_below file blocks digits next) ≡ Some leaf
    → path_from 0 (paths_below file blocks (suc digits) path) ≡ Some leaf
unfolding steps
least_below_step file blocks digits path next leaf first found =
    first_of_first (paths_below file blocks digits) (later_steps file blocks path 0) next leaf first found

-- the steps before a digit, that by it, and those behind it
steps-split : (file : List ℕ) (blocks : ℕ) (path : TreePath) (digit : ℕ) → digit < 256
    → steps file blocks path
    ≡ filter_map (step file blocks path) (range_with_len 0 digit)
    ++ cons_option (step file blocks path digit) (later_steps file blocks path (digit + 1))
unfolding steps
steps-split file blocks path digit low =
    let all : 256 ≡ digit + (256 - digit) = omega arith in
    let same : 0 + digit ≡ digit = omega arith in
    ap (λ (k : ℕ). filter_map (step file blocks path) (range_with_len 0 k)) all
    ∙ ap (filter_map (step file blocks path)) (range_with_len-add 0 digit (256 - digit))
    ∙ filter_map-append (step file blocks path) (range_with_len 0 digit) (range_with_len (0 + digit) (256 - digit))
    ∙ ap (λ (k : ℕ). filter_map (step file blocks path) (range_with_len 0 digit)
    ++ filter_map (step file blocks path) (range_with_len k (256 - digit))) same
    ∙ ap (λ (ps : List TreePath). filter_map (step file blocks path) (range_with_len 0 digit) ++ ps)
    (later_here file blocks path digit low)

-- digits behind those of a number make one that begins with it
pub digits_above : (number : ℕ) (digits : List ℕ) → 256 ^ length digits * number ≤ with_digits number digits
digits_above number [] = omega arith
digits_above number (digit ∷ digits) =
    let power : ℕ = 256 ^ length digits in
    let more : 256 ^ suc (length digits) * number ≡ 256 * (power * number) =
    omega (arith, ap (λ (k : ℕ). k * number) (pow-suc 256 (length digits))) in
    let step : power * (256 * number) ≤ power * (256 * number + digit) = mul-le-mul_left power (omega arith) in
    omega (arith, more, step, digits_above (256 * number + digit) digits)

pub digits_below : (number : ℕ) (digits : List ℕ) → ((k : ℕ) → k < length digits → get_or digits k 0 < 256)
    → with_digits number digits < 256 ^ length digits * suc number
digits_below number [] low = omega arith
digits_below number (digit ∷ digits) low =
    let power : ℕ = 256 ^ length digits in
    let first : digit < 256 = low 0 (omega arith) in
    let more : 256 ^ suc (length digits) * suc number ≡ power * (256 * suc number) =
    omega (arith, ap (λ (k : ℕ). k * suc number) (pow-suc 256 (length digits))) in
    let step : power * suc (256 * number + digit) ≤ power * (256 * suc number) = mul-le-mul_left power (omega arith) in
    omega (arith, more, step, digits_below (256 * number + digit) digits (λ k under. low (suc k) (omega arith)))

-- the first path from a number on: that below the step by its digit, or else the first of those by greater digits
pub first_by_digit : (file : List ℕ) (blocks digit : ℕ) (rest : List ℕ) (path : TreePath) → digit < 256
    → ((k : ℕ) → k < length rest → get_or rest k 0 < 256)
    → path_from (with_digits (256 * path.number + digit) rest) (paths_below file blocks (suc (length rest)) path)
    ≡ option_or (option_and_then
    (λ next. path_from (with_digits (256 * path.number + digit) rest) (paths_below file blocks (length rest) next))
    (step file blocks path digit))
    (path_from 0 (flat_map (paths_below file blocks (length rest)) (later_steps file blocks path (digit + 1))))
first_by_digit file blocks digit rest path low digits =
    let from : ℕ = with_digits (256 * path.number + digit) rest in
    let on : TreePath → List TreePath = paths_below file blocks (length rest) in
    let before : List TreePath = filter_map (step file blocks path) (range_with_len 0 digit) in
    let behind : List TreePath = later_steps file blocks path (digit + 1) in
    let number : ℕ = 256 * path.number + digit in
    let power : ℕ = 256 ^ length rest in
    let at_least : power * number ≤ from = digits_above number rest in
    let below : from < power * suc number = digits_below number rest digits in
    let number_is : 256 * path.number + (0 + digit) ≡ number = omega arith in
    let next_is : 256 * path.number + (digit + 1) ≡ suc number = omega arith in
    let none_before : path_from from (flat_map on before) ≡ None =
    none_from (power * (256 * path.number + 0)) (power * (256 * path.number + (0 + digit))) from (flat_map on before)
    (Rises-below file blocks (length rest) (256 * path.number + 0) (256 * path.number + (0 + digit)) before
    (rising_steps file blocks path 0 digit))
    (omega (arith, at_least, ap (λ (k : ℕ). power * k) number_is)) in
    let all_behind : path_from from (flat_map on behind) ≡ path_from 0 (flat_map on behind) =
    all_from (power * (256 * path.number + (digit + 1)))
    (power * (256 * path.number + (digit + 1 + (256 - (digit + 1))))) from (flat_map on behind)
    (Rises-below file blocks (length rest) (256 * path.number + (digit + 1))
    (256 * path.number + (digit + 1 + (256 - (digit + 1)))) behind
    (rising_steps file blocks path (digit + 1) (256 - (digit + 1))))
    (omega (arith, below, ap (λ (k : ℕ). power * k) next_is)) in
    let here : (o : Option TreePath) → path_from from (flat_map on (cons_option o behind))
    ≡ option_or (option_and_then (λ next. path_from from (on next)) o) (path_from 0 (flat_map on behind)) =
    λ o. go from on behind all_behind o in
    ap (λ (ps : List TreePath). path_from from (flat_map on ps)) (steps-split file blocks path digit low)
    ∙ ap (path_from from) (flat_map-append on before (cons_option (step file blocks path digit) behind))
    ∙ from-append from (flat_map on before) (flat_map on (cons_option (step file blocks path digit) behind))
    ∙ ap (λ (o : Option TreePath).
    option_or o (path_from from (flat_map on (cons_option (step file blocks path digit) behind)))) none_before
    ∙ here (step file blocks path digit)
  where
    go : (from : ℕ) (on : TreePath → List TreePath) (behind : List TreePath)
        → path_from from (flat_map on behind) ≡ path_from 0 (flat_map on behind) → (o : Option TreePath)
        → path_from from (flat_map on (cons_option o behind))
        ≡ option_or (option_and_then (λ next. path_from from (on next)) o) (path_from 0 (flat_map on behind))
    go from on behind all None = all
    go from on behind all (Some next) =
        from-append from (on next) (flat_map on behind) ∙ ap (option_or (path_from from (on next))) all

-- the first path from the number on that digits make, by the first of them and the others
module _ (file : List ℕ) (blocks digit : ℕ) (digits rest : List ℕ) (path : TreePath) (are : digits ≡ digit ∷ rest)
    (bytes : (k : ℕ) → get_or digits k 0 < 256) where
  low : digit < 256
  low = subst (λ (ds : List ℕ). get_or ds 0 0 < 256) are (bytes 0)

  lows : (k : ℕ) → k < length rest → get_or rest k 0 < 256
  lows k under = subst (λ (ds : List ℕ). get_or ds (suc k) 0 < 256) are (bytes (suc k))

  whole : path_from (with_digits path.number digits) (paths_below file blocks (length digits) path)
      ≡ option_or (option_and_then
      (λ next. path_from (with_digits (256 * path.number + digit) rest) (paths_below file blocks (length rest) next))
      (step file blocks path digit))
      (path_from 0 (flat_map (paths_below file blocks (length rest)) (later_steps file blocks path (digit + 1))))
  whole =
      ap (λ (ds : List ℕ). path_from (with_digits path.number ds) (paths_below file blocks (length ds) path)) are
      ∙ first_by_digit file blocks digit rest path low lows

  -- where the first digit leads nowhere, it is the first of those by greater ones
  pub past_none : (o : Option TreePath) → o ≡ step file blocks path digit → o ≡ None
      → path_from 0 (flat_map (paths_below file blocks (length rest)) (later_steps file blocks path (digit + 1)))
      ≡ path_from (with_digits path.number digits) (paths_below file blocks (length digits) path)
  past_none o is none =
      let later : Option TreePath =
      path_from 0 (flat_map (paths_below file blocks (length rest)) (later_steps file blocks path (digit + 1))) in
      sym (whole
      ∙ ap (λ (found : Option TreePath). option_or
      (option_and_then
      (λ next. path_from (with_digits (256 * path.number + digit) rest) (paths_below file blocks (length rest) next))
      found) later) (sym is ∙ none))

  -- where it leads on, it is the first from there, or else one of those
  onward : (o : Option TreePath) (next : TreePath) → o ≡ step file blocks path digit → o ≡ Some next
      → path_from (with_digits path.number digits) (paths_below file blocks (length digits) path)
      ≡ option_or (path_from (with_digits next.number rest) (paths_below file blocks (length rest) next))
      (path_from 0 (flat_map (paths_below file blocks (length rest)) (later_steps file blocks path (digit + 1))))
  onward o next is some =
      let later : Option TreePath =
      path_from 0 (flat_map (paths_below file blocks (length rest)) (later_steps file blocks path (digit + 1))) in
      let there : step file blocks path digit ≡ Some next = sym is ∙ some in
      let number : next.number ≡ 256 * path.number + digit =
      ap (λ (p : TreePath). p.number) (step_is file blocks path next digit there).1 in
      whole
      ∙ ap (λ (found : Option TreePath). option_or
      (option_and_then
      (λ on. path_from (with_digits (256 * path.number + digit) rest) (paths_below file blocks (length rest) on)) found)
      later) there
      ∙ ap (λ (n : ℕ).
      option_or (path_from (with_digits n rest) (paths_below file blocks (length rest) next)) later) (sym number)

  pub past_next : (o below : Option TreePath) (next : TreePath) → o ≡ step file blocks path digit → o ≡ Some next
      → below ≡ path_from (with_digits next.number rest) (paths_below file blocks (length rest) next) → below ≡ None
      → path_from 0 (flat_map (paths_below file blocks (length rest)) (later_steps file blocks path (digit + 1)))
      ≡ path_from (with_digits path.number digits) (paths_below file blocks (length digits) path)
  past_next o below next is some there none =
      let later : Option TreePath =
      path_from 0 (flat_map (paths_below file blocks (length rest)) (later_steps file blocks path (digit + 1))) in
      sym (onward o next is some ∙ ap (λ (found : Option TreePath). option_or found later) (sym there ∙ none))

  pub here_next : (o below : Option TreePath) (next leaf : TreePath) → o ≡ step file blocks path digit → o ≡ Some next
      → below ≡ path_from (with_digits next.number rest) (paths_below file blocks (length rest) next)
      → below ≡ Some leaf
      → Some leaf ≡ path_from (with_digits path.number digits) (paths_below file blocks (length digits) path)
  here_next o below next leaf is some there found =
      let later : Option TreePath =
      path_from 0 (flat_map (paths_below file blocks (length rest)) (later_steps file blocks path (digit + 1))) in
      sym (onward o next is some ∙ ap (λ (first : Option TreePath). option_or first later) (sym there ∙ found))
