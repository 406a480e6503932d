-- The paths that go on from some once a block of the tree has one reference more: one path more, in its place.
use Rattle.std.proofs.Common.{◌≡◌, ◌≢◌, ℕ, zero, suc, ◌+◌, ◌-◌, ◌*◌, ◌<◌, ◌≤◌, Bool, true, false, cond, ◌==◌, nat_lt}
use Rattle.std.proofs.Common.{IsTrue, List, [], ◌∷◌, ◌++◌, filter, find, Option, Some, None, refl, sym, ap, subst, ◌∙◌}
use Rattle.std.proofs.Common.{inl, inr, arith}
use Rattle.std.specs.List.{cons_option, filter_map, flat_map, range_with_len, AllByRecursion}
use Rattle.std.proofs.lemmas.Bool.{lt-ltb, le-ltb}
use Rattle.std.proofs.lemmas.Bool.Decides.{eqb_tells}
use Rattle.std.proofs.lemmas.List.{append_assoc, append-nil, map-append}
use Rattle.std.proofs.lemmas.List.Concat.{flat_map-append}
use Rattle.std.proofs.lemmas.List.Elements.{filter-append, filter_map-append}
use Rattle.quota_radix.specs.declared.tree_path.TreePath.{TreePath}
use Rattle.file_blocks.specs.Block.{block_of, word_at, leads}
use Rattle.quota_types.specs.Times.{StandsIn, times}
use Rattle.quota_radix.specs.Link.{with_path}
use Rattle.quota_radix.specs.Tree.{blocks_of, steps}
use Rattle.quota_types.proofs.TimesLemmas.{stands_right, times-append, times-cons, times-cons-same, range_with_len-add}
use Rattle.quota_types.proofs.ListLemmas.{AllByRecursion-weaker}
use Rattle.quota_radix.proofs.PathLemmas.{Rises, Rises-append, Rises-flat_map, Rises_wider, rising_steps}
use Rattle.quota_radix.proofs.DescentLemmas.{not_some, some_same}
use Rattle.quota_radix.proofs.OrderLemmas.{rises_bound}
use Rattle.quota_radix.proofs.StepLemmas.{none_of_zeros, path_by, step_by, steps_from, word_in}

-- Paths, and the same with one more in its place: all are from one number on and below another one.
pub record Gains (low high : ℕ) (path : TreePath) (old new : List TreePath) : Type 0 where
  pub before : List TreePath
  pub behind : List TreePath
  pub was : old ≡ before ++ behind
  pub is : new ≡ before ++ path ∷ behind
  pub lower : Rises low before path.number
  pub greater : Rises (suc path.number) behind high

-- the numbers of paths that ascend from one number on and below another one are between them
pub Rises-between : (low high : ℕ) (ps : List TreePath) → Rises low ps high
    → AllByRecursion (λ (p : TreePath). (low ≤ p.number) × (p.number < high)) ps
Rises-between low high [] r = tt
Rises-between low high (p ∷ ps) r =
    let from : low ≤ p.number = r.0 in
    let to : suc p.number ≤ high = rises_bound (suc p.number) high ps r.1 in (
      (from, omega arith),
      AllByRecursion-weaker (λ (q : TreePath). (suc p.number ≤ q.number) × (q.number < high))
          (λ (q : TreePath). (low ≤ q.number) × (q.number < high)) ps
          (λ q within. let above : suc p.number ≤ q.number = within.0 in (omega arith, within.1))
          (Rises-between (suc p.number) high ps r.1),
    )

-- what passes each of some stays, and what passes none goes
filter_stays : (test : TreePath → Bool) (ps : List TreePath) → AllByRecursion (λ (p : TreePath). test p ≡ true) ps
    → filter test ps ≡ ps
filter_stays test [] all = refl
filter_stays test (p ∷ ps) all =
    ap (λ (b : Bool). cond b (p ∷ filter test ps) (filter test ps)) all.0
    ∙ ap (λ (qs : List TreePath). p ∷ qs) (filter_stays test ps all.1)

filter_goes : (test : TreePath → Bool) (ps : List TreePath) → AllByRecursion (λ (p : TreePath). test p ≡ false) ps
    → filter test ps ≡ []
filter_goes test [] all = refl
filter_goes test (p ∷ ps) all =
    ap (λ (b : Bool). cond b (p ∷ filter test ps) (filter test ps)) all.0 ∙ filter_goes test ps all.1

-- the one more is in its place
pub with_path_gained : (low high : ℕ) (path : TreePath) (old new : List TreePath) → Gains low high path old new
    → new ≡ with_path old path
with_path_gained low high path old new gain =
    let less : TreePath → Bool = λ other. nat_lt other.number path.number in
    let more : TreePath → Bool = λ other. nat_lt path.number other.number in
    let below = Rises-between low path.number gain.before gain.lower in
    let above = Rises-between (suc path.number) high gain.behind gain.greater in
    let P : TreePath → Type 0 = λ p. (low ≤ p.number) × (p.number < path.number) in
    let Q : TreePath → Type 0 = λ p. (suc path.number ≤ p.number) × (p.number < high) in
    let first : filter less gain.before ≡ gain.before =
    filter_stays less gain.before
    (AllByRecursion-weaker P (λ (p : TreePath). less p ≡ true) gain.before
    (λ p h. lt-ltb p.number path.number h.1) below) in
    let second : filter less gain.behind ≡ [] =
    filter_goes less gain.behind
    (AllByRecursion-weaker Q (λ (p : TreePath). less p ≡ false) gain.behind
    (λ p h. let from : suc path.number ≤ p.number = h.0 in le-ltb p.number path.number (omega arith)) above) in
    let third : filter more gain.before ≡ [] =
    filter_goes more gain.before
    (AllByRecursion-weaker P (λ (p : TreePath). more p ≡ false) gain.before
    (λ p h. let to : p.number < path.number = h.1 in le-ltb path.number p.number (omega arith)) below) in
    let fourth : filter more gain.behind ≡ gain.behind =
    filter_stays more gain.behind
    (AllByRecursion-weaker Q (λ (p : TreePath). more p ≡ true) gain.behind
    (λ p h. lt-ltb path.number p.number h.0) above) in
    let lower : filter less old ≡ gain.before =
    ap (filter less) gain.was ∙ filter-append less gain.before gain.behind
    ∙ ap (λ (ps : List TreePath). ps ++ filter less gain.behind) first
    ∙ ap (λ (ps : List TreePath). gain.before ++ ps) second ∙ append-nil gain.before in
    let greater : filter more old ≡ gain.behind =
    ap (filter more) gain.was ∙ filter-append more gain.before gain.behind
    ∙ ap (λ (ps : List TreePath). ps ++ filter more gain.behind) third ∙ fourth in
    gain.is ∙ ap (λ (ps : List TreePath). ps ++ path ∷ gain.behind) (sym lower)
    ∙ ap (λ (ps : List TreePath). filter less old ++ path ∷ ps) (sym greater)

-- so its block stands once more among theirs
pub times_gained : (low high : ℕ) (path : TreePath) (old new : List TreePath) (block : ℕ) → Gains low high path old new
    → times (blocks_of new) block ≡ times (path.block ∷ blocks_of old) block
times_gained low high path old new block gain =
    let before : List ℕ = blocks_of gain.before in
    let behind : List ℕ = blocks_of gain.behind in
    let now : blocks_of new ≡ before ++ path.block ∷ behind =
    ap blocks_of gain.is ∙ map-append (λ (p : TreePath). p.block) gain.before (path ∷ gain.behind) in
    let was : blocks_of old ≡ before ++ behind =
    ap blocks_of gain.was ∙ map-append (λ (p : TreePath). p.block) gain.before gain.behind in
    omega (
      arith,
      ap (λ (ns : List ℕ). times ns block) now,
      ap (λ (ns : List ℕ). times ns block) was,
      times-append before (path.block ∷ behind) block,
      times-append before behind block,
      times-cons path.block behind block,
      times-cons path.block (blocks_of old) block,
    )

-- with further paths on both sides
pub gains_within : (low a b high : ℕ) (path : TreePath) (ps old new qs : List TreePath) → Rises low ps a
    → Gains a b path old new → Rises b qs high
    → Gains low high path (ps ++ (old ++ qs)) (ps ++ (new ++ qs))
gains_within low a b high path ps old new qs lower gain greater = record {
  before = ps ++ gain.before;
  behind = gain.behind ++ qs;
  was = ap (λ (rs : List TreePath). ps ++ (rs ++ qs)) gain.was
      ∙ ap (λ (rs : List TreePath). ps ++ rs) (append_assoc gain.before gain.behind qs)
      ∙ sym (append_assoc ps gain.before (gain.behind ++ qs));
  is = ap (λ (rs : List TreePath). ps ++ (rs ++ qs)) gain.is
      ∙ ap (λ (rs : List TreePath). ps ++ rs) (append_assoc gain.before (path ∷ gain.behind) qs)
      ∙ sym (append_assoc ps gain.before (path ∷ (gain.behind ++ qs)));
  lower = Rises-append low a path.number ps gain.before lower gain.lower;
  greater = Rises-append (suc path.number) b high gain.behind qs gain.greater greater;
}

-- the steps by all digits: those before one, that by it, and those behind it
steps_around : (words : ℕ → ℕ) (blocks : ℕ) (path : TreePath) (digit : ℕ) → digit < 256
    → steps_from words blocks path 0 256
    ≡ steps_from words blocks path 0 digit
    ++ cons_option (step_by words blocks path digit) (steps_from words blocks path (digit + 1) (255 - digit))
steps_around words blocks path digit low =
    let all : 256 ≡ digit + suc (255 - digit) = omega arith in
    let same : 0 + digit ≡ digit = omega arith in
    ap (λ (k : ℕ). steps_from words blocks path 0 k) all
    ∙ ap (filter_map (step_by words blocks path)) (range_with_len-add 0 digit (suc (255 - digit)))
    ∙ filter_map-append (step_by words blocks path) (range_with_len 0 digit)
    (range_with_len (0 + digit) (suc (255 - digit)))
    ∙ ap (λ (k : ℕ). steps_from words blocks path 0 digit ++ steps_from words blocks path k (suc (255 - digit))) same

-- the steps by digits at which the references are the same
steps_alike : (words others : ℕ → ℕ) (blocks : ℕ) (path : TreePath) (first count : ℕ)
    → ((digit : ℕ) → first ≤ digit → digit < first + count → others digit ≡ words digit)
    → steps_from others blocks path first count ≡ steps_from words blocks path first count
steps_alike words others blocks path first zero same = refl
steps_alike words others blocks path first (suc count) same =
    let here : others first ≡ words first = same first (omega arith) (omega arith) in
    ap (λ (word : ℕ). cons_option (cond (leads blocks word) (Some (path_by word path first)) None)
    (steps_from others blocks path (first + 1) count)) here
    ∙ ap (λ (ps : List TreePath). cons_option (step_by words blocks path first) ps)
    (steps_alike words others blocks path (first + 1) count (λ digit from to. same digit (omega arith) (omega arith)))

-- A block has a reference at a digit's place where it had none, and its others are as they were.
pub record GainsRef (block digit value blocks : ℕ) (old new : List ℕ) : Type 0 where
  pub low : digit < 256
  pub none : leads blocks (word_at old block digit) ≡ false
  pub is : word_at new block digit ≡ value
  pub leading : IsTrue (leads blocks value)
  pub others : (other : ℕ) → other < 256 → other ≢ digit → word_at new block other ≡ word_at old block other

-- so the path to it goes on by that digit besides
pub steps_gained : (old new : List ℕ) (blocks digit value : ℕ) (path : TreePath)
    → GainsRef path.block digit value blocks old new
    → Gains (256 * path.number) (256 * suc path.number) (record { number = 256 * path.number + digit; block = value })
    (steps old blocks path) (steps new blocks path)
unfolding steps
steps_gained old new blocks digit value path gain =
    let words : ℕ → ℕ = λ k. word_at old path.block k in
    let others : ℕ → ℕ = λ k. word_at new path.block k in
    let before : List TreePath = steps_from words blocks path 0 digit in
    let behind : List TreePath = steps_from words blocks path (digit + 1) (255 - digit) in
    let next : TreePath = record { number = 256 * path.number + digit; block = value } in
    let low : digit < 256 = gain.low in
    let was : step_by words blocks path digit ≡ None =
    ap (λ (b : Bool). cond b (Some (path_by (words digit) path digit)) None) gain.none in
    let now : step_by others blocks path digit ≡ Some next =
    ap (λ (word : ℕ). cond (leads blocks word) (Some (path_by word path digit)) None) gain.is
    ∙ ap (λ (b : Bool). cond b (Some next) None) gain.leading in
    let first : steps_from others blocks path 0 digit ≡ before =
    steps_alike words others blocks path 0 digit (λ k from to. gain.others k (omega arith) (omega arith)) in
    let second : steps_from others blocks path (digit + 1) (255 - digit) ≡ behind =
    steps_alike words others blocks path (digit + 1) (255 - digit)
    (λ k from to. gain.others k (omega arith) (omega arith)) in
    let lower : Rises (256 * path.number + 0) before (256 * path.number + (0 + digit)) =
    rising_steps old blocks path 0 digit in
    let greater : Rises (256 * path.number + (digit + 1)) behind (256 * path.number + (digit + 1 + (255 - digit))) =
    rising_steps old blocks path (digit + 1) (255 - digit) in
    record {
      before = before;
      behind = behind;
      was = steps_around words blocks path digit low ∙ ap (λ (o : Option TreePath). before ++ cons_option o behind) was;
      is = steps_around others blocks path digit low
          ∙ ap (λ (o : Option TreePath). steps_from others blocks path 0 digit
          ++ cons_option o (steps_from others blocks path (digit + 1) (255 - digit))) now
          ∙ ap (λ (ps : List TreePath). ps ++ next ∷ steps_from others blocks path (digit + 1) (255 - digit)) first
          ∙ ap (λ (ps : List TreePath). before ++ next ∷ ps) second;
      lower = Rises_wider (256 * path.number + 0) (256 * path.number) before (256 * path.number + (0 + digit))
          (256 * path.number + digit) (omega arith) (omega arith) lower;
      greater = Rises_wider (256 * path.number + (digit + 1)) (suc (256 * path.number + digit)) behind
          (256 * path.number + (digit + 1 + (255 - digit))) (256 * suc path.number) (omega arith) (omega arith) greater;
    }

-- the path to a block without references goes nowhere
pub steps_none : (file : List ℕ) (blocks : ℕ) (path : TreePath)
    → ((digit : ℕ) → digit < 256 → word_at file path.block digit ≡ 0) → steps file blocks path ≡ []
unfolding steps
steps_none file blocks path zeros =
    none_of_zeros (λ k. word_at file path.block k) blocks path 0 256 (λ digit low. zeros digit (omega arith))

-- the path to a block of the same bytes goes on as before
pub steps_same : (old new : List ℕ) (blocks : ℕ) (path : TreePath) → block_of new path.block ≡ block_of old path.block
    → steps new blocks path ≡ steps old blocks path
unfolding steps
steps_same old new blocks path same = ap (λ (bytes : List ℕ). steps_from (word_in bytes) blocks path 0 256) same

-- and so do paths that lead to none but such blocks
pub onward_same : (old new : List ℕ) (blocks : ℕ) (ps : List TreePath)
    → ((block : ℕ) → StandsIn (blocks_of ps) block → block_of new block ≡ block_of old block)
    → flat_map (steps new blocks) ps ≡ flat_map (steps old blocks) ps
onward_same old new blocks [] same = refl
onward_same old new blocks (p ∷ ps) same =
    ap (λ (qs : List TreePath). qs ++ flat_map (steps new blocks) ps)
    (steps_same old new blocks p (same p.block (omega (arith, times-cons-same p.block (blocks_of ps)))))
    ∙ ap (λ (qs : List TreePath). steps old blocks p ++ qs)
    (onward_same old new blocks ps
    (λ block stands. same block (stands_right (p.block ∷ []) (blocks_of ps) block stands)))

-- paths, one of which leads to a block with one reference more
pub onward_gains : (old new : List ℕ) (blocks low high digit value : ℕ) (ps qs : List TreePath) (path : TreePath)
    → Rises low ps path.number → Rises (suc path.number) qs high
    → ((block : ℕ) → StandsIn (blocks_of ps) block → block_of new block ≡ block_of old block)
    → ((block : ℕ) → StandsIn (blocks_of qs) block → block_of new block ≡ block_of old block)
    → GainsRef path.block digit value blocks old new
    → Gains (256 * low) (256 * high) (record { number = 256 * path.number + digit; block = value })
    (flat_map (steps old blocks) ps ++ (steps old blocks path ++ flat_map (steps old blocks) qs))
    (flat_map (steps new blocks) (ps ++ path ∷ qs))
onward_gains old new blocks low high digit value ps qs path lower greater same_before same_behind gain =
    let next : TreePath = record { number = 256 * path.number + digit; block = value } in
    let before : List TreePath = flat_map (steps old blocks) ps in
    let behind : List TreePath = flat_map (steps old blocks) qs in
    let now : flat_map (steps new blocks) (ps ++ path ∷ qs) ≡ before ++ (steps new blocks path ++ behind) =
    flat_map-append (steps new blocks) ps (path ∷ qs)
    ∙ ap (λ (rs : List TreePath). rs ++ (steps new blocks path ++ flat_map (steps new blocks) qs))
    (onward_same old new blocks ps same_before)
    ∙ ap (λ (rs : List TreePath). before ++ (steps new blocks path ++ rs))
    (onward_same old new blocks qs same_behind) in
    subst (Gains (256 * low) (256 * high) next (before ++ (steps old blocks path ++ behind))) (sym now)
    (gains_within (256 * low) (256 * path.number) (256 * suc path.number) (256 * high) next before
    (steps old blocks path) (steps new blocks path) behind
    (Rises-flat_map old blocks low path.number ps lower)
    (steps_gained old new blocks digit value path gain)
    (Rises-flat_map old blocks (suc path.number) high qs greater))

-- paths of which one more leads to a block that had no reference, and has one
pub onward_more : (old new : List ℕ) (blocks low high digit value : ℕ) (path : TreePath) (ps qs : List TreePath)
    → Gains low high path ps qs
    → ((block : ℕ) → StandsIn (blocks_of ps) block → block_of new block ≡ block_of old block)
    → ((other : ℕ) → other < 256 → word_at old path.block other ≡ 0)
    → GainsRef path.block digit value blocks old new
    → Gains (256 * low) (256 * high) (record { number = 256 * path.number + digit; block = value })
    (flat_map (steps old blocks) ps) (flat_map (steps new blocks) qs)
onward_more old new blocks low high digit value path ps qs gain same zeros gains_ref =
    let next : TreePath = record { number = 256 * path.number + digit; block = value } in
    let f : TreePath → List TreePath = steps old blocks in
    let numbers : blocks_of ps ≡ blocks_of gain.before ++ blocks_of gain.behind =
    ap blocks_of gain.was ∙ map-append (λ (p : TreePath). p.block) gain.before gain.behind in
    let among : (block : ℕ)
    → times (blocks_of ps) block ≡ times (blocks_of gain.before) block + times (blocks_of gain.behind) block =
    λ block.
    ap (λ (ns : List ℕ). times ns block) numbers ∙ times-append (blocks_of gain.before) (blocks_of gain.behind) block in
    let was : flat_map f gain.before ++ (f path ++ flat_map f gain.behind) ≡ flat_map f ps =
    ap (λ (rs : List TreePath). flat_map f gain.before ++ (rs ++ flat_map f gain.behind))
    (steps_none old blocks path zeros)
    ∙ sym (flat_map-append f gain.before gain.behind) ∙ ap (flat_map f) (sym gain.was) in
    let now : flat_map (steps new blocks) (gain.before ++ path ∷ gain.behind) ≡ flat_map (steps new blocks) qs =
    ap (flat_map (steps new blocks)) (sym gain.is) in
    subst (λ (rs : List TreePath). Gains (256 * low) (256 * high) next rs (flat_map (steps new blocks) qs)) was
    (subst (Gains (256 * low) (256 * high) next (flat_map f gain.before ++ (f path ++ flat_map f gain.behind))) now
    (onward_gains old new blocks low high digit value gain.before gain.behind path gain.lower gain.greater
    (λ block stands. same block (omega (arith, stands, among block)))
    (λ block stands. same block (omega (arith, stands, among block)))
    gains_ref))

-- the path that is found by its number, and those before and behind it
pub record SplitsAt (number : ℕ) (path : TreePath) (ps : List TreePath) : Type 0 where
  pub before : List TreePath
  pub behind : List TreePath
  pub is : ps ≡ before ++ path ∷ behind
  pub number_is : path.number ≡ number

pub found_splits : (number : ℕ) (ps : List TreePath) (path : TreePath)
    → find (λ (other : TreePath). other.number == number) ps ≡ Some path → SplitsAt number path ps
found_splits number [] path found = absurd (not_some path (sym found))
found_splits number (p ∷ ps) path found =
    let rest : Option TreePath = find (λ (other : TreePath). other.number == number) ps in
    elim (eqb_tells p.number number) [
      | inl same ↦
          let here : p ≡ path = some_same p path (sym (ap (λ (b : Bool). cond b (Some p) rest) same.0) ∙ found) in
          record {
            before = [];
            behind = ps;
            is = ap (λ (q : TreePath). q ∷ ps) here;
            number_is = ap (λ (q : TreePath). q.number) (sym here) ∙ same.1;
          }
      | inr other ↦
          let later : SplitsAt number path ps =
          found_splits number ps path (sym (ap (λ (b : Bool). cond b (Some p) rest) other.0) ∙ found) in
          record {
            before = p ∷ later.before;
            behind = later.behind;
            is = ap (λ (qs : List TreePath). p ∷ qs) later.is;
            number_is = later.number_is;
          }
    ]

-- paths that ascend, before and behind one of them
pub Rises_split : (low high : ℕ) (ps qs : List TreePath) (path : TreePath) → Rises low (ps ++ path ∷ qs) high
    → Rises low ps path.number × Rises (suc path.number) qs high
Rises_split low high [] qs path r = (r.0, r.1)
Rises_split low high (p ∷ ps) qs path r =
    let rest = Rises_split (suc p.number) high ps qs path r.1 in
    ((r.0, rest.0), rest.1)
