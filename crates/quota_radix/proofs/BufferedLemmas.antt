-- Room for the blocks that are looked at for the next leaf, or none, where all of them are buffered.
use Rattle.std.proofs.Common.{◌≡◌, ℕ, zero, suc, ◌+◌, ◌-◌, ◌*◌, ◌<◌, ◌≤◌, ◌⊎◌, true, List, [], ◌∷◌, length, Some, None}
use Rattle.std.proofs.Common.{inl, inr, sym, subst, arith}
use Rattle.quota_pages.specs.Page.{Page, is_buffered}
use Rattle.quota_pages.specs.Used.{missing}
use Rattle.quota_pages.proofs.UsedLemmas.{missing-few, missing-there}
use Rattle.quota_radix.specs.declared.tree_path.TreePath.{TreePath}
use Rattle.quota_radix.specs.Buffered.{IsThereFrom, IsTherePast, IsThereToLeast}
use Rattle.quota_radix.specs.Descent.{later_steps, path_from, paths_below, with_digits}
use Rattle.quota_radix.specs.Tree.{step}

-- what was buffered still is
to_least_stay : (old new : List Page) (file : List ℕ) (blocks to_go : ℕ) (path : TreePath)
    → ((other : ℕ) → is_buffered old other ≡ true → is_buffered new other ≡ true)
    → IsThereToLeast old file blocks to_go path → IsThereToLeast new file blocks to_go path
to_least_stay old new file blocks zero path stay there = tt
to_least_stay old new file blocks (suc to_go) path stay there =
    (stay path.block there.0, λ next is. to_least_stay old new file blocks to_go next stay (there.1 next is))

past_stay : (old new : List Page) (file : List ℕ) (blocks to_go : ℕ) (path : TreePath) (first : ℕ)
    → ((other : ℕ) → is_buffered old other ≡ true → is_buffered new other ≡ true)
    → IsTherePast old file blocks to_go path first → IsTherePast new file blocks to_go path first
past_stay old new file blocks to_go path first stay there =
    λ next is. to_least_stay old new file blocks to_go next stay (there next is)

from_stay : (old new : List Page) (file : List ℕ) (blocks : ℕ) (path : TreePath) (digits : List ℕ)
    → ((other : ℕ) → is_buffered old other ≡ true → is_buffered new other ≡ true)
    → IsThereFrom old file blocks path digits → IsThereFrom new file blocks path digits
from_stay old new file blocks path [] stay there = tt
from_stay old new file blocks path (digit ∷ digits) stay there = (
  stay path.block there.0,
  (
    λ next is. from_stay old new file blocks next digits stay (there.1.0 next is),
    (
      λ none. past_stay old new file blocks (length digits) path (digit + 1) stay (there.1.1.0 none),
      λ next is none. past_stay old new file blocks (length digits) path (digit + 1) stay (there.1.1.1 next is none),
    ),
  ),
)

-- a block that is buffered is not missing
not_missing : (pages : List Page) (number : ℕ) → is_buffered pages number ≡ true → 1 ≤ missing pages number
    → length pages < 12
not_missing pages number there lacks = absurd (omega (arith, lacks, missing-there pages number there))

-- on the way down to the least leaf: the block that is looked at next, and those further down
pub least_here : {K : Type 0} (pages : List Page) (file : List ℕ) (blocks to_go less : ℕ) (path : TreePath)
    → to_go ≡ suc less
    → (length pages + to_go ≤ 12) ⊎ (K × IsThereToLeast pages file blocks to_go path) → 1 ≤ missing pages path.block
    → length pages < 12
least_here pages file blocks to_go less path more room = elim room [
  | inl many ↦ (λ lacks. omega (arith, many, more))
  | inr there ↦ not_missing pages path.block (subst (λ (k : ℕ). IsThereToLeast pages file blocks k path) more there.1).0
]

pub least_next : {K L : Type 0} (old new : List Page) (file now : List ℕ) (blocks to_go less : ℕ) (path next : TreePath)
    → to_go ≡ suc less
    → (length old + to_go ≤ 12) ⊎ (K × IsThereToLeast old file blocks to_go path) → (K → L × (now ≡ file))
    → (K → path_from 0 (later_steps file blocks path 0) ≡ Some next)
    → ((other : ℕ) → is_buffered old other ≡ true → is_buffered new other ≡ true)
    → length new ≤ length old + missing old path.block
    → (length new + less ≤ 12) ⊎ (L × IsThereToLeast new now blocks less next)
least_next old new file now blocks to_go less path next more room still leads stay few = elim room [
  | inl many ↦ inl (omega (arith, many, more, few, missing-few old path.block))
  | inr there ↦
      let stays = still there.0 in
      let below = (subst (λ (k : ℕ). IsThereToLeast old file blocks k path) more there.1).1 next (leads there.0) in
      inr (
        stays.0,
        subst (λ (f : List ℕ). IsThereToLeast new f blocks less next) (sym stays.1)
            (to_least_stay old new file blocks less next stay below),
      )
]

-- past a block that is buffered: those further down by a later digit
pub past_next : {K L : Type 0} (old new : List Page) (file now : List ℕ) (blocks to_go first later : ℕ)
    (path next : TreePath) → first ≡ later
    → (length old + to_go ≤ 12) ⊎ (K × IsTherePast old file blocks to_go path later) → (K → L × (now ≡ file))
    → (K → path_from 0 (later_steps file blocks path first) ≡ Some next)
    → ((other : ℕ) → is_buffered old other ≡ true → is_buffered new other ≡ true)
    → length new ≤ length old + missing old path.block → missing old path.block ≡ 0
    → (length new + to_go ≤ 12) ⊎ (L × IsThereToLeast new now blocks to_go next)
past_next old new file now blocks to_go first later path next same room still leads stay few read = elim room [
  | inl many ↦ inl (omega (arith, many, few, read))
  | inr there ↦
      let stays = still there.0 in
      let below =
      there.1 next (subst (λ (k : ℕ). path_from 0 (later_steps file blocks path k) ≡ Some next) same (leads there.0)) in
      inr (
        stays.0,
        subst (λ (f : List ℕ). IsThereToLeast new f blocks to_go next) (sym stays.1)
            (to_least_stay old new file blocks to_go next stay below),
      )
]

-- on the way by digits: the block that is looked at next, those further down by them, and those by a later digit
pub from_here : {K : Type 0} (pages : List Page) (file : List ℕ) (blocks : ℕ) (path : TreePath) (digits : List ℕ)
    (digit : ℕ) (rest : List ℕ) → digits ≡ digit ∷ rest
    → (length pages + (2 * length digits - 1) ≤ 12) ⊎ (K × IsThereFrom pages file blocks path digits)
    → 1 ≤ missing pages path.block → length pages < 12
from_here {K = K} pages file blocks path digits digit rest are room =
    elim (subst (λ (ds : List ℕ).
    (length pages + (2 * length ds - 1) ≤ 12) ⊎ (K × IsThereFrom pages file blocks path ds)) are room) [
      | inl many ↦ (λ lacks. omega (arith, many))
      | inr there ↦ not_missing pages path.block there.1.0
    ]

pub from_next : {K L : Type 0} (old new : List Page) (file now : List ℕ) (blocks : ℕ) (path next : TreePath)
    (digits : List ℕ) (digit : ℕ) (rest : List ℕ) → digits ≡ digit ∷ rest
    → (length old + (2 * length digits - 1) ≤ 12) ⊎ (K × IsThereFrom old file blocks path digits)
    → (K → L × (now ≡ file)) → (K → step file blocks path digit ≡ Some next)
    → ((other : ℕ) → is_buffered old other ≡ true → is_buffered new other ≡ true)
    → length new ≤ length old + missing old path.block
    → (length new + (2 * length rest - 1) ≤ 12) ⊎ (L × IsThereFrom new now blocks next rest)
from_next {K = K} old new file now blocks path next digits digit rest are room still leads stay few =
    elim (subst
    (λ (ds : List ℕ). (length old + (2 * length ds - 1) ≤ 12) ⊎ (K × IsThereFrom old file blocks path ds)) are room) [
      | inl many ↦ inl (omega (arith, many, few, missing-few old path.block))
      | inr there ↦
          let stays = still there.0 in
          let below = there.1.1.0 next (leads there.0) in
          inr (
            stays.0,
            subst (λ (f : List ℕ). IsThereFrom new f blocks next rest) (sym stays.1)
                (from_stay old new file blocks next rest stay below),
          )
    ]

pub from_past : {K L : Type 0} (old new : List Page) (file now : List ℕ) (blocks : ℕ) (path : TreePath)
    (digits : List ℕ) (digit : ℕ) (rest : List ℕ) → digits ≡ digit ∷ rest
    → (length old + (2 * length digits - 1) ≤ 12) ⊎ (K × IsThereFrom old file blocks path digits)
    → (K → L × (now ≡ file))
    → (K → (step file blocks path digit ≡ None)
    ⊎ ((next : TreePath) × (step file blocks path digit ≡ Some next)
    × (path_from (with_digits next.number rest) (paths_below file blocks (length rest) next) ≡ None)))
    → ((other : ℕ) → is_buffered old other ≡ true → is_buffered new other ≡ true)
    → length new ≤ length old + (1 + length rest)
    → (length new + length rest ≤ 12) ⊎ (L × IsTherePast new now blocks (length rest) path (digit + 1))
from_past {K = K} old new file now blocks path digits digit rest are room still ends stay few =
    elim (subst
    (λ (ds : List ℕ). (length old + (2 * length ds - 1) ≤ 12) ⊎ (K × IsThereFrom old file blocks path ds)) are room) [
      | inl many ↦ inl (omega (arith, many, few))
      | inr there ↦
          let stays = still there.0 in
          let past : IsTherePast old file blocks (length rest) path (digit + 1) =
          elim (ends there.0) [ inl none ↦ there.1.1.1.0 none | inr some ↦ there.1.1.1.1 some.0 some.1 some.2 ] in
          inr (
            stays.0,
            subst (λ (f : List ℕ). IsTherePast new f blocks (length rest) path (digit + 1)) (sym stays.1)
                (past_stay old new file blocks (length rest) path (digit + 1) stay past),
          )
    ]
