-- What clearing the references of a way says of the tree.
use Rattle.std.proofs.Common.{◌≡◌, ℕ, ◌-◌, ◌<◌, ◌≤◌, ◌^◌, List, [], ◌∷◌, ◌++◌, length, take, get_or, refl, sym, ap}
use Rattle.std.proofs.Common.{subst, inl, inr, arith}
use Rattle.std.specs.Prelude.{Result, Ok, Err, IfOk}
use Rattle.quota_types.specs.Times.{StandsIn, times}
use Rattle.quota_types.proofs.TimesLemmas.{times-append, times_cases}
use Rattle.quota_pages.specs.KeptBlocks.{KeepsBlocksBut}
use Rattle.quota_radix.specs.Link.{AreDistinct}
use Rattle.quota_radix.specs.TreeDefect.{IsEmpty}
use Rattle.quota_radix.specs.Tree.{level}
use Rattle.quota_radix.specs.Unlink.{AreAllWithoutOther, ClearsAlong, IsUnlinkable, LosesLeaf, lowest_blocks}
use Rattle.quota_radix.proofs.DownLemmas.{times_in_tree}
use Rattle.quota_radix.proofs.UnlinkLeafLemmas.{loses_leaf, whole_way_led, without_other}
use Rattle.quota_radix.proofs.UnlinkPathLemmas.{led_stands}

first_four : (way : List ℕ) → length way ≡ 5
    → take 4 way ≡ get_or way 0 0 ∷ get_or way 1 0 ∷ get_or way 2 0 ∷ get_or way 3 0 ∷ []
first_four [] five = absurd (omega arith)
first_four (a ∷ []) five = absurd (omega arith)
first_four (a ∷ b ∷ []) five = absurd (omega arith)
first_four (a ∷ b ∷ c ∷ []) five = absurd (omega arith)
first_four (a ∷ b ∷ c ∷ d ∷ rest) five = refl

one_of_those : (numbers : List ℕ) (x n : ℕ) → StandsIn numbers x → times (x ∷ []) n ≤ times numbers n
one_of_those numbers x n stands = elim (times_cases x [] n) [
  | inl same ↦ omega (arith, same.1, stands, ap (times numbers) same.0)
  | inr other ↦ omega (arith, other.1)
]

-- the tree blocks of a way stand each in its level, so they are distinct where those of the tree are
pub way_distinct : (file way : List ℕ) (blocks id : ℕ) → length way ≡ 5 → id < 2 ^ 32 → IsUnlinkable file blocks way id
    → AreDistinct (take 4 way)
way_distinct file way blocks id five small can n =
    let stands : (digits : ℕ) → digits < 4 → StandsIn (level file blocks digits) (get_or way digits 0) =
    λ digits few. led_stands file blocks id digits (get_or way digits 0) small few
    (whole_way_led file way blocks id can.way five digits (omega arith)) in
    let w : ℕ → ℕ = λ k. get_or way k 0 in
    omega (
      arith,
      ap (λ (numbers : List ℕ). times numbers n) (first_four way five),
      times-append (w 0 ∷ []) (w 1 ∷ w 2 ∷ w 3 ∷ []) n,
      times-append (w 1 ∷ []) (w 2 ∷ w 3 ∷ []) n,
      times-append (w 2 ∷ []) (w 3 ∷ []) n,
      one_of_those (level file blocks 0) (w 0) n (stands 0 (omega arith)),
      one_of_those (level file blocks 1) (w 1) n (stands 1 (omega arith)),
      one_of_those (level file blocks 2) (w 2) n (stands 2 (omega arith)),
      one_of_those (level file blocks 3) (w 3) n (stands 3 (omega arith)),
      times_in_tree file blocks n,
      can.once n,
    )

-- What is shown once each block is buffered is known where it was before, and is the same.
module _ {T E : Type 0} (items : T → List ℕ) (way : List ℕ) (id blocks : ℕ) (before old new : List ℕ)
    (five : length way ≡ 5) (small : id < 2 ^ 32) (K L : Type 0) (known : K → L) (same : old ≡ before) where
  pub words_end : (result : Result T E)
      → IfOk result (λ emptied. L → AreDistinct (take 4 way) → ClearsAlong way (3 - length (items emptied)) id old new)
      → IfOk result
      (λ emptied. K → AreDistinct (take 4 way) → ClearsAlong way (3 - length (items emptied)) id before new)
  words_end (Err e) words = tt
  words_end (Ok emptied) words =
      λ k distinct. subst (λ (file : List ℕ). ClearsAlong way (3 - length (items emptied)) id file new) same
      (words (known k) distinct)

  pub emptied_end : (result : Result T E) → IfOk result (λ emptied. length (items emptied) ≤ 3)
      → IfOk result (λ emptied. L → AreDistinct (take 4 way) → ClearsAlong way (3 - length (items emptied)) id old new)
      → IfOk result (λ emptied. L → AreDistinct (take 4 way) → (place : ℕ) → 3 - length (items emptied) < place
      → place < 4 → IsEmpty new (get_or way place 0))
      → IfOk result
      (λ emptied. L → length (items emptied) < 3 → ¬ IsEmpty new (get_or way (3 - length (items emptied)) 0))
      → IfOk result
      (λ emptied. K → AreDistinct (take 4 way) → AreAllWithoutOther way (length (items emptied)) id before)
  emptied_end (Err e) few words empty left = tt
  emptied_end (Ok emptied) few words empty left = λ k distinct.
      subst (λ (file : List ℕ). AreAllWithoutOther way (length (items emptied)) id file) same
      (without_other way (length (items emptied)) id old new few (words (known k) distinct) (empty (known k) distinct)
      (left (known k)))

  pub loses_end : (result : Result T E)
      → IfOk result (λ emptied. items emptied ≡ lowest_blocks way (length (items emptied)))
      → IfOk result (λ emptied. length (items emptied) ≤ 3)
      → IfOk result (λ emptied. L → AreDistinct (take 4 way) → ClearsAlong way (3 - length (items emptied)) id old new)
      → IfOk result (λ emptied. L → AreDistinct (take 4 way) → (place : ℕ) → 3 - length (items emptied) < place
      → place < 4 → IsEmpty new (get_or way place 0))
      → IfOk result
      (λ emptied. L → length (items emptied) < 3 → ¬ IsEmpty new (get_or way (3 - length (items emptied)) 0))
      → IfOk result
      (λ emptied. KeepsBlocksBut (items emptied ++ get_or way (3 - length (items emptied)) 0 ∷ []) old new)
      → IfOk result
      (λ emptied. K → IsUnlinkable before blocks way id → LosesLeaf way (items emptied) id blocks before new)
  loses_end (Err e) is few words empty left keeps = tt
  loses_end (Ok emptied) is few words empty left keeps = λ k can.
      let there : IsUnlinkable old blocks way id =
      subst (λ (file : List ℕ). IsUnlinkable file blocks way id) (sym same) can in
      let distinct : AreDistinct (take 4 way) = way_distinct old way blocks id five small there in
      subst (λ (file : List ℕ). LosesLeaf way (items emptied) id blocks file new) same
      (loses_leaf way (items emptied) (length (items emptied)) id blocks old new five few is small there
      (words (known k) distinct) keeps (empty (known k) distinct) (left (known k)) refl)
