-- The entry list, beside the blocks that it is to have.
use Rattle.std.specs.Prelude.{◌≡◌, ◌≢◌, ℕ, List, ◌∷◌, ◌++◌, length, take, Some, unwrap_or, slice_index}
use Rattle.std.specs.List.{last_or}
use Rattle.quota_types.specs.declared.damage.Damage.{Damage}
use Rattle.quota_types.specs.declared.damage.DamageKind.{DamageKind}
use Rattle.quota_types.specs.declared.damage.DamageKind.TheVariants.{BadPrev, ForeignInChain, MissingInChain}
use Rattle.quota_types.specs.Times.{StandsIn, times}

-- a list has exactly these blocks, and each names the one before it, the first one 0
pub record AreListed (numbers chain previous : List ℕ) : Type 0 where
  pub those : (number : ℕ) → times chain number ≡ times numbers number
  pub in_order : previous ≡ take (length chain) (0 ∷ chain)

-- a block of a list that does not name the block before it, or 0 where it is the first
pub record NamesOther (chain previous : List ℕ) (block : ℕ) : Type 0 where
  pub before : List ℕ
  pub behind : List ℕ
  pub split : chain ≡ before ++ block ∷ behind
  pub other : slice_index previous (length before) ≢ unwrap_or (last_or (Some 0) before) 0

-- what a kind of damage says of a list that is to have these blocks
abbrev pub IsListDefectOf : List ℕ → List ℕ → List ℕ → DamageKind → ℕ → Type 0
IsListDefectOf numbers chain previous ForeignInChain block = StandsIn chain block × (times numbers block ≡ 0)
IsListDefectOf numbers chain previous MissingInChain block = StandsIn numbers block × (times chain block ≡ 0)
IsListDefectOf numbers chain previous BadPrev block = NamesOther chain previous block
IsListDefectOf numbers chain previous _ block = ⊥

-- a damage of a list that is to have these blocks, each with the block before it in its previous field
pub record IsListDefect (numbers chain previous : List ℕ) (damage : Damage) : Type 0 where
  pub defect : IsListDefectOf numbers chain previous damage.kind damage.block
  pub no_id : damage.id ≡ 0
