-- A walk along a list of blocks, and what it finds of the list.
use Rattle.std.specs.Prelude.{◌≡◌, ℕ, IsTrue, List, [], ◌∷◌, ◌++◌, map}
use Rattle.quota_types.specs.declared.damage.Damage.{Damage}
use Rattle.quota_types.specs.declared.damage.DamageKind.{DamageKind}
use Rattle.quota_types.specs.declared.damage.DamageKind.TheVariants.{ChainLoop, ChainOut}
use Rattle.free_chains.specs.declared.chain.Walk.{Walk}
use Rattle.free_chains.specs.declared.chain_link.ChainLink.{ChainLink}
use Rattle.file_blocks.specs.Block.{next_of, previous_of, leads}
use Rattle.file_blocks.specs.BlockSet.{AreFlagsOf}
use Rattle.quota_types.specs.Times.{StandsIn}
use Rattle.free_chains.specs.ChainDefect.{IsLoop, IsOut}

-- the blocks of links, in order
abbrev pub linked_blocks : List ChainLink → List ℕ
linked_blocks links = map (λ link. link.block) links

-- what the previous fields of links say, in order
abbrev pub previous_in : List ChainLink → List ℕ
previous_in links = map (λ link. link.previous) links

-- a walk in a file of this many blocks: those that it has met are marked, and differ from the header's
pub record IsWalk (blocks : ℕ) (walk : Walk) : Type 0 where
  pub marked : AreFlagsOf blocks walk.met.flags.items (linked_blocks walk.links.items)
  pub inside : (number : ℕ) → StandsIn (linked_blocks walk.links.items) number → IsTrue (leads blocks number)

-- the links are the list of a head as far as a number to which the last one leads
pub record AreLinksTo (file : List ℕ) (head : ℕ) (links : List ChainLink) (at : ℕ) : Type 0 where
  pub linked : linked_blocks links ++ at ∷ [] ≡ head ∷ map (next_of file) (linked_blocks links)
  pub previous : previous_in links ≡ map (previous_of file) (linked_blocks links)

-- what a kind of damage says of a list that a walk cannot follow to its end
abbrev pub IsWalkDefectOf : List ℕ → ℕ → ℕ → DamageKind → ℕ → Type 0
IsWalkDefectOf file blocks head ChainOut block = IsOut file blocks head block
IsWalkDefectOf file blocks head ChainLoop block = IsLoop file blocks head block
IsWalkDefectOf file blocks head _ block = ⊥

-- a damage of the list of a head, which leads past the last block or to one of its blocks again
pub record IsWalkDefect (file : List ℕ) (blocks head : ℕ) (damage : Damage) : Type 0 where
  pub defect : IsWalkDefectOf file blocks head damage.kind damage.block
  pub no_id : damage.id ≡ 0
