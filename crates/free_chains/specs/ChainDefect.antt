-- What may be wrong with a list of blocks by itself. Source: the rules of `fs/quota/quota_tree.c`, each turned round.
use Rattle.std.specs.Prelude.{ℕ, ◌≤◌, List}
use Rattle.free_chains.specs.Chain.{IsChain}
use Rattle.quota_types.specs.Times.{StandsIn}

-- the head or a link of a list leads to this number, which is past the last block
pub record IsOut (file : List ℕ) (blocks head block : ℕ) : Type 0 where
  pub chain : List ℕ
  pub is_chain : IsChain file blocks head chain block
  pub out : blocks ≤ block

-- a link of a list leads to a block that the list has met before
pub record IsLoop (file : List ℕ) (blocks head block : ℕ) : Type 0 where
  pub chain : List ℕ
  pub is_chain : IsChain file blocks head chain block
  pub met : StandsIn chain block
