-- What a sink has got of a text.
use Rattle.std.specs.Prelude.{◌≡◌, ℕ, List, ◌++◌}

-- new is old with a prefix of the bytes appended
pub record AppendsPrefix (old new bytes : List ℕ) : Type 0 where
  pub done : List ℕ
  pub rest : List ℕ
  pub appended : new ≡ old ++ done
  pub prefix : done ++ rest ≡ bytes
