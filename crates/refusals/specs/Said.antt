-- What a sink has got of what was said, whether it failed or not.
use Rattle.std.specs.Prelude.{◌≡◌, ℕ, List, ◌++◌}
use Rattle.outside.specs.Text.{AppendsPrefix}

-- the bytes are appended, or, where the sink failed, a prefix of them
pub record AppendsUnless (rose : Type 0) (old new bytes : List ℕ) : Type 0 where
  pub prefix : AppendsPrefix old new bytes
  pub whole : ¬ rose → new ≡ old ++ bytes
