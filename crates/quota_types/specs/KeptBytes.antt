-- What a write leaves of the bytes of a file or a block.
use Rattle.std.specs.Prelude.{◌≡◌, ℕ, ◌<◌, ◌≤◌, List}
use Rattle.quota_types.specs.Bytes.{byte_at}

-- Every byte outside of a span, from one place up to another, is as before. Bytes past the end count as 0, so that
-- a file which was lengthened with zeros keeps all its bytes.
pub record KeepsOutside (from to : ℕ) (old new : List ℕ) : Type 0 where
  pub before : (at : ℕ) → at < from → byte_at new at ≡ byte_at old at
  pub behind : (at : ℕ) → to ≤ at → byte_at new at ≡ byte_at old at
