-- What is seen of an opened quota file.
use Rattle.std.specs.Prelude.{ℕ, Bool, List}
use Rattle.quota_types.specs.declared.file_kind.Format.{Format}

-- An opened quota file: its name, its format, whether it may still be used, how many blocks it may have (0 where its
-- format has none), and how many of its calls were refused, up to the last value of a counter of 64 bits.
pub record FileSeen : Type 0 where
  pub name : List ℕ
  pub format : Format
  pub usable : Bool
  pub limit : ℕ
  pub refusals : ℕ
