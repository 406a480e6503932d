-- What a quota file of any format stands for.
use Rattle.std.specs.Prelude.{ℕ, List, MatchBool}
use Rattle.quota_types.specs.Format.{is_flat}
use Rattle.quota_types.specs.declared.file_kind.Format.{Format}
use Rattle.quota_value.specs.QuotaValue.{QuotaValue}
use Rattle.tree_meaning.specs.TreeFile.{TreeStandsFor}
use Rattle.quota_v1.specs.FlatFile.{FlatStandsFor}

-- the file, read as one of a format, stands for the value
abbrev pub StandsForAs : Format → List ℕ → QuotaValue → Type 0
StandsForAs format file value = MatchBool (is_flat format) (FlatStandsFor format file value) (TreeStandsFor file value)

-- the file stands for the value, read as one of the value's format
abbrev pub StandsFor : List ℕ → QuotaValue → Type 0
StandsFor file value = StandsForAs value.format file value
