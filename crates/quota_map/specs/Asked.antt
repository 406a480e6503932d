-- What is asked where a quota file is opened. Source: quotaon(8) and setquota(8) on formats: a file whose format is not
-- given is a tree file, and its own version tells which of the tree formats it has.
use Rattle.std.specs.Prelude.{Bool, true, false, Option, None, Some}
use Rattle.quota_types.specs.declared.file_kind.Format.{Format}

-- what is asked where a quota file is opened: a tree file of whichever format, or a file of one format
pub data Asked : Type 0 where
  AnyTree : Asked
  InFormat : Format → Asked

-- what a format asks that was given, or was not: a quota file whose format is not given is a tree file
abbrev pub asked_of : Option Format → Asked
asked_of None = AnyTree
asked_of (Some format) = InFormat format

-- a format is asked for
abbrev pub asks_format : Asked → Bool
asks_format AnyTree = false
asks_format (InFormat format) = true
