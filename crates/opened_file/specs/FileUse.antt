-- What an opened quota file keeps besides its name and its bytes, as it is seen.
use Rattle.std.specs.Prelude.{ℕ, List}
use Rattle.quota_types.specs.declared.file_kind.Format.{Format}
use Rattle.opened_file.specs.FileSeen.{FileSeen}
use Rattle.opened_file.specs.declared.file_use.FileUse.{FileUse}

-- an opened file of this name and this format, which may have at most this many blocks, with this use and count of
-- refusals
abbrev pub seen_in : FileUse → (name : List ℕ) → Format → ℕ → FileSeen
seen_in opened name format limit = record {
  name = name;
  format = format;
  usable = opened.usable;
  limit = limit;
  refusals = opened.refusals;
}
