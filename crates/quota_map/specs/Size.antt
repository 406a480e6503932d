-- How large a file of a value is.
use Rattle.std.specs.Prelude.{ℕ, List, Option}
use Rattle.quota_value.specs.QuotaValue.{QuotaValue}
use Rattle.tree_file.specs.BlocksWanted.{blocks_wanted}
use Rattle.quota_map.specs.Replacing.{built_size}
-- The clauses of `replace_file` say by these how many blocks a file of a list needs; so whoever calls it takes them
-- from here.
pub use Rattle.tree_build.specs.Size.{blocks_needed}
pub use Rattle.tree_meaning.specs.Ids.{ids_in}

-- how many blocks a whole new file of the value needs; a flat file has none
abbrev pub blocks_of : QuotaValue → ℕ
blocks_of value = blocks_needed value.format (ids_in value.records)

-- how many blocks this file, as it is, will have once it is edited to the value; a flat file has none
abbrev pub blocks_after : Option (List ℕ) → QuotaValue → ℕ
blocks_after file value = blocks_wanted value.format file (ids_in value.records)

-- how many bytes a file of a value is built of
abbrev pub size_of : QuotaValue → ℕ
size_of value = built_size value.format (ids_in value.records)
