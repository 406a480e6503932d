-- Fields of a quota file, as error lines name them.
use Rattle.std.specs.Prelude.{ℕ, Bool, true, false, List, codes}
use Rattle.quota_types.specs.declared.field.Field.{Field}
use Rattle.quota_types.specs.declared.field.Field.TheVariants.{BlockGrace, InodeGrace, Id, Ihard, Isoft, Inodes, Bhard}
use Rattle.quota_types.specs.declared.field.Field.TheVariants.{Bsoft, Space, Btime, Itime}

-- the name of a field
abbrev pub field_name : Field → List ℕ
field_name BlockGrace = codes "bgrace"
field_name InodeGrace = codes "igrace"
field_name Id = codes "id"
field_name Ihard = codes "ihard"
field_name Isoft = codes "isoft"
field_name Inodes = codes "inodes"
field_name Bhard = codes "bhard"
field_name Bsoft = codes "bsoft"
field_name Space = codes "space"
field_name Btime = codes "btime"
field_name Itime = codes "itime"

-- a field that is one of an identifier's record, and none of the whole file
abbrev pub is_of_identifier : Field → Bool
is_of_identifier BlockGrace = false
is_of_identifier InodeGrace = false
is_of_identifier _ = true
