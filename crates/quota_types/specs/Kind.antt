-- The numbers of kinds, by which kinds are compared. Source: USRQUOTA, GRPQUOTA and PRJQUOTA of the kernel's
-- `linux/quota.h`.
use Rattle.std.specs.Prelude.{ℕ, Bool, ◌==◌, if◌then◌else◌, Option, None, Some}
use Rattle.quota_types.specs.declared.file_kind.Kind.{Kind}
use Rattle.quota_types.specs.declared.file_kind.Kind.TheVariants.{User, Group, Project}

-- the number of a kind
abbrev pub kind_number : Kind → ℕ
kind_number User = 0
kind_number Group = 1
kind_number Project = 2

-- the kind with this number, or none
abbrev pub kind_numbered : ℕ → Option Kind
kind_numbered number =
    if number == 0 then Some User else if number == 1 then Some Group
    else if number == 2 then Some Project else None

-- the two are one kind
abbrev pub kinds_eq : Kind → Kind → Bool
kinds_eq kind other = kind_number kind == kind_number other
