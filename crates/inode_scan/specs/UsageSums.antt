-- How the usage of identifiers is added up, and who comes next. Source: `st_blocks` of stat(2) counts blocks of 512
-- bytes.
use Rattle.std.specs.Prelude.{◌≡◌, ℕ, ◌+◌, ◌*◌, ◌<◌, IsSome, Option, Some, None, refl}
use Rattle.std.specs.declared.ops.Bound.{Bound}
use Rattle.std.specs.declared.ops.Bound.TheVariants.{Excluded, Unbounded}
use Rattle.std.specs.Coded.{Coded, code_by, coded×, coded_ℕ}
use Rattle.std.specs.FinMap.{get}
use Rattle.quota_types.specs.Ids.{IsAfter}
use Rattle.inode_scan.specs.declared.used.Used.{Used}
use Rattle.inode_scan.specs.Usage.{UsageMap}

-- a usage is stored as the pair of its fields
abbrev pub used_code : Coded Used
used_code =
    code_by (ℕ × ℕ) (coded× coded_ℕ coded_ℕ) (λ used. (used.space, used.inodes))
    (λ pair. record { space = pair.0; inodes = pair.1 }) (λ _. refl)

-- The least identifier with a usage that comes after another one, or after none; there is none exactly where no
-- identifier that comes after has a usage.
abbrev pub IsNextUser : Option ℕ → UsageMap → Option ℕ → Type 0
IsNextUser after usage None = (id : ℕ) → IsAfter after id → get usage id ≡ None
IsNextUser after usage (Some next) =
    IsAfter after next
    × IsSome (get usage next)
    × ((id : ℕ) → IsAfter after id → id < next → get usage id ≡ None)

-- a usage, or none, with one more inode of this many blocks of 512 bytes
abbrev pub with_inode : Option Used → (blocks : ℕ) → Used
with_inode None blocks = record { space = 512 * blocks; inodes = 1 }
with_inode (Some used) blocks = record { space = used.space + 512 * blocks; inodes = used.inodes + 1 }

-- where the identifiers that come after another one, or after none, begin
abbrev pub bound_above : Option ℕ → Bound ℕ
bound_above None = Unbounded
bound_above (Some id) = Excluded id
