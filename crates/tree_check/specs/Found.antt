-- What the parts of a check find of a file.
use Rattle.std.specs.Prelude.{◌≡◌, ℕ, List, length}
use Rattle.entry_codec.specs.Header.{HeaderNumbers}
use Rattle.quota_types.specs.declared.damage.Damage.{Damage}
use Rattle.quota_types.specs.declared.file_kind.Format.{Format}
use Rattle.tree_check.specs.declared.roles.Roles.{Roles}
use Rattle.quota_types.specs.Times.{StandsIn}
use Rattle.byte_order.specs.declared.order.Order.{Order}
use Rattle.tree_meaning.specs.Defect.{IsTreeDefectIn}
use Rattle.tree_check.specs.Groups.{AreGroupsOf, groups_of}
use Rattle.quota_radix.specs.TreeDefect.{IsEmpty}
use Rattle.tree_meaning.specs.Loose.{nothing_loose}
use Rattle.tree_meaning.specs.Roles.{OneRole}
use Rattle.quota_radix.specs.Tree.{leaves, lower_blocks}

-- no tree block below the root is empty
abbrev pub HasNoEmptyBlock : List ℕ → ℕ → Type 0
HasNoEmptyBlock file blocks = (block : ℕ) → StandsIn (lower_blocks file blocks) block → ¬ IsEmpty file block

-- each block of a file has one role, no tree block below the root is empty, and these are the identifiers that lead to
-- each block, their number, and that of the free blocks
pub record AreRoles (file : List ℕ) (blocks free_head : ℕ) (roles : Roles) : Type 0 where
  pub one_role : OneRole nothing_loose file blocks free_head
  pub not_empty : HasNoEmptyBlock file blocks
  pub groups : AreGroupsOf blocks (leaves file blocks) (groups_of blocks roles.leaves.items)
  pub used : roles.used ≡ length (leaves file blocks)
  pub free : roles.free ≡ length one_role.free

-- a damage of a file by its number of blocks alone, in whichever order it is read
abbrev pub IsLengthDefect : List ℕ → ℕ → Damage → Type 0
IsLengthDefect file blocks damage =
    (order : Order) (format : Format) (numbers : HeaderNumbers) → numbers.blocks ≡ blocks
    → IsTreeDefectIn order format file numbers damage

-- a damage of a file that is read in an order, by its number of blocks and the head of its free list
abbrev pub IsRoleDefect : Order → List ℕ → ℕ → ℕ → Damage → Type 0
IsRoleDefect order file blocks free_head damage =
    (format : Format) (numbers : HeaderNumbers) → numbers.blocks ≡ blocks → numbers.free ≡ free_head
    → IsTreeDefectIn order format file numbers damage

-- a damage of a file that is read in an order, by its number of blocks and the head of its entry list
abbrev pub IsListedDefect : Order → Format → List ℕ → ℕ → ℕ → Damage → Type 0
IsListedDefect order format file blocks first damage =
    (numbers : HeaderNumbers) → numbers.blocks ≡ blocks → numbers.first ≡ first
    → IsTreeDefectIn order format file numbers damage
