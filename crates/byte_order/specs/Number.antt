-- Numbers of a file that a machine of either byte order wrote. Source: `__le16`, `__le32` and `__le64` of the kernel's
-- `include/uapi/linux/types.h`, in which a quota file is to be, and `__be16`, `__be32` and `__be64`, in which it is
-- where it was written without a change of order.
use Rattle.std.specs.Prelude.{ℕ, zero, suc, ◌+◌, ◌*◌, ◌^◌, List}
use Rattle.quota_types.specs.Bytes.{byte_at, number_at}
use Rattle.byte_order.specs.declared.order.Order.{Order}
use Rattle.byte_order.specs.declared.order.Order.TheVariants.{Little, Big}

-- the number that this many bytes from a place on spell, the highest first
unfoldable pub big_at : ℕ → List ℕ → ℕ → ℕ
big_at zero file at = 0
big_at (suc width) file at = byte_at file at * 256 ^ width + big_at width file (suc at)

-- the number that this many bytes from a place on spell, in an order
abbrev pub number_in : Order → ℕ → List ℕ → ℕ → ℕ
number_in Little width file at = number_at width file at
number_in Big width file at = big_at width file at
