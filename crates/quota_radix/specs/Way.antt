-- The way of an identifier down the tree of a file, as far as it goes, and a reference on it that leads past the last
-- block. Source: the kernel's `fs/quota/quota_tree.c` (`find_tree_dqentry`).
use Rattle.std.specs.Prelude.{◌≡◌, ℕ, ◌-◌, ◌/◌, ◌%◌, ◌^◌, ◌<◌, ◌≤◌, ◌+◌, ◌*◌, zero, suc, IsTrue, IfSome, List, length}
use Rattle.std.specs.Prelude.{slice_index, Option, Some, ⊤}
use Rattle.std.specs.List.{filter_map, range_with_len}
use Rattle.std.specs.Option.{option_map}
use Rattle.quota_radix.specs.declared.tree_path.TreePath.{TreePath}
use Rattle.file_blocks.specs.Block.{leads, word_at}
use Rattle.quota_radix.specs.OnWay.{block_led_to, block_on_way}

-- the digit of an identifier behind its first ones, this many of them
unfoldable pub digit_on_way : (id gone : ℕ) → ℕ
digit_on_way id gone = id / 256 ^ (3 - gone) % 256

-- The blocks of the tree on the way of an identifier, as far as it goes: those to which its first 0, 1, 2 and 3 digits
-- lead.
unfoldable pub tree_on_way : List ℕ → (blocks id : ℕ) → List ℕ
tree_on_way file blocks id = filter_map (block_on_way file blocks id) (range_with_len 0 4)

-- The blocks of a way begin with the root, and are one to five.
pub record IsFromRoot (found : List ℕ) : Type 0 where
  pub root : slice_index found 0 ≡ 1
  pub some : 1 ≤ length found
  pub few : length found ≤ 5

-- A reference on the way of an identifier leads past the last block: that by its next digit, in the block to which its
-- first digits lead.
pub record IsOutOnWay (file : List ℕ) (blocks id block : ℕ) : Type 0 where
  pub gone : ℕ
  pub few : gone < 4
  pub led : block_on_way file blocks id gone ≡ Some block
  pub out : blocks ≤ word_at file block (digit_on_way id gone)

-- no reference on the way of an identifier leads past the last block
abbrev pub IsInsideOnWay : List ℕ → (blocks id : ℕ) → Type 0
IsInsideOnWay file blocks id =
    (gone block : ℕ) → gone < 4 → block_on_way file blocks id gone ≡ Some block
    → word_at file block (digit_on_way id gone) < blocks

-- No reference between the ways of two identifiers leads past the last block: none by a number of one to four digits to
-- the base 256, from those that the first identifier begins with up to those that the last one does, or up to all,
-- where no identifier is the last.
abbrev pub IsInsideUpTo : List ℕ → (blocks first : ℕ) → (last : Option ℕ) → Type 0
IsInsideUpTo file blocks first last =
    (gone number block : ℕ) → gone < 4 → number < 256 ^ (gone + 1)
    → block_led_to file blocks gone (number / 256) ≡ Some block
    → first < 256 ^ (3 - gone) * (number + 1) → IfSome last (λ id. 256 ^ (3 - gone) * number ≤ id)
    → word_at file block (number % 256) < blocks

-- the same of the references below a path, which is this many digits short of a leaf
abbrev pub IsInsideFrom : List ℕ → (blocks to_go : ℕ) → TreePath → (first : ℕ) → (last : Option ℕ) → Type 0
IsInsideFrom file blocks zero path first last = ⊤
IsInsideFrom file blocks (suc to_go) path first last =
    (digit : ℕ) → digit < 256 → first < 256 ^ to_go * (256 * path.number + digit + 1)
    → IfSome last (λ id. 256 ^ to_go * (256 * path.number + digit) ≤ id)
    → (word_at file path.block digit < blocks)
    × (IsTrue (leads blocks (word_at file path.block digit))
    → IsInsideFrom file blocks to_go
    (record { number = 256 * path.number + digit; block = word_at file path.block digit }) first last)

-- and of those by a digit from one on
abbrev pub IsInsideBy : List ℕ → (blocks to_go : ℕ) → TreePath → (least : ℕ) → (last : Option ℕ) → Type 0
IsInsideBy file blocks to_go path least last =
    (digit : ℕ) → least ≤ digit → digit < 256 → IfSome last (λ id. 256 ^ to_go * (256 * path.number + digit) ≤ id)
    → (word_at file path.block digit < blocks)
    × (IsTrue (leads blocks (word_at file path.block digit))
    → IsInsideFrom file blocks to_go
    (record { number = 256 * path.number + digit; block = word_at file path.block digit }) 0 last)

-- No reference of the block of a path is there from a digit on, up to that by which a path goes on, or up to all, where
-- none does.
unfoldable pub IsClearTo : List ℕ → (blocks : ℕ) → TreePath → (first : ℕ) → (found : Option TreePath) → Type 0
IsClearTo file blocks path first found =
    (digit : ℕ) → first ≤ digit → digit < 256 → IfSome found (λ next. 256 * path.number + digit < next.number)
    → (word_at file path.block digit ≡ 0) × (0 < blocks)

-- the number of a path that may be there
abbrev pub number_in : Option TreePath → Option ℕ
number_in found = option_map (λ (path : TreePath). path.number) found
