-- The blocks on the way of an identifier down the tree of a file.
use Rattle.std.specs.Prelude.{ℕ, ◌-◌, ◌/◌, ◌^◌, List, Option, zero, suc, ◌%◌, if◌then◌else◌, Some, None}
use Rattle.std.specs.List.{filter_map, range_with_len}
use Rattle.std.specs.Option.{option_and_then}
use Rattle.file_blocks.specs.Block.{word_at, leads}

-- the block to which a digit leads from a block of the tree, or none
abbrev pub led_by : List ℕ → ℕ → ℕ → ℕ → Option ℕ
led_by file blocks digit block =
    if leads blocks (word_at file block digit) then Some (word_at file block digit) else None

-- The block to which a number of this many digits to the base 256 leads, or none: the root where there is no digit, and
-- otherwise where the last digit leads from the block to which the digits before it lead.
abbrev pub block_led_to : List ℕ → ℕ → ℕ → ℕ → Option ℕ
block_led_to file blocks zero number = Some 1
block_led_to file blocks (suc digits) number =
    option_and_then (led_by file blocks (number % 256)) (block_led_to file blocks digits (number / 256))

-- the block to which the first digits of an identifier lead, this many of them, or none
unfoldable pub block_on_way : List ℕ → (blocks id gone : ℕ) → Option ℕ
block_on_way file blocks id gone = block_led_to file blocks gone (id / 256 ^ (4 - gone))

-- The blocks to which the first 0, 1, 2, 3 and 4 digits of an identifier lead, as far as they do: the root first, and
-- the data block fifth.
unfoldable pub blocks_on_way : List ℕ → (blocks id : ℕ) → List ℕ
blocks_on_way file blocks id = filter_map (block_on_way file blocks id) (range_with_len 0 5)
