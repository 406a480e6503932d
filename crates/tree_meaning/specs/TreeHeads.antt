-- The heads of a tree file.
use Rattle.entry_codec.specs.Header.{HeaderNumbers}
use Rattle.free_chains.specs.declared.heads.Heads.{Heads}

-- the heads that a header has
abbrev pub heads_of : HeaderNumbers → Heads
heads_of numbers = record { blocks = numbers.blocks; free = numbers.free; first = numbers.first }
