-- A file that is written under another name first, and then takes the place of the old one.
use Rattle.std.specs.Prelude.{ℕ, ◌+◌, ◌/◌, ⊤}
use Rattle.outside.specs.Count.{Rose}
use Rattle.opened_file.specs.declared.replacement.ReplaceFault.{ReplaceFault}
use Rattle.opened_file.specs.declared.replacement.ReplaceFault.TheVariants.{Store, Full, Memory}

-- how many calls of `write`, or of `read`, this many bytes take, of 1,024 bytes each but the last
abbrev pub pieces_of : ℕ → ℕ
pieces_of length = (length + 1023) / 1024

-- A replacement by given bytes is refused where the store's count of faults rose, or there was not enough memory. It
-- needs no room in blocks.
abbrev pub IsReplaceFault : ℕ → ℕ → ReplaceFault → Type 0
IsReplaceFault before now Store = Rose before now
IsReplaceFault before now (Full _ _) = ⊥
IsReplaceFault before now Memory = ⊤

-- a fact where there was not enough memory
abbrev pub OnNoMemory : ReplaceFault → Type 0 → Type 0
OnNoMemory Store P = ⊤
OnNoMemory (Full _ _) P = ⊤
OnNoMemory Memory P = P
