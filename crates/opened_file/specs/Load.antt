-- Why a file could not be read whole.
use Rattle.std.specs.Prelude.{◌≡◌, ℕ, ◌<◌, Bool, IsTrue, List, length, Option, None, IsSomeAnd, ⊤}
use Rattle.outside.specs.Count.{Rose}
use Rattle.opened_file.specs.declared.whole_file.LoadFault.{LoadFault}
use Rattle.opened_file.specs.declared.whole_file.LoadFault.TheVariants.{Store, NoFile, TooLarge, Memory}

-- The store's count of faults rose; or, of a store that tells its files, there is no such file, or it has more bytes
-- than were allowed; or there was not enough memory.
abbrev pub IsLoadFault : ℕ → ℕ → Bool → Option (List ℕ) → ℕ → LoadFault → Type 0
IsLoadFault before now tells file most Store = Rose before now
IsLoadFault before now tells file most NoFile = IsTrue tells → file ≡ None
IsLoadFault before now tells file most TooLarge = IsTrue tells → IsSomeAnd file (λ bytes. most < length bytes)
IsLoadFault before now tells file most Memory = ⊤

-- the store's count of faults rose, or there was not enough memory
abbrev pub IsReadFault : ℕ → ℕ → LoadFault → Type 0
IsReadFault before now Store = Rose before now
IsReadFault before now NoFile = ⊥
IsReadFault before now TooLarge = ⊥
IsReadFault before now Memory = ⊤
