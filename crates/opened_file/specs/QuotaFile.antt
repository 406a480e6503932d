-- Why a call on an opened quota file may be refused.
use Rattle.std.specs.Prelude.{◌≡◌, ℕ, ◌*◌, ◌<◌, ◌≤◌, max, Bool, true, false, IsTrue, IfErr, List, length, Result, ⊤}
use Rattle.quota_types.specs.Times.{StandsIn, times}
use Rattle.quota_types.specs.declared.damage.Damage.{Damage as Damaged}
use Rattle.file_blocks.specs.Block.{block_of, file_of}
use Rattle.outside.specs.Count.{Rose, counted}
use Rattle.outside.specs.World.{KeepsOthers, World}
use Rattle.quota_value.specs.QuotaValue.{QuotaValue}
use Rattle.opened_file.specs.declared.quota_file.FileFault.{FileFault}
use Rattle.opened_file.specs.declared.quota_file.FileFault.TheVariants.{Store, Damage, Full, Memory}
use Rattle.opened_file.specs.FileSeen.{FileSeen}

-- A refused call counts once, and leaves the name, the format and the limit; it tells whether the file may still be
-- used.
pub record CountsRefusal (still_usable : Bool) (old new : FileSeen) : Type 0 where
  pub name : new.name ≡ old.name
  pub format : new.format ≡ old.format
  pub limit : new.limit ≡ old.limit
  pub usable : new.usable ≡ still_usable
  pub once : new.refusals ≡ counted old.refusals

-- A lookup is refused where the store's count of faults rose, or where the opened file with its store holds no value.
-- It needs no room and takes no memory.
abbrev pub IsLookupFault : ℕ → ℕ → (QuotaValue → Type 0) → FileFault → Type 0
IsLookupFault before now holds Store = Rose before now
IsLookupFault before now holds (Damage _) = (value : QuotaValue) → ¬ (holds value)
IsLookupFault before now holds (Full _ _) = ⊥
IsLookupFault before now holds Memory = ⊥

-- A change is refused where the store's count of faults rose, where the opened file with its store holds no value,
-- where it lacks room, needing more blocks than it may have, or where there was not enough memory.
abbrev pub IsChangeFault : ℕ → ℕ → (QuotaValue → Type 0) → (ℕ → ℕ → Type 0) → FileFault → Type 0
IsChangeFault before now holds lacks Store = Rose before now
IsChangeFault before now holds lacks (Damage _) = (value : QuotaValue) → ¬ (holds value)
IsChangeFault before now holds lacks (Full blocks limit) = lacks blocks limit
IsChangeFault before now holds lacks Memory = ⊤

-- a fact of the blocks that a file would need and of those that it may have, where it is full
abbrev pub IfFull : FileFault → (ℕ → ℕ → Type 0) → Type 0
IfFull Store P = ⊤
IfFull (Damage _) P = ⊤
IfFull (Full blocks limit) P = P blocks limit
IfFull Memory P = ⊤

-- a fact where a call was refused, but for a fault of the store
abbrev pub UnlessStoreFailed : FileFault → Type 0 → Type 0
UnlessStoreFailed Store P = ⊤
UnlessStoreFailed (Damage _) P = P
UnlessStoreFailed (Full _ _) P = P
UnlessStoreFailed Memory P = P

-- the store failed
abbrev pub is_store_fault : FileFault → Bool
is_store_fault Store = true
is_store_fault (Damage _) = false
is_store_fault (Full _ _) = false
is_store_fault Memory = false

-- a fact of a damage, where a call was refused for one
abbrev pub IfDamage : FileFault → (Damaged → Type 0) → Type 0
IfDamage Store P = ⊤
IfDamage (Damage damage) P = P damage
IfDamage (Full _ _) P = ⊤
IfDamage Memory P = ⊤

-- a call was refused, but not for lack of memory
abbrev pub WantsNoMemory : FileFault → Type 0
WantsNoMemory Store = ⊤
WantsNoMemory (Damage _) = ⊤
WantsNoMemory (Full _ _) = ⊤
WantsNoMemory Memory = ⊥

-- The bytes of a file have changed in at most this many blocks of 1,024 bytes each: all others are as before, and the
-- file has grown no further than to the end of the last of those.
pub record ChangesBlocks (most : ℕ) (before after : List ℕ) : Type 0 where
  pub numbers : List ℕ
  pub few : length numbers ≤ most
  pub others : (number : ℕ) → times numbers number ≡ 0 → block_of after number ≡ block_of before number
  pub longer : length before ≤ length after
  pub within : (blocks : ℕ) → ((number : ℕ) → StandsIn numbers number → number < blocks)
      → length after ≤ max (length before) (1024 * blocks)

-- A change that is made where the bytes lie, in place: however it ends, and whatever the file holds, at most twelve
-- blocks of it have changed where the store tells it, no other file has, and memory does not run out.
pub record StaysInPlace (tells : Bool) (name : List ℕ) (old new : World)
    (result : Result (Unit {0}) FileFault) : Type 0 where
  pub few : IsTrue tells → ChangesBlocks 12 (file_of old name) (file_of new name)
  pub others : KeepsOthers name old new
  pub no_memory : IfErr result WantsNoMemory
