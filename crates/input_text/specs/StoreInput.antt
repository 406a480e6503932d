-- One file of a store as a source.
use Rattle.std.specs.Prelude.{◌≡◌, ◌⊎◌, Bool, IsTrue, List, []}
use Rattle.std.specs.String.{string_bytes}
use Rattle.outside.specs.Behind.{IsBehind}
use Rattle.outside.specs.Count.{Rose}
use Rattle.outside.specs.Frame.{OnlyReads}
use Rattle.outside.specs.Seen.{SourceSeen, StoreSeen}
use Rattle.outside.specs.Unsynced.{AddsNone}
use Rattle.outside.specs.World.{World}
use Rattle.input_text.specs.declared.store_input.StoreInput.{StoreInput}
use Rattle.input_text.specs.InputLeft.{left_from}

module _ {S : Type 0} (seen : S → StoreSeen) where
  -- what is left is what the file of that name has from the place on, and the faults are the store's
  abbrev pub store_input_seen : StoreInput S → SourceSeen
  store_input_seen input = record {
    left = left_from ((seen input.store.now).files (string_bytes input.source.now.name)) input.source.now.at;
    faults = (seen input.store.now).faults;
  }

-- Both references stay, and the name; the store is only read, and commits nothing. No name is unsynced that was not,
-- unless the store's count of faults rose; where each call answered Ok, not even then. Of a store that tells, bytes are
-- taken from the front of what is left.
pub record KeepsInput {S : Type 0} (tells : Bool) (seen : S → StoreSeen) (commits : List World → S → S → Type 0)
    (ok : Bool) (old new : StoreInput S) : Type 0 where
  pub source : new.source.ghost_name ≡ old.source.ghost_name
  pub store : new.store.ghost_name ≡ old.store.ghost_name
  pub name : string_bytes new.source.now.name ≡ string_bytes old.source.now.name
  pub leaves : OnlyReads ok (string_bytes old.source.now.name) (seen old.store.now) (seen new.store.now)
  pub unsynced : Rose (seen old.store.now).faults (seen new.store.now).faults
      ⊎ AddsNone (seen old.store.now).unsynced (seen new.store.now).unsynced
  pub behind : IsTrue tells → IsBehind (store_input_seen seen old).left (store_input_seen seen new).left
  pub committed : commits [] old.store.now new.store.now
