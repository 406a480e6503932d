-- What is seen of connections that others make, as far as it is told.
use Rattle.std.specs.Prelude.{◌≡◌, ◌≤◌, ℕ, ◌+◌, Bool, false, true, List, [], ◌∷◌, ◌++◌, drop, Option, None, Some}
use Rattle.std.specs.Option.{option_map, option_to_list}
use Rattle.outside.specs.Count.{counted}

-- a connection that comes: the moment at which it does, in seconds since 1970, and the bytes that its other side sends
pub record Arrival : Type 0 where
  pub moment : ℕ
  pub bytes : List ℕ

-- A connection that was accepted: its moment and its bytes, how many of them were taken, what was written on it, and
-- whether a read on it failed, and a write.
pub record Connection : Type 0 where
  pub moment : ℕ
  pub bytes : List ℕ
  pub taken : ℕ
  pub written : List ℕ
  pub read_failed : Bool
  pub write_failed : Bool

-- a beginning to listen: the port that was asked for, and the connections that were left then
pub record Listen : Type 0 where
  pub port : ℕ
  pub left : List Arrival

-- How it listened: how often it began to, up to the last value of a counter of 64 bits, and how the last time, if ever
-- it did.
pub record Listened : Type 0 where
  pub times : ℕ
  pub last : Option Listen

-- Connections: those that are left, the open one where one is, those that were closed, in the order in which they were,
-- how it listened, how many calls of `listen` and `accept` have failed, and how many of `read` and `write`.
pub record ConnsSeen : Type 0 where
  pub left : List Arrival
  pub current : Option Connection
  pub closed : List Connection
  pub listened : Listened
  pub listener_faults : ℕ
  pub connection_faults : ℕ

-- how it listened, once it began to listen at this port
abbrev pub listened_at : ConnsSeen → (port : ℕ) → Listened
listened_at seen port =
    record { times = counted seen.listened.times; last = Some (record { port = port; left = seen.left }) }

-- a connection as it is accepted: nothing was read or written, and nothing failed
abbrev pub accepted : Arrival → Connection
accepted arrival = record {
  moment = arrival.moment;
  bytes = arrival.bytes;
  taken = 0;
  written = [];
  read_failed = false;
  write_failed = false;
}

-- the bytes of the open connection that were not taken yet
abbrev pub unread : Option Connection → List ℕ
unread None = []
unread (Some connection) = drop connection.taken connection.bytes

-- a connection of which so many more bytes were taken
abbrev pub with_taken : (count : ℕ) → Connection → Connection
with_taken count connection = record connection { taken = connection.taken + count }

-- a connection on which a read failed
abbrev pub with_failed_read : Connection → Connection
with_failed_read connection = record connection { read_failed = true }

-- a connection on which these bytes were written too
abbrev pub with_written : (bytes : List ℕ) → Connection → Connection
with_written bytes connection = record connection { written = connection.written ++ bytes }

-- a connection on which a write failed that had written these bytes
abbrev pub with_failed_write : (bytes : List ℕ) → Connection → Connection
with_failed_write bytes connection = record (with_written bytes connection) { write_failed = true }

-- the first of those left is the open one now, and this is its moment
pub record AcceptsNext (moment : ℕ) (old new : ConnsSeen) : Type 0 where
  pub arrival : Arrival
  pub next : old.left ≡ arrival ∷ new.left
  pub current : new.current ≡ Some (accepted arrival)
  pub arrived : moment ≡ arrival.moment

-- a write on the open connection failed, and a prefix of the bytes was written
pub record FailsToWrite (bytes : List ℕ) (old new : Option Connection) : Type 0 where
  pub done : List ℕ
  pub rest : List ℕ
  pub prefix : done ++ rest ≡ bytes
  pub current : new ≡ option_map (with_failed_write done) old

-- the open one is the last of the closed ones now; where none was open these are as before
pub record ClosesCurrent (old new : ConnsSeen) : Type 0 where
  pub current : new.current ≡ None
  pub closed : new.closed ≡ old.closed ++ option_to_list old.current

-- What a beginning to listen leaves: each connection, and the count of faults of those; its own count does not fall.
pub record KeepsConnections (old new : ConnsSeen) : Type 0 where
  pub left : new.left ≡ old.left
  pub current : new.current ≡ old.current
  pub closed : new.closed ≡ old.closed
  pub connection_faults : new.connection_faults ≡ old.connection_faults
  pub later : old.listener_faults ≤ new.listener_faults

-- What calls on the open connection leave: all others, how it listened, and the count of faults of `listen` and
-- `accept`; their own count does not fall.
pub record ChangesCurrent (old new : ConnsSeen) : Type 0 where
  pub left : new.left ≡ old.left
  pub closed : new.closed ≡ old.closed
  pub listened : new.listened ≡ old.listened
  pub listener_faults : new.listener_faults ≡ old.listener_faults
  pub later : old.connection_faults ≤ new.connection_faults

-- What all calls but `listen` leave: how it listened; and neither count of faults falls.
pub record KeepsListening (old new : ConnsSeen) : Type 0 where
  pub listened : new.listened ≡ old.listened
  pub listener_later : old.listener_faults ≤ new.listener_faults
  pub connection_later : old.connection_faults ≤ new.connection_faults
