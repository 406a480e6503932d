-- What is seen of the objects outside of the program, as far as they tell it.
use Rattle.std.specs.Prelude.{ℕ, List, Option, Some}
use Rattle.outside.specs.Count.{counted}
use Rattle.outside.specs.Unsynced.{UnsyncedNames}
use Rattle.outside.specs.World.{World}

-- A store: its files by the bytes of their names, the names that are unsynced, how many of its calls have failed, and
-- how many calls of `read` and of `write` there were. Each count stands still at the last value of 64 bits.
pub record StoreSeen : Type 0 where
  pub files : World
  pub unsynced : UnsyncedNames
  pub faults : ℕ
  pub reads : ℕ
  pub writes : ℕ

-- A sink: the bytes that were written to it, and how many of its calls have failed.
pub record SinkSeen : Type 0 where
  pub written : List ℕ
  pub faults : ℕ

-- A source: the bytes that are left in it, and how many of its calls have failed.
pub record SourceSeen : Type 0 where
  pub left : List ℕ
  pub faults : ℕ

-- a datagram and the moment at which it comes, in seconds since 1970
pub record Datagram : Type 0 where
  pub bytes : List ℕ
  pub moment : ℕ

-- a start of a link: the port that was asked for, and the datagrams that were left then
pub record Start : Type 0 where
  pub port : ℕ
  pub left : List Datagram

-- How a link was started: how often, up to the last value of a counter of 64 bits, and how the last time, if ever it
-- was.
pub record Started : Type 0 where
  pub times : ℕ
  pub last : Option Start

-- a link is started once more, at this port, when these datagrams are left
abbrev pub started_at : Started → (port : ℕ) → List Datagram → Started
started_at before port left = record { times = counted before.times; last = Some (record { port = port; left = left }) }

-- A link: the datagrams that are left, the answers that were sent, how it was started, and how many of its calls have
-- failed.
pub record LinkSeen : Type 0 where
  pub left : List Datagram
  pub answers : List (List ℕ)
  pub started : Started
  pub faults : ℕ
