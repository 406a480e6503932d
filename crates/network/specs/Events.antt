-- What is seen of a peer that is asked by datagrams, as far as it is told.
use Rattle.std.specs.Prelude.{◌≡◌, ◌≤◌, ℕ, List, ◌∷◌, length, min, take, Option, None, Some}
use Rattle.outside.specs.Count.{counted}

-- what comes next: a datagram, or a quiet, in which no datagram comes
abbrev pub Event : Type 0
Event = Option (List ℕ)

-- a start of a peer: the port that was asked for, how many datagrams had been sent, and the events that were left then
pub record PeerStart : Type 0 where
  pub port : ℕ
  pub sent : ℕ
  pub left : List Event

-- How a peer was started: how often, up to the last value of a counter of 64 bits, and how the last time, if ever it
-- was.
pub record PeerStarted : Type 0 where
  pub times : ℕ
  pub last : Option PeerStart

-- A peer: the events that are left, the datagrams that were sent, how it was started, and how many of its calls have
-- failed.
pub record PeerSeen : Type 0 where
  pub left : List Event
  pub sent : List (List ℕ)
  pub started : PeerStarted
  pub faults : ℕ

-- how a peer was started, once it was started at this port
abbrev pub peer_started_at : PeerSeen → (port : ℕ) → PeerStarted
peer_started_at seen port = record {
  times = counted seen.started.times;
  last = Some (record { port = port; sent = length seen.sent; left = seen.left });
}

-- the first event is a datagram, and so many of its bytes, the first 4,096, stand at the front of the buffer
pub record TakesDatagram (len : ℕ) (buf : List ℕ) (old new : List Event) : Type 0 where
  pub datagram : List ℕ
  pub first : old ≡ Some datagram ∷ new
  pub bytes : take len buf ≡ take 4096 datagram
  pub count : len ≡ min 4096 (length datagram)

-- the first event was taken: a quiet gives nothing, and a datagram its first 4,096 bytes
abbrev pub TakesEvent : Option ℕ → (buf : List ℕ) → (old new : List Event) → Type 0
TakesEvent None buf old new = old ≡ None ∷ new
TakesEvent (Some len) buf old new = TakesDatagram len buf old new

-- What sending and receiving leave: how the peer was started; and the count of faults does not fall.
pub record KeepsStart (old new : PeerSeen) : Type 0 where
  pub started : new.started ≡ old.started
  pub later : old.faults ≤ new.faults
