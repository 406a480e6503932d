-- What is received of an exchange, event by event and attempt by attempt.
use Rattle.std.specs.Prelude.{◌≡◌, ℕ, ⊤, ◌<◌, List, ◌∷◌, ◌++◌, length, Option, None}
use Rattle.std.specs.List.{All}
use Rattle.network.specs.Events.{Event, PeerSeen}
use Rattle.rquota_xdr.specs.Reply.{reply_xid}
use Rattle.rquota_xdr.specs.declared.reply.Reply.{Reply}
use Rattle.quota_client.specs.declared.exchange.Received.{Received}
use Rattle.quota_client.specs.declared.exchange.Received.TheVariants.{Quiet, Other, Answer}
use Rattle.quota_client.specs.Exchange.{Answers, AreUnanswered, IsAttempt, IsOther, IsReplyTo, Takes, events_joined}

-- what an event is for a call with this xid
abbrev pub IsReceived : ℕ → Event → Received → Type 0
IsReceived xid event Quiet = event ≡ None
IsReceived xid event Other = IsOther xid event
IsReceived xid event (Answer reply) = Answers xid event reply

-- what a datagram is, by those of its bytes that are read
abbrev pub IsRead : ℕ → List ℕ → Received → Type 0
IsRead xid bytes Quiet = ⊥
IsRead xid bytes Other = (reply : Reply) → ¬ IsReplyTo xid bytes reply
IsRead xid bytes (Answer reply) = IsReplyTo xid bytes reply

-- a reply that was received has this xid
abbrev pub HasXid : ℕ → Received → Type 0
HasXid xid (Answer reply) = reply_xid reply ≡ xid
HasXid xid _ = ⊤

-- an event was received
pub record Receives (xid : ℕ) (old new : PeerSeen) (received : Received) : Type 0 where
  pub event : Event
  pub left : old.left ≡ event ∷ new.left
  pub is : IsReceived xid event received

-- nothing but this many other datagrams was received
pub record PassesOver (xid count : ℕ) (old new : PeerSeen) : Type 0 where
  pub others : List Event
  pub each : All (IsOther xid) others
  pub number : length others ≡ count
  pub left : old.left ≡ others ++ new.left
  pub sent : new.sent ≡ old.sent

-- the same, of fewer than 64
pub record StopsBehind (xid : ℕ) (old new : PeerSeen) : Type 0 where
  pub count : ℕ
  pub few : count < 64
  pub passes : PassesOver xid count old new

-- what an attempt takes was received
pub record Attempts (xid : ℕ) (old new : PeerSeen) (reply : Option Reply) : Type 0 where
  pub taken : List Event
  pub attempt : IsAttempt xid taken reply
  pub left : old.left ≡ taken ++ new.left
  pub sent : new.sent ≡ old.sent

-- this many attempts had no answer
pub record HasNoAnswer (xid count : ℕ) (call : List ℕ) (old new : PeerSeen) : Type 0 where
  pub attempts : List (List Event)
  pub each : AreUnanswered xid attempts
  pub number : length attempts ≡ count
  pub takes : Takes call (events_joined attempts) count old new
