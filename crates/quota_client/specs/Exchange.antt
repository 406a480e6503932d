-- How a client asks a server by datagrams, any of which may be lost, late, doubled or somebody else's. Sources: RFC
-- 5531, section 9, for the xid; how often a call is sent, and how long a reply is waited for, is this project's own.
use Rattle.std.specs.Prelude.{◌≡◌, ℕ, ◌+◌, ◌<◌, ◌⊎◌, List, [], ◌∷◌, ◌++◌, length, replicate, take, Option, None, Some}
use Rattle.std.specs.List.{All, flat_map}
use Rattle.network.specs.Events.{Event, PeerSeen}
use Rattle.rquota_xdr.specs.Reply.{FitsUnits, reply_xid, spelling_of}
use Rattle.rquota_xdr.specs.declared.reply.Reply.{Reply}

-- bytes spell a reply that has this xid
pub record IsReplyTo (xid : ℕ) (bytes : List ℕ) (reply : Reply) : Type 0 where
  pub spelled : bytes ≡ spelling_of reply
  pub fits : FitsUnits reply
  pub own : reply_xid reply ≡ xid

-- an event is a datagram whose first 4,096 bytes are a reply with this xid
abbrev pub Answers : ℕ → Event → Reply → Type 0
Answers xid None reply = ⊥
Answers xid (Some datagram) reply = IsReplyTo xid (take 4096 datagram) reply

-- an event is another datagram
abbrev pub IsOther : ℕ → Event → Type 0
IsOther xid None = ⊥
IsOther xid (Some datagram) = (reply : Reply) → ¬ IsReplyTo xid (take 4096 datagram) reply

-- Behind these other datagrams, fewer than 64, one more event was taken, of which this holds.
pub record EndsBy (holds : Event → Type 0) (others taken : List Event) : Type 0 where
  pub few : length others < 64
  pub last : Event
  pub is : holds last
  pub all : taken ≡ others ++ last ∷ []

-- An attempt ends with the first reply. Without one it ends with the first quiet, or with the 64th other datagram.
abbrev pub EndsAttempt : ℕ → (others taken : List Event) → Option Reply → Type 0
EndsAttempt xid others taken (Some reply) = EndsBy (λ event. Answers xid event reply) others taken
EndsAttempt xid others taken None =
    EndsBy (λ event. event ≡ None) others taken ⊎ ((length others ≡ 64) × (taken ≡ others))

-- the events that an attempt takes behind its call, in which it passes other datagrams over, and its reply, if there is
-- one
pub record IsAttempt (xid : ℕ) (taken : List Event) (reply : Option Reply) : Type 0 where
  pub others : List Event
  pub each : All (IsOther xid) others
  pub ends : EndsAttempt xid others taken reply

-- the events of attempts, one after another
abbrev pub events_joined : List (List Event) → List Event
events_joined attempts = flat_map (λ attempt. attempt) attempts

-- attempts without an answer, each with the events that it took
abbrev pub AreUnanswered : ℕ → List (List Event) → Type 0
AreUnanswered xid attempts = All (λ attempt. IsAttempt xid attempt None) attempts

-- behind fewer than three attempts without an answer one had this reply
pub record EndsAnswered (xid : ℕ) (unanswered : List (List Event)) (taken : List Event) (calls : ℕ)
    (reply : Reply) : Type 0 where
  pub few : length unanswered < 3
  pub last : List Event
  pub attempt : IsAttempt xid last (Some reply)
  pub all : taken ≡ events_joined unanswered ++ last
  pub calls_sent : calls ≡ length unanswered + 1

-- three attempts had no answer
pub record EndsUnanswered (unanswered : List (List Event)) (taken : List Event) (calls : ℕ) : Type 0 where
  pub three : length unanswered ≡ 3
  pub all : taken ≡ events_joined unanswered
  pub calls_sent : calls ≡ 3

-- an exchange ends with the first answer, or with the third attempt
abbrev pub EndsExchange : ℕ → (unanswered : List (List Event)) → (taken : List Event) → (calls : ℕ)
    → Option Reply → Type 0
EndsExchange xid unanswered taken calls (Some reply) = EndsAnswered xid unanswered taken calls reply
EndsExchange xid unanswered taken calls None = EndsUnanswered unanswered taken calls

-- The exchange: the events that it takes, how many calls it sends, one for each attempt, and its reply, if there is
-- one.
pub record IsExchange (xid : ℕ) (taken : List Event) (calls : ℕ) (reply : Option Reply) : Type 0 where
  pub unanswered : List (List Event)
  pub each : AreUnanswered xid unanswered
  pub ends : EndsExchange xid unanswered taken calls reply

-- An exchange that was begun and is not over: behind fewer than three attempts without an answer nothing more was done,
-- or one more call was sent and fewer than 64 other datagrams were taken.
pub record IsBegun (xid : ℕ) (taken : List Event) (calls : ℕ) : Type 0 where
  pub unanswered : List (List Event)
  pub each : AreUnanswered xid unanswered
  pub few : length unanswered < 3
  pub others : List Event
  pub other : All (IsOther xid) others
  pub few_others : length others < 64
  pub all : taken ≡ events_joined unanswered ++ others
  pub calls_sent : (calls ≡ length unanswered + 1) ⊎ ((calls ≡ length unanswered) × (others ≡ []))

-- This many events were taken, and the call was sent so often.
pub record Takes (call : List ℕ) (taken : List Event) (calls : ℕ) (old new : PeerSeen) : Type 0 where
  pub left : old.left ≡ taken ++ new.left
  pub sent : new.sent ≡ old.sent ++ replicate calls call

-- the call was exchanged for this reply, or for none
pub record Exchanges (xid : ℕ) (call : List ℕ) (old new : PeerSeen) (reply : Option Reply) : Type 0 where
  pub taken : List Event
  pub calls : ℕ
  pub takes : Takes call taken calls old new
  pub exchange : IsExchange xid taken calls reply

-- the exchange of the call was begun, and is not over
pub record Begins (xid : ℕ) (call : List ℕ) (old new : PeerSeen) : Type 0 where
  pub taken : List Event
  pub calls : ℕ
  pub takes : Takes call taken calls old new
  pub begun : IsBegun xid taken calls
