-- Whose reply a datagram is. The server may be any that gives a reply the xid of its call (RFC 5531, section 9).
use Rattle.std.specs.Prelude.{◌≡◌, ℕ, ◌<◌, ◌^◌, ⊤, IfSome, List, map, Option, None, Some}
use Rattle.std.specs.List.{All, Contains}
use Rattle.network.specs.Events.{Event}
use Rattle.rquota_xdr.specs.Fields.{xid_of}
use Rattle.rquota_xdr.specs.Reply.{FitsUnits, reply_xid, spelling_of}
use Rattle.rquota_xdr.specs.declared.reply.Reply.{Reply}
use Rattle.quota_client.specs.declared.client.Client.{Client}
use Rattle.quota_client.specs.Paths.{PathAsked, PathCall, call_bytes, events_taken}

-- a server: its reply to a call at a moment, or none
abbrev pub Server : Type 0
Server = (call : List ℕ) → (moment : ℕ) → Option Reply

-- It gives each reply the xid of its call, and where that is a number of 32 bits each unit of the reply is.
pub record KeepsXid (server : Server) : Type 0 where
  pub xid : (call : List ℕ) (moment : ℕ) (reply : Reply) → server call moment ≡ Some reply
      → reply_xid reply ≡ xid_of call
  pub fits : (call : List ℕ) (moment : ℕ) (reply : Reply) → xid_of call < 2 ^ 32 → server call moment ≡ Some reply
      → FitsUnits reply

-- a datagram spells what the server replied to a call at some moment
pub record IsReplyOf (server : Server) (call datagram : List ℕ) (reply : Reply) : Type 0 where
  pub moment : ℕ
  pub replied : server call moment ≡ Some reply
  pub spelled : datagram ≡ spelling_of reply

-- An event that is a datagram is the server's reply to one of these calls, whichever it is, and whenever and however
-- often it comes.
abbrev pub ComesFrom : Server → (calls : List (List ℕ)) → Event → Type 0
ComesFrom server calls None = ⊤
ComesFrom server calls (Some datagram) =
    (call : List ℕ) × (reply : Reply) × Contains calls call × IsReplyOf server call datagram reply

-- A datagram spells the server's reply to a call. Whichever of these calls it came from, at whichever moment, it was
-- that call, and the server replied this.
pub record IsOwnReply (server : Server) (calls : List (List ℕ)) (own datagram : List ℕ) (reply : Reply) : Type 0 where
  pub is : IsReplyOf server own datagram reply
  pub only : (call : List ℕ) (other : Reply) → Contains calls call → IsReplyOf server call datagram other
      → (call ≡ own) × (other ≡ reply)

-- the reply for a path is one to its own call, and the datagram that spells it is one of those that were taken for it
abbrev pub HasOwnReply : Client → Server → (calls : List (List ℕ)) → PathAsked → Type 0
HasOwnReply client server calls one =
    IfSome one.reply (λ reply. (datagram : List ℕ) × Contains one.taken (Some datagram)
    × IsOwnReply server calls (call_bytes client one.call) datagram reply)

-- Where all datagrams that were taken are replies to calls of the run, each path that has a reply has its own.
abbrev pub HaveOwnReplies : Client → (calls : List PathCall) → (done : List PathAsked) → Type 0
HaveOwnReplies client calls done = (server : Server) → KeepsXid server
    → All (ComesFrom server (map (call_bytes client) calls)) (events_taken done)
    → All (HasOwnReply client server (map (call_bytes client) calls)) done
