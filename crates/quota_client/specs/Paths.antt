-- Paths that are asked for, one after another.
use Rattle.std.specs.Prelude.{◌≡◌, ℕ, ◌+◌, ◌%◌, ◌^◌, if◌then◌else◌, List, ◌++◌, length, map, replicate, take, Option}
use Rattle.std.specs.List.{All, enumerate_from, flat_map, list_all}
use Rattle.network.specs.Events.{Event, PeerSeen}
use Rattle.rquota_xdr.specs.declared.reply.Reply.{Reply}
use Rattle.quota_client.specs.declared.client.Client.{Client}
use Rattle.quota_client.specs.declared.mode.Mode.{Mode}
use Rattle.quota_client.specs.Asking.{limits_call}
use Rattle.quota_client.specs.Exchange.{IsExchange}
use Rattle.quota_client.specs.Line.{is_answered, lines_of}

-- a path, and the xid with which it is asked for
pub record PathCall : Type 0 where
  pub xid : ℕ
  pub path : List ℕ

-- Path k, counted from 0, is asked for with the xid that is k above the first one, modulo 2^32.
abbrev pub path_calls : (first : ℕ) → List (List ℕ) → List PathCall
path_calls first paths =
    map (λ (entry : ℕ × List ℕ). record { xid = (first + entry.0) % 2 ^ 32; path = entry.1 }) (enumerate_from 0 paths)

-- the call for a path: the client asks for the limits of its own user
abbrev pub call_bytes : Client → PathCall → List ℕ
call_bytes client call = limits_call call.xid client.uid client.gid call.path client.uid

-- a path that was asked for: the events that were taken, how often its call was sent, and the reply, if there was one
pub record PathAsked : Type 0 where
  pub call : PathCall
  pub taken : List Event
  pub calls : ℕ
  pub reply : Option Reply

-- its exchange was the one of its xid
abbrev pub IsExchanged : PathAsked → Type 0
IsExchanged one = IsExchange one.call.xid one.taken one.calls one.reply

-- the events that were taken, path by path
abbrev pub events_taken : List PathAsked → List Event
events_taken done = flat_map (λ (one : PathAsked). one.taken) done

-- the datagrams that were sent, path by path
abbrev pub sent_for : Client → List PathAsked → List (List ℕ)
sent_for client done = flat_map (λ (one : PathAsked). replicate one.calls (call_bytes client one.call)) done

-- what is printed, path by path
abbrev pub printed_of : Mode → List PathAsked → List ℕ
printed_of mode done = flat_map (λ (one : PathAsked). lines_of mode one.call.path one.reply) done

-- 0 where each path is answered, and otherwise 1
abbrev pub status_by_answers : List PathAsked → ℕ
status_by_answers done = if list_all (λ (one : PathAsked). is_answered one.reply) done then 0 else 1

-- The first paths were asked for by these calls, one after another, each on the events that the one before left.
pub record AreAsked (client : Client) (calls : List PathCall) (done : List PathAsked)
    (old new : PeerSeen) : Type 0 where
  pub in_order : map (λ (one : PathAsked). one.call) done ≡ take (length done) calls
  pub each : All IsExchanged done
  pub left : old.left ≡ events_taken done ++ new.left
  pub sent : new.sent ≡ old.sent ++ sent_for client done
