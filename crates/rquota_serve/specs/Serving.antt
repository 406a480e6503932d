-- Datagrams that are taken from a link, and the answers to them.
use Rattle.std.specs.Prelude.{◌≡◌, ℕ, ◌<◌, List, ◌++◌, length, map, take, filter_map, Option, IfSome}
use Rattle.std.specs.Option.{option_to_list}
use Rattle.outside.specs.Seen.{Datagram, LinkSeen}
use Rattle.rquota_xdr.specs.Call.{call_of}
use Rattle.rquota_xdr.specs.Reply.{spelling_of}
use Rattle.rquota_xdr.specs.declared.call.Call.TheVariants.{Silent}
use Rattle.rquota_xdr.specs.declared.reply.Reply.{Reply}
use Rattle.rquota_serve.specs.ExportedValues.{ExportedValues}
use Rattle.rquota_serve.specs.Reply.{reply_of}

-- what is read of a datagram: its first 4,096 bytes
abbrev pub read_of : Datagram → List ℕ
read_of datagram = take 4096 datagram.bytes

-- the reply to a datagram at its own moment, or none
abbrev pub datagram_reply : ExportedValues → Datagram → Option Reply
datagram_reply exported datagram = reply_of exported (read_of datagram) datagram.moment

-- the answers to datagrams, in their order: the spelling of each reply, and nothing where there is none
unfoldable pub answers_of : ExportedValues → List Datagram → List (List ℕ)
answers_of exported datagrams = map spelling_of (filter_map (datagram_reply exported) datagrams)

-- a datagram is one that is replied to, whatever is exported
abbrev pub HasReply : Datagram → Type 0
HasReply datagram = ¬ (call_of (read_of datagram) ≡ Silent)

-- Serving ended before its time: fewer datagrams were handled than were asked for, and the answers to them were sent,
-- and no others. At most one more was taken; it is one that is replied to, and its reply was not sent.
pub record Stopped (serves : ExportedValues → Type 0) (calls : ℕ) (old new : LinkSeen) : Type 0 where
  pub done : List Datagram
  pub at_hand : Option Datagram
  pub left : old.left ≡ done ++ (option_to_list at_hand ++ new.left)
  pub few : length done < calls
  pub answers : (exported : ExportedValues) → serves exported → new.answers ≡ old.answers ++ answers_of exported done
  pub unsent : IfSome at_hand HasReply
