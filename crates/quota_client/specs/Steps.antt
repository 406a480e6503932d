-- What is done for one path, and for one path after another.
use Rattle.std.specs.Prelude.{◌≡◌, ◌≤◌, ◌⊎◌, ℕ, Bool, IsTrue, List, ◌++◌, length, replicate}
use Rattle.std.specs.List.{list_all}
use Rattle.outside.specs.Count.{Rose}
use Rattle.outside.specs.Text.{AppendsPrefix}
use Rattle.network.specs.Events.{PeerSeen}
use Rattle.quota_client.specs.declared.client.Client.{Client}
use Rattle.quota_client.specs.declared.fault.ClientFault.{ClientFault}
use Rattle.quota_client.specs.declared.fault.ClientFault.TheVariants.{Asking, Printing}
use Rattle.quota_client.specs.Exchange.{Begins}
use Rattle.quota_client.specs.Line.{is_answered, lines_of}
use Rattle.quota_client.specs.Paths.{IsExchanged, PathAsked, PathCall, call_bytes, printed_of}
use Rattle.quota_client.specs.Run.{AskingSeen, AskingTells, AsksPaths, IsUnstarted, StopsAsking, StopsPrinting}
use Rattle.quota_client.specs.Words.{Asked}

-- a path was asked for
pub record AsksPath (client : Client) (call : PathCall) (one : PathAsked) (old new : PeerSeen) : Type 0 where
  pub is : one.call ≡ call
  pub exchanged : IsExchanged one
  pub left : old.left ≡ one.taken ++ new.left
  pub sent : new.sent ≡ old.sent ++ replicate one.calls (call_bytes client call)

-- a path was asked for, and what is printed of it was written
pub record PrintsPath (client : Client) (call : PathCall) (tells : AskingTells) (old new : AskingSeen)
    (answered : Bool) : Type 0 where
  pub one : PathAsked
  pub asks : AsksPath client call one old.peer new.peer
  pub out : IsTrue tells.out → new.out.written ≡ old.out.written ++ lines_of client.mode call.path one.reply
  pub is_answered : answered ≡ is_answered one.reply

-- a path was asked for, and a part of what is printed of it was written
pub record PrintsPathInPart (client : Client) (call : PathCall) (tells : AskingTells)
    (old new : AskingSeen) : Type 0 where
  pub one : PathAsked
  pub asks : AsksPath client call one old.peer new.peer
  pub out : IsTrue tells.out → AppendsPrefix old.out.written new.out.written (lines_of client.mode call.path one.reply)

-- the exchange of a path was begun, and is not over
pub record BeginsPath (client : Client) (call : PathCall) (tells : AskingTells) (old new : AskingSeen) : Type 0 where
  pub failed : Rose old.peer.faults new.peer.faults
  pub begins : IsTrue tells.peer → Begins call.xid (call_bytes client call) old.peer new.peer
  pub out : new.out ≡ old.out

-- the output failed behind the exchange of a path, in which the peer did not fail
pub record FailsPath (client : Client) (call : PathCall) (tells : AskingTells) (old new : AskingSeen) : Type 0 where
  pub failed : Rose old.out.faults new.out.faults
  pub steady : new.peer.faults ≡ old.peer.faults
  pub prints : IsTrue tells.peer → PrintsPathInPart client call tells old new

-- why a path was not asked for and printed
abbrev pub StopsAtPath : Client → PathCall → AskingTells → (old new : AskingSeen) → ClientFault → Type 0
StopsAtPath client call tells old new Asking = BeginsPath client call tells old new
StopsAtPath client call tells old new Printing = FailsPath client call tells old new

-- this many paths, the first ones, were asked for and printed
pub record PrintsFirst (asked : Asked) (first : ℕ) (tells : AskingTells) (old new : AskingSeen) (count : ℕ)
    (answered : Bool) : Type 0 where
  pub done : List PathAsked
  pub number : length done ≡ count
  pub asks : AsksPaths asked first done old.peer new.peer
  pub out : IsTrue tells.out → new.out.written ≡ old.out.written ++ printed_of asked.client.mode done
  pub is_answered : answered ≡ list_all (λ (one : PathAsked). is_answered one.reply) done

-- the peer failed
pub record PeerStops (asked : Asked) (first : ℕ) (tells : AskingTells) (old new : AskingSeen) : Type 0 where
  pub failed : Rose old.peer.faults new.peer.faults
  pub stops : IsTrue tells.peer → IsUnstarted old new ⊎ StopsAsking asked first tells old new

-- the output failed, and the peer did not
pub record OutStops (asked : Asked) (first : ℕ) (tells : AskingTells) (old new : AskingSeen) : Type 0 where
  pub failed : Rose old.out.faults new.out.faults
  pub steady : new.peer.faults ≡ old.peer.faults
  pub stops : IsTrue tells.peer → StopsPrinting asked first tells old new

-- why not all paths were asked for and printed
abbrev pub StopsAtPaths : Asked → (first : ℕ) → AskingTells → (old new : AskingSeen) → ClientFault → Type 0
StopsAtPaths asked first tells old new Asking = PeerStops asked first tells old new
StopsAtPaths asked first tells old new Printing = OutStops asked first tells old new

-- neither count of faults has fallen
pub record AreLater (old new : AskingSeen) : Type 0 where
  pub peer : old.peer.faults ≤ new.peer.faults
  pub out : old.out.faults ≤ new.out.faults
