-- What a run of the client does, and with which status it ends.
use Rattle.std.specs.Prelude.{◌≡◌, ◌≤◌, ◌⊎◌, ℕ, Bool, IsTrue, List, [], ◌∷◌, ◌++◌, length, map, Result, Ok, Err}
use Rattle.outside.specs.Count.{Rose}
use Rattle.outside.specs.Seen.{SinkSeen}
use Rattle.outside.specs.Text.{AppendsPrefix}
use Rattle.network.specs.Events.{PeerSeen, peer_started_at}
use Rattle.refusals.specs.Line.{error_line}
use Rattle.refusals.specs.Refusals.{refusal_of}
use Rattle.refusals.specs.Said.{AppendsUnless}
use Rattle.refusals.specs.declared.cause.Cause.{Cause}
use Rattle.refusals.specs.declared.cause.Cause.TheVariants.{LinkFault, SinkFault, Usage}
use Rattle.option_words.specs.declared.word_fault.Fault.{Fault}
use Rattle.quota_client.specs.Exchange.{Begins}
use Rattle.quota_client.specs.Line.{lines_of}
use Rattle.quota_client.specs.Paths.{AreAsked, PathAsked, PathCall, call_bytes, path_calls, printed_of}
use Rattle.quota_client.specs.Paths.{status_by_answers}
use Rattle.quota_client.specs.Served.{HaveOwnReplies}
use Rattle.quota_client.specs.Words.{Asked}

-- what is seen of the peer and of the output
pub record AskingSeen : Type 0 where
  pub peer : PeerSeen
  pub out : SinkSeen

abbrev pub asking_of : PeerSeen → (out : SinkSeen) → AskingSeen
asking_of peer out = record { peer = peer; out = out }

-- whether these tell
pub record AskingTells : Type 0 where
  pub peer : Bool
  pub out : Bool

abbrev pub asking_tells : (peer out : Bool) → AskingTells
asking_tells peer out = record { peer = peer; out = out }

-- these, and the error output
pub record ClientSeen : Type 0 where
  pub asking : AskingSeen
  pub err : SinkSeen

abbrev pub seen_of : PeerSeen → (out err : SinkSeen) → ClientSeen
seen_of peer out err = record { asking = asking_of peer out; err = err }

pub record ClientTells : Type 0 where
  pub asking : AskingTells
  pub err : Bool

abbrev pub tells_of : (peer out err : Bool) → ClientTells
tells_of peer out err = record { asking = asking_tells peer out; err = err }

-- the error output got the error line of this cause, or, where it failed, a prefix of it
abbrev pub Says : Cause → Bool → (old new : SinkSeen) → Type 0
Says cause tells old new =
    IsTrue tells → AppendsUnless (Rose old.faults new.faults) old.written new.written (error_line (refusal_of cause []))

-- The peer was started once, at the port, before anything was sent, and then the first paths were asked for, one after
-- another, each on the events that the one before left. A reply for a path is one to its own call.
pub record AsksPaths (asked : Asked) (first : ℕ) (done : List PathAsked) (old new : PeerSeen) : Type 0 where
  pub started : new.started ≡ peer_started_at old asked.client.port
  pub are_asked : AreAsked asked.client (path_calls first asked.paths) done old new
  pub own : HaveOwnReplies asked.client (path_calls first asked.paths) done

-- every path was asked for, the output has what is printed of each, and nothing else, and the status is by the answers
pub record HasAnswers (asked : Asked) (first : ℕ) (tells : AskingTells) (old new : AskingSeen)
    (status : ℕ) : Type 0 where
  pub done : List PathAsked
  pub all : length done ≡ length asked.paths
  pub asks : AsksPaths asked first done old.peer new.peer
  pub out : IsTrue tells.out → new.out.written ≡ old.out.written ++ printed_of asked.client.mode done
  pub ended : status ≡ status_by_answers done

-- the peer was not started, and nothing else was done
pub record IsUnstarted (old new : AskingSeen) : Type 0 where
  pub started : new.peer.started ≡ old.peer.started
  pub left : new.peer.left ≡ old.peer.left
  pub sent : new.peer.sent ≡ old.peer.sent
  pub out : new.out ≡ old.out

-- The paths before one were asked for, the output has what is printed of them, and nothing else, and the exchange of
-- that path was begun and is not over.
pub record StopsAsking (asked : Asked) (first : ℕ) (tells : AskingTells) (old new : AskingSeen) : Type 0 where
  pub done : List PathAsked
  pub between : PeerSeen
  pub asks : AsksPaths asked first done old.peer between
  pub call : PathCall
  pub more : List PathCall
  pub at_hand : path_calls first asked.paths ≡ map (λ (one : PathAsked). one.call) done ++ call ∷ more
  pub begins : Begins call.xid (call_bytes asked.client call) between new.peer
  pub kept : new.peer.started ≡ between.started
  pub out : IsTrue tells.out → new.out.written ≡ old.out.written ++ printed_of asked.client.mode done

-- some paths were asked for, and the output has what is printed of them up to a part of what is printed of the last one
pub record StopsPrinting (asked : Asked) (first : ℕ) (tells : AskingTells) (old new : AskingSeen) : Type 0 where
  pub printed : List PathAsked
  pub last : PathAsked
  pub asks : AsksPaths asked first (printed ++ last ∷ []) old.peer new.peer
  pub out : IsTrue tells.out → AppendsPrefix (old.out.written ++ printed_of asked.client.mode printed) new.out.written
      (lines_of asked.client.mode last.call.path last.reply)

-- ---- the four ends of a run

-- The words are outside the grammar: nothing was done, and the error line names the first fault.
pub record IsRefused (fault : Fault) (tells : ClientTells) (old new : ClientSeen) (status : ℕ) : Type 0 where
  pub ended : status ≡ 2
  pub asking : new.asking ≡ old.asking
  pub err : Says (Usage fault.kind fault.word) tells.err old.err new.err

-- Nothing failed, whatever the peer tells: its count of faults stayed, and the error output got nothing.
pub record IsDone (asked : Asked) (first : ℕ) (tells : ClientTells) (old new : ClientSeen) (status : ℕ) : Type 0 where
  pub ended : status ≤ 1
  pub steady : new.asking.peer.faults ≡ old.asking.peer.faults
  pub err : new.err ≡ old.err
  pub answers : IsTrue tells.asking.peer → HasAnswers asked first tells.asking old.asking new.asking status

-- The peer failed.
pub record PeerFails (asked : Asked) (first : ℕ) (tells : ClientTells) (old new : ClientSeen)
    (status : ℕ) : Type 0 where
  pub ended : status ≡ 4
  pub failed : Rose old.asking.peer.faults new.asking.peer.faults
  pub err : Says LinkFault tells.err old.err new.err
  pub stops : IsTrue tells.asking.peer
      → IsUnstarted old.asking new.asking ⊎ StopsAsking asked first tells.asking old.asking new.asking

-- The output failed, and the peer did not.
pub record OutFails (asked : Asked) (first : ℕ) (tells : ClientTells) (old new : ClientSeen) (status : ℕ) : Type 0 where
  pub ended : status ≡ 4
  pub failed : Rose old.asking.out.faults new.asking.out.faults
  pub steady : new.asking.peer.faults ≡ old.asking.peer.faults
  pub err : Says SinkFault tells.err old.err new.err
  pub stops : IsTrue tells.asking.peer → StopsPrinting asked first tells.asking old.asking new.asking

-- The run of words: what is asked for is carried out, or the first fault in the words is refused.
abbrev pub Runs : Result Asked Fault → (first : ℕ) → ClientTells → (old new : ClientSeen) → (status : ℕ) → Type 0
Runs (Err fault) first tells old new status = IsRefused fault tells old new status
Runs (Ok asked) first tells old new status =
    IsDone asked first tells old new status
    ⊎ (PeerFails asked first tells old new status ⊎ OutFails asked first tells old new status)

-- no count of faults has fallen
pub record IsLater (old new : ClientSeen) : Type 0 where
  pub peer : old.asking.peer.faults ≤ new.asking.peer.faults
  pub out : old.asking.out.faults ≤ new.asking.out.faults
  pub err : old.err.faults ≤ new.err.faults
