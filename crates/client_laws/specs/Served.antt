-- What a client has of the server of this repository.
use Rattle.std.specs.Prelude.{◌≡◌, ℕ, List, ◌++◌, length, map}
use Rattle.std.specs.List.{All}
use Rattle.rquota_serve.specs.ExportedValues.{ExportedValues}
use Rattle.rquota_serve.specs.Reply.{reply_of}
use Rattle.quota_client.specs.Paths.{PathAsked, call_bytes, events_taken, path_calls, printed_of, status_by_answers}
use Rattle.quota_client.specs.Run.{AskingSeen, AsksPaths}
use Rattle.quota_client.specs.Served.{ComesFrom, HasOwnReply}
use Rattle.quota_client.specs.Words.{Asked}

-- the calls of a run, path by path
abbrev pub run_calls : Asked → (first : ℕ) → List (List ℕ)
run_calls asked first = map (call_bytes asked.client) (path_calls first asked.paths)

-- The datagrams that were taken are replies of the server to calls of this run, whichever, and whenever and however
-- often each came.
abbrev pub ComesFromRquotad : ExportedValues → Asked → (first : ℕ) → List PathAsked → Type 0
ComesFromRquotad exported asked first done =
    All (ComesFrom (reply_of exported) (run_calls asked first)) (events_taken done)

-- Where they are, each path that has a reply has the one of the server to its own call, in a datagram that was taken
-- for it, at each moment at which that datagram was a reply of the server to a call of this run.
abbrev pub HasRepliesOf : ExportedValues → Asked → (first : ℕ) → List PathAsked → Type 0
HasRepliesOf exported asked first done =
    ComesFromRquotad exported asked first done
    → All (HasOwnReply asked.client (reply_of exported) (run_calls asked first)) done

-- Each path was asked for in its order, by its own call, the output has what is printed of its reply, or of none, and
-- nothing else, the status is by the answers, and the replies are those of the server to their own calls.
pub record PrintsRepliesOf (exported : ExportedValues) (asked : Asked) (first : ℕ) (old new : AskingSeen)
    (status : ℕ) : Type 0 where
  pub done : List PathAsked
  pub all : length done ≡ length asked.paths
  pub asks : AsksPaths asked first done old.peer new.peer
  pub printed : new.out.written ≡ old.out.written ++ printed_of asked.client.mode done
  pub replies : HasRepliesOf exported asked first done
  pub ended : status ≡ status_by_answers done
