-- Connections that are served one after another.
use Rattle.std.specs.Prelude.{◌≡◌, ℕ, ◌*◌, ◌<◌, ◌≤◌, false, IsTrue, IfSome, List, ◌++◌, length, map, take, Option, Some}
use Rattle.std.specs.List.{All}
use Rattle.std.specs.Option.{option_to_list}
use Rattle.network.specs.Connections.{Arrival, Connection, ConnsSeen}
use Rattle.quota_map.specs.AnyFile.{any_get_reads}
use Rattle.rquota_serve.specs.ExportedValues.{ExportedValues}
use Rattle.rpc_record.specs.Answers.{answers_of}

-- how a connection came
abbrev pub arrival_of : Connection → Arrival
arrival_of connection = record { moment = connection.moment; bytes = connection.bytes }

-- bytes begin others
abbrev pub Begins : (front bytes : List ℕ) → Type 0
Begins front bytes = (rest : List ℕ) × (bytes ≡ front ++ rest)

-- What was written on a connection that was served: the answers of its bytes where nothing failed on it, those of the
-- bytes that were taken where a read failed, and a prefix of the answers where a write did.
pub record IsAnswered (exported : ExportedValues) (connection : Connection) : Type 0 where
  pub whole : connection.read_failed ≡ false → connection.write_failed ≡ false
      → connection.written ≡ answers_of exported connection.bytes connection.moment
  pub unread : IsTrue connection.read_failed
      → connection.written ≡ answers_of exported (take connection.taken connection.bytes) connection.moment
  pub unwritten : IsTrue connection.write_failed
      → Begins connection.written (answers_of exported connection.bytes connection.moment)

-- what was written on one that is served is a prefix of the answers of its bytes
abbrev pub IsAnsweredInPart : ExportedValues → Connection → Type 0
IsAnsweredInPart exported connection =
    Begins connection.written (answers_of exported connection.bytes connection.moment)

-- no more bytes of a connection were taken than 16,777,216
abbrev pub TakesFew : Connection → Type 0
TakesFew connection = connection.taken ≤ 16777216

-- the connection that came so was served
pub record IsServed (serves : ExportedValues → Type 0) (arrival : Arrival) (current : Option Connection) : Type 0 where
  pub connection : Connection
  pub is : current ≡ Some connection
  pub came : arrival_of connection ≡ arrival
  pub few : TakesFew connection
  pub answered : (exported : ExportedValues) → serves exported → IsAnswered exported connection

-- the connection that came so was served in part
pub record IsBegun (serves : ExportedValues → Type 0) (arrival : Arrival) (current : Option Connection) : Type 0 where
  pub connection : Connection
  pub is : current ≡ Some connection
  pub came : arrival_of connection ≡ arrival
  pub few : TakesFew connection
  pub answered : (exported : ExportedValues) → serves exported → IsAnsweredInPart exported connection

-- how many calls of `read` the answers of a connection take at most: each of its bytes may end a record
abbrev pub connection_reads : ℕ
connection_reads = any_get_reads * 16777216

-- This many connections, the first ones, were accepted, served and closed, one after another.
pub record ServesConns (serves : ExportedValues → Type 0) (count : ℕ) (old new : ConnsSeen) : Type 0 where
  pub served : List Connection
  pub number : length served ≡ count
  pub taken : All TakesFew served
  pub arrived : old.left ≡ map arrival_of served ++ new.left
  pub closed : new.closed ≡ old.closed ++ served
  pub answered : (exported : ExportedValues) → serves exported → All (IsAnswered exported) served

-- Fewer connections, the first ones, were accepted, served and closed. Where one is open behind them, it is the next
-- one, and was served in part.
pub record StopsServing (serves : ExportedValues → Type 0) (count : ℕ) (old new : ConnsSeen) : Type 0 where
  pub served : List Connection
  pub few : length served < count
  pub taken : All TakesFew served
  pub at_hand : IfSome new.current TakesFew
  pub arrived : old.left ≡ map arrival_of served ++ (map arrival_of (option_to_list new.current) ++ new.left)
  pub closed : new.closed ≡ old.closed ++ served
  pub answered : (exported : ExportedValues) → serves exported → All (IsAnswered exported) served
  pub begun : (exported : ExportedValues) → serves exported → IfSome new.current (IsAnsweredInPart exported)
