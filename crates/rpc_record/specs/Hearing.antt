-- What comes of the bytes of a connection, piece by piece.
use Rattle.std.specs.Prelude.{◌≡◌, ℕ, List, [], ◌++◌, length, Option}
use Rattle.std.specs.Option.{option_map}
use Rattle.network.specs.Connections.{Connection, unread, with_failed_write, with_taken, with_written}
use Rattle.rpc_marks.specs.Marker.{records_at}
use Rattle.rpc_marks.specs.declared.marker.Marker.{Marker}
use Rattle.rquota_serve.specs.ExportedValues.{ExportedValues}
use Rattle.rpc_record.specs.Answers.{answers_to}
use Rattle.rpc_record.specs.declared.heard.Heard.{Heard}
use Rattle.rpc_record.specs.declared.heard.Heard.TheVariants.{GoesOn, TooLong, WriteFault}

-- a piece was taken of the open connection
pub record TakesPiece (piece : List ℕ) (old new : Option Connection) : Type 0 where
  pub taken : new ≡ option_map (with_taken (length piece)) old
  pub bytes : unread old ≡ piece ++ unread new

-- the answers that bytes are to have, by what is exported
abbrev pub Awaited : Type 0
Awaited = ExportedValues → List ℕ → List ℕ

-- those that the bytes are to have which come next to a marker, on a connection that came at a moment
abbrev pub awaited_at : (moment : ℕ) → Marker → Awaited
awaited_at moment marker exported bytes = answers_to exported moment (records_at marker bytes)

-- none
abbrev pub nothing_awaited : Awaited
nothing_awaited exported bytes = []

-- Bytes were taken, and what they are to have was written, whatever comes behind them.
pub record Answers (serves : ExportedValues → Type 0) (taken : List ℕ) (before behind : Awaited)
    (old new : Option Connection) : Type 0 where
  pub written : List ℕ
  pub current : new ≡ option_map (with_written written) old
  pub awaited : (exported : ExportedValues) → serves exported → (bytes : List ℕ)
      → before exported (taken ++ bytes) ≡ written ++ behind exported bytes

-- A prefix of what bytes are to have was written, whatever comes behind them; and the connection changed so.
pub record AnswersInPart (serves : ExportedValues → Type 0) (taken : List ℕ) (before : Awaited)
    (change : List ℕ → Connection → Connection) (old new : Option Connection) : Type 0 where
  pub written : List ℕ
  pub current : new ≡ option_map (change written) old
  pub awaited : (exported : ExportedValues) → serves exported → (bytes : List ℕ)
      → (rest : List ℕ) × (before exported (taken ++ bytes) ≡ written ++ rest)

-- what came of a piece
abbrev pub IsHeard : (serves : ExportedValues → Type 0) → (piece : List ℕ) → (before behind : Awaited)
    → (old new : Option Connection) → Heard → Type 0
IsHeard serves piece before behind old new GoesOn = Answers serves piece before behind old new
IsHeard serves piece before behind old new TooLong = Answers serves piece before nothing_awaited old new
IsHeard serves piece before behind old new WriteFault = AnswersInPart serves piece before with_failed_write old new
