-- The answers to the records of a stream. Source: RFC 5531, section 11, for the head of a record.
use Rattle.std.specs.Prelude.{ℕ, ◌+◌, ◌^◌, List, [], ◌++◌, length, Option, None, Some}
use Rattle.std.specs.Int.{w32, to_be_bytes}
use Rattle.std.specs.List.{flat_map}
use Rattle.rpc_marks.specs.Records.{records_of}
use Rattle.rquota_xdr.specs.Reply.{spelling_of}
use Rattle.rquota_xdr.specs.declared.reply.Reply.{Reply}
use Rattle.rquota_serve.specs.ExportedValues.{ExportedValues}
use Rattle.rquota_serve.specs.Reply.{reply_of}

-- bytes as a record of one fragment: a head with its top bit and their length, and then the bytes
abbrev pub marked : List ℕ → List ℕ
marked bytes = to_be_bytes w32 (2 ^ 31 + length bytes) ++ bytes

-- what is written of a reply; nothing where there is none
abbrev pub reply_bytes : Option Reply → List ℕ
reply_bytes None = []
reply_bytes (Some reply) = marked (spelling_of reply)

-- the answers to calls that came at a moment, joined
abbrev pub answers_to : ExportedValues → (moment : ℕ) → (calls : List (List ℕ)) → List ℕ
answers_to exported moment calls = flat_map (λ (call : List ℕ). reply_bytes (reply_of exported call moment)) calls

-- The answers of a connection that came at a moment and brought these bytes: those to their records.
abbrev pub answers_of : ExportedValues → (bytes : List ℕ) → (moment : ℕ) → List ℕ
answers_of exported bytes moment = answers_to exported moment (records_of bytes)
