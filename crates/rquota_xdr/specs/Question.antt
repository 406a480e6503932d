-- A call for limits as it is written, field by field (RFC 5531, sections 8.2 and 9, and appendix A; `getquota_args` and
-- `ext_getquota_args` of `rquota.x`).
use Rattle.std.specs.Prelude.{◌≡◌, ℕ, ◌+◌, ◌≤◌, List, [], ◌∷◌, ◌++◌, length, slice_range, Option, Some, None}
use Rattle.std.specs.Int.{w32, to_be_bytes}
use Rattle.rquota_xdr.specs.Units.{padded}
use Rattle.rquota_xdr.specs.Reply.{AreNumbers, bytes_of}
use Rattle.rquota_xdr.specs.Call.{call_of}
use Rattle.rquota_xdr.specs.declared.call.Caller.{Caller}
use Rattle.rquota_xdr.specs.declared.call.Call.TheVariants.{Get}

-- bytes, and the padding behind them, which has any value
pub record Padded : Type 0 where
  pub text : List ℕ
  pub padding : List ℕ

-- at most `most` bytes are padded to whole units
pub record IsPadded (most : ℕ) (field : Padded) : Type 0 where
  pub few : length field.text ≤ most
  pub whole : length field.text + length field.padding ≡ padded (length field.text)

-- variable-length data: its length, its bytes and their padding (RFC 4506, section 4.10)
abbrev pub opaque : Padded → List ℕ
opaque field = to_be_bytes w32 (length field.text) ++ (field.text ++ field.padding)

-- The fields of a call for limits by a caller of the system. The stamp, the machine's name, the verifier, all padding,
-- and what stands behind the fields of the credential and behind the call, may be anything.
pub record Question : Type 0 where
  pub xid : ℕ
  pub procedure : ℕ
  pub stamp : ℕ
  pub machine : Padded
  pub caller : Caller
  pub behind_caller : List ℕ
  pub credential_padding : List ℕ
  pub verifier_flavor : ℕ
  pub verifier : Padded
  pub path : Padded
  pub kind : Option ℕ
  pub id : ℕ
  pub behind : List ℕ

-- the version: 2 where there is a type
abbrev pub version_with : Option ℕ → ℕ
version_with None = 1
version_with (Some kind) = 2

-- the units behind the path
abbrev pub last_units : Option ℕ → ℕ → List ℕ
last_units None id = id ∷ []
last_units (Some kind) id = kind ∷ id ∷ []

-- the type, which counts as 0 where there is none
abbrev pub kind_with : Option ℕ → ℕ
kind_with None = 0
kind_with (Some kind) = kind

-- the credential: the fields of `struct authsys_parms`
abbrev pub credential : Question → Padded
credential q = record {
  text = bytes_of (q.stamp ∷ [])
      ++ (opaque q.machine
      ++ (bytes_of (q.caller.uid ∷ q.caller.gid ∷ length q.caller.gids ∷ q.caller.gids) ++ q.behind_caller));
  padding = q.credential_padding;
}

-- the bytes of the call
abbrev pub question_bytes : Question → List ℕ
question_bytes q =
    bytes_of (q.xid ∷ 0 ∷ 2 ∷ 100011 ∷ version_with q.kind ∷ q.procedure ∷ 1 ∷ [])
    ++ (opaque (credential q)
    ++ (bytes_of (q.verifier_flavor ∷ [])
    ++ (opaque q.verifier
    ++ (opaque q.path
    ++ (bytes_of (last_units q.kind q.id)
    ++ q.behind)))))

-- what a call for limits keeps to
pub record IsQuestion (q : Question) : Type 0 where
  pub head : AreNumbers (q.xid ∷ q.procedure ∷ q.stamp ∷ q.caller.uid ∷ q.caller.gid ∷ q.verifier_flavor ∷ [])
  pub get : (1 ≤ q.procedure) × (q.procedure ≤ 2)
  pub machine : IsPadded 255 q.machine
  pub few_groups : length q.caller.gids ≤ 16
  pub groups : AreNumbers q.caller.gids
  pub credential : IsPadded 400 (credential q)
  pub verifier : IsPadded 400 q.verifier
  pub path : IsPadded 1024 q.path
  pub last : AreNumbers (last_units q.kind q.id)

-- the datagram asks for the limits of this question, by a path of these bytes
pub record Asks (datagram : List ℕ) (q : Question) : Type 0 where
  pub start : ℕ
  pub call : call_of datagram
      ≡ Get q.xid q.caller (record { start = start; len = length q.path.text }) (kind_with q.kind) q.id
  pub path : slice_range datagram start (start + length q.path.text) ≡ q.path.text
