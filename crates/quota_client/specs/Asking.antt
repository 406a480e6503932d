-- The call by which a client asks for the limits of a user. Sources: RFC 5531, sections 8.2 and 9, and appendix A, for
-- its head; `getquota_args` of `rquota.x` for its arguments.
use Rattle.std.specs.Prelude.{ℕ, ◌-◌, List, [], length, replicate, None}
use Rattle.rquota_xdr.specs.Units.{padded}
use Rattle.rquota_xdr.specs.Question.{Padded, Question, question_bytes}

-- no bytes, and no padding behind them
abbrev pub no_bytes : Padded
no_bytes = record { text = []; padding = [] }

-- a path, with zeros behind it up to whole units
abbrev pub path_field : List ℕ → Padded
path_field path = record { text = path; padding = replicate (padded (length path) - length path) 0 }

-- A call of GETQUOTA, procedure 1, in version 1, which names no type: a caller of the system without a stamp, a
-- machine's name or further groups, and an empty verifier of flavor 0.
abbrev pub limits_question : (xid uid gid : ℕ) → (path : List ℕ) → (id : ℕ) → Question
limits_question xid uid gid path id = record {
  xid = xid;
  procedure = 1;
  stamp = 0;
  machine = no_bytes;
  caller = record { uid = uid; gid = gid; gids = [] };
  behind_caller = [];
  credential_padding = [];
  verifier_flavor = 0;
  verifier = no_bytes;
  path = path_field path;
  kind = None;
  id = id;
  behind = [];
}

-- the bytes of that call
abbrev pub limits_call : (xid uid gid : ℕ) → (path : List ℕ) → (id : ℕ) → List ℕ
limits_call xid uid gid path id = question_bytes (limits_question xid uid gid path id)
