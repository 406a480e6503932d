-- The fields of a call to rquota, each by its place in the whole datagram. Sources: RFC 5531 for the call, `rquota.x`
-- of the quota tools for the arguments.
use Rattle.std.specs.Prelude.{ℕ, ◌+◌, ◌*◌, Bool, ◌&&◌, ◌==◌, nat_lt, nat_le, if◌then◌else◌, List, length}
use Rattle.rquota_xdr.specs.Units.{unit_at, units_from, opaque_end, is_opaque}
use Rattle.rquota_xdr.specs.declared.call.Span.{Span}
use Rattle.rquota_xdr.specs.declared.call.Caller.{Caller}

-- ---- the head: six units (RFC 5531, section 9, `struct rpc_msg` and `struct call_body`)

-- the number by which a reply is known to be that of this call
abbrev pub xid_of : List ℕ → ℕ
xid_of datagram = unit_at datagram 0

-- 0 for a call
abbrev pub message_type_of : List ℕ → ℕ
message_type_of datagram = unit_at datagram 4

-- the version of RPC
abbrev pub rpc_version_of : List ℕ → ℕ
rpc_version_of datagram = unit_at datagram 8

-- the number of the program that is called
abbrev pub program_of : List ℕ → ℕ
program_of datagram = unit_at datagram 12

-- the version of that program
abbrev pub version_of : List ℕ → ℕ
version_of datagram = unit_at datagram 16

-- the number of the procedure that is called
abbrev pub procedure_of : List ℕ → ℕ
procedure_of datagram = unit_at datagram 20

-- ---- the credential, behind the head (RFC 5531, section 8.2, `struct opaque_auth`): a flavor and a body

-- 0 names nobody (AUTH_NONE), 1 is a caller of the system (AUTH_SYS)
abbrev pub flavor_of : List ℕ → ℕ
flavor_of datagram = unit_at datagram 24

-- a body of at most 400 bytes stands behind the flavor
abbrev pub is_credential : List ℕ → Bool
is_credential datagram = is_opaque datagram 28 400 (length datagram)

-- the place behind the bytes of the body, padding not counted
abbrev pub body_end_of : List ℕ → ℕ
body_end_of datagram = 32 + unit_at datagram 28

-- ---- the body of a caller of the system (RFC 5531, appendix A, `struct authsys_parms`): a stamp, a machine's name,
-- ---- uid, gid, and the count and the numbers of further groups

-- the place of the uid, behind the machine's name
abbrev pub uid_at : List ℕ → ℕ
uid_at datagram = opaque_end datagram 36

-- the number of further groups
abbrev pub gid_count_of : List ℕ → ℕ
gid_count_of datagram = unit_at datagram (uid_at datagram + 8)

-- All of it stands within the body, the name has at most 255 bytes, and there are at most 16 further groups. What
-- stands behind them in the body is not read.
unfoldable pub is_system_credential : List ℕ → Bool
is_system_credential datagram =
    is_opaque datagram 36 255 (body_end_of datagram)
    && nat_le (uid_at datagram + 12) (body_end_of datagram)
    && nat_le (gid_count_of datagram) 16
    && nat_le (uid_at datagram + 12 + 4 * gid_count_of datagram) (body_end_of datagram)

-- who calls
unfoldable pub caller_of : List ℕ → Caller
caller_of datagram = record {
  uid = unit_at datagram (uid_at datagram);
  gid = unit_at datagram (uid_at datagram + 4);
  gids = units_from datagram (uid_at datagram + 12) (gid_count_of datagram);
}

-- ---- the verifier, behind the padded body of the credential (RFC 5531, section 8.2): a flavor and a body

-- the place of its flavor
abbrev pub verifier_at : List ℕ → ℕ
verifier_at datagram = opaque_end datagram 28

-- a body of at most 400 bytes stands behind the flavor
abbrev pub is_verifier : List ℕ → Bool
is_verifier datagram = is_opaque datagram (verifier_at datagram + 4) 400 (length datagram)

-- ---- the arguments, behind the padded body of the verifier (`getquota_args`, `ext_getquota_args`, `setquota_args` and
-- ---- `ext_setquota_args`):
-- ----
-- ----   procedure                          version 1                        version 2
-- ----   1 GETQUOTA, 2 GETACTIVEQUOTA       path, id                         path, type, id
-- ----   3 SETQUOTA, 4 SETACTIVEQUOTA       command, path, id, 8 numbers     command, path, id, type, 8 numbers

-- the place of the first argument
abbrev pub arguments_at : List ℕ → ℕ
arguments_at datagram = opaque_end datagram (verifier_at datagram + 4)

-- the call sets limits: its procedure is above 2, and so 3 or 4 where the head is accepted
abbrev pub is_set : List ℕ → Bool
is_set datagram = nat_lt 2 (procedure_of datagram)

-- the arguments tell whether the identifier is a user's, a group's or a project's, as those of version 2 do
abbrev pub has_type : List ℕ → Bool
has_type datagram = version_of datagram == 2

-- the place of the path: behind the command of a call that sets limits, and otherwise first
abbrev pub path_at : List ℕ → ℕ
path_at datagram = if is_set datagram then arguments_at datagram + 4 else arguments_at datagram

-- the place of what stands behind the padded path
abbrev pub behind_path_of : List ℕ → ℕ
behind_path_of datagram = opaque_end datagram (path_at datagram)

-- how many units stand behind the path
abbrev pub units_behind_path : List ℕ → ℕ
units_behind_path datagram =
    if is_set datagram
    then (if has_type datagram then 10 else 9)
    else (if has_type datagram then 2 else 1)

-- a path of at most 1,024 bytes (`RQ_PATHLEN`) and all other arguments stand in the datagram
unfoldable pub has_arguments : List ℕ → Bool
has_arguments datagram =
    is_opaque datagram (path_at datagram) 1024 (length datagram)
    && nat_le (behind_path_of datagram + 4 * units_behind_path datagram) (length datagram)

-- the path's bytes, padding not counted
abbrev pub path_of : List ℕ → Span
path_of datagram = record { start = path_at datagram + 4; len = unit_at datagram (path_at datagram) }

-- the type in a call for limits, which counts as 0 (a user) where there is none
abbrev pub kind_of : List ℕ → ℕ
kind_of datagram = if has_type datagram then unit_at datagram (behind_path_of datagram) else 0

-- the identifier in a call for limits
abbrev pub id_of : List ℕ → ℕ
id_of datagram =
    if has_type datagram
    then unit_at datagram (behind_path_of datagram + 4)
    else unit_at datagram (behind_path_of datagram)
