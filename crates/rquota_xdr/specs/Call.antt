-- What a datagram asks of an rquota server: the table of what must hold of a call, in the order in which it is told.
use Rattle.std.specs.Prelude.{◌≡◌, ℕ, ◌+◌, ◌<◌, ◌^◌, ◌≤◌, not, ◌||◌, ◌==◌, nat_le, if◌then◌else◌, List, [], ◌∷◌, ◌++◌}
use Rattle.std.specs.Prelude.{length, unwrap_or}
use Rattle.rquota_xdr.specs.Fields.{caller_of, flavor_of, has_arguments, id_of, is_credential, is_set}
use Rattle.rquota_xdr.specs.Fields.{is_system_credential, is_verifier, kind_of, message_type_of, path_of, procedure_of}
use Rattle.rquota_xdr.specs.Fields.{program_of, rpc_version_of, version_of, xid_of}
use Rattle.rquota_xdr.specs.Rows.{Row, ◌otherwise◌, first_failing}
use Rattle.rquota_xdr.specs.declared.call.Call.{Call}
use Rattle.rquota_xdr.specs.declared.call.Call.TheVariants.{Silent, OldRpc, NoProgram, NoVersion, NoProcedure, Auth}
use Rattle.rquota_xdr.specs.declared.call.Call.TheVariants.{Garbage, Null, Get, Set}

-- the head (RFC 5531, section 9)
unfoldable pub head_rows : List ℕ → List Row
head_rows datagram =
    -- the six units of `rpc_msg` and `call_body` up to the procedure stand there (section 9)
    (nat_le 24 (length datagram) otherwise Silent)
    -- msg_type CALL, 0 (section 9)
    ∷ (message_type_of datagram == 0 otherwise Silent)
    -- version 2 of RPC, else reject_stat RPC_MISMATCH (section 9)
    ∷ (rpc_version_of datagram == 2 otherwise OldRpc (xid_of datagram))
    -- the program of rquota, else accept_stat PROG_UNAVAIL (section 9)
    ∷ (program_of datagram == 100011 otherwise NoProgram (xid_of datagram))
    -- version 1 or 2 of it, else accept_stat PROG_MISMATCH (section 9)
    ∷ (version_of datagram == 1 || version_of datagram == 2 otherwise NoVersion (xid_of datagram))
    -- a procedure up to 4, else accept_stat PROC_UNAVAIL (section 9)
    ∷ (nat_le (procedure_of datagram) 4 otherwise NoProcedure (xid_of datagram))
    -- procedure 0 needs no credential and has no arguments (section 12.1)
    ∷ (not (procedure_of datagram == 0) otherwise Null (xid_of datagram))
    ∷ []

-- the credential (RFC 5531)
unfoldable pub credential_rows : List ℕ → List Row
credential_rows datagram =
    -- a flavor and at most 400 bytes (section 8.2, `opaque_auth`), else auth_stat AUTH_BADCRED, 1 (section 9)
    (is_credential datagram otherwise Auth (xid_of datagram) 1)
    -- AUTH_NONE or AUTH_SYS (section 8.2, `auth_flavor`), else auth_stat AUTH_REJECTEDCRED, 2 (section 9)
    ∷ (flavor_of datagram == 0 || flavor_of datagram == 1 otherwise Auth (xid_of datagram) 2)
    -- the fields of a caller of the system (appendix A, `authsys_parms`), else auth_stat AUTH_BADCRED, 1 (section 9)
    ∷ (flavor_of datagram == 0 || is_system_credential datagram otherwise Auth (xid_of datagram) 1)
    ∷ []

-- the verifier (RFC 5531), and that the credential names a caller
unfoldable pub verifier_rows : List ℕ → List Row
verifier_rows datagram =
    -- a flavor and at most 400 bytes (section 8.2, `opaque_auth`), else auth_stat AUTH_BADVERF, 3 (section 9)
    (is_verifier datagram otherwise Auth (xid_of datagram) 3)
    -- no AUTH_NONE, which names nobody (section 10.1), else auth_stat AUTH_TOOWEAK, 5 (section 9)
    ∷ (not (flavor_of datagram == 0) otherwise Auth (xid_of datagram) 5)
    ∷ []

-- who calls: the credential and then the verifier
unfoldable pub caller_rows : List ℕ → List Row
caller_rows datagram = credential_rows datagram ++ verifier_rows datagram

-- the arguments: accept_stat GARBAGE_ARGS (RFC 5531, section 9)
unfoldable pub argument_rows : List ℕ → List Row
argument_rows datagram =
    (has_arguments datagram otherwise Garbage (xid_of datagram))
    ∷ []

-- all that must hold of a call, in order
abbrev pub rows_of : List ℕ → List Row
rows_of datagram = head_rows datagram ++ caller_rows datagram ++ argument_rows datagram

-- the call of a datagram in which every row holds: procedures 1 and 2 ask for limits, 3 and 4 set them
unfoldable pub accepted : List ℕ → Call
accepted datagram =
    if is_set datagram
    then Set (xid_of datagram)
    else Get (xid_of datagram) (caller_of datagram) (path_of datagram) (kind_of datagram) (id_of datagram)

-- what a datagram asks: the answer of the first row that fails, or else the accepted call
abbrev pub call_of : List ℕ → Call
call_of datagram = unwrap_or (first_failing (rows_of datagram)) (accepted datagram)

-- the path of a call for limits stands in a datagram of this many bytes, and has at most 1,024 of them
abbrev pub HasPathWithin : ℕ → Call → Type 0
HasPathWithin len (Get xid caller path kind id) = (path.start + path.len ≤ len) × (path.len ≤ 1024)
HasPathWithin len _ = Unit {0}

-- what a datagram asks has this xid, unless it is no call, and an `auth_stat` is a number of 32 bits
abbrev pub IsAskedWith : (xid : ℕ) → Call → Type 0
IsAskedWith xid Silent = Unit {0}
IsAskedWith xid (OldRpc own) = own ≡ xid
IsAskedWith xid (NoProgram own) = own ≡ xid
IsAskedWith xid (NoVersion own) = own ≡ xid
IsAskedWith xid (NoProcedure own) = own ≡ xid
IsAskedWith xid (Auth own stat) = (own ≡ xid) × (stat < 2 ^ 32)
IsAskedWith xid (Garbage own) = own ≡ xid
IsAskedWith xid (Null own) = own ≡ xid
IsAskedWith xid (Get own caller path kind id) = own ≡ xid
IsAskedWith xid (Set own) = own ≡ xid
