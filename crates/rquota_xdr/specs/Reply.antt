-- The bytes of a reply. Sources: RFC 5531, section 9, for its head; `rquota.x` of the quota tools for its results.
use Rattle.std.specs.Prelude.{ℕ, ◌<◌, ◌^◌, List, [], ◌∷◌, ◌++◌}
use Rattle.std.specs.Int.{w32, to_be_bytes}
use Rattle.std.specs.List.{AllByRecursion, flat_map}
use Rattle.rquota_xdr.specs.declared.reply.Quota.{Quota}
use Rattle.rquota_xdr.specs.declared.reply.Reply.{Reply}
use Rattle.rquota_xdr.specs.declared.reply.Reply.TheVariants.{OldRpc, NoProgram, NoVersion, NoProcedure, Auth, Garbage}
use Rattle.rquota_xdr.specs.declared.reply.Reply.TheVariants.{Null, NoQuota, Denied}
use Rattle.rquota_xdr.specs.declared.reply.Reply.TheVariants as reply

-- the ten units of a quota, in the order of `struct rquota`
abbrev pub quota_units : Quota → List ℕ
quota_units quota =
    quota.bsize ∷ quota.active ∷ quota.bhard ∷ quota.bsoft ∷ quota.curblocks
    ∷ quota.fhard ∷ quota.fsoft ∷ quota.curfiles ∷ quota.btimeleft ∷ quota.ftimeleft ∷ []

-- The head of an accepted reply (RFC 5531, section 9, `accepted_reply`): the xid, message type 1, accepted, a verifier
-- of flavor 0 and length 0.
abbrev pub accepted_head : ℕ → List ℕ
accepted_head xid = xid ∷ 1 ∷ 0 ∷ 0 ∷ 0 ∷ []

-- The units of each reply, by the numbers of RFC 5531, section 9:
-- accept_stat    SUCCESS 0, PROG_UNAVAIL 1, PROG_MISMATCH 2 with the lowest and the highest version, PROC_UNAVAIL 3,
--                GARBAGE_ARGS 4
-- reject_stat    RPC_MISMATCH 0 with the lowest and the highest version of RPC, AUTH_ERROR 1 with an `auth_stat`
-- and gqr_status of `rquota.x`    Q_OK 1 with the quota, Q_NOQUOTA 2, Q_EPERM 3
abbrev pub units_of : Reply → List ℕ
units_of (reply.Null xid) = accepted_head xid ++ 0 ∷ []
units_of (reply.NoProgram xid) = accepted_head xid ++ 1 ∷ []
units_of (reply.NoVersion xid) = accepted_head xid ++ 2 ∷ 1 ∷ 2 ∷ []
units_of (reply.NoProcedure xid) = accepted_head xid ++ 3 ∷ []
units_of (reply.Garbage xid) = accepted_head xid ++ 4 ∷ []
units_of (reply.OldRpc xid) = xid ∷ 1 ∷ 1 ∷ 0 ∷ 2 ∷ 2 ∷ []
units_of (reply.Auth xid stat) = xid ∷ 1 ∷ 1 ∷ 1 ∷ stat ∷ []
units_of (reply.Quota xid quota) = accepted_head xid ++ 0 ∷ 1 ∷ quota_units quota
units_of (reply.NoQuota xid) = accepted_head xid ++ 0 ∷ 2 ∷ []
units_of (reply.Denied xid) = accepted_head xid ++ 0 ∷ 3 ∷ []

-- the bytes of numbers as units, the highest byte of each first (RFC 4506, section 4.2)
abbrev pub bytes_of : List ℕ → List ℕ
bytes_of units = flat_map (to_be_bytes w32) units

-- the bytes of a reply
abbrev pub spelling_of : Reply → List ℕ
spelling_of reply = bytes_of (units_of reply)

-- each is a number of 32 bits
abbrev pub AreNumbers : List ℕ → Type 0
AreNumbers units = AllByRecursion (λ unit. unit < 2 ^ 32) units

-- each unit of the reply is a number of 32 bits
abbrev pub FitsUnits : Reply → Type 0
FitsUnits reply = AreNumbers (units_of reply)

-- the xid of a reply, by which it is known to be one to the call with this xid
abbrev pub reply_xid : Reply → ℕ
reply_xid (reply.OldRpc xid) = xid
reply_xid (reply.NoProgram xid) = xid
reply_xid (reply.NoVersion xid) = xid
reply_xid (reply.NoProcedure xid) = xid
reply_xid (reply.Auth xid stat) = xid
reply_xid (reply.Garbage xid) = xid
reply_xid (reply.Null xid) = xid
reply_xid (reply.Quota xid quota) = xid
reply_xid (reply.NoQuota xid) = xid
reply_xid (reply.Denied xid) = xid
