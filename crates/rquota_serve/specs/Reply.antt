-- The reply to a datagram. Source: `rquota.x` of the quota tools and rpc.rquotad(8), who may ask; RFC 5531 for the
-- refusals of a call. The order of the checks is this project's own: whoever may not ask does not learn whether a path
-- is exported.
use Rattle.std.specs.Prelude.{ℕ, Bool, false, ◌||◌, ◌==◌, if◌then◌else◌, ◌+◌, List, slice_range, Option, None, Some}
use Rattle.std.specs.Prelude.{option_map, unwrap_or}
use Rattle.std.specs.FinMap.{get}
use Rattle.std.specs.List.{list_any}
use Rattle.quota_types.specs.Kind.{kind_numbered}
use Rattle.quota_types.specs.declared.file_kind.Kind.{Kind}
use Rattle.quota_types.specs.declared.file_kind.Kind.TheVariants.{User, Group, Project}
use Rattle.quota_types.specs.declared.record.Rec.{Rec}
use Rattle.quota_types.specs.Rec.{zero_record}
use Rattle.quota_value.specs.QuotaValue.{QuotaValue}
use Rattle.rquota_xdr.specs.Call.{call_of}
use Rattle.rquota_xdr.specs.declared.call.Call.{Call}
use Rattle.rquota_xdr.specs.declared.call.Call.TheVariants.{Silent, OldRpc, NoProgram, NoVersion, NoProcedure, Auth}
use Rattle.rquota_xdr.specs.declared.call.Call.TheVariants.{Garbage, Null, Get, Set}
use Rattle.rquota_xdr.specs.declared.call.Caller.{Caller}
use Rattle.rquota_xdr.specs.declared.reply.Reply.{Reply}
use Rattle.rquota_xdr.specs.declared.reply.Reply.TheVariants as reply
use Rattle.rquota_serve.specs.ExportedValues.{ExportedValues}
use Rattle.rquota_serve.specs.Quota.{quota_of_record}

-- whose usage a type names: 0 is a user's, 1 a group's, 2 a project's, and any other number names none
abbrev pub kind_named : ℕ → Option Kind
kind_named type = kind_numbered type

-- the caller is this user, or is in this group, by its first group or a further one; no caller is a project
abbrev pub is_owner : Kind → Caller → (id : ℕ) → Bool
is_owner User caller id = caller.uid == id
is_owner Group caller id = caller.gid == id || list_any (λ gid. gid == id) caller.gids
is_owner Project caller id = false

-- the caller may ask: the superuser for all identifiers, every other one for his own
abbrev pub may_ask : Kind → Caller → (id : ℕ) → Bool
may_ask kind caller id = caller.uid == 0 || is_owner kind caller id

-- the record of an identifier, which is one of zeros where there is none
abbrev pub record_of : (id : ℕ) → QuotaValue → Rec
record_of id value = unwrap_or (get value.records id) zero_record

-- what is told of a record to whoever may ask, where its path is exported for its kind
abbrev pub reply_with : (xid now : ℕ) → Option Rec → Reply
reply_with xid now None = reply.NoQuota xid
reply_with xid now (Some rec) = reply.Quota xid (quota_of_record rec now)

-- the record of an identifier under a path, where that is exported for the kind
abbrev pub record_under : ExportedValues → (path : List ℕ) → Kind → (id : ℕ) → Option Rec
record_under exported path kind id = option_map (record_of id) (exported path kind)

-- the reply to a caller who asks for an identifier of a kind, where the type names one
abbrev pub reply_for : ExportedValues → (xid now : ℕ) → Caller → (path : List ℕ) → Option Kind → (id : ℕ) → Reply
reply_for exported xid now caller path None id = reply.NoQuota xid
reply_for exported xid now caller path (Some kind) id =
    if may_ask kind caller id
    then reply_with xid now (record_under exported path kind id)
    else reply.Denied xid

-- the reply to a call that asks for no limits, or none
abbrev pub plain_reply : Call → Option Reply
plain_reply Silent = None
plain_reply (OldRpc xid) = Some (reply.OldRpc xid)
plain_reply (NoProgram xid) = Some (reply.NoProgram xid)
plain_reply (NoVersion xid) = Some (reply.NoVersion xid)
plain_reply (NoProcedure xid) = Some (reply.NoProcedure xid)
plain_reply (Auth xid stat) = Some (reply.Auth xid stat)
plain_reply (Garbage xid) = Some (reply.Garbage xid)
plain_reply (Null xid) = Some (reply.Null xid)
plain_reply (Get xid caller path type id) = None
plain_reply (Set xid) = Some (reply.Denied xid)

-- the reply to what a datagram asks at a moment, or none
abbrev pub reply_to : ExportedValues → (datagram : List ℕ) → (now : ℕ) → Call → Option Reply
reply_to exported datagram now (Get xid caller path type id) =
    Some
    (reply_for exported xid now caller (slice_range datagram path.start (path.start + path.len)) (kind_named type) id)
reply_to exported datagram now call = plain_reply call

-- the reply to a datagram that comes at a moment, or none
abbrev pub reply_of : ExportedValues → (datagram : List ℕ) → (now : ℕ) → Option Reply
reply_of exported datagram now = reply_to exported datagram now (call_of datagram)
