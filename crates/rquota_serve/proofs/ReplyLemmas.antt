-- Replies: which calls have none, and values that are told whatever a store tells.
use Rattle.std.proofs.Common.{◌≡◌, ◌↔◌, ℕ, Bool, true, false, cond, if◌then◌else◌, List, Option, None, Some, IsSome}
use Rattle.std.proofs.Common.{refl, sym, ap, subst, ◌∙◌}
use Rattle.std.specs.FinMap.{empty, get, get-insert, insert}
use Rattle.std.specs.Cmp.{nat_cmp_is, nat_cmp_total}
use Rattle.std.specs.Option.{is_some, option_map, unwrap_or}
use Rattle.std.specs.Ordering.{eq_by_cmp, is_eq, nat_cmp}
use Rattle.std.specs.declared.cmp.Ordering.TheVariants.{Equal}
use Rattle.quota_types.specs.declared.file_kind.Kind.{Kind}
use Rattle.quota_types.specs.declared.file_kind.Kind.TheVariants.{User}
use Rattle.quota_types.specs.declared.file_kind.Format.TheVariants.{V1}
use Rattle.quota_types.specs.declared.record.Rec.{Rec}
use Rattle.quota_types.specs.Rec.{zero_record}
use Rattle.quota_value.specs.QuotaValue.{QuotaValue, Records}
use Rattle.rquota_xdr.specs.declared.call.Call.{Call}
use Rattle.rquota_xdr.specs.declared.call.Call.TheVariants.{Silent, OldRpc, NoProgram, NoVersion, NoProcedure, Auth}
use Rattle.rquota_xdr.specs.declared.call.Call.TheVariants.{Garbage, Null, Get, Set}
use Rattle.rquota_xdr.specs.declared.call.Caller.{Caller}
use Rattle.rquota_xdr.specs.declared.call.Span.{Span}
use Rattle.rquota_xdr.specs.declared.reply.Reply.{Reply}
use Rattle.rquota_xdr.specs.declared.reply.Reply.TheVariants as reply
use Rattle.rquota_serve.specs.ExportedValues.{ExportedValues}
use Rattle.rquota_serve.specs.Exports.{HasPaths}
use Rattle.rquota_serve.specs.ExportSeen.{ExportSeen, is_exported}
use Rattle.rquota_serve.specs.Refusal.{IsQuota}
use Rattle.rquota_serve.specs.Reply.{may_ask, plain_reply, record_of, record_under, reply_for, reply_to, reply_with}

-- a call that asks for no limits
abbrev pub IsPlain : Call → Type 0
IsPlain call = (xid : ℕ) (caller : Caller) (path : Span) (type id : ℕ) → call ≡ Get xid caller path type id → ⊥

-- its reply rests on nothing that is exported
pub plain-reply : (exported : ExportedValues) (datagram : List ℕ) (now : ℕ) (call : Call) → IsPlain call
    → plain_reply call ≡ reply_to exported datagram now call
plain-reply exported datagram now Silent plain = refl
plain-reply exported datagram now (OldRpc xid) plain = refl
plain-reply exported datagram now (NoProgram xid) plain = refl
plain-reply exported datagram now (NoVersion xid) plain = refl
plain-reply exported datagram now (NoProcedure xid) plain = refl
plain-reply exported datagram now (Auth xid stat) plain = refl
plain-reply exported datagram now (Garbage xid) plain = refl
plain-reply exported datagram now (Null xid) plain = refl
plain-reply exported datagram now (Get xid caller path type id) plain = absurd (plain xid caller path type id refl)
plain-reply exported datagram now (Set xid) plain = refl

-- no records
abbrev none : Records
none = empty

-- a value with one record
value_with : (id : ℕ) → Rec → QuotaValue
value_with id rec = record {
  kind = User;
  format = V1;
  grace = record { block = 0; inode = 0 };
  flags = 0;
  records = insert none id rec;
}

-- such values under the paths of exports
pub told_by : List ExportSeen → (id : ℕ) → Rec → ExportedValues
told_by seen id rec path kind = cond (is_exported seen path kind) (Some (value_with id rec)) None

some-cond : (b : Bool) (value : QuotaValue) → is_some (cond b (Some value) None) ≡ b
some-cond true value = refl
some-cond false value = refl

pub told-paths : (seen : List ExportSeen) (id : ℕ) (rec : Rec) → HasPaths seen (told_by seen id rec)
unfolding told_by
told-paths seen id rec path kind = some-cond (is_exported seen path kind) (value_with id rec)

same-key : (id : ℕ) → eq_by_cmp nat_cmp id id ≡ true
same-key id = ap is_eq (sym (nat_cmp_is id id Equal refl))

record-with : (id : ℕ) (rec : Rec) → record_of id (value_with id rec) ≡ rec
unfolding value_with
record-with id rec =
    ap (λ (o : Option Rec). unwrap_or o zero_record)
    (get-insert nat_cmp_total none id rec id ∙ ap (λ (b : Bool). cond b (Some rec) (get none id)) (same-key id))

-- what was looked up is what is told by some values under the same paths
pub told-found : (seen : List ExportSeen) (path : List ℕ) (kind : Kind) (id : ℕ) (found : Option Rec)
    → is_some found ≡ is_exported seen path kind
    → found ≡ record_under (told_by seen id (unwrap_or found zero_record)) path kind id
unfolding told_by
told-found seen path kind id None is =
    subst (λ (b : Bool). None ≡ option_map (record_of id) (cond b (Some (value_with id zero_record)) None)) is refl
told-found seen path kind id (Some rec) is =
    subst (λ (b : Bool). Some rec ≡ option_map (record_of id) (cond b (Some (value_with id rec)) None)) is
    (ap (λ (r : Rec). Some r) (sym (record-with id rec)))

-- whoever may ask is told what is found
pub reply-allowed : (exported : ExportedValues) (xid now : ℕ) (caller : Caller) (path : List ℕ) (kind : Kind) (id : ℕ)
    (found : Option Rec) → may_ask kind caller id ≡ true
    → found ≡ record_under exported path kind id
    → reply_with xid now found ≡ reply_for exported xid now caller path (Some kind) id
reply-allowed exported xid now caller path kind id found may is =
    ap (reply_with xid now) is
    ∙ ap
    (λ (b : Bool). if b then reply_with xid now (record_under exported path kind id) else reply.Denied xid) (sym may)

-- whoever may not is denied
pub reply-denied : (exported : ExportedValues) (xid now : ℕ) (caller : Caller) (path : List ℕ) (kind : Kind) (id : ℕ)
    → may_ask kind caller id ≡ false
    → reply.Denied xid ≡ reply_for exported xid now caller path (Some kind) id
reply-denied exported xid now caller path kind id may =
    ap (λ (b : Bool). if b then reply_with xid now (record_under exported path kind id) else reply.Denied xid) (sym may)

-- a datagram of which limits would be told is one that is replied to
pub quota-not-silent : (seen : List ExportSeen) (datagram : List ℕ) (now : ℕ) (call : Call)
    → ((exported : ExportedValues) → HasPaths seen exported → IsQuota (reply_to exported datagram now call))
    → call ≡ Silent → ⊥
quota-not-silent seen datagram now call quota is =
    let told : ExportedValues = told_by seen 0 zero_record in
    subst (λ (c : Call). IsQuota (reply_to told datagram now c)) is (quota told (told-paths seen 0 zero_record))

some-not-none : (reply : Option Reply) → IsSome reply → reply ≡ None → ⊥
some-not-none None is absent = cc
some-not-none (Some reply) is absent = cc

-- one with a reply is no silent one
pub reply-not-silent : (reply : Option Reply) (call : Call) → ((reply ≡ None) ↔ (call ≡ Silent)) → IsSome reply
    → call ≡ Silent → ⊥
reply-not-silent reply call silent is quiet = some-not-none reply is (silent.1 quiet)
