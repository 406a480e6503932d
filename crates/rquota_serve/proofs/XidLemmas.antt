-- A reply is known by its call: it has the xid of it, and its units are numbers of 32 bits.
use Rattle.std.proofs.Common.{◌≡◌, ℕ, ◌+◌, ◌-◌, ◌^◌, ◌<◌, Bool, true, false, cond, List, [], ◌∷◌, ◌++◌, Option, None}
use Rattle.std.proofs.Common.{Some, refl, subst, arith}
use Rattle.std.proofs.lemmas.Nat.{pow_below}
use Rattle.std.specs.Prelude.{nat_le, slice_range}
use Rattle.quota_types.specs.declared.file_kind.Kind.{Kind}
use Rattle.quota_types.specs.declared.record.Rec.{Rec}
use Rattle.rquota_xdr.specs.Call.{IsAskedWith, call_of}
use Rattle.rquota_xdr.specs.Fields.{xid_of}
use Rattle.rquota_xdr.specs.Reply.{AreNumbers, FitsUnits, accepted_head, reply_xid}
use Rattle.rquota_xdr.specs.declared.call.Call.{Call}
use Rattle.rquota_xdr.specs.declared.call.Call.TheVariants.{Silent, OldRpc, NoProgram, NoVersion, NoProcedure, Auth}
use Rattle.rquota_xdr.specs.declared.call.Call.TheVariants.{Garbage, Null, Get, Set}
use Rattle.rquota_xdr.specs.declared.call.Caller.{Caller}
use Rattle.rquota_xdr.specs.declared.reply.Reply.{Reply}
use Rattle.rquota_xdr.specs.declared.reply.Reply.TheVariants as reply
use Rattle.rquota_serve.specs.ExportedValues.{ExportedValues}
use Rattle.rquota_serve.specs.Quota.{block_power, limit_blocks, narrowed, quota_of_record, seconds_left, space_blocks}
use Rattle.rquota_serve.specs.Reply.{kind_named, may_ask, record_under, reply_for, reply_of, reply_to, reply_with}
use Rattle.rquota_xdr.proofs.XidLemmas.{asked_with}
use Rattle.rquota_serve.proofs.NumberLemmas.{block_power-within}

-- the reply has this xid, and where that is a number of 32 bits each unit is
abbrev pub IsKnown : ℕ → Reply → Type 0
IsKnown xid r = (reply_xid r ≡ xid) × (xid < 2 ^ 32 → FitsUnits r)

-- ---- the ten numbers of a quota

block_fits : (rec : Rec) → 2 ^ block_power rec < 2 ^ 32
block_fits rec = pow_below (block_power rec) 32 (omega (arith, block_power-within rec))

narrowed_fits : (number : ℕ) → narrowed number < 2 ^ 32
narrowed_fits number = omega arith

chosen_fits : (test : Bool) (one two : ℕ) → one < 2 ^ 32 → two < 2 ^ 32 → cond test one two < 2 ^ 32
chosen_fits true one two first second = first
chosen_fits false one two first second = second

seconds_fit : (timer now : ℕ) → seconds_left timer now < 2 ^ 32
seconds_fit timer now =
    chosen_fits (nat_le timer now) 0 (narrowed (timer - now)) (omega arith) (narrowed_fits (timer - now))

-- units behind the head of an accepted reply
behind_head : (xid : ℕ) (units : List ℕ) → xid < 2 ^ 32 → AreNumbers units → AreNumbers (accepted_head xid ++ units)
behind_head xid units few rest = (few, (omega arith, (omega arith, (omega arith, (omega arith, rest)))))

quota_fits : (xid now : ℕ) (rec : Rec) → xid < 2 ^ 32 → FitsUnits (reply.Quota xid (quota_of_record rec now))
quota_fits xid now rec few =
    let power = block_power rec in
    let times : List ℕ = seconds_left rec.btime now ∷ seconds_left rec.itime now ∷ [] in
    let files : List ℕ = narrowed rec.ihard ∷ narrowed rec.isoft ∷ narrowed rec.inodes ∷ times in
    let blocks : List ℕ = narrowed (limit_blocks power rec.bhard) ∷ narrowed (limit_blocks power rec.bsoft)
    ∷ narrowed (space_blocks power rec.space) ∷ files in
    let times_fit : AreNumbers times = (seconds_fit rec.btime now, (seconds_fit rec.itime now, tt)) in
    let files_fit : AreNumbers files =
    (narrowed_fits rec.ihard, (narrowed_fits rec.isoft, (narrowed_fits rec.inodes, times_fit))) in
    let blocks_fit : AreNumbers blocks = (
      narrowed_fits (limit_blocks power rec.bhard),
      (narrowed_fits (limit_blocks power rec.bsoft), (narrowed_fits (space_blocks power rec.space), files_fit)),
    ) in
    behind_head xid (0 ∷ 1 ∷ 2 ^ power ∷ 1 ∷ blocks) few
    (omega arith, (omega arith, (block_fits rec, (omega arith, blocks_fit))))

-- ---- the reply to a call for limits

told_known : (xid now : ℕ) (found : Option Rec) → IsKnown xid (reply_with xid now found)
told_known xid now None = (refl, λ few. behind_head xid (0 ∷ 2 ∷ []) few (omega arith, (omega arith, tt)))
told_known xid now (Some rec) = (refl, λ few. quota_fits xid now rec few)

denied_known : (own xid : ℕ) → own ≡ xid → IsKnown xid (reply.Denied own)
denied_known own xid is =
    (is, λ few. behind_head own (0 ∷ 3 ∷ []) (omega (arith, is, few)) (omega arith, (omega arith, tt)))

either : (P : Reply → Type 0) (test : Bool) (one two : Reply) → P one → P two → P (cond test one two)
either P true one two first second = first
either P false one two first second = second

limits_known : (exported : ExportedValues) (xid now : ℕ) (caller : Caller) (path : List ℕ) (kind : Option Kind) (id : ℕ)
    → IsKnown xid (reply_for exported xid now caller path kind id)
limits_known exported xid now caller path None id = told_known xid now None
limits_known exported xid now caller path (Some kind) id =
    either (IsKnown xid) (may_ask kind caller id) _ _ (told_known xid now (record_under exported path kind id))
    (denied_known xid xid refl)

-- ---- the reply to any call

same_known : (xid : ℕ) (one other : Reply) → IsKnown xid one → Some one ≡ Some other → IsKnown xid other
same_known xid one other is same = let it : one ≡ other = cc in subst (IsKnown xid) it is

reply_known : (exported : ExportedValues) (datagram : List ℕ) (now : ℕ) (call : Call) (r : Reply) (xid : ℕ)
    → IsAskedWith xid call → reply_to exported datagram now call ≡ Some r → IsKnown xid r
reply_known exported datagram now Silent r xid is same = absurd cc
reply_known exported datagram now (OldRpc own) r xid is same =
    same_known xid (reply.OldRpc own) r
    (is, λ few. (omega (arith, is, few), (omega arith, (omega arith, (omega arith, (omega arith, (omega arith, tt)))))))
    same
reply_known exported datagram now (NoProgram own) r xid is same =
    same_known xid (reply.NoProgram own) r
    (is, λ few. behind_head own (1 ∷ []) (omega (arith, is, few)) (omega arith, tt)) same
reply_known exported datagram now (NoVersion own) r xid is same =
    same_known xid (reply.NoVersion own) r (
      is,
      λ few. behind_head own (2 ∷ 1 ∷ 2 ∷ []) (omega (arith, is, few)) (omega arith, (omega arith, (omega arith, tt))),
    ) same
reply_known exported datagram now (NoProcedure own) r xid is same =
    same_known xid (reply.NoProcedure own) r
    (is, λ few. behind_head own (3 ∷ []) (omega (arith, is, few)) (omega arith, tt)) same
reply_known exported datagram now (Garbage own) r xid is same =
    same_known xid (reply.Garbage own) r
    (is, λ few. behind_head own (4 ∷ []) (omega (arith, is, few)) (omega arith, tt)) same
reply_known exported datagram now (Null own) r xid is same =
    same_known xid (reply.Null own) r
    (is, λ few. behind_head own (0 ∷ []) (omega (arith, is, few)) (omega arith, tt)) same
reply_known exported datagram now (Auth own stat) r xid is same =
    same_known xid (reply.Auth own stat) r
    (is.0, λ few. (omega (arith, is.0, few), (omega arith, (omega arith, (omega arith, (is.1, tt)))))) same
reply_known exported datagram now (Set own) r xid is same =
    same_known xid (reply.Denied own) r (denied_known own xid is) same
reply_known exported datagram now (Get own caller path type id) r xid is same =
    let named : List ℕ = slice_range datagram path.start (path.start + path.len) in
    let limits = limits_known exported own now caller named (kind_named type) id in
    same_known xid (reply_for exported own now caller named (kind_named type) id) r
    (subst (λ (x : ℕ). IsKnown x (reply_for exported own now caller named (kind_named type) id)) is limits) same

-- the reply to a datagram is known by the datagram's xid
pub known_by_call : (exported : ExportedValues) (datagram : List ℕ) (now : ℕ) (r : Reply)
    → reply_of exported datagram now ≡ Some r → IsKnown (xid_of datagram) r
known_by_call exported datagram now r same =
    reply_known exported datagram now (call_of datagram) r (xid_of datagram) (asked_with datagram) same
