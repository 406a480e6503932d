-- Replies and their units.
use Rattle.std.proofs.Common.{◌≡◌, ◌≢◌, ℕ, ◌*◌, ◌/◌, List, length, get_or, Option, Some, None, refl, sym, ap, ◌∙◌}
use Rattle.std.proofs.Common.{arith}
use Rattle.std.specs.Prelude.{◌==◌, ◌%◌, if◌then◌else◌, IfSome, IfNone}
use Rattle.rquota_xdr.specs.Units.{units_from}
use Rattle.rquota_xdr.specs.Reply.{FitsUnits, bytes_of, spelling_of, units_of}
use Rattle.rquota_xdr.specs.declared.reply.Quota.{Quota}
use Rattle.rquota_xdr.specs.declared.reply.Reply.{Reply}
use Rattle.rquota_xdr.specs.declared.reply.Reply.TheVariants as reply
use Rattle.rquota_xdr.proofs.SpellingLemmas.{AreBytes, length-bytes_of, units_again, bytes_again}

-- the quota of the last ten units
quota_in : List ℕ → Quota
quota_in units = record {
  bsize = get_or units 7 0;
  active = get_or units 8 0;
  bhard = get_or units 9 0;
  bsoft = get_or units 10 0;
  curblocks = get_or units 11 0;
  fhard = get_or units 12 0;
  fsoft = get_or units 13 0;
  curfiles = get_or units 14 0;
  btimeleft = get_or units 15 0;
  ftimeleft = get_or units 16 0;
}

-- the reply of units, where they are those of one
reply_in : List ℕ → Reply
reply_in units =
    let xid = get_or units 0 0 in
    if get_or units 2 0 == 1
    then (if get_or units 3 0 == 0 then reply.OldRpc xid else reply.Auth xid (get_or units 4 0))
    else if get_or units 5 0 == 1 then reply.NoProgram xid
    else if get_or units 5 0 == 2 then reply.NoVersion xid
    else if get_or units 5 0 == 3 then reply.NoProcedure xid
    else if get_or units 5 0 == 4 then reply.Garbage xid
    else if length units == 6 then reply.Null xid
    else if get_or units 6 0 == 2 then reply.NoQuota xid
    else if get_or units 6 0 == 3 then reply.Denied xid
    else reply.Quota xid (quota_in units)

reply_in-units_of : (r : Reply) → reply_in (units_of r) ≡ r
unfolding reply_in quota_in
reply_in-units_of (reply.OldRpc xid) = refl
reply_in-units_of (reply.NoProgram xid) = refl
reply_in-units_of (reply.NoVersion xid) = refl
reply_in-units_of (reply.NoProcedure xid) = refl
reply_in-units_of (reply.Auth xid stat) = refl
reply_in-units_of (reply.Garbage xid) = refl
reply_in-units_of (reply.Null xid) = refl
reply_in-units_of (reply.Quota xid quota) = refl
reply_in-units_of (reply.NoQuota xid) = refl
reply_in-units_of (reply.Denied xid) = refl

-- units are those of one reply at most
pub one_reply : (r other : Reply) → units_of r ≡ units_of other → r ≡ other
one_reply r other same = sym (reply_in-units_of r) ∙ ap reply_in same ∙ reply_in-units_of other

-- a spelling has one meaning
pub one_meaning : (r other : Reply) → FitsUnits r → FitsUnits other → spelling_of r ≡ spelling_of other → r ≡ other
one_meaning r other fits other_fits same =
    let size : 4 * length (units_of r) ≡ 4 * length (units_of other) =
    sym (length-bytes_of (units_of r)) ∙ ap length same ∙ length-bytes_of (units_of other) in
    let count : length (units_of r) ≡ length (units_of other) = omega arith in
    one_reply r other
    (sym (units_again (units_of r) fits)
    ∙ ap (λ (bytes : List ℕ). units_from bytes 0 (length (units_of r))) same
    ∙ ap (λ (n : ℕ). units_from (spelling_of other) 0 n) count
    ∙ units_again (units_of other) other_fits)

-- bytes that are read as whole units
pub record AreRead (bytes units : List ℕ) : Type 0 where
  pub are_bytes : AreBytes bytes
  pub whole : length bytes % 4 ≡ 0
  pub units_are : units ≡ units_from bytes 0 (length bytes / 4)

count_is : (bytes units : List ℕ) → AreRead bytes units → length bytes ≡ 4 * (length bytes / 4)
count_is bytes units all = let whole = all.whole in omega arith

-- they are the spelling of the reply with these units
pub is_spelling : (bytes units : List ℕ) (r : Option Reply) → AreRead bytes units
    → IfSome r (λ reply. units ≡ units_of reply) → IfSome r (λ reply. bytes ≡ spelling_of reply)
is_spelling bytes units None all is = tt
is_spelling bytes units (Some r) all is =
    sym (bytes_again (length bytes / 4) bytes (count_is bytes units all) all.are_bytes)
    ∙ ap bytes_of (sym all.units_are ∙ is)

-- the units of a spelling are those of its reply
spelled_units : (bytes units : List ℕ) (r : Reply) → AreRead bytes units → FitsUnits r → bytes ≡ spelling_of r
    → units ≡ units_of r
spelled_units bytes units r all fits is =
    let size : length bytes ≡ 4 * length (units_of r) = ap length is ∙ length-bytes_of (units_of r) in
    let count : length bytes / 4 ≡ length (units_of r) = omega arith in
    all.units_are ∙ ap (λ (spelled : List ℕ). units_from spelled 0 (length bytes / 4)) is
    ∙ ap (λ (n : ℕ). units_from (spelling_of r) 0 n) count ∙ units_again (units_of r) fits

pub is_found : (bytes units : List ℕ) (found : Option Reply) → AreRead bytes units
    → IfSome found (λ reply. units ≡ units_of reply) → IfNone found ((reply : Reply) → units ≢ units_of reply)
    → (r : Reply) → FitsUnits r → bytes ≡ spelling_of r → found ≡ Some r
is_found bytes units None all is none r fits spelled = absurd (none r (spelled_units bytes units r all fits spelled))
is_found bytes units (Some other) all is none r fits spelled =
    ap some (one_reply other r (sym is ∙ spelled_units bytes units r all fits spelled))
  where
    some : Reply → Option Reply
    some x = Some x

-- bytes for which nothing is found spell no reply
pub is_none : (bytes units : List ℕ) (found : Option Reply) → AreRead bytes units
    → IfSome found (λ reply. units ≡ units_of reply) → IfNone found ((reply : Reply) → units ≢ units_of reply)
    → IfNone found ((reply : Reply) → FitsUnits reply → bytes ≢ spelling_of reply)
is_none bytes units None all is none = λ r fits spelled. none r (spelled_units bytes units r all fits spelled)
is_none bytes units (Some other) all is none = tt
