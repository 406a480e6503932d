-- The reply for a path is one to its own call, whichever calls of the run the datagrams answer.
use Rattle.std.proofs.Common.{◌≡◌, ℕ, ◌+◌, ◌%◌, ◌^◌, ◌<◌, ◌≤◌, List, [], ◌∷◌, ◌++◌, length, map, take, drop, get_or}
use Rattle.std.proofs.Common.{zero, suc, Option, None, Some, refl, sym, ap, subst, ◌∙◌, arith}
use Rattle.std.specs.Prelude.{IfSome}
use Rattle.std.specs.List.{All, Contains, enumerate_from, flat_map}
use Rattle.std.proofs.lemmas.List.{get_or-map, length-map, take_all}
use Rattle.std.proofs.lemmas.List.Elements.{All-contains, All-contains_itself, All-cons, All-head, All-nil, All-same}
use Rattle.std.proofs.lemmas.List.Elements.{All-tail, All-take, Contains-append_right, Contains-push}
use Rattle.std.proofs.lemmas.List.FromFn.{get_or-enumerate_from, length-enumerate_from}
use Rattle.network.specs.Events.{Event}
use Rattle.rquota_xdr.specs.Fields.{xid_of}
use Rattle.rquota_xdr.specs.Reply.{reply_xid, spelling_of}
use Rattle.rquota_xdr.specs.declared.reply.Reply.{Reply}
use Rattle.rquota_xdr.specs.declared.reply.Reply.TheVariants.{OldRpc, NoProgram, NoVersion, NoProcedure, Auth, Garbage}
use Rattle.rquota_xdr.specs.declared.reply.Reply.TheVariants.{Null, Quota, NoQuota, Denied}
use Rattle.rquota_xdr.proofs.QuestionLemmas.{unit_here}
use Rattle.rquota_xdr.proofs.ReplyLemmas.{one_meaning}
use Rattle.quota_client.specs.declared.client.Client.{Client}
use Rattle.quota_client.specs.Asking.{limits_call}
use Rattle.quota_client.specs.Exchange.{Answers, IsExchange, IsReplyTo}
use Rattle.quota_client.specs.Paths.{IsExchanged, PathAsked, PathCall, call_bytes, path_calls}
use Rattle.quota_client.specs.Served.{ComesFrom, HaveOwnReplies, IsOwnReply, IsReplyOf, KeepsXid, Server}

-- ---- the xid of a call

limits_call-xid : (xid uid gid : ℕ) (path : List ℕ) (id : ℕ) → xid < 2 ^ 32
    → xid_of (limits_call xid uid gid path id) ≡ xid
limits_call-xid xid uid gid path id fits =
    (unit_here (limits_call xid uid gid path id) 0 xid (drop 4 (limits_call xid uid gid path id)) fits refl).unit

-- ---- the calls of a run have different xids

-- the call for the path at a place
pub path_calls-at : (first : ℕ) (paths : List (List ℕ)) (place : ℕ) (d : PathCall) → place < length paths
    → get_or (path_calls first paths) place d ≡ record { xid = (first + place) % 2 ^ 32; path = get_or paths place [] }
path_calls-at first paths place d some =
    let call : ℕ × List ℕ → PathCall = λ entry. record { xid = (first + entry.0) % 2 ^ 32; path = entry.1 } in
    let none : ℕ × List ℕ = (0, []) in
    let size = length-enumerate_from 0 paths in
    let zero_more : 0 + place ≡ place = omega arith in
    get_or-map call (enumerate_from 0 paths) place none d (omega (arith, size, some))
    ∙ ap call (get_or-enumerate_from 0 paths place none some)
    ∙ ap (λ (n : ℕ). call (n, get_or paths place [])) zero_more

pub length-path_calls : (first : ℕ) (paths : List (List ℕ)) → length (path_calls first paths) ≡ length paths
length-path_calls first paths =
    let call : ℕ × List ℕ → PathCall = λ entry. record { xid = (first + entry.0) % 2 ^ 32; path = entry.1 } in
    length-map (enumerate_from 0 paths) call ∙ length-enumerate_from 0 paths

same_place : (first i j : ℕ) → i < 2 ^ 32 → j < 2 ^ 32 → (first + i) % 2 ^ 32 ≡ (first + j) % 2 ^ 32 → i ≡ j
same_place first i j small_i small_j same = omega arith

-- those with the same xid are the same
same_call : (first : ℕ) (paths : List (List ℕ)) (a b : PathCall) → length paths ≤ 16
    → Contains (path_calls first paths) a → Contains (path_calls first paths) b → a.xid ≡ b.xid → a ≡ b
same_call first paths a b few at_a at_b same =
    let i = at_a.0 in
    let j = at_b.0 in
    let count = length-path_calls first paths in
    let i_in : i < length paths = omega (arith, at_a.1, count) in
    let j_in : j < length paths = omega (arith, at_b.1, count) in
    let a_is : a ≡ record { xid = (first + i) % 2 ^ 32; path = get_or paths i [] } =
    sym at_a.2 ∙ path_calls-at first paths i a i_in in
    let b_is : b ≡ record { xid = (first + j) % 2 ^ 32; path = get_or paths j [] } =
    sym at_b.2 ∙ path_calls-at first paths j b j_in in
    let xids : (first + i) % 2 ^ 32 ≡ (first + j) % 2 ^ 32 =
    sym (ap (λ (c : PathCall). c.xid) a_is) ∙ same ∙ ap (λ (c : PathCall). c.xid) b_is in
    let place : i ≡ j = same_place first i j (omega arith) (omega arith) xids in
    let call : ℕ → PathCall = λ n. record { xid = (first + n) % 2 ^ 32; path = get_or paths n [] } in
    a_is ∙ ap call place ∙ sym b_is

call_fits : (first : ℕ) (paths : List (List ℕ)) (a : PathCall) → Contains (path_calls first paths) a → a.xid < 2 ^ 32
call_fits first paths a at_a =
    let count = length-path_calls first paths in
    let i_in : at_a.0 < length paths = omega (arith, at_a.1, count) in
    let xid : a.xid ≡ (first + at_a.0) % 2 ^ 32 =
    ap (λ (c : PathCall). c.xid) (sym at_a.2 ∙ path_calls-at first paths at_a.0 a i_in) in
    omega (arith, xid)

contains_more : {X : Type 0} (x y : X) (xs : List X) → Contains xs y → Contains (x ∷ xs) y
contains_more x y xs here = (suc here.0, omega (arith, here.1), here.2)

unmap_at : {X Y : Type 0} (f : X → Y) (xs : List X) (y : Y) (i : ℕ) → i < length (map f xs) → get_or (map f xs) i y ≡ y
    → (x : X) × Contains xs x × (y ≡ f x)
unmap_at f [] y i lt is = absurd (omega (arith, lt))
unmap_at f (x ∷ xs) y zero lt is = (x, (0, omega arith, refl), sym is)
unmap_at f (x ∷ xs) y (suc i) lt is =
    let rest = unmap_at f xs y i (omega (arith, lt)) is in
    (rest.0, contains_more x rest.0 xs rest.1, rest.2)

-- an element that something was made of
contains-unmap : {X Y : Type 0} (f : X → Y) (xs : List X) (y : Y) → Contains (map f xs) y
    → (x : X) × Contains xs x × (y ≡ f x)
contains-unmap f xs y here = unmap_at f xs y here.0 here.1 here.2

-- ---- one path

spelling_fits : (reply : Reply) → length (spelling_of reply) ≤ 4096
spelling_fits (OldRpc xid) = omega arith
spelling_fits (NoProgram xid) = omega arith
spelling_fits (NoVersion xid) = omega arith
spelling_fits (NoProcedure xid) = omega arith
spelling_fits (Auth xid stat) = omega arith
spelling_fits (Garbage xid) = omega arith
spelling_fits (Null xid) = omega arith
spelling_fits (Quota xid quota) = omega arith
spelling_fits (NoQuota xid) = omega arith
spelling_fits (Denied xid) = omega arith

-- a datagram that answers a call, and that the server sent in reply to some call of the run, was sent in reply to the
-- former
one_origin : (client : Client) (server : Server) (first : ℕ) (paths : List (List ℕ)) (call : PathCall)
    (datagram : List ℕ) (reply : Reply) → length paths ≤ 16 → KeepsXid server
    → Contains (path_calls first paths) call → IsReplyTo call.xid (take 4096 datagram) reply
    → (asked : List ℕ) (sent : Reply) → Contains (map (call_bytes client) (path_calls first paths)) asked
    → IsReplyOf server asked datagram sent → (asked ≡ call_bytes client call) × (sent ≡ reply)
one_origin client server first paths call datagram reply few keeps here answers asked sent among from =
    let other = contains-unmap (call_bytes client) (path_calls first paths) asked among in
    let short : length datagram ≤ 4096 =
    subst (λ (d : List ℕ). length d ≤ 4096) (sym from.spelled) (spelling_fits sent) in
    let whole : take 4096 datagram ≡ datagram = take_all 4096 datagram short in
    let xid_asked : xid_of asked ≡ other.0.xid = ap xid_of other.2
    ∙ limits_call-xid other.0.xid client.uid client.gid other.0.path client.uid
    (call_fits first paths other.0 other.1) in
    let asked_fits : xid_of asked < 2 ^ 32 =
    subst (λ (n : ℕ). n < 2 ^ 32) (sym xid_asked) (call_fits first paths other.0 other.1) in
    let same : reply ≡ sent = one_meaning reply sent answers.fits
    (keeps.fits asked from.moment sent asked_fits from.replied) (sym answers.spelled ∙ whole ∙ from.spelled) in
    let xid_sent : reply_xid sent ≡ xid_of asked = keeps.xid asked from.moment sent from.replied in
    let xids : other.0.xid ≡ call.xid = sym xid_asked ∙ sym xid_sent ∙ ap reply_xid (sym same) ∙ answers.own in
    let calls : other.0 ≡ call = same_call first paths other.0 call few other.1 here xids in
    (other.2 ∙ ap (call_bytes client) calls, sym same)

-- so it is a reply to the former
own_datagram : (client : Client) (server : Server) (first : ℕ) (paths : List (List ℕ)) (call : PathCall)
    (datagram : List ℕ) (reply : Reply) → length paths ≤ 16 → KeepsXid server
    → Contains (path_calls first paths) call → IsReplyTo call.xid (take 4096 datagram) reply
    → ComesFrom server (map (call_bytes client) (path_calls first paths)) (Some datagram)
    → IsOwnReply server (map (call_bytes client) (path_calls first paths)) (call_bytes client call) datagram reply
own_datagram client server first paths call datagram reply few keeps here answers comes =
    let only = one_origin client server first paths call datagram reply few keeps here answers in
    let sent = comes.1 in
    let from = comes.3 in
    let same = only comes.0 sent comes.2 from in
    record {
      is = record {
        moment = from.moment;
        replied = subst (λ (r : Reply). server (call_bytes client call) from.moment ≡ Some r) same.1
            (subst (λ (b : List ℕ). server b from.moment ≡ Some sent) same.0 from.replied);
        spelled = from.spelled ∙ ap spelling_of same.1;
      };
      only = only;
    }

-- the last event of an answered attempt is the datagram
own_event : (client : Client) (server : Server) (first : ℕ) (paths : List (List ℕ)) (call : PathCall) (event : Event)
    (taken : List Event) (reply : Reply) → length paths ≤ 16 → KeepsXid server
    → Contains (path_calls first paths) call → Answers call.xid event reply → Contains taken event
    → All (ComesFrom server (map (call_bytes client) (path_calls first paths))) taken
    → (datagram : List ℕ) × Contains taken (Some datagram)
    × IsOwnReply server (map (call_bytes client) (path_calls first paths)) (call_bytes client call) datagram reply
own_event client server first paths call None taken reply few keeps here answers among from = absurd answers
own_event client server first paths call (Some datagram) taken reply few keeps here answers among from = (
  datagram,
  among,
  own_datagram client server first paths call datagram reply few keeps here answers
      (All-contains (ComesFrom server (map (call_bytes client) (path_calls first paths))) taken
      (Some datagram) from among),
)

own_exchange : (client : Client) (server : Server) (first : ℕ) (paths : List (List ℕ)) (call : PathCall)
    (taken : List Event) (calls : ℕ) (reply : Option Reply) → length paths ≤ 16 → KeepsXid server
    → Contains (path_calls first paths) call → IsExchange call.xid taken calls reply
    → All (ComesFrom server (map (call_bytes client) (path_calls first paths))) taken
    → IfSome reply (λ reply. (datagram : List ℕ) × Contains taken (Some datagram)
    × IsOwnReply server (map (call_bytes client) (path_calls first paths)) (call_bytes client call) datagram reply)
own_exchange client server first paths call taken calls None few keeps here exchange from = tt
own_exchange client server first paths call taken calls (Some reply) few keeps here exchange from =
    let last = exchange.ends.attempt in
    let behind : Contains exchange.ends.last last.ends.last = subst (λ (l : List Event). Contains l last.ends.last)
    (sym last.ends.all) (Contains-push last.others last.ends.last) in
    let among : Contains taken last.ends.last = subst (λ (l : List Event). Contains l last.ends.last)
    (sym exchange.ends.all) (Contains-append_right _ exchange.ends.last last.ends.last behind) in
    own_event client server first paths call last.ends.last taken reply few keeps here last.ends.is among from

-- ---- all paths

all_left : {X : Type 0} (P : X → Type 0) (xs ys : List X) → All P (xs ++ ys) → All P xs
all_left P [] ys all = All-nil P
all_left P (x ∷ xs) ys all =
    All-cons P x xs (All-head P x (xs ++ ys) all) (all_left P xs ys (All-tail P x (xs ++ ys) all))

all_right : {X : Type 0} (P : X → Type 0) (xs ys : List X) → All P (xs ++ ys) → All P ys
all_right P [] ys all = all
all_right P (x ∷ xs) ys all = all_right P xs ys (All-tail P x (xs ++ ys) all)

all_unflat : {X Y : Type 0} (P : Y → Type 0) (f : X → List Y) (xs : List X) → All P (flat_map f xs)
    → All (λ x. All P (f x)) xs
all_unflat P f [] all = All-nil (λ x. All P (f x))
all_unflat P f (x ∷ xs) all =
    All-cons (λ x. All P (f x)) x xs (all_left P (f x) (flat_map f xs) all)
    (all_unflat P f xs (all_right P (f x) (flat_map f xs) all))

all_unmap : {X Y : Type 0} (P : Y → Type 0) (f : X → Y) (xs : List X) → All P (map f xs) → All (λ x. P (f x)) xs
all_unmap P f [] all = All-nil (λ x. P (f x))
all_unmap P f (x ∷ xs) all =
    All-cons (λ x. P (f x)) x xs (All-head P (f x) (map f xs) all) (all_unmap P f xs (All-tail P (f x) (map f xs) all))

pub own_replies : (client : Client) (first : ℕ) (paths : List (List ℕ)) (done : List PathAsked) → length paths ≤ 16
    → map (λ (one : PathAsked). one.call) done ≡ take (length done) (path_calls first paths)
    → All IsExchanged done → HaveOwnReplies client (path_calls first paths) done
own_replies client first paths done few in_order each = λ server keeps from.
    let calls = path_calls first paths in
    let among : All (Contains calls) (map (λ (one : PathAsked). one.call) done) =
    All-same (Contains calls) (map (λ (one : PathAsked). one.call) done) (take (length done) calls) in_order
    (All-take (Contains calls) (length done) calls (All-contains_itself calls)) in
    let here = all_unmap (Contains calls) (λ (one : PathAsked). one.call) done among in
    let came =
    all_unflat (ComesFrom server (map (call_bytes client) calls)) (λ (one : PathAsked). one.taken) done from in
    λ k d lt.
    let one = get_or done k d in
    own_exchange client server first paths one.call one.taken one.calls one.reply few keeps (here k d lt)
    (each k d lt) (came k d lt)
