-- A call for limits that was written is read.
use Rattle.std.proofs.Common.{◌≡◌, ℕ, suc, ◌+◌, ◌-◌, ◌*◌, ◌^◌, ◌<◌, ◌≤◌, true, false, List, [], ◌∷◌, ◌++◌, length, drop}
use Rattle.std.proofs.Common.{Option, None, Some, refl, sym, ap, ◌∙◌, arith, append_assoc, length-append, length-drop}
use Rattle.std.specs.Prelude.{not, ◌==◌, ◌||◌, nat_le, nat_lt, if◌then◌else◌, slice_range}
use Rattle.std.specs.Int.{w32, to_be_bytes}
use Rattle.std.proofs.lemmas.List.{drop-drop, drop_at, take_at}
use Rattle.std.proofs.lemmas.Bool.{eq-eqb, le-leb, le-ltb, ne_eqb}
use Rattle.std.proofs.lemmas.Nat.{from_be_bytes-to_be_bytes_4}
use Rattle.rquota_xdr.specs.Units.{unit_at, units_from, padded, opaque_end, is_opaque}
use Rattle.rquota_xdr.specs.Reply.{AreNumbers, bytes_of}
use Rattle.rquota_xdr.specs.Rows.{first_failing}
use Rattle.rquota_xdr.specs.Call.{accepted, argument_rows, caller_rows, call_of, credential_rows, head_rows, rows_of}
use Rattle.rquota_xdr.specs.Call.{verifier_rows}
use Rattle.rquota_xdr.specs.Fields.{caller_of, has_arguments, is_system_credential}
use Rattle.rquota_xdr.specs.Question.{Asks, IsPadded, IsQuestion, Padded, Question, credential, kind_with, last_units}
use Rattle.rquota_xdr.specs.Question.{opaque, question_bytes, version_with}
use Rattle.rquota_xdr.specs.declared.call.Call.TheVariants.{Get}
use Rattle.rquota_xdr.proofs.UnitLemmas.{unit_at-bytes}
use Rattle.rquota_xdr.proofs.SpellingLemmas.{length-bytes_of}
use Rattle.rquota_xdr.proofs.RowLemmas.{all_hold, first_failing_behind}

-- a unit stands at a place, and other bytes behind it
pub record UnitAt (d : List ℕ) (at n : ℕ) (rest : List ℕ) : Type 0 where
  pub unit : unit_at d at ≡ n
  pub after : drop (at + 4) d ≡ rest
  pub size : at + 4 + length rest ≡ length d

unit_at-drop : (d : List ℕ) (at : ℕ) → unit_at d at ≡ unit_at (drop at d) 0
unfolding unit_at
unit_at-drop d at = let four : at + 4 - at ≡ 4 = omega arith in rw four refl

pub unit_here : (d : List ℕ) (at n : ℕ) (rest : List ℕ) → n < 2 ^ 32 → drop at d ≡ to_be_bytes w32 n ++ rest
    → UnitAt d at n rest
unit_here d at n rest fits here = record {
  unit = unit_at-drop d at ∙ ap (λ (xs : List ℕ). unit_at xs 0) here ∙ sym (unit_at-bytes (to_be_bytes w32 n ++ rest) 0)
      ∙ from_be_bytes-to_be_bytes_4 n fits;
  after = sym (drop-drop 4 at d) ∙ ap (λ (xs : List ℕ). drop 4 xs) here;
  size = let total : length d - at ≡ suc (suc (suc (suc (length rest)))) = sym (length-drop at d) ∙ ap length here in
      omega arith;
}

-- units stand from a place on, and other bytes behind them
pub record UnitsAt (d : List ℕ) (at : ℕ) (units rest : List ℕ) : Type 0 where
  pub units_are : units_from d at (length units) ≡ units
  pub after : drop (at + 4 * length units) d ≡ rest

pub units_here : (d : List ℕ) (at : ℕ) (units rest : List ℕ) → AreNumbers units → drop at d ≡ bytes_of units ++ rest
    → UnitsAt d at units rest
unfolding units_from
units_here d at [] rest fits here =
    record { units_are = refl; after = let same : at + 4 * 0 ≡ at = omega arith in rw same here }
units_here d at (unit ∷ units) rest fits here =
    let first = unit_here d at unit (bytes_of units ++ rest) fits.0 here in
    let others = units_here d (at + 4) units rest fits.1 first.after in
    let same : at + 4 * suc (length units) ≡ at + 4 + 4 * length units = omega arith in
    record { units_are = rw (first.unit, others.units_are) refl; after = rw same others.after }

-- variable-length data stands at a place, and other bytes behind it
pub record OpaqueAt (d : List ℕ) (at : ℕ) (field : Padded) (rest : List ℕ) : Type 0 where
  pub len : unit_at d at ≡ length field.text
  pub body : drop (at + 4) d ≡ field.text ++ (field.padding ++ rest)
  pub end : opaque_end d at ≡ at + 4 + padded (length field.text)
  pub after : drop (opaque_end d at) d ≡ rest
  pub size : opaque_end d at + length rest ≡ length d

pub opaque_here : (most : ℕ) (d : List ℕ) (at : ℕ) (field : Padded) (rest : List ℕ) → most < 2 ^ 32
    → IsPadded most field → drop at d ≡ opaque field ++ rest → OpaqueAt d at field rest
unfolding opaque_end
opaque_here most d at field rest few is here =
    let fits : length field.text < 2 ^ 32 = let f = is.few in omega arith in
    let first = unit_here d at (length field.text) ((field.text ++ field.padding) ++ rest) fits here in
    let size : length (field.text ++ field.padding) ≡ padded (length field.text) =
    length-append field.text field.padding ∙ is.whole in
    let end : opaque_end d at ≡ at + 4 + padded (length field.text) = ap (λ (n : ℕ). at + 4 + padded n) first.unit in
    let rest_is : drop (at + 4 + padded (length field.text)) d ≡ rest =
    sym (drop-drop (padded (length field.text)) (at + 4) d)
    ∙ ap (λ (xs : List ℕ). drop (padded (length field.text)) xs) first.after
    ∙ drop_at (field.text ++ field.padding) rest (padded (length field.text)) size in
    record {
      len = first.unit;
      body = first.after ∙ append_assoc field.text field.padding rest;
      end = end;
      after = rw end rest_is;
      size = let total = first.size in let both = length-append (field.text ++ field.padding) rest in
          rw end (omega arith);
    }

-- it is told to stand there, before any end behind it
pub is_opaque-here : (d : List ℕ) (at most end : ℕ) (field : Padded) (rest : List ℕ) → OpaqueAt d at field rest
    → length field.text ≤ most → opaque_end d at ≤ end → is_opaque d at most end ≡ true
unfolding is_opaque
is_opaque-here d at most end field rest here few inside =
    let behind = here.end in
    let one : nat_le (at + 4) end ≡ true = le-leb _ _ (omega arith) in
    let two : nat_le (unit_at d at) most ≡ true = le-leb _ _ (rw here.len few) in
    let three : nat_le (opaque_end d at) end ≡ true = le-leb _ _ inside in
    rw (one, two, three) refl

-- ---- the places of a question

pub behind_path : Question → List ℕ
behind_path q = bytes_of (last_units q.kind q.id) ++ q.behind

pub from_path : Question → List ℕ
from_path q = opaque q.path ++ behind_path q

pub from_verifier : Question → List ℕ
from_verifier q = bytes_of (q.verifier_flavor ∷ []) ++ (opaque q.verifier ++ from_path q)

-- the numbers of the head of a question
pub record HeadAt (d : List ℕ) (q : Question) : Type 0 where
  xid : unit_at d 0 ≡ q.xid
  message : unit_at d 4 ≡ 0
  rpc : unit_at d 8 ≡ 2
  program : unit_at d 12 ≡ 100011
  version : unit_at d 16 ≡ version_with q.kind
  procedure : unit_at d 20 ≡ q.procedure
  flavor : unit_at d 24 ≡ 1
  after : drop 28 d ≡ opaque (credential q) ++ from_verifier q
  size : 28 ≤ length d

version_fits : (kind : Option ℕ) → version_with kind < 2 ^ 32
version_fits None = omega arith
version_fits (Some kind) = omega arith

pub head_here : (q : Question) → IsQuestion q → HeadAt (question_bytes q) q
unfolding from_verifier from_path behind_path
head_here q is =
    let d = question_bytes q in
    let r = opaque (credential q) ++ from_verifier q in
    let a =
    unit_here d 0 q.xid (bytes_of (0 ∷ 2 ∷ 100011 ∷ version_with q.kind ∷ q.procedure ∷ 1 ∷ []) ++ r) is.head.0 refl in
    let b =
    unit_here d 4 0 (bytes_of (2 ∷ 100011 ∷ version_with q.kind ∷ q.procedure ∷ 1 ∷ []) ++ r) (omega arith) a.after in
    let c =
    unit_here d 8 2 (bytes_of (100011 ∷ version_with q.kind ∷ q.procedure ∷ 1 ∷ []) ++ r) (omega arith) b.after in
    let e = unit_here d 12 100011 (bytes_of (version_with q.kind ∷ q.procedure ∷ 1 ∷ []) ++ r) (omega arith) c.after in
    let f = unit_here d 16 (version_with q.kind) (bytes_of (q.procedure ∷ 1 ∷ []) ++ r) (version_fits q.kind) e.after in
    let g = unit_here d 20 q.procedure (bytes_of (1 ∷ []) ++ r) is.head.1.0 f.after in
    let h = unit_here d 24 1 r (omega arith) g.after in
    record {
      xid = a.unit;
      message = b.unit;
      rpc = c.unit;
      program = e.unit;
      version = f.unit;
      procedure = g.unit;
      flavor = h.unit;
      after = h.after;
      size = let total = h.size in omega arith;
    }

-- the caller of a question, in the body of its credential
pub record CallerAt (d : List ℕ) (q : Question) : Type 0 where
  pub caller : caller_of d ≡ q.caller
  pub system : is_system_credential d ≡ true

length-credential : (q : Question) → IsQuestion q
    → length (credential q).text
    ≡ 20 + padded (length q.machine.text) + 4 * length q.caller.gids + length q.behind_caller
length-credential q is =
    let ids = bytes_of (q.caller.uid ∷ q.caller.gid ∷ length q.caller.gids ∷ q.caller.gids) in
    let machine : length (q.machine.text ++ q.machine.padding) ≡ padded (length q.machine.text) =
    length-append q.machine.text q.machine.padding ∙ is.machine.whole in
    let front = length-append (opaque q.machine) (ids ++ q.behind_caller) in
    let back = length-append ids q.behind_caller in
    let groups = length-bytes_of q.caller.gids in
    omega arith

pub caller_here : (d : List ℕ) (q : Question) → IsQuestion q
    → OpaqueAt d 28 (credential q) (from_verifier q) → CallerAt d q
unfolding caller_of is_system_credential
caller_here d q is cred =
    let x = q.credential_padding ++ from_verifier q in
    let ids = bytes_of (q.caller.uid ∷ q.caller.gid ∷ length q.caller.gids ∷ q.caller.gids) in
    let stamp = unit_here d 32 q.stamp ((opaque q.machine ++ (ids ++ q.behind_caller)) ++ x) is.head.1.1.0 cred.body in
    let name = opaque_here 255 d 36 q.machine ((ids ++ q.behind_caller) ++ x) (omega arith) is.machine
    (stamp.after ∙ append_assoc (opaque q.machine) (ids ++ q.behind_caller) x) in
    let at = opaque_end d 36 in
    let count_fits : length q.caller.gids < 2 ^ 32 = let few = is.few_groups in omega arith in
    let uid = unit_here d at q.caller.uid
    ((bytes_of (q.caller.gid ∷ length q.caller.gids ∷ q.caller.gids) ++ q.behind_caller) ++ x)
    is.head.1.1.1.0 name.after in
    let gid = unit_here d (at + 4) q.caller.gid
    ((bytes_of (length q.caller.gids ∷ q.caller.gids) ++ q.behind_caller) ++ x) is.head.1.1.1.1.0 uid.after in
    let count = unit_here d (at + 4 + 4) (length q.caller.gids) ((bytes_of q.caller.gids ++ q.behind_caller) ++ x)
    count_fits gid.after in
    let eight : at + 8 ≡ at + 4 + 4 = omega arith in
    let twelve : at + 12 ≡ at + 4 + 4 + 4 = omega arith in
    let count_is : unit_at d (at + 8) ≡ length q.caller.gids = ap (unit_at d) eight ∙ count.unit in
    let groups = units_here d (at + 4 + 4 + 4) q.caller.gids (q.behind_caller ++ x) is.groups
    (count.after ∙ append_assoc (bytes_of q.caller.gids) q.behind_caller x) in
    let groups_are : units_from d (at + 12) (unit_at d (at + 8)) ≡ q.caller.gids =
    rw (count_is, twelve) groups.units_are in
    let body : unit_at d 28 ≡ length (credential q).text = cred.len in
    let long = length-credential q is in
    let end : at ≡ 40 + padded (length q.machine.text) = name.end in
    let few = is.few_groups in
    let one : is_opaque d 36 255 (32 + unit_at d 28) ≡ true = is_opaque-here d 36 255 (32 + unit_at d 28) q.machine
    ((ids ++ q.behind_caller) ++ x) name is.machine.few (omega arith) in
    let two : nat_le (at + 12) (32 + unit_at d 28) ≡ true = le-leb _ _ (omega arith) in
    let three : nat_le (unit_at d (at + 8)) 16 ≡ true = le-leb _ _ (omega arith) in
    let four : nat_le (at + 12 + 4 * unit_at d (at + 8)) (32 + unit_at d 28) ≡ true = le-leb _ _ (omega arith) in
    record {
      caller = rw (uid.unit, gid.unit, groups_are) refl;
      system = rw (one, two, three, four) refl;
    }

-- ---- no row fails

head_holds : (d : List ℕ) (q : Question) → IsQuestion q → HeadAt d q → first_failing (head_rows d) ≡ None
unfolding head_rows
head_holds d q is head =
    let get = is.get in
    all_hold (head_rows d) (
      le-leb _ _ (omega (arith, head.size)),
      (
        eq-eqb _ _ head.message,
        (
          eq-eqb _ _ head.rpc,
          (
            eq-eqb _ _ head.program,
            (
              rw head.version (served q.kind),
              (
                le-leb _ _ (rw head.procedure (omega (arith, get.1))),
                (
                  rw head.procedure (asks q.procedure get.0),
                  tt,
                ),
              ),
            ),
          ),
        ),
      ),
    )
  where
    served : (kind : Option ℕ) → (version_with kind == 1 || version_with kind == 2) ≡ true
    served None = refl
    served (Some kind) = refl

    asks : (procedure : ℕ) → 1 ≤ procedure → not (procedure == 0) ≡ true
    asks procedure some = let other : (procedure == 0) ≡ false = ne_eqb _ _ (λ same. omega arith) in rw other refl

caller_holds : (d : List ℕ) (q : Question) → HeadAt d q → is_opaque d 28 400 (length d) ≡ true
    → is_system_credential d ≡ true → is_opaque d (opaque_end d 28 + 4) 400 (length d) ≡ true
    → first_failing (caller_rows d) ≡ None
unfolding caller_rows credential_rows verifier_rows
caller_holds d q head credential system verifier =
    all_hold (caller_rows d) (
      credential,
      (
        rw head.flavor refl,
        (
          rw (head.flavor, system) refl,
          (
            verifier,
            (
              rw head.flavor refl,
              tt,
            ),
          ),
        ),
      ),
    )

arguments_hold : (d : List ℕ) → has_arguments d ≡ true → first_failing (argument_rows d) ≡ None
unfolding argument_rows
arguments_hold d holds = all_hold (argument_rows d) (holds, tt)

-- what is asked where no row fails
asked : (d : List ℕ) → first_failing (head_rows d) ≡ None → first_failing (caller_rows d) ≡ None
    → first_failing (argument_rows d) ≡ None → call_of d ≡ accepted d
asked d head caller arguments =
    let front = first_failing_behind (head_rows d) (caller_rows d) head ∙ caller in
    let all : first_failing (rows_of d) ≡ None =
    first_failing_behind (head_rows d ++ caller_rows d) (argument_rows d) front ∙ arguments in
    rw all refl

-- ---- the arguments of a question

-- the units behind the path, by the version
record LastAt (d : List ℕ) (at : ℕ) (kind : Option ℕ) (id : ℕ) : Type 0 where
  kind_is : (if version_with kind == 2 then unit_at d at else 0) ≡ kind_with kind
  id_is : (if version_with kind == 2 then unit_at d (at + 4) else unit_at d at) ≡ id
  inside : nat_le (at + 4 * (if version_with kind == 2 then 2 else 1)) (length d) ≡ true

last_here : (d : List ℕ) (at : ℕ) (kind : Option ℕ) (id : ℕ) (rest : List ℕ) → AreNumbers (last_units kind id)
    → drop at d ≡ bytes_of (last_units kind id) ++ rest → LastAt d at kind id
last_here d at None id rest fits here =
    let one = unit_here d at id rest fits.0 here in
    let size = one.size in
    record { kind_is = refl; id_is = one.unit; inside = le-leb _ _ (omega arith) }
last_here d at (Some kind) id rest fits here =
    let one = unit_here d at kind (bytes_of (id ∷ []) ++ rest) fits.0 here in
    let two = unit_here d (at + 4) id rest fits.1.0 one.after in
    let size = two.size in
    record { kind_is = one.unit; id_is = two.unit; inside = le-leb _ _ (omega arith) }

get_holds : (d : List ℕ) (q : Question) (at : ℕ) → opaque_end d (opaque_end d 28 + 4) ≡ at
    → nat_lt 2 (unit_at d 20) ≡ false → unit_at d 16 ≡ version_with q.kind
    → is_opaque d at 1024 (length d) ≡ true → LastAt d (opaque_end d at) q.kind q.id → has_arguments d ≡ true
unfolding has_arguments
get_holds d q at place set version path last =
    let inside = last.inside in
    rw (set, place, version, path, inside) refl

get_is : (d : List ℕ) (q : Question) (at : ℕ) → opaque_end d (opaque_end d 28 + 4) ≡ at
    → nat_lt 2 (unit_at d 20) ≡ false → unit_at d 16 ≡ version_with q.kind
    → unit_at d 0 ≡ q.xid → caller_of d ≡ q.caller → unit_at d at ≡ length q.path.text
    → LastAt d (opaque_end d at) q.kind q.id
    → accepted d ≡ Get q.xid q.caller (record { start = at + 4; len = length q.path.text }) (kind_with q.kind) q.id
unfolding accepted
get_is d q at place set version xid caller path last =
    let kind_is = last.kind_is in
    let id_is = last.id_is in
    rw (set, place, version, xid, caller, path, kind_is, id_is) refl

-- ---- the whole question

verifier_flavor_here : (d : List ℕ) (q : Question) → IsQuestion q → (at : ℕ) → drop at d ≡ from_verifier q
    → UnitAt d at q.verifier_flavor (opaque q.verifier ++ from_path q)
unfolding from_verifier
verifier_flavor_here d q is at here =
    unit_here d at q.verifier_flavor (opaque q.verifier ++ from_path q) is.head.1.1.1.1.1.0 here

path_here : (d : List ℕ) (q : Question) (at : ℕ) → drop at d ≡ from_path q → drop at d ≡ opaque q.path ++ behind_path q
unfolding from_path
path_here d q at here = here

last_of_question : (d : List ℕ) (q : Question) → IsQuestion q → (at : ℕ) → drop at d ≡ behind_path q
    → LastAt d at q.kind q.id
unfolding behind_path
last_of_question d q is at here = last_here d at q.kind q.id q.behind is.last here

text_here : (d : List ℕ) (at : ℕ) (text rest : List ℕ) → drop at d ≡ text ++ rest
    → slice_range d at (at + length text) ≡ text
text_here d at text rest here =
    let many : at + length text - at ≡ length text = omega arith in
    rw (many, here) (take_at text rest (length text) refl)

pub question_asks : (q : Question) → IsQuestion q → Asks (question_bytes q) q
question_asks q is =
    let d = question_bytes q in
    let head = head_here q is in
    let credential_at = opaque_here 400 d 28 (credential q) (from_verifier q) (omega arith) is.credential head.after in
    let caller = caller_here d q is credential_at in
    let flavor = verifier_flavor_here d q is (opaque_end d 28) credential_at.after in
    let verifier =
    opaque_here 400 d (opaque_end d 28 + 4) q.verifier (from_path q) (omega arith) is.verifier flavor.after in
    let at = opaque_end d (opaque_end d 28 + 4) in
    let path = opaque_here 1024 d at q.path (behind_path q) (omega arith) is.path (path_here d q at verifier.after) in
    let last = last_of_question d q is (opaque_end d at) path.after in
    let credential_inside : opaque_end d 28 ≤ length d = let size = credential_at.size in omega arith in
    let verifier_inside : at ≤ length d = let size = verifier.size in omega arith in
    let path_inside : opaque_end d at ≤ length d = let size = path.size in omega arith in
    let set : nat_lt 2 (unit_at d 20) ≡ false = rw head.procedure (le-ltb _ _ is.get.1) in
    let holds = get_holds d q at refl set head.version
    (is_opaque-here d at 1024 (length d) q.path (behind_path q) path is.path.few path_inside) last in
    let no_head = head_holds d q is head in
    let no_caller = caller_holds d q head
    (is_opaque-here d 28 400 (length d) (credential q) (from_verifier q) credential_at is.credential.few
    credential_inside)
    caller.system
    (is_opaque-here d (opaque_end d 28 + 4) 400 (length d) q.verifier (from_path q) verifier is.verifier.few
    verifier_inside) in
    record {
      start = at + 4;
      call = asked d no_head no_caller (arguments_hold d holds)
          ∙ get_is d q at refl set head.version head.xid caller.caller path.len last;
      path = text_here d (at + 4) q.path.text (q.path.padding ++ behind_path q) path.body;
    }
