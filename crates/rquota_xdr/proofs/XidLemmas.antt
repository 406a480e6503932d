-- What a datagram asks has the datagram's xid.
use Rattle.std.proofs.Common.{◌≡◌, ℕ, Bool, true, false, cond, List, Option, None, Some, refl, arith}
use Rattle.std.specs.Prelude.{unwrap_or}
use Rattle.std.specs.List.{AllByRecursion}
use Rattle.rquota_xdr.specs.Call.{IsAskedWith, accepted, argument_rows, call_of, caller_rows, credential_rows}
use Rattle.rquota_xdr.specs.Call.{head_rows, rows_of, verifier_rows}
use Rattle.rquota_xdr.specs.Fields.{is_set, xid_of}
use Rattle.rquota_xdr.specs.Rows.{first_failing}
use Rattle.rquota_xdr.specs.declared.call.Call.{Call}
use Rattle.rquota_xdr.proofs.RowLemmas.{first_failing_answer}

found_or : (P : Call → Type 0) (found : Option Call) (other : Call) → ((answer : Call) → found ≡ Some answer → P answer)
    → P other → P (unwrap_or found other)
found_or P None other some none = none
found_or P (Some answer) other some none = some answer refl

either : (P : Call → Type 0) (test : Bool) (one two : Call) → P one → P two → P (cond test one two)
either P true one two first second = first
either P false one two first second = second

accepted_with : (datagram : List ℕ) → IsAskedWith (xid_of datagram) (accepted datagram)
unfolding accepted
accepted_with datagram = either (IsAskedWith (xid_of datagram)) (is_set datagram) _ _ refl refl

answers_with : (datagram : List ℕ) → AllByRecursion (λ row. IsAskedWith (xid_of datagram) row.answer) (rows_of datagram)
unfolding head_rows credential_rows verifier_rows caller_rows argument_rows
answers_with datagram = (
  tt,
  (
    tt,
    (
      refl,
      (
        refl,
        (
          refl,
          (
            refl,
            (
              refl,
              (
                (refl, omega arith),
                ((refl, omega arith), ((refl, omega arith), ((refl, omega arith), ((refl, omega arith), (refl, tt))))),
              ),
            ),
          ),
        ),
      ),
    ),
  ),
)

-- its xid is that of the datagram
pub asked_with : (datagram : List ℕ) → IsAskedWith (xid_of datagram) (call_of datagram)
asked_with datagram =
    found_or (IsAskedWith (xid_of datagram)) (first_failing (rows_of datagram)) (accepted datagram)
    (λ answer fails. first_failing_answer (IsAskedWith (xid_of datagram)) (rows_of datagram) answer
    (answers_with datagram) fails) (accepted_with datagram)
