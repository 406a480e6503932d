-- The first failing row of two tables, one after the other.
use Rattle.std.proofs.Common.{◌≡◌, ℕ, Bool, true, false, cond, List, [], ◌∷◌, ◌++◌, Option, Some, None, refl, subst}
use Rattle.std.specs.List.{AllByRecursion}
use Rattle.rquota_xdr.specs.Call.{HasPathWithin, head_rows}
use Rattle.rquota_xdr.specs.declared.call.Call.{Call}
use Rattle.rquota_xdr.specs.Rows.{Row, first_failing}

fails_too : (holds : Bool) (told answer : Call) (rest longer : Option Call)
    → (rest ≡ Some answer → longer ≡ Some answer) → cond holds rest (Some told) ≡ Some answer
    → cond holds longer (Some told) ≡ Some answer
fails_too true told answer rest longer more fails = more fails
fails_too false told answer rest longer more fails = fails

holds_too : (holds : Bool) (told : Call) (rest longer other : Option Call) → (rest ≡ None → longer ≡ other)
    → cond holds rest (Some told) ≡ None → cond holds longer (Some told) ≡ other
holds_too true told rest longer other more all = more all
holds_too false told rest longer other more all = absurd cc

-- it is that of the first table, where one fails there
pub first_failing_before : (rows others : List Row) (answer : Call) → first_failing rows ≡ Some answer
    → first_failing (rows ++ others) ≡ Some answer
first_failing_before [] others answer fails = absurd cc
first_failing_before (row ∷ rows) others answer fails =
    fails_too row.holds row.answer answer (first_failing rows) (first_failing (rows ++ others))
    (first_failing_before rows others answer) fails

-- and otherwise that of the second
pub first_failing_behind : (rows others : List Row) → first_failing rows ≡ None
    → first_failing (rows ++ others) ≡ first_failing others
first_failing_behind [] others all = refl
first_failing_behind (row ∷ rows) others all =
    holds_too row.holds row.answer (first_failing rows) (first_failing (rows ++ others)) (first_failing others)
    (first_failing_behind rows others) all

-- both
pub ruleset two_tables = (first_failing_before, first_failing_behind)

answer_of : (P : Call → Type 0) (holds : Bool) (told answer : Call) (rest : Option Call) → P told
    → (rest ≡ Some answer → P answer) → cond holds rest (Some told) ≡ Some answer → P answer
answer_of P true told answer rest is more fails = more fails
answer_of P false told answer rest is more fails = let same : told ≡ answer = cc in subst P same is

-- what holds of the answer of each row holds of that of the first that fails
pub first_failing_answer : (P : Call → Type 0) (rows : List Row) (answer : Call)
    → AllByRecursion (λ row. P row.answer) rows → first_failing rows ≡ Some answer → P answer
first_failing_answer P [] answer all fails = absurd cc
first_failing_answer P (row ∷ rows) answer all fails =
    answer_of P row.holds row.answer answer (first_failing rows) all.0 (first_failing_answer P rows answer all.1) fails

-- no answer of a head is a call for limits
pub head_answer : (datagram : List ℕ) (len : ℕ) (answer : Call) → first_failing (head_rows datagram) ≡ Some answer
    → HasPathWithin len answer
unfolding head_rows
head_answer datagram len answer fails =
    first_failing_answer (HasPathWithin len) (head_rows datagram) answer
    (tt, (tt, (tt, (tt, (tt, (tt, (tt, tt))))))) fails

-- no row fails where each holds
pub all_hold : (rows : List Row) → AllByRecursion (λ row. row.holds ≡ true) rows → first_failing rows ≡ None
all_hold [] all = refl
all_hold (row ∷ rows) all = let holds = all.0 in rw holds (all_hold rows all.1)
