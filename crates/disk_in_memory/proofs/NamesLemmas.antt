-- Names among which all are that are unsynced, as they are put there and taken out.
use Rattle.std.proofs.Common.{◌≡◌, Result, Ok, Err, OnOk, OnErr, ℕ, Bool, true, false, cond, IsTrue, List, refl, sym}
use Rattle.std.proofs.Common.{ap, subst}
use Rattle.std.specs.Prelude.{is_some}
use Rattle.std.specs.Str.{bytes_eq}
use Rattle.outside.specs.Unsynced.{AddsNone, UnsyncedNames, with_handed, with_name}
use Rattle.outside.proofs.UnsyncedLemmas.{with_name-adds_none}
use Rattle.outside.specs.World.{World}
use Rattle.disk_in_memory.specs.Unsynced.{handed_where}

put_on : (test one other a b : Bool) → (IsTrue other → IsTrue one) → (IsTrue b → IsTrue a) → IsTrue (cond test other b)
    → IsTrue (cond test one a)
put_on true one other a b first rest is = first is
put_on false one other a b first rest is = rest is

more_on : (test a b : Bool) → (IsTrue b → IsTrue a) → IsTrue b → IsTrue (cond test true a)
more_on true a b rest is = refl
more_on false a b rest is = rest is

-- one name is put among both, or taken out of both
pub adds_none-put : (names left : UnsyncedNames) (name : List ℕ) (is : Bool) → AddsNone names left
    → AddsNone (with_name names name is) (with_name left name is)
adds_none-put names left name is adds n = put_on (bytes_eq name n) is is (names n) (left n) (λ on. on) (adds n)

-- one name more
pub adds_none-more : (names left : UnsyncedNames) (name : List ℕ) → AddsNone names left
    → AddsNone (with_name names name true) left
adds_none-more names left name adds n = more_on (bytes_eq name n) (names n) (left n) (adds n)

-- one name less is left
pub adds_none-less : (names left : UnsyncedNames) (name : List ℕ) → AddsNone names left
    → AddsNone names (with_name left name false)
adds_none-less names left name adds n on = adds n (with_name-adds_none left (with_name left name false) name refl n on)

-- both hand a name over
pub adds_none-handed : (names left : UnsyncedNames) (from to : List ℕ) → AddsNone names left
    → AddsNone (with_handed names from to) (with_handed left from to)
adds_none-handed names left from to adds n =
    put_on (bytes_eq to n) (names from) (left from) (with_name names from false n) (with_name left from false n)
    (adds from) (adds_none-put names left from false adds n)

-- a name is handed over where the new one stands among the names
pub adds_none-widened : (names left : UnsyncedNames) (from to : List ℕ) → AddsNone names left
    → AddsNone (with_name names to true) (with_handed left from to)
adds_none-widened names left from to adds n =
    put_on (bytes_eq to n) true (left from) (names n) (with_name left from false n) (λ on. refl)
    (adds_none-less names left from adds n)

pub handed_where-some : (read : World) (names : UnsyncedNames) (from to : List ℕ) → is_some (read from) ≡ true
    → handed_where (is_some (read from)) names from to ≡ with_handed names from to
handed_where-some read names from to there = ap (λ (is : Bool). handed_where is names from to) there

-- a call put one more name among the names, or did not
pub adds_none-added : {A E : Type 0} (result : Result A E) (names now left : UnsyncedNames) (name : List ℕ)
    → OnOk result (now ≡ with_name names name true) → OnErr result (now ≡ names) → AddsNone names left
    → AddsNone now left
adds_none-added (Ok value) names now left name ok err adds =
    subst (λ (n : UnsyncedNames). AddsNone n left) (sym ok) (adds_none-more names left name adds)
adds_none-added (Err fault) names now left name ok err adds =
    subst (λ (n : UnsyncedNames). AddsNone n left) (sym err) adds
