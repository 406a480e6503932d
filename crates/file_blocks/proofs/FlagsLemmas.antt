-- Flags that stand for a set of blocks.
use Rattle.std.proofs.Common.{◌≡◌, ◌≢◌, MatchBool, ℕ, ◌+◌, ◌<◌, ◌≤◌, Bool, true, false, not, List, [], ◌∷◌, ◌++◌}
use Rattle.std.proofs.Common.{get_or, set, sym, ap, subst, ◌∙◌, inl, inr, arith, length-set, get_or-set_same}
use Rattle.std.proofs.Common.{get_or-set_other}
use Rattle.std.specs.Prelude.{nat_le}
use Rattle.std.proofs.lemmas.Bool.{cases_eq, le-leb, leb-true, leb-false}
use Rattle.std.proofs.lemmas.List.{get_or_default}
use Rattle.file_blocks.specs.BlockSet.{AreFlagsOf}
use Rattle.quota_types.specs.Times.{times}
use Rattle.quota_types.proofs.TimesLemmas.{times-append, times-cons-same, times-cons-other}

-- one number more at the end of a list
pub times-push-same : (xs : List ℕ) (n : ℕ) → times (xs ++ n ∷ []) n ≡ times xs n + 1
times-push-same xs n = times-append xs (n ∷ []) n ∙ ap (λ (k : ℕ). times xs n + k) (times-cons-same n [])

pub times-push-other : (xs : List ℕ) (x n : ℕ) → x ≢ n → times (xs ++ x ∷ []) n ≡ times xs n
times-push-other xs x n ne =
    times-append xs (x ∷ []) n ∙ ap (λ (k : ℕ). times xs n + k) (times-cons-other x [] n ne) ∙ omega arith

-- a new block is put into the set
pub flags_more : (blocks block : ℕ) (flags : List Bool) (numbers : List ℕ) → AreFlagsOf blocks flags numbers
    → block < blocks
    → times numbers block ≡ 0 → AreFlagsOf blocks (set flags block true) (numbers ++ block ∷ [])
flags_more blocks block flags numbers are low none = record {
  len = length-set flags block true ∙ are.len;
  each = λ number below. elim (cases_eq block number) [
    | inl same ↦ ap (λ (n : ℕ). get_or (set flags block true) n false) (sym same)
        ∙ get_or-set_same flags block true false (omega (arith, are.len))
        ∙ sym (le-leb 1 (times (numbers ++ block ∷ []) number)
        (subst (λ (n : ℕ). 1 ≤ times (numbers ++ block ∷ []) n) same (omega (arith, times-push-same numbers block))))
    | inr other ↦ get_or-set_other flags block number true false (λ e. other (sym e)) ∙ are.each number below
        ∙ ap (λ (k : ℕ). nat_le 1 k) (sym (times-push-other numbers block number other))
  ];
  distinct = λ number. elim (cases_eq block number) [
    | inl same ↦
        subst (λ (n : ℕ). times (numbers ++ block ∷ []) n ≤ 1) same (omega (arith, times-push-same numbers block, none))
    | inr other ↦ omega (arith, times-push-other numbers block number other, are.distinct number)
  ];
  inside = λ number stands. elim (cases_eq block number) [
    | inl same ↦ omega (arith, same)
    | inr other ↦ are.inside number (omega (arith, stands, times-push-other numbers block number other))
  ];
}

-- what a flag says of a block that is to be put into the set
pub flags_insert : (blocks block : ℕ) (flags : List Bool) (numbers : List ℕ) (flag : Bool)
    → flag ≡ get_or flags block flag
    → AreFlagsOf blocks flags numbers → block < blocks
    → MatchBool (not flag)
    (AreFlagsOf blocks (set flags block true) (numbers ++ block ∷ []) × (times numbers block ≡ 0))
    (1 ≤ times numbers block)
flags_insert blocks block flags numbers true is are low =
    leb-true 1 (times numbers block)
    (sym (are.each block low) ∙ get_or_default flags block false true (omega (arith, are.len)) ∙ sym is)
flags_insert blocks block flags numbers false is are low =
    let few = leb-false 1 (times numbers block) (sym (are.each block low) ∙ sym is) in
    let none : times numbers block ≡ 0 = omega (arith, few) in
    (flags_more blocks block flags numbers are low none, none)
