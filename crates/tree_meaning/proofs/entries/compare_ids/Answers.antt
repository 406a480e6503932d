use Rattle.std.proofs.Common.{◌≡◌, ℕ, List, refl, ap, inl, inr, arith}
use Rattle.std.specs.Cmp.Lexicographic.{same_text}
use Rattle.std.proofs.lemmas.Bool.{cases_lt}
use Rattle.quota_types.specs.Times.{times}
use Rattle.tree_meaning.proofs.entries.compare_ids.Goals as goal

pub returns-clause-same : goal.returns-clause-same
returns-clause-same c = record {
  count = refl;
  one = λ id leads. omega (arith, c.in_default-first_double.ensures id, c.in_default.ensures id leads);
  none = λ id stray. elim (cases_lt 0 (times c.args.used.now id)) [
    | inl used ↦ absurd (omega (arith, c.in_default-first_not_in.ensures id used, stray))
    | inr unused ↦ omega arith
  ];
}

pub returns-then-ascends-clause-same : goal.returns-then-ascends-clause-same
returns-then-ascends-clause-same c =
    let same : c.args.used.now ≡ c.args.ids.now = same_text c.args.used.now c.args.ids.now c.if-eq.ensures in
    let alike : (id : ℕ) → times c.args.used.now id ≡ times c.args.ids.now id =
    λ id. ap (λ (xs : List ℕ). times xs id) same in
    record {
      count = refl;
      one = λ id leads. omega (arith, c.if-ascends.ensures id, alike id, leads);
      none = λ id stray. omega (arith, alike id, stray);
    }
