use Rattle.std.proofs.Common.{◌≡◌, ℕ, ◌+◌, List, ◌∷◌, drop, sym, subst, arith}
use Rattle.std.proofs.lemmas.Grind.{common_steps}
use Rattle.quota_types.specs.declared.record.Rec.{Rec}
use Rattle.tree_file.specs.Coming.{AreFit}
use Rattle.tree_file.proofs.coming.Coming.next.Goals as goal

pub returns-clause-fits : goal.returns-clause-fits
returns-clause-fits c = λ format fits.
    let split : drop c.args.self.now.taken c.args.self.now.found.items
    ≡ c.in_ok-id.field-0.now ∷ drop (c.args.self.now.taken + 1) c.args.self.now.found.items =
    grind (arith, common_steps) in
    subst (λ (after : ℕ). AreFit format after
    (c.in_ok-id.field-0.now ∷ drop (c.args.self.now.taken + 1) c.args.self.now.found.items)) (sym c.if-after-self.false)
    (subst (λ (left : List (ℕ × Rec)). AreFit format c.args.self.now.after left) split fits)
