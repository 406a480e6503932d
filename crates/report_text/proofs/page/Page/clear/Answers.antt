use Rattle.std.proofs.Common.{List, ℕ, ◌++◌, drop, ap, ◌∙◌, arith}
use Rattle.report_text.proofs.PageLemmas.{all_spaces}
use Rattle.report_text.proofs.page.Page.clear.Goals as goal

pub invariant_of-self : goal.invariant_of-self
invariant_of-self c = (
  omega arith,
  ap (λ (front : List ℕ). front ++ drop c.self.inside.len c.self.inside.bytes) (c.fill.ensures.after (λ y is. is))
      ∙ all_spaces _ _ _ _ c.self.told c.self.invariant.0 c.self.view_is c.self.invariant.1,
)
