use Rattle.std.proofs.Common.{sym, ap, ◌∙◌}
use Rattle.set_edit.specs.Number.{limit_of}
use Rattle.set_edit.proofs.LimitLemmas.{times, limit_of-suffix, limit_of-plain}
use Rattle.set_edit.proofs.number.split_suffix.Goals as goal

pub returns-in-Some-suffix_factor : goal.returns-in-Some-suffix_factor
returns-in-Some-suffix_factor c =
    ap (limit_of c.args.blocks) c.in-Some.ensures.cases.0
    ∙ limit_of-suffix c.args.blocks c.in-Some.digits.now c.in-Some.suffix.now c.in-Some-suffix_factor.factor
    (sym c.in-Some-suffix_factor.ensures)

pub returns-in-None : goal.returns-in-None
returns-in-None c =
    ap (limit_of c.args.blocks) c.in-Some.ensures.cases.0
    ∙ limit_of-plain c.args.blocks c.in-Some.digits.now c.in-Some.suffix.now (sym c.in-None.ensures)
    ∙ ap (λ w. times w 1) (sym c.in-Some.ensures.cases.0)
