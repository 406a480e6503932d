use Rattle.std.proofs.Common.{◌+◌, ◌∙◌, List, ap, sym, subst}
use Rattle.quota_radix.specs.declared.tree_path.TreePath.{TreePath}
use Rattle.quota_radix.specs.Tree.{numbers_of}
use Rattle.tree_check.specs.Groups.{AreLeftFrom}
use Rattle.tree_check.proofs.ByBlockLemmas.{left_behind, taken}
use Rattle.tree_check.proofs.groups.part.Goals as goal

pub returns-clause-here : goal.returns-clause-here
returns-clause-here c = λ leaves left.
    ap numbers_of c.split_at.ensures.front
    ∙ taken leaves c.args.rest.now c.args.block c.count_of.result left c.count_of.ensures.those c.count_of.ensures.other

pub returns-clause-behind : goal.returns-clause-behind
returns-clause-behind c = λ leaves left.
    subst (λ (rest : List TreePath). AreLeftFrom leaves (c.args.block + 1) rest) (sym c.split_at.ensures.back)
    (left_behind leaves c.args.rest.now c.args.block c.count_of.result left c.count_of.ensures.those
    c.count_of.ensures.other)
