use Rattle.std.proofs.Common.{◌∙◌, List, ℕ, [], ◌∷◌, get_or, ◌++◌, ap, sym}
use Rattle.std.proofs.lemmas.List.{map_more, take_all}
use Rattle.quota_radix.specs.declared.tree_path.TreePath.{TreePath}
use Rattle.quota_radix.specs.Tree.{numbers_of}
use Rattle.tree_check.proofs.groups.list_numbers.Goals as goal

pub loop-leaf-preserved : goal.loop-leaf-preserved
loop-leaf-preserved c =
    let leaf : TreePath = get_or c.args.leaves.now c.loop-leaf.leaf-index (record { number = 0; block = 0 }) in
    c.in_ok-push.ensures.items ∙ ap (λ (ns : List ℕ). ns ++ leaf.number ∷ []) c.loop-leaf.invariant
    ∙ sym (map_more (λ (path : TreePath). path.number) c.args.leaves.now c.loop-leaf.leaf-index
    (record { number = 0; block = 0 }) c.loop-leaf-test.true)

pub returns : goal.returns
returns c =
    c.loop-leaf.invariant ∙ ap numbers_of (take_all c.loop-leaf.leaf-index c.args.leaves.now c.loop-leaf-test.false)
