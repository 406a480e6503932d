use Rattle.std.proofs.Common.{rules}
use Rattle.std.proofs.lemmas.List.Sorted.{IsNonDecreasingBy-from_sort_by_key, answers_always}
use Rattle.quota_radix.specs.declared.tree_path.TreePath.{TreePath}
use Rattle.tree_check.proofs.ByBlockLemmas.{same_ids}
use Rattle.tree_check.proofs.groups.sort_by_block.Goals as goal

pub returns-clause-by_block : goal.returns-clause-by_block
returns-clause-by_block c =
    IsNonDecreasingBy-from_sort_by_key (λ (leaf : TreePath). leaf.block) _ c.in_ok-sort_by_key.ensures.sorted
    (λ a r q k. search rules)

pub returns-clause-same : goal.returns-clause-same
returns-clause-same c =
    λ block. same_ids _ _ block
    (c.sort_by_key.ensures.stable (λ (leaf : TreePath). leaf.block) (answers_always _ _ _ (λ f a r g h. search rules)))
