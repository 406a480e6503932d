use Rattle.std.proofs.Common.{ℕ, ◌^◌, ◌<◌, ◌++◌, ◌∷◌, [], ◌∙◌, List, take, get_or, sym, ap, subst, append_assoc}
use Rattle.std.proofs.lemmas.List.{map_more}
use Rattle.quota_types.specs.declared.record.Entry.{Entry}
use Rattle.quota_radix.specs.declared.tree_path.TreePath.{TreePath}
use Rattle.tree_build.specs.NewFile.{AreBelow, leaves_in}
use Rattle.tree_build.proofs.DataBlockLemmas.{no_entry}
use Rattle.quota_radix.proofs.PathLemmas.{each-append}
use Rattle.tree_build.proofs.new_data.add_leaves.Goals as goal

pub loop-entry-preserved : goal.loop-entry-preserved
loop-entry-preserved c =
    let so_far = c.loop-entry.invariant in
    let id : ℕ = (get_or c.args.entries.now c.loop-entry.entry-index no_entry).id in
    let leaf : TreePath = record { number = id; block = c.args.block } in
    let first : List TreePath =
    leaves_in (record { block = c.args.block; entries = take c.loop-entry.entry-index c.args.entries.now }) in
    let items =
    c.in_ok-push.ensures.items ∙ ap (λ (p : TreePath). c.loop-entry.leaves.items ++ p ∷ []) c.leaf.ensures.value in
    let below : id < 2 ^ 32 = subst (λ (p : TreePath). p.number < 2 ^ 32) c.leaf.ensures.value c.leaf.ensures.below in
    record {
      leaves =
          items ∙ ap (λ (ps : List TreePath). ps ++ leaf ∷ []) so_far.leaves
          ∙ append_assoc c.args.leaves.now.items first (leaf ∷ [])
          ∙ ap (λ (ps : List TreePath). c.args.leaves.now.items ++ ps)
          (sym (map_more (λ (entry : Entry). record { number = entry.id; block = c.args.block }) c.args.entries.now
          c.loop-entry.entry-index no_entry c.loop-entry-test.true));
      below = λ before. subst (AreBelow (2 ^ 32)) (sym items)
          (each-append (λ (p : TreePath). p.number < 2 ^ 32) c.loop-entry.leaves.items (leaf ∷ [])
          (so_far.below before) (below, tt));
    }
