use Rattle.std.proofs.Common.{◌≡◌, ◌/◌, ◌++◌, ◌∙◌, [], ◌∷◌, length, take, drop, List, ℕ, sym, ap, subst, arith}
use Rattle.std.proofs.lemmas.List.{append-nil}
use Rattle.quota_types.proofs.AscendsLemmas.{Ascends-of}
use Rattle.quota_radix.specs.declared.tree_path.TreePath.{TreePath}
use Rattle.quota_radix.specs.Tree.{numbers_of}
use Rattle.tree_build.proofs.LevelAddedLemmas.{AreParted, HasLevel, level_all, level_more, level_none, parted}
use Rattle.tree_build.proofs.TreeBlockLemmas.{no_path}
use Rattle.tree_build.proofs.new_tree.add_level.Goals as goal

pub loop-first-init : goal.loop-first-init
loop-first-init c = record {
  blocks = omega (arith, ap length c.new-parents.ensures.items);
  level =
      subst (λ (ps : List TreePath). HasLevel c.args.children.now c.args.file.now.blocks c.args.file.now.bytes.items
      c.args.file.now.bytes.items ps c.args.children.now)
      (sym c.new-parents.ensures.items)
      (level_none c.args.children.now c.args.file.now.blocks c.args.file.now.bytes.items
      (Ascends-of (numbers_of c.args.children.now) c.requires.ascending));
}

pub loop-first-preserved : goal.loop-first-preserved
loop-first-preserved c =
    let so_far = c.loop-first.invariant in
    let rest : List TreePath = c.loop-first.rest.now in
    let number : ℕ = c.in-Some.first.now.number / 256 in
    let siblings : List TreePath = c.split_at.result.0.now in
    let found = c.in-Some.ensures.item.3 in
    let by_count : AreParted number rest (take c.count_siblings.result rest) (drop c.count_siblings.result rest) =
    parted rest c.count_siblings.result number found.0 (ap (λ (p : TreePath). p.number / 256) (found.1 no_path))
    so_far.level.ascends c.count_siblings.ensures.same c.count_siblings.ensures.other in
    let is_parted : AreParted number rest siblings c.split_at.result.1.now =
    subst (λ (ps : List TreePath). AreParted number rest ps c.split_at.result.1.now) (sym c.split_at.ensures.front)
    (subst (λ (ps : List TreePath). AreParted number rest (take c.count_siblings.result rest) ps)
    (sym c.split_at.ensures.back) by_count) in
    record {
      blocks = omega (arith, so_far.blocks, c.in_ok-block.ensures.blocks, c.in_ok-push.ensures.len);
      level =
          level_more c.args.children.now c.args.file.now.blocks c.args.file.now.bytes.items
          c.loop-first.file.bytes.items c.append.new.self.bytes.items c.tree_block.result
          c.loop-first.parents.items c.push.new.self.items rest siblings c.split_at.result.1.now number
          c.loop-first.file.blocks
          (omega arith) so_far.blocks (omega arith) c.in_ok-block.ensures.bytes
          (c.in_ok-push.ensures.items
          ∙ ap (λ (k : ℕ). c.loop-first.parents.items ++ record { number = number; block = k } ∷ [])
          c.in_ok-block.ensures.number)
          is_parted c.tree_block.ensures.onward c.tree_block.ensures.inside so_far.level;
    }

pub returns-clause-level : goal.returns-clause-level
returns-clause-level c = λ blocks lead.
    let none : length c.loop-first.rest.now ≡ 0 = omega (arith, c.in_default.ensures.item.3) in
    let so_far = level_all c.args.children.now c.args.file.now.blocks c.args.file.now.bytes.items
    c.loop-first.file.bytes.items c.loop-first.parents.items c.loop-first.rest.now none c.loop-first.invariant.level in
    record { onward = sym (append-nil _) ∙ so_far.onward blocks lead; full = so_far.full blocks lead }
