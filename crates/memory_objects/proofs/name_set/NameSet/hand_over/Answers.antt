use Rattle.std.proofs.Common.{true, false, sym, ap, ◌∙◌}
use Rattle.memory_objects.specs.NameSet.{names_in}
use Rattle.outside.proofs.UnsyncedLemmas.{handed}
use Rattle.memory_objects.proofs.name_set.NameSet.hand_over.Goals as goal
use Rattle.memory_objects.proofs.name_set.NameSet.hand_over.Goals.{then-contains+in_ok-add, else-contains}

pub returns-clause-ok : goal.returns-clause-ok
returns-clause-ok c =
    elim c.if-contains.branch [
      | then-contains+in_ok-add w ↦ handed (names_in c.args.self.now.names.items) _ _ c.args.from.now c.args.to.now true
          (sym c.contains.ensures ∙ w.if-contains.true)
          (ap (λ n. names_in n.names.items) w.self-is ∙ w.in_ok-add.ensures.ok) c.remove-2.ensures c.requires
      | else-contains w ↦ handed (names_in c.args.self.now.names.items) _ _ c.args.from.now c.args.to.now false
          (sym c.contains.ensures ∙ w.if-contains.false) (ap (λ n. names_in n.names.items) w.self-is ∙ w.remove.ensures)
          c.remove-2.ensures c.requires
    ]
