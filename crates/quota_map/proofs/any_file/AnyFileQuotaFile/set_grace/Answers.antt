use Rattle.opened_file.specs.FileChange.{SetGrace}
use Rattle.opened_file.proofs.CommittedLemmas.{once_then}
use Rattle.quota_map.proofs.AnyLemmas.{flat_changes, flat_in_place, flat_stands_changed, tree_changes, tree_in_place}
use Rattle.quota_map.proofs.AnyLemmas.{tree_stands_changed}
use Rattle.quota_map.proofs.any_file.AnyFileQuotaFile.set_grace.Goals as goal

pub returns-in-V1 : goal.returns-in-V1
returns-in-V1 g c = record {
  in_place = flat_in_place c.args.self.now c.in-V1.file g.S.Store.tells _ _ _ c.in-V1.is c.set_grace.ensures.in_place;
  changes = flat_changes c.args.self.now c.in-V1.file c.set_grace.new.self g.S.Store.tells _ _ (SetGrace c.args.grace) _
      c.in-V1.is c.set_grace.ensures.changes;
  commits = once_then g.S.Store.commits _ _ _ _ _ c.set_grace.ensures.commits
      (flat_stands_changed c.args.self.now c.in-V1.file g.S.Store.tells (g.S.Store.seen c.args.store.now).files
      (g.S.Store.seen c.set_grace.new.store).files (SetGrace c.args.grace) c.in-V1.is);
}

pub returns-in-Tree : goal.returns-in-Tree
returns-in-Tree g c = record {
  in_place = tree_in_place c.args.self.now c.in-Tree.file g.S.Store.tells _ _ _ c.in-Tree.is
      c.set_grace-in-Tree.ensures.in_place;
  changes = tree_changes c.args.self.now c.in-Tree.file c.set_grace-in-Tree.new.self g.S.Store.tells _ _
      (SetGrace c.args.grace) _ c.in-Tree.is c.in-Tree.file.tree c.set_grace-in-Tree.ensures.changes;
  commits = once_then g.S.Store.commits _ _ _ _ _ c.set_grace-in-Tree.ensures.commits
      (tree_stands_changed c.args.self.now c.in-Tree.file g.S.Store.tells (g.S.Store.seen c.args.store.now).files
      (g.S.Store.seen c.set_grace-in-Tree.new.store).files (SetGrace c.args.grace) c.in-Tree.is c.in-Tree.file.tree);
}
