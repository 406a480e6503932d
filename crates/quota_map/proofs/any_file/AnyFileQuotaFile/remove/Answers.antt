use Rattle.opened_file.specs.FileChange.{Remove}
use Rattle.opened_file.proofs.CommittedLemmas.{once_then}
use Rattle.quota_map.proofs.AnyLemmas.{flat_changes, flat_in_place, flat_stands_changed, tree_changes, tree_in_place}
use Rattle.quota_map.proofs.AnyLemmas.{tree_stands_changed}
use Rattle.quota_map.proofs.any_file.AnyFileQuotaFile.remove.Goals as goal

pub returns-in-V1 : goal.returns-in-V1
returns-in-V1 g c = record {
  in_place = flat_in_place c.args.self.now c.in-V1.file g.S.Store.tells _ _ _ c.in-V1.is c.remove.ensures.in_place;
  never_full = c.remove.ensures.never_full;
  changes = flat_changes c.args.self.now c.in-V1.file c.remove.new.self g.S.Store.tells _ _ (Remove c.args.id) _
      c.in-V1.is c.remove.ensures.changes;
  commits = once_then g.S.Store.commits _ _ _ _ _ c.remove.ensures.commits
      (flat_stands_changed c.args.self.now c.in-V1.file g.S.Store.tells (g.S.Store.seen c.args.store.now).files
      (g.S.Store.seen c.remove.new.store).files (Remove c.args.id) c.in-V1.is);
}

pub returns-in-Tree : goal.returns-in-Tree
returns-in-Tree g c = record {
  in_place =
      tree_in_place c.args.self.now c.in-Tree.file g.S.Store.tells _ _ _ c.in-Tree.is c.remove-in-Tree.ensures.in_place;
  never_full = c.remove-in-Tree.ensures.never_full;
  changes = tree_changes c.args.self.now c.in-Tree.file c.remove-in-Tree.new.self g.S.Store.tells _ _ (Remove c.args.id)
      _ c.in-Tree.is c.in-Tree.file.tree c.remove-in-Tree.ensures.changes;
  commits = once_then g.S.Store.commits _ _ _ _ _ c.remove-in-Tree.ensures.commits
      (tree_stands_changed c.args.self.now c.in-Tree.file g.S.Store.tells (g.S.Store.seen c.args.store.now).files
      (g.S.Store.seen c.remove-in-Tree.new.store).files (Remove c.args.id) c.in-Tree.is c.in-Tree.file.tree);
}
