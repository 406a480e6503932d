use Rattle.std.proofs.Common.{◌≡◌, true, sym, subst}
use Rattle.quota_types.specs.Format.{IsTreeFormat, is_flat}
use Rattle.quota_map.specs.AnyFile.{any_seen}
use Rattle.quota_map.specs.declared.any_file.AnyFile.{AnyFile}
use Rattle.quota_map.proofs.AnyLemmas.{flat_get_few, flat_looks, tree_get_few, tree_looks}
use Rattle.quota_map.proofs.any_file.AnyFileQuotaFile.get.Goals as goal

pub returns-in-V1-clause-looks : goal.returns-in-V1-clause-looks
returns-in-V1-clause-looks g c =
    flat_looks c.args.self.now c.in-V1.file c.get.new.self g.S.Store.tells _ _ 1 _ c.get.result c.in-V1.is
    (flat_get_few (any_seen c.args.self.now).format
    (subst (λ (f : AnyFile). is_flat (any_seen f).format ≡ true) (sym c.in-V1.is) c.in-V1.file.flat))
    c.get.ensures.looks

pub returns-in-Tree-clause-looks : goal.returns-in-Tree-clause-looks
returns-in-Tree-clause-looks g c =
    tree_looks c.args.self.now c.in-Tree.file c.get-in-Tree.new.self g.S.Store.tells _ _ 5 _ c.get-in-Tree.result
    c.in-Tree.is c.in-Tree.file.tree
    (tree_get_few (any_seen c.args.self.now).format
    (subst (λ (f : AnyFile). IsTreeFormat (any_seen f).format) (sym c.in-Tree.is) c.in-Tree.file.tree))
    c.get-in-Tree.ensures.looks
