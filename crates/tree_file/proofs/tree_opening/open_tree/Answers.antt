use Rattle.std.proofs.Common.{◌∙◌, ℕ, List, ap, sym, subst, arith}
use Rattle.std.proofs.lemmas.Result.{err_from_is_err_and}
use Rattle.opened_file.specs.FileUse.{seen_in}
use Rattle.outside.specs.World.{World}
use Rattle.tree_file.specs.Opened.{HoldsTree}
use Rattle.tree_file.proofs.OpenLemmas.{opened_holds}
use Rattle.tree_file.proofs.tree_opening.open_tree.Goals as goal

pub returns-clause-held : goal.returns-clause-held
returns-clause-held g c = λ told value view.
    subst (λ (n : List ℕ). HoldsTree g.S.Store.tells ((g.S.Store.seen c.check_tree.new.store).files n)
    c.in_ok-header.header c.none.result c.args.limit value) (sym (c.new.ensures.name ∙ c.in-Ok.ensures.ok))
    (opened_holds g.S.Store.tells _ _ c.args.kind c.args.format c.args.limit c.in_ok-header.header c.none.result value
    (c.in_ok-header.ensures.numbers told)
    (ap (λ (files : World). files c.args.name.now) c.in_ok-header.ensures.leaves.files) told c.none.ensures.holds view)

pub returns-clause-fresh : goal.returns-clause-fresh
returns-clause-fresh g c =
    ap (λ (n : List ℕ). seen_in c.new-2.result n c.in_ok-header.header.format c.args.limit)
    (c.new.ensures.name ∙ c.in-Ok.ensures.ok)
    ∙ c.new-2.ensures c.args.name.now c.in_ok-header.header.format c.args.limit
