use Rattle.std.proofs.Common.{◌∙◌}
use Rattle.tree_file.proofs.LooksUpLemmas.{held_known, held_of, held_stands, looks_up-failed, named_defect}
use Rattle.tree_file.proofs.opened_tree.TreeFileQuotaFile.get.Goals as goal

pub returns-in-Ok-clause-found : goal.returns-in-Ok-clause-found
returns-in-Ok-clause-found g c = λ value held.
    let was = c.args.self.now in
    let seen = g.S.Store.seen c.args.store.now in
    c.in-Ok.ensures.found
    (held_known g.S.Store.tells seen was.pages was.header was.coming was.limit value was.empty held)
    (held_of g.S.Store.tells seen was.pages was.header was.coming was.limit value was.empty held)
    value (held_stands g.S.Store.tells seen was.pages was.header was.coming was.limit value was.empty held)

pub returns-in-Err-clause-looks : goal.returns-in-Err-clause-looks
returns-in-Err-clause-looks g c =
    let was = c.args.self.now in
    let up = c.in-Err.ensures.looked in
    rw c.refused_look_up.ensures.same (rw c.look_up_fault.ensures
    (looks_up-failed g.S.Store.tells (g.S.Store.seen c.args.store.now) (g.S.Store.seen c.record_of-found.new.store)
    was.pages c.record_of-found.new.pages c.clear.new.self
    was.opened c.refused_look_up.new.self was.header was.coming was.coming was.limit 5 was.empty
    (c.clear.ensures.name ∙ up.name) up.reads (λ value held. held.next)
    c.in-Err.fault c.in-Err.ensures.refused up.leaves (c.refused_look_up.ensures.counted _ _ _)))

pub returns-in-Err-clause-damage : goal.returns-in-Err-clause-damage
returns-in-Err-clause-damage g c =
    let was = c.args.self.now in
    rw c.refused_look_up.ensures.same (rw c.look_up_fault.ensures
    (named_defect g.S.Store.tells (g.S.Store.seen c.args.store.now) (g.S.Store.seen c.record_of-found.new.store)
    was.pages c.record_of-found.new.pages was.header was.empty c.in-Err.fault c.in-Err.ensures.refused))
