use Rattle.std.proofs.Common.{inl, arith}
use Rattle.std.proofs.lemmas.Result.{err_from_is_err_and}
use Rattle.tree_change.proofs.ChangeFaultLemmas.{of_chain}
use Rattle.tree_change.proofs.ListLeftLemmas.{leaving_no_tree, left_tree}
use Rattle.tree_change.proofs.BesideLemmas.{beside_left}
use Rattle.tree_change.proofs.removing.leave_list.Goals as goal

pub leave_entry_list-requires : goal.leave_entry_list-requires
leave_entry_list-requires g c = inl (omega (arith, c.requires.room))

pub returns-in_err-leave_entry_list-clause-refused :
    goal.returns-in_err-leave_entry_list-clause-refused
returns-in_err-leave_entry_list-clause-refused g c =
    let p = err_from_is_err_and c.from_residual.result c.from_residual.ensures.1 in
    rw (p.1, p.2) (of_chain _ _ _ _ _ _ _
    (λ number out stops known format. leaving_no_tree format _ c.args.heads.now c.args.block number out (stops known))
    c.in_err-leave_entry_list.ensures.refused)

pub returns-clause-left : goal.returns-clause-left
returns-clause-left g c = λ known format.
    let left = c.in_ok-leave_entry_list.ensures in
    left_tree g.S.Store.tells c.args.block _ _ c.args.heads.now _ _ _ format left.taken_out known (left.left known)

pub returns-clause-beside : goal.returns-clause-beside
returns-clause-beside g c = beside_left c.args.block c.args.heads.now.first c.in_ok-leave_entry_list.ensures.taken_out
