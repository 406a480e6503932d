use Rattle.std.proofs.Common.{arith}
use Rattle.std.proofs.lemmas.Result.{err_from_is_err_and}
use Rattle.quota_pages.proofs.UsedLemmas.{shown_over-lends}
use Rattle.tree_change.proofs.ChangeFaultLemmas.{of_chain}
use Rattle.tree_change.proofs.RemovedLemmas.{entering_no_tree, enters_tree}
use Rattle.tree_change.proofs.BesideLemmas.{beside_entered}
use Rattle.quota_pages.specs.Pages.{pages_of}
use Rattle.free_chains.proofs.RoomLemmas.{enter_room}
use Rattle.tree_change.proofs.removing.enter_list.Goals as goal

pub enter_entry_list-requires : goal.enter_entry_list-requires
enter_entry_list-requires g c =
    λ inside. enter_room (pages_of c.args.pages.now) c.args.block c.args.heads.now.first c.requires.room

pub returns-in_err-enter_entry_list-clause-refused :
    goal.returns-in_err-enter_entry_list-clause-refused
returns-in_err-enter_entry_list-clause-refused g c =
    let p = err_from_is_err_and c.from_residual.result c.from_residual.ensures.1 in
    rw (p.1, p.2) (of_chain _ _ _ _ _ _ _
    (λ number out is known format. entering_no_tree format _ c.args.heads.now (omega (arith, out, is)))
    c.in_err-enter_entry_list.ensures.refused)

pub returns-clause-entered : goal.returns-clause-entered
returns-clause-entered g c = λ known format.
    let enters = c.in_ok-enter_entry_list.ensures in
    enters_tree format c.args.block _ _ c.args.heads.now _ enters.head (shown_over-lends enters.lends)
    (enters.entered known)

pub returns-clause-beside : goal.returns-clause-beside
returns-clause-beside g c = beside_entered c.args.block c.args.heads.now.first c.in_ok-enter_entry_list.ensures.lends
