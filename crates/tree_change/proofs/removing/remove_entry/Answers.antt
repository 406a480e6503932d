use Rattle.std.proofs.Common.{ℕ, List, subst, arith}
use Rattle.std.proofs.lemmas.Result.{IfErr-weaker, err_from_is_err_and, on_ok_weaker}
use Rattle.quota_pages.specs.Used.{shown_over}
use Rattle.tree_change.specs.declared.clearing.Cleared.{Cleared}
use Rattle.tree_change.specs.Clears.{LosesRecord}
use Rattle.tree_change.proofs.ChangeFaultLemmas.{of_later}
use Rattle.tree_change.proofs.RefusedLemmas.{awaited_no_tree}
use Rattle.tree_change.proofs.RemovedLemmas.{full_in_no_tree, last_in_no_tree, removed_last, removed_of_full}
use Rattle.tree_change.proofs.RemovedLemmas.{removed_with_room}
use Rattle.tree_change.proofs.BesideLemmas.{beside_cleared, beside_none}
use Rattle.tree_change.proofs.removing.remove_entry.Goals as goal

pub returns-in_err-clear_record-clause-refused : goal.returns-in_err-clear_record-clause-refused
returns-in_err-clear_record-clause-refused g c =
    let p = err_from_is_err_and c.from_residual.result c.from_residual.ensures.1 in
    rw (p.1, p.2) (of_later _ _ _ _ _ _ _ c.in_err-clear_record.field-0.0 (omega arith)
    (λ none known held records. awaited_no_tree held c.args.format _ c.args.heads.now records c.args.id c.args.block
    (none known)) (λ blocks limit full. full) c.in_err-clear_record.ensures.refused)

pub returns-in-Last-clause-removed : goal.returns-in-Last-clause-removed
returns-in-Last-clause-removed g c =
    let clears = c.in_ok-clear_record.ensures in
    let old : List ℕ = shown_over (g.S.Store.seen c.args.store.now) c.args.pages.now in
    let between : List ℕ = shown_over (g.S.Store.seen c.clear_record.new.store) c.clear_record.new.pages in
    on_ok_weaker c.give_up.result
    (λ after known. removed_last c.args.format c.args.id c.args.block old between c.args.heads.now
    (subst (λ (cleared : Cleared). LosesRecord c.args.format c.args.block c.args.id cleared old between) c.in-Last.is
    (clears.cleared known))
    _ c.give_up.new.heads (after (clears.lends.known known) c.args.format))
    c.give_up.ensures.given

pub returns-in-Last-clause-refused : goal.returns-in-Last-clause-refused
returns-in-Last-clause-refused g c =
    let clears = c.in_ok-clear_record.ensures in
    let old : List ℕ = shown_over (g.S.Store.seen c.args.store.now) c.args.pages.now in
    let between : List ℕ = shown_over (g.S.Store.seen c.clear_record.new.store) c.clear_record.new.pages in
    IfErr-weaker c.give_up.result _ _
    (λ fault refused. of_later _ _ _ _ _ _ _ fault clears.lends.leaves.later
    (λ wrong known. last_in_no_tree c.args.format c.args.id c.args.block old between c.args.heads.now
    (subst (λ (cleared : Cleared). LosesRecord c.args.format c.args.block c.args.id cleared old between) c.in-Last.is
    (clears.cleared known))
    (wrong (clears.lends.known known) c.args.format))
    (λ blocks limit full. full) refused)
    c.give_up.ensures.refused

pub returns-in-WasFull-clause-removed : goal.returns-in-WasFull-clause-removed
returns-in-WasFull-clause-removed g c =
    let clears = c.in_ok-clear_record.ensures in
    let old : List ℕ = shown_over (g.S.Store.seen c.args.store.now) c.args.pages.now in
    let between : List ℕ = shown_over (g.S.Store.seen c.clear_record.new.store) c.clear_record.new.pages in
    on_ok_weaker c.enter_list.result
    (λ after known. removed_of_full c.args.format c.args.id c.args.block old between c.args.heads.now
    (subst (λ (cleared : Cleared). LosesRecord c.args.format c.args.block c.args.id cleared old between) c.in-WasFull.is
    (clears.cleared known))
    _ c.enter_list.new.heads (after (clears.lends.known known) c.args.format))
    c.enter_list.ensures.entered

pub returns-in-WasFull-clause-refused : goal.returns-in-WasFull-clause-refused
returns-in-WasFull-clause-refused g c =
    let clears = c.in_ok-clear_record.ensures in
    let old : List ℕ = shown_over (g.S.Store.seen c.args.store.now) c.args.pages.now in
    let between : List ℕ = shown_over (g.S.Store.seen c.clear_record.new.store) c.clear_record.new.pages in
    IfErr-weaker c.enter_list.result _ _
    (λ fault refused. of_later _ _ _ _ _ _ _ fault clears.lends.leaves.later
    (λ wrong known. full_in_no_tree c.args.format c.args.id c.args.block old between c.args.heads.now
    (subst (λ (cleared : Cleared). LosesRecord c.args.format c.args.block c.args.id cleared old between) c.in-WasFull.is
    (clears.cleared known))
    (wrong (clears.lends.known known) c.args.format))
    (λ blocks limit full. full) refused)
    c.enter_list.ensures.refused

pub returns-in-HadRoom-clause-removed : goal.returns-in-HadRoom-clause-removed
returns-in-HadRoom-clause-removed g c = λ known.
    let clears = c.in_ok-clear_record.ensures in
    let old : List ℕ = shown_over (g.S.Store.seen c.args.store.now) c.args.pages.now in
    let between : List ℕ = shown_over (g.S.Store.seen c.clear_record.new.store) c.clear_record.new.pages in
    removed_with_room c.args.format c.args.id c.args.block old between c.args.heads.now
    (subst (λ (cleared : Cleared). LosesRecord c.args.format c.args.block c.args.id cleared old between) c.in-HadRoom.is
    (clears.cleared known))

pub returns-in-Last-clause-beside : goal.returns-in-Last-clause-beside
returns-in-Last-clause-beside g c =
    let clears = c.in_ok-clear_record.ensures in
    on_ok_weaker c.give_up.result
    (λ then. beside_cleared c.args.block c.args.heads.now.first (omega arith) clears.lends
    (λ known. (clears.cleared known).loses.links) then) c.give_up.ensures.beside

pub returns-in-WasFull-clause-beside : goal.returns-in-WasFull-clause-beside
returns-in-WasFull-clause-beside g c =
    let clears = c.in_ok-clear_record.ensures in
    on_ok_weaker c.enter_list.result
    (λ then. beside_cleared c.args.block c.args.heads.now.first (omega arith) clears.lends
    (λ known. (clears.cleared known).loses.links) then) c.enter_list.ensures.beside

pub returns-in-HadRoom-clause-beside : goal.returns-in-HadRoom-clause-beside
returns-in-HadRoom-clause-beside g c =
    beside_none c.args.block c.args.heads.now.first c.in_ok-clear_record.ensures.lends
