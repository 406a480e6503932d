use Rattle.std.proofs.Common.{◌+◌, ◌≤◌, IfOk, sym, subst}
use Rattle.opened_file.specs.Passing.{first_after, passed_up_to}
use Rattle.quota_value.specs.QuotaValue.{QuotaValue}
use Rattle.quota_value.specs.NextRecord.{IsNextAfter}
use Rattle.quota_types.specs.Format.{IsTreeFormat}
use Rattle.quota_v1.specs.Opened.{most_next_reads}
use Rattle.quota_map.proofs.AnyLemmas.{flat_looks, flat_next_few, tree_looks, tree_next_few}
use Rattle.quota_map.proofs.PassingLemmas.{flat_passing, tree_passing}
use Rattle.quota_map.specs.AnyFile.{HoldsAny, any_next_reads, any_passing_reads, any_seen}
use Rattle.quota_map.specs.declared.any_file.AnyFile.{AnyFile}
use Rattle.quota_map.specs.declared.any_file.AnyFile.TheVariants.{V1, Tree}
use Rattle.quota_map.proofs.any_file.AnyFileQuotaFile.next_after.Goals as goal

pub returns-in-V1-clause-looks : goal.returns-in-V1-clause-looks
returns-in-V1-clause-looks g c =
    flat_looks c.args.self.now c.in-V1.file c.next_after.new.self g.S.Store.tells _ _
    (most_next_reads c.in-V1.file.format) _ c.next_after.result c.in-V1.is
    (subst (λ (f : AnyFile). most_next_reads c.in-V1.file.format
    ≤ any_next_reads (any_seen f) ((g.S.Store.seen c.args.store.now).files (any_seen f).name)) (sym c.in-V1.is)
    (flat_next_few (any_seen (V1 c.in-V1.file)) _ c.in-V1.file.flat)) c.next_after.ensures.looks

pub returns-in-Tree-clause-looks : goal.returns-in-Tree-clause-looks
returns-in-Tree-clause-looks g c =
    tree_looks c.args.self.now c.in-Tree.file c.next_after-in-Tree.new.self g.S.Store.tells _ _ 8 _
    c.next_after-in-Tree.result c.in-Tree.is c.in-Tree.file.tree
    (tree_next_few (any_seen c.args.self.now) _
    (subst (λ (f : AnyFile). IsTreeFormat (any_seen f).format) (sym c.in-Tree.is) c.in-Tree.file.tree))
    c.next_after-in-Tree.ensures.looks

pub returns-in-V1-clause-found : goal.returns-in-V1-clause-found
returns-in-V1-clause-found g c =
    let S = g.S.Store in
    subst (λ (file : AnyFile). IfOk c.next_after.result
    (λ found. (value : QuotaValue) → HoldsAny S.tells (S.seen c.args.store.now).files file value
    → IsNextAfter c.args.after value.records found)) (sym c.in-V1.is)
    c.next_after.ensures.found

pub returns-in-V1-clause-passing : goal.returns-in-V1-clause-passing
returns-in-V1-clause-passing g c =
    let S = g.S.Store in
    subst
    (λ (file : AnyFile). (value : QuotaValue) → HoldsAny S.tells (S.seen c.args.store.now).files file value
    → (S.seen c.next_after.new.store).reads
    ≤ (S.seen c.args.store.now).reads
    + any_passing_reads (any_seen file) ((S.seen c.args.store.now).files (any_seen file).name)
    (first_after c.args.after) (passed_up_to c.next_after.result))
    (sym c.in-V1.is)
    (λ value held.
    flat_passing (any_seen (V1 c.in-V1.file)) _ _ _ _ _ c.in-V1.file.flat (c.next_after.ensures.passing value held))

pub returns-in-Tree-clause-passing : goal.returns-in-Tree-clause-passing
returns-in-Tree-clause-passing g c =
    let S = g.S.Store in
    subst
    (λ (file : AnyFile). (value : QuotaValue) → HoldsAny S.tells (S.seen c.args.store.now).files file value
    → (S.seen c.next_after-in-Tree.new.store).reads
    ≤ (S.seen c.args.store.now).reads
    + any_passing_reads (any_seen file) ((S.seen c.args.store.now).files (any_seen file).name)
    (first_after c.args.after) (passed_up_to c.next_after-in-Tree.result))
    (sym c.in-Tree.is)
    (λ value held. tree_passing (any_seen (Tree c.in-Tree.file)) _ _ _ _ _ c.in-Tree.file.tree
    (c.next_after-in-Tree.ensures.passing value held))
