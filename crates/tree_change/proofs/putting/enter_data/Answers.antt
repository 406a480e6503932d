use Rattle.std.proofs.Common.{ℕ, List, sym, subst}
use Rattle.std.specs.Prelude.{⊤}
use Rattle.std.specs.Result.{IfOk}
use Rattle.std.proofs.lemmas.Result.{IfErr-weaker}
use Rattle.quota_pages.specs.Used.{IsKnown, shown_over}
use Rattle.tree_change.specs.ChangeFault.{IsStepFault}
use Rattle.tree_change.specs.Enters.{EntersEachTree}
use Rattle.tree_change.specs.Fresh.{IsTakeFault}
use Rattle.tree_change.specs.Putting.{IsEnterFault}
use Rattle.tree_change.specs.BlocksWanted.{data_wanted}
use Rattle.tree_change.specs.Shows.{IsNoTree, OfChange}
use Rattle.tree_change.proofs.PuttingLemmas.{step_enters, take_enters, wanted_none, wanted_one}
use Rattle.tree_change.proofs.WithinLemmas.{on_ok_both, takes_none}
use Rattle.tree_change.proofs.putting.enter_data.Goals as goal

pub returns-then-heads-eq0-clause-entered : goal.returns-then-heads-eq0-clause-entered
returns-then-heads-eq0-clause-entered g c =
    let S = g.S.Store in
    subst (λ (taken : ℕ). IfOk c.add_block.result
    (λ block.
    OfChange S.tells (S.seen c.args.store.now) (S.seen c.add_block.new.store) c.args.pages.now c.add_block.new.pages
    (λ before after. EntersEachTree block c.args.id c.args.rec.now taken c.args.format before after c.args.heads.now
    c.add_block.new.heads)))
    (sym (wanted_one c.args.heads.now c.if-heads-eq0.true)) c.add_block.ensures.added

pub returns-then-heads-eq0-clause-refused : goal.returns-then-heads-eq0-clause-refused
returns-then-heads-eq0-clause-refused g c =
    let S = g.S.Store in
    let before : ℕ = (S.seen c.args.store.now).faults in
    let now : ℕ = (S.seen c.add_block.new.store).faults in
    let known : Type 0 = IsKnown S.tells (S.seen c.args.store.now) c.args.pages.now in
    let file : List ℕ = shown_over (S.seen c.args.store.now) c.args.pages.now in
    IfErr-weaker c.add_block.result (IsTakeFault before now known file c.args.heads.now c.args.limit 1)
    (IsEnterFault before now known c.args.format file c.args.heads.now c.args.limit (data_wanted c.args.heads.now))
    (λ fault h. subst
    (λ (count : ℕ). IsEnterFault before now known c.args.format file c.args.heads.now c.args.limit count fault)
    (sym (wanted_one c.args.heads.now c.if-heads-eq0.true))
    (take_enters before now known c.args.format file c.args.heads.now c.args.limit 1 fault h))
    c.add_block.ensures.refused

pub returns-else-heads-eq0-clause-entered : goal.returns-else-heads-eq0-clause-entered
returns-else-heads-eq0-clause-entered g c =
    let S = g.S.Store in
    subst (λ (taken : ℕ). IfOk c.enter_record.result
    (λ block. OfChange S.tells (S.seen c.args.store.now) (S.seen c.enter_record.new.store) c.args.pages.now
    c.enter_record.new.pages
    (λ before after. EntersEachTree block c.args.id c.args.rec.now taken c.args.format before after c.args.heads.now
    c.enter_record.new.heads)))
    (sym (wanted_none c.args.heads.now c.if-heads-eq0.false)) c.enter_record.ensures.entered

pub returns-else-heads-eq0-clause-refused : goal.returns-else-heads-eq0-clause-refused
returns-else-heads-eq0-clause-refused g c =
    let S = g.S.Store in
    let before : ℕ = (S.seen c.args.store.now).faults in
    let now : ℕ = (S.seen c.enter_record.new.store).faults in
    let known : Type 0 = IsKnown S.tells (S.seen c.args.store.now) c.args.pages.now in
    let file : List ℕ = shown_over (S.seen c.args.store.now) c.args.pages.now in
    IfErr-weaker c.enter_record.result (IsStepFault before now (known → IsNoTree c.args.format file c.args.heads.now))
    (IsEnterFault before now known c.args.format file c.args.heads.now c.args.limit (data_wanted c.args.heads.now))
    (step_enters before now known c.args.format file c.args.heads.now c.args.limit (data_wanted c.args.heads.now))
    c.enter_record.ensures.refused

pub returns-else-heads-eq0-clause-takes : goal.returns-else-heads-eq0-clause-takes
returns-else-heads-eq0-clause-takes g c =
    on_ok_both c.enter_record.result
    (λ same header. takes_none c.args.limit ⊤ c.args.heads.now c.enter_record.new.heads c.args.pages.now
    c.enter_record.new.pages same (λ is. header))
    c.enter_record.ensures.blocks c.enter_record.ensures.header
