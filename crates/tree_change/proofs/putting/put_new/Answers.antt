use Rattle.std.proofs.Common.{◌≡◌, ℕ, ◌+◌, ◌-◌, ◌≤◌, List, None, length, refl, sym, subst, arith}
use Rattle.std.specs.Prelude.{⊤}
use Rattle.std.specs.FinMap.{get}
use Rattle.std.proofs.lemmas.Result.{err_from_is_err_and}
use Rattle.quota_value.specs.QuotaValue.{Records}
use Rattle.quota_pages.specs.Used.{IsKnown, shown_over}
use Rattle.quota_pages.proofs.UsedLemmas.{shown_over-looks}
use Rattle.free_chains.specs.declared.heads.Heads.{Heads}
use Rattle.tree_meaning.specs.Loose.{loose_of}
use Rattle.tree_change.specs.Enters.{EntersRecord}
use Rattle.tree_change.specs.Putting.{WayEndsEarly, IsPutFault}
use Rattle.tree_change.specs.BlocksWanted.{data_wanted}
use Rattle.tree_change.specs.Shows.{IsWholeTree}
use Rattle.tree_change.proofs.ChangeFaultLemmas.{if_full, of_full}
use Rattle.tree_change.proofs.PuttingLemmas.{CanGoOn, goes_on, goes_on_entered, no_record_of, no_room_refused}
use Rattle.tree_change.proofs.PuttingLemmas.{put_whole, step_refused, take_enters}
use Rattle.tree_change.proofs.WithinLemmas.{takes_none, takes_then}
use Rattle.tree_change.proofs.putting.put_new.Goals as goal

pub returns-in_err-has_room-clause-refused : goal.returns-in_err-has_room-clause-refused
returns-in_err-has_room-clause-refused g c =
    let p = err_from_is_err_and c.from_residual.result c.from_residual.ensures.1 in
    let S = g.S.Store in
    let heads : Heads = c.args.heads.now in
    let old : List ℕ = shown_over (S.seen c.args.store.now) c.args.pages.now in
    let known : Type 0 = IsKnown S.tells (S.seen c.args.store.now) c.args.pages.now
    × WayEndsEarly old heads.blocks c.args.id c.args.path.now.found.items in
    let need : (4 - c.len-lacking.result) + c.data_wanted.result
    ≡ (4 - length c.args.path.now.found.items) + data_wanted heads =
    omega (arith, c.len-lacking.ensures.value, c.data_wanted.ensures) in
    rw (p.1, p.2) (subst
    (λ (n : ℕ). IsPutFault (S.seen c.args.store.now).faults (S.seen c.has_room.new.store).faults known c.args.format old
    heads c.args.limit n c.in_err-has_room.field-0.0) need
    (no_room_refused _ _ known (IsKnown S.tells (S.seen c.args.store.now) c.args.pages.now) c.args.format old heads
    c.args.limit ((4 - c.len-lacking.result) + c.data_wanted.result) c.in_err-has_room.field-0.0 (λ is. is.0)
    c.in_err-has_room.ensures.refused))

pub returns-in_err-block-clause-refused : goal.returns-in_err-block-clause-refused
returns-in_err-block-clause-refused g c =
    let p = err_from_is_err_and c.from_residual-in_err-block.result c.from_residual-in_err-block.ensures.1 in
    let S = g.S.Store in
    let heads : Heads = c.args.heads.now in
    let old : List ℕ = shown_over (S.seen c.args.store.now) c.args.pages.now in
    let between : List ℕ = shown_over (S.seen c.has_room.new.store) c.has_room.new.pages in
    let known : Type 0 = IsKnown S.tells (S.seen c.args.store.now) c.args.pages.now
    × WayEndsEarly old heads.blocks c.args.id c.args.path.now.found.items in
    let looked = c.in_ok-has_room.ensures.looked in
    let same : between ≡ old = shown_over-looks looked in
    rw (p.1, p.2) (step_refused (S.seen c.args.store.now).faults (S.seen c.has_room.new.store).faults
    (S.seen c.enter_data.new.store).faults known (IsKnown S.tells (S.seen c.has_room.new.store) c.has_room.new.pages)
    c.args.format old between heads heads c.args.limit
    ((4 - length c.args.path.now.found.items) + data_wanted heads) (data_wanted heads) _ looked.leaves.later
    (λ is. looked.known is.0)
    (λ is held records tree. goes_on c.args.format old between heads c.args.limit
    ((4 - c.len-lacking.result) + c.data_wanted.result) (data_wanted heads) held records same
    (omega (arith, c.data_wanted.ensures)) (c.in_ok-has_room.ensures.room is.0) tree)
    c.in_err-block.ensures.refused)

pub returns-in_err-lead_to-clause-refused : goal.returns-in_err-lead_to-clause-refused
returns-in_err-lead_to-clause-refused g c =
    let p = err_from_is_err_and c.from_residual-in_err-lead_to.result c.from_residual-in_err-lead_to.ensures.1 in
    let S = g.S.Store in
    let heads : Heads = c.args.heads.now in
    let middle : Heads = c.enter_data.new.heads in
    let id : ℕ = c.args.id in
    let found : List ℕ = c.args.path.now.found.items in
    let lacking : ℕ = 4 - length found in
    let need : ℕ = (4 - c.len-lacking.result) + c.data_wanted.result in
    let old : List ℕ = shown_over (S.seen c.args.store.now) c.args.pages.now in
    let between : List ℕ = shown_over (S.seen c.has_room.new.store) c.has_room.new.pages in
    let new : List ℕ = shown_over (S.seen c.enter_data.new.store) c.enter_data.new.pages in
    let known : Type 0 =
    IsKnown S.tells (S.seen c.args.store.now) c.args.pages.now × WayEndsEarly old heads.blocks id found in
    let still : Type 0 = IsKnown S.tells (S.seen c.enter_data.new.store) c.enter_data.new.pages in
    let looked = c.in_ok-has_room.ensures.looked in
    let entered = c.in_ok-block.ensures in
    let same : between ≡ old = shown_over-looks looked in
    let fewer : data_wanted heads + lacking ≤ need =
    omega (arith, c.len-lacking.ensures.value, c.data_wanted.ensures) in
    let goes : known → (held : List ℕ) (records : Records)
    → IsWholeTree (loose_of held None None) c.args.format old heads records
    → CanGoOn c.args.format new middle c.args.limit lacking =
    λ is held records tree.
    let on : CanGoOn c.args.format between heads c.args.limit need = goes_on c.args.format old between heads
    c.args.limit need need held records same (omega arith) (c.in_ok-has_room.ensures.room is.0) tree in
    let none : get records id ≡ None =
    no_record_of held c.args.format old heads records id (omega (arith, c.ranges.id.fits)) is.1.none tree in
    goes_on_entered c.args.format between new heads middle c.args.limit (data_wanted heads) lacking need
    c.in_ok-block.block id c.args.rec.now held records fewer on.room
    (entered.entered (looked.known is.0) held records
    (subst (λ (file : List ℕ). IsWholeTree (loose_of held None None) c.args.format file heads records) (sym same) tree)
    none) in
    rw (p.1, p.2) (step_refused (S.seen c.args.store.now).faults (S.seen c.enter_data.new.store).faults
    (S.seen c.lead_to.new.store).faults known still c.args.format old new heads middle c.args.limit
    (lacking + data_wanted heads) lacking _ (omega (arith, looked.leaves.later, entered.uses.leaves.later))
    (λ is. entered.uses.known (looked.known is.0)) goes
    (take_enters (S.seen c.enter_data.new.store).faults (S.seen c.lead_to.new.store).faults still c.args.format new
    middle c.args.limit lacking _ c.in_err-lead_to.ensures.refused))

pub returns-clause-put : goal.returns-clause-put
returns-clause-put g c = λ ends known held records tree.
    let S = g.S.Store in
    let heads : Heads = c.args.heads.now in
    let middle : Heads = c.enter_data.new.heads in
    let id : ℕ = c.args.id in
    let old : List ℕ = shown_over (S.seen c.args.store.now) c.args.pages.now in
    let between : List ℕ = shown_over (S.seen c.has_room.new.store) c.has_room.new.pages in
    let new : List ℕ = shown_over (S.seen c.enter_data.new.store) c.enter_data.new.pages in
    let looked = c.in_ok-has_room.ensures.looked in
    let entered = c.in_ok-block.ensures in
    let same : between ≡ old = shown_over-looks looked in
    let none : get records id ≡ None =
    no_record_of held c.args.format old heads records id (omega (arith, c.ranges.id.fits)) ends.none tree in
    let known' = looked.known known in
    let enters : EntersRecord c.in_ok-block.block id c.args.rec.now (data_wanted heads) held c.args.format old new heads
    middle records =
    subst (λ (file : List ℕ). EntersRecord c.in_ok-block.block id c.args.rec.now (data_wanted heads) held c.args.format
    file new heads middle records) same
    (entered.entered known' held records
    (subst (λ (file : List ℕ). IsWholeTree (loose_of held None None) c.args.format file heads records) (sym same) tree)
    none) in
    put_whole held c.args.format old new (shown_over (S.seen c.lead_to.new.store) c.lead_to.new.pages)
    c.args.path.now.found.items heads middle c.lead_to.new.heads records c.in_ok-block.block id c.args.rec.now
    (omega (arith, c.ranges.id.fits)) ends.way c.requires.few enters
    (λ way whole. c.in_ok-lead_to.ensures.led (entered.uses.known known') held c.args.format _ way whole)

pub returns-clause-takes : goal.returns-clause-takes
returns-clause-takes g c =
    let entered = takes_then c.args.limit _ ⊤ c.args.heads.now c.args.heads.now c.enter_data.new.heads c.args.pages.now
    c.has_room.new.pages c.enter_data.new.pages (λ is. tt)
    (takes_none c.args.limit _ c.args.heads.now c.args.heads.now c.args.pages.now c.has_room.new.pages refl
    (λ is. c.in_ok-has_room.ensures.looked.lent 0)) c.in_ok-block.ensures.takes in
    takes_then c.args.limit _ _ c.args.heads.now c.enter_data.new.heads c.lead_to.new.heads c.args.pages.now
    c.enter_data.new.pages c.lead_to.new.pages (λ is. is)
    entered c.in_ok-lead_to.ensures.takes

-- what was decided first is that there is room for the record and its way
pub returns-in_err-has_room-clause-full : goal.returns-in_err-has_room-clause-full
returns-in_err-has_room-clause-full g c =
    let p = err_from_is_err_and c.from_residual.result c.from_residual.ensures.1 in
    rw (p.1, p.2) (if_full _ c.in_err-has_room.field-0.0
    (λ ends known held records tree. c.in_err-has_room.ensures.looked.lent_count))

pub returns-in_err-block-clause-full : goal.returns-in_err-block-clause-full
returns-in_err-block-clause-full g c =
    let p = err_from_is_err_and c.from_residual-in_err-block.result c.from_residual-in_err-block.ensures.1 in
    let S = g.S.Store in
    let heads : Heads = c.args.heads.now in
    let old : List ℕ = shown_over (S.seen c.args.store.now) c.args.pages.now in
    let between : List ℕ = shown_over (S.seen c.has_room.new.store) c.has_room.new.pages in
    let looked = c.in_ok-has_room.ensures.looked in
    let same : between ≡ old = shown_over-looks looked in
    rw (p.1, p.2) (of_full _ _ _ _ _ c.in_err-block.field-0.0
    (λ blocks most full ends known held records tree. absurd (full.2 (looked.known known)
    (goes_on c.args.format old between heads c.args.limit ((4 - c.len-lacking.result) + c.data_wanted.result)
    (data_wanted heads) held records same (omega (arith, c.data_wanted.ensures))
    (c.in_ok-has_room.ensures.room known) tree).room))
    c.in_err-block.ensures.refused)

pub returns-in_err-lead_to-clause-full : goal.returns-in_err-lead_to-clause-full
returns-in_err-lead_to-clause-full g c =
    let p = err_from_is_err_and c.from_residual-in_err-lead_to.result c.from_residual-in_err-lead_to.ensures.1 in
    let S = g.S.Store in
    let heads : Heads = c.args.heads.now in
    let middle : Heads = c.enter_data.new.heads in
    let id : ℕ = c.args.id in
    let lacking : ℕ = 4 - length c.args.path.now.found.items in
    let need : ℕ = (4 - c.len-lacking.result) + c.data_wanted.result in
    let old : List ℕ = shown_over (S.seen c.args.store.now) c.args.pages.now in
    let between : List ℕ = shown_over (S.seen c.has_room.new.store) c.has_room.new.pages in
    let new : List ℕ = shown_over (S.seen c.enter_data.new.store) c.enter_data.new.pages in
    let looked = c.in_ok-has_room.ensures.looked in
    let entered = c.in_ok-block.ensures in
    let same : between ≡ old = shown_over-looks looked in
    let fewer : data_wanted heads + lacking ≤ need =
    omega (arith, c.len-lacking.ensures.value, c.data_wanted.ensures) in
    rw (p.1, p.2) (of_full _ _ _ _ _ c.in_err-lead_to.field-0.0
    (λ blocks most full ends known held records tree.
    let on : CanGoOn c.args.format between heads c.args.limit need = goes_on c.args.format old between heads
    c.args.limit need need held records same (omega arith) (c.in_ok-has_room.ensures.room known) tree in
    let none : get records id ≡ None =
    no_record_of held c.args.format old heads records id (omega (arith, c.ranges.id.fits)) ends.none tree in
    absurd (full.2 (entered.uses.known (looked.known known))
    (goes_on_entered c.args.format between new heads middle c.args.limit (data_wanted heads) lacking need
    c.in_ok-block.block id c.args.rec.now held records fewer on.room
    (entered.entered (looked.known known) held records
    (subst (λ (file : List ℕ). IsWholeTree (loose_of held None None) c.args.format file heads records) (sym same) tree)
    none)).room))
    c.in_err-lead_to.ensures.refused)
