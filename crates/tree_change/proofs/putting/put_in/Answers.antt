use Rattle.std.proofs.Common.{Option, refl, ◌≡◌, ℕ, ◌+◌, ◌-◌, ◌<◌, List, None, Some, length, sym, ap, subst, ◌∙◌, arith}
use Rattle.std.proofs.Common.{inl}
use Rattle.std.specs.Prelude.{IsSome}
use Rattle.std.proofs.lemmas.Bool.{false≢true}
use Rattle.std.proofs.lemmas.Result.{IfErr-weaker, err_from_is_err_and, on_ok_weaker}
use Rattle.quota_types.specs.declared.record.Rec.{Rec}
use Rattle.quota_pages.specs.Pages.{pages_of}
use Rattle.quota_pages.specs.Used.{IsKnown, shown_over}
use Rattle.quota_pages.proofs.UsedLemmas.{shown_over-looks}
use Rattle.quota_radix.specs.Descent.{leaf_block}
use Rattle.quota_radix.specs.Link.{AreBuffered}
use Rattle.quota_radix.specs.OnWay.{blocks_on_way}
use Rattle.free_chains.specs.declared.heads.Heads.{Heads}
use Rattle.tree_meaning.specs.Loose.{loose_of}
use Rattle.tree_change.specs.ChangeFault.{IsStepFault}
use Rattle.tree_change.specs.Overwrites.{OverwritesRecord}
use Rattle.tree_change.specs.Putting.{WayEndsEarly, IsPutFault, IsPutInFault, PutsIn}
use Rattle.tree_change.specs.BlocksWanted.{blocks_taken, data_wanted}
use Rattle.tree_change.specs.Shows.{IsNoCompleteTree, IsWholeTree}
use Rattle.tree_change.proofs.ChangeFaultLemmas.{full_then, of_full, walk_not_full}
use Rattle.tree_change.proofs.PuttingLemmas.{long_way_found, no_record_of, over_refused, put_over_whole, put_refused}
use Rattle.tree_change.proofs.PuttingLemmas.{short_way_found, taken_absent, wanted_as, way_refused, whole_way_found}
use Rattle.tree_change.proofs.WithinLemmas.{last_beside, led_beside, takes_none, takes_then}
use Rattle.tree_change.proofs.putting.put_in.Goals as goal

pub find_path-requires : goal.find_path-requires
find_path-requires g c = inl (omega (arith, c.requires.room))

pub returns-in_err-path-clause-refused : goal.returns-in_err-path-clause-refused
returns-in_err-path-clause-refused g c =
    let p = err_from_is_err_and c.from_residual.result c.from_residual.ensures.1 in
    let S = g.S.Store in
    let old : List ℕ = shown_over (S.seen c.args.store.now) c.args.pages.now in
    rw (p.1, p.2) (put_refused _ _ (IsKnown S.tells (S.seen c.args.store.now) c.args.pages.now) c.args.format old
    c.args.heads.now c.args.limit c.args.id _
    (way_refused _ _ (IsKnown S.tells (S.seen c.args.store.now) c.args.pages.now) _ c.args.format old c.args.heads.now
    c.args.limit (blocks_taken old c.args.heads.now c.args.id) c.args.id c.in_err-path.field-0.0
    c.in_err-path.ensures.refused))

pub put_new-requires-clause-brought : goal.put_new-requires-clause-brought
put_new-requires-clause-brought g c =
    subst (AreBuffered (pages_of c.find_path.new.pages))
    (whole_way_found c.in_ok-path.path.found.items (sym c.leaf.ensures ∙ c.in-None.is)) c.in_ok-path.ensures.buffered

pub returns-in-Some-clause-put : goal.returns-in-Some-clause-put
returns-in-Some-clause-put g c =
    let S = g.S.Store in
    let heads : Heads = c.args.heads.now in
    let id : ℕ = c.args.id in
    let block : ℕ = c.in-Some.block in
    let old : List ℕ = shown_over (S.seen c.args.store.now) c.args.pages.now in
    let between : List ℕ = shown_over (S.seen c.find_path.new.store) c.find_path.new.pages in
    let new : List ℕ = shown_over (S.seen c.overwrite_record.new.store) c.overwrite_record.new.pages in
    let looked = c.in_ok-path.ensures.looked in
    let same : between ≡ old = shown_over-looks looked in
    on_ok_weaker c.overwrite_record.result
    (λ over known held records tree.
    let led : leaf_block old heads.blocks id ≡ Some block =
    sym (c.in_ok-path.ensures.leaf known) ∙ sym c.leaf.ensures ∙ c.in-Some.is in
    let many : 4 < length (blocks_on_way old heads.blocks id) = omega (
      arith,
      long_way_found c.in_ok-path.path.found.items block (sym c.leaf.ensures ∙ c.in-Some.is),
      ap {B = ℕ} length (c.in_ok-path.ensures.found known),
    ) in
    put_over_whole held c.args.format old new heads records id c.args.rec.now many
    (subst (λ (file : List ℕ). OverwritesRecord id c.args.rec.now held c.args.format file new heads records) same
    (over (looked.known known) held heads records
    (subst (λ (file : List ℕ). leaf_block file heads.blocks id ≡ Some block) (sym same) led)
    (subst (λ (file : List ℕ). IsWholeTree (loose_of held None None) c.args.format file heads records)
    (sym same) tree))))
    c.overwrite_record.ensures.overwritten

pub returns-in-Some-clause-refused : goal.returns-in-Some-clause-refused
returns-in-Some-clause-refused g c =
    let S = g.S.Store in
    let heads : Heads = c.args.heads.now in
    let id : ℕ = c.args.id in
    let block : ℕ = c.in-Some.block in
    let before : ℕ = (S.seen c.args.store.now).faults in
    let middle : ℕ = (S.seen c.find_path.new.store).faults in
    let now : ℕ = (S.seen c.overwrite_record.new.store).faults in
    let old : List ℕ = shown_over (S.seen c.args.store.now) c.args.pages.now in
    let between : List ℕ = shown_over (S.seen c.find_path.new.store) c.find_path.new.pages in
    let still : Type 0 = IsKnown S.tells (S.seen c.args.store.now) c.args.pages.now in
    let known : Type 0 = IsKnown S.tells (S.seen c.find_path.new.store) c.find_path.new.pages in
    let looked = c.in_ok-path.ensures.looked in
    let same : between ≡ old = shown_over-looks looked in
    let need : ℕ = blocks_taken old heads id in
    IfErr-weaker c.overwrite_record.result
    (IsStepFault middle now
    (known → (these : Heads) → leaf_block between these.blocks id ≡ Some block
    → IsNoCompleteTree c.args.format between these))
    (IsPutInFault before now still c.args.format old heads c.args.limit id)
    (λ fault h. put_refused before now still c.args.format old heads c.args.limit id fault
    (over_refused before middle now known still c.args.format old between heads c.args.limit need block id fault
    looked.leaves.later looked.known same
    (λ is. sym (c.in_ok-path.ensures.leaf is) ∙ sym c.leaf.ensures ∙ c.in-Some.is) h))
    c.overwrite_record.ensures.refused

pub returns-in-None-clause-put : goal.returns-in-None-clause-put
returns-in-None-clause-put g c =
    let S = g.S.Store in
    let heads : Heads = c.args.heads.now in
    let id : ℕ = c.args.id in
    let found : List ℕ = c.in_ok-path.path.found.items in
    let old : List ℕ = shown_over (S.seen c.args.store.now) c.args.pages.now in
    let between : List ℕ = shown_over (S.seen c.find_path.new.store) c.find_path.new.pages in
    let looked = c.in_ok-path.ensures.looked in
    let same : between ≡ old = shown_over-looks looked in
    on_ok_weaker c.put_new.result
    (λ puts known held records tree.
    let ends : WayEndsEarly old heads.blocks id found = record {
      way = c.in_ok-path.ensures.found known;
      none = sym (c.in_ok-path.ensures.leaf known) ∙ sym c.leaf.ensures ∙ c.in-None.is;
    } in
    subst (λ (file : List ℕ). PutsIn id c.args.rec.now held c.args.format file
    (shown_over (S.seen c.put_new.new.store) c.put_new.new.pages) heads c.put_new.new.heads records) same
    (puts (subst (λ (file : List ℕ). WayEndsEarly file heads.blocks id found) (sym same) ends)
    (looked.known known) held records
    (subst (λ (file : List ℕ). IsWholeTree (loose_of held None None) c.args.format file heads records)
    (sym same) tree)))
    c.put_new.ensures.put

pub returns-in-None-clause-refused : goal.returns-in-None-clause-refused
returns-in-None-clause-refused g c =
    let S = g.S.Store in
    let heads : Heads = c.args.heads.now in
    let id : ℕ = c.args.id in
    let found : List ℕ = c.in_ok-path.path.found.items in
    let before : ℕ = (S.seen c.args.store.now).faults in
    let middle : ℕ = (S.seen c.find_path.new.store).faults in
    let now : ℕ = (S.seen c.put_new.new.store).faults in
    let old : List ℕ = shown_over (S.seen c.args.store.now) c.args.pages.now in
    let between : List ℕ = shown_over (S.seen c.find_path.new.store) c.find_path.new.pages in
    let still : Type 0 = IsKnown S.tells (S.seen c.args.store.now) c.args.pages.now in
    let known : Type 0 = IsKnown S.tells (S.seen c.find_path.new.store) c.find_path.new.pages in
    let looked = c.in_ok-path.ensures.looked in
    let same : between ≡ old = shown_over-looks looked in
    let need : ℕ = (4 - length found) + data_wanted heads in
    IfErr-weaker c.put_new.result
    (IsPutFault middle now (known × WayEndsEarly between heads.blocks id found) c.args.format between heads
    c.args.limit need)
    (IsPutInFault before now still c.args.format old heads c.args.limit id)
    (λ fault h. put_refused before now still c.args.format old heads c.args.limit id fault
    (wanted_as before middle now (known × WayEndsEarly old heads.blocks id found) still c.args.format old heads
    c.args.limit need (blocks_taken old heads id) fault looked.leaves.later
    (λ is. (
      looked.known is,
      record {
        way = c.in_ok-path.ensures.found is;
        none = sym (c.in_ok-path.ensures.leaf is) ∙ sym c.leaf.ensures ∙ c.in-None.is;
      },
    ))
    (λ is.
    let way : length found ≡ length (blocks_on_way old heads.blocks id) =
    ap {B = ℕ} length (c.in_ok-path.ensures.found is) in
    omega (
      arith,
      way,
      taken_absent old heads id (omega (arith, way, short_way_found found (sym c.leaf.ensures ∙ c.in-None.is))),
    ))
    (subst (λ (file : List ℕ). IsPutFault middle now (known × WayEndsEarly file heads.blocks id found) c.args.format
    file heads c.args.limit need fault) same h)))
    c.put_new.ensures.refused

-- one that has a record is written over it
pub returns-in-Some-clause-over : goal.returns-in-Some-clause-over
returns-in-Some-clause-over g c =
    on_ok_weaker c.overwrite_record.result
    (λ over known held records tree some. record {
      same = refl;
      lent = omega (arith, c.overwrite_record.ensures.lends, c.in_ok-path.ensures.looked.lent_count);
    })
    c.overwrite_record.ensures.overwritten

pub returns-in-Some-clause-full : goal.returns-in-Some-clause-full
returns-in-Some-clause-full g c =
    IfErr-weaker c.overwrite_record.result _ _ (λ fault h. of_full _ _ _ _ _ fault (λ blocks limit none. absurd none) h)
    c.overwrite_record.ensures.refused

-- one without is not
pub returns-in-None-clause-over : goal.returns-in-None-clause-over
returns-in-None-clause-over g c =
    let S = g.S.Store in
    let old : List ℕ = shown_over (S.seen c.args.store.now) c.args.pages.now in
    on_ok_weaker c.put_new.result
    (λ puts known held records tree some. absurd (false≢true (subst (λ (found : Option Rec). IsSome found)
    (no_record_of held c.args.format old c.args.heads.now records c.args.id (omega (arith, c.ranges.id.fits))
    (sym (c.in_ok-path.ensures.leaf known) ∙ sym c.leaf.ensures ∙ c.in-None.is) tree) some)))
    c.put_new.ensures.put

pub returns-in-None-clause-full : goal.returns-in-None-clause-full
returns-in-None-clause-full g c =
    let S = g.S.Store in
    let heads : Heads = c.args.heads.now in
    let id : ℕ = c.args.id in
    let found : List ℕ = c.in_ok-path.path.found.items in
    let looked = c.in_ok-path.ensures.looked in
    let same = shown_over-looks looked in
    IfErr-weaker c.put_new.result _ _
    (λ fault h. full_then _ _ fault
    (λ kept known held records tree.
    let ends : WayEndsEarly (shown_over (S.seen c.args.store.now) c.args.pages.now) heads.blocks id found = record {
      way = c.in_ok-path.ensures.found known;
      none = sym (c.in_ok-path.ensures.leaf known) ∙ sym c.leaf.ensures ∙ c.in-None.is;
    } in
    kept (subst (λ (file : List ℕ). WayEndsEarly file heads.blocks id found) (sym same) ends)
    (looked.known known) held records
    (subst (λ (file : List ℕ). IsWholeTree (loose_of held None None) c.args.format file heads records) (sym same) tree)
    ∙ looked.lent_count) h)
    c.put_new.ensures.full

-- neither lends the header's page
pub returns-in-Some-clause-takes : goal.returns-in-Some-clause-takes
returns-in-Some-clause-takes g c =
    let S = g.S.Store in
    let block : ℕ = c.in-Some.block in
    let heads : Heads = c.args.heads.now in
    let id : ℕ = c.args.id in
    on_ok_weaker c.overwrite_record.result
    (λ stays. takes_none c.args.limit _ heads heads c.args.pages.now c.overwrite_record.new.pages refl
    (λ known. stays (led_beside (shown_over (S.seen c.args.store.now) c.args.pages.now) heads.blocks 4 id block
    (sym (c.in_ok-path.ensures.leaf known) ∙ sym c.leaf.ensures ∙ c.in-Some.is)) ∙ c.in_ok-path.ensures.looked.lent 0))
    c.overwrite_record.ensures.header

pub returns-in-None-clause-takes : goal.returns-in-None-clause-takes
returns-in-None-clause-takes g c =
    let S = g.S.Store in
    let heads : Heads = c.args.heads.now in
    on_ok_weaker c.put_new.result
    (λ takes. takes_then c.args.limit _ _ heads heads c.put_new.new.heads c.args.pages.now c.find_path.new.pages
    c.put_new.new.pages
    (λ known. last_beside (shown_over (S.seen c.args.store.now) c.args.pages.now) heads.blocks c.args.id
    c.in_ok-path.path.found.items (c.in_ok-path.ensures.found known) c.in_ok-path.ensures.from_root.some)
    (takes_none c.args.limit _ heads heads c.args.pages.now c.find_path.new.pages refl
    (λ known. c.in_ok-path.ensures.looked.lent 0)) takes)
    c.put_new.ensures.takes

pub returns-in_err-path-clause-full : goal.returns-in_err-path-clause-full
returns-in_err-path-clause-full g c =
    let p = err_from_is_err_and c.from_residual.result c.from_residual.ensures.1 in
    rw (p.1, p.2) (walk_not_full _ c.in_err-path.field-0.0)
