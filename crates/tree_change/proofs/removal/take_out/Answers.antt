use Rattle.std.proofs.Common.{ℕ, List, get_or, take, ap, arith, subst}
use Rattle.std.proofs.lemmas.Result.{err_from_is_err_and}
use Rattle.quota_pages.specs.Pages.{pages_of}
use Rattle.quota_pages.proofs.UsesLemmas.{none_missing, uses_more, uses_then}
use Rattle.tree_change.proofs.ChangeFaultLemmas.{of_later}
use Rattle.tree_change.proofs.RemovalLemmas.{has_no_way, takes_record}
use Rattle.tree_change.proofs.BesideLemmas.{beside_unlinked}
use Rattle.tree_change.specs.Beside.{LendsBeside}
use Rattle.tree_change.proofs.removal.take_out.Goals as goal

pub unlink_leaf-requires-clause-room : goal.unlink_leaf-requires-clause-room
unlink_leaf-requires-clause-room g c =
    omega (
      arith,
      none_missing (pages_of c.args.pages.now) (take 4 c.args.path.now.found.items) c.requires.buffered,
      c.requires.room,
    )

pub returns-in_err-unlink_leaf-clause-uses : goal.returns-in_err-unlink_leaf-clause-uses
returns-in_err-unlink_leaf-clause-uses g c =
    let p = err_from_is_err_and c.from_residual.result c.from_residual.ensures.1 in
    rw p.1 (uses_more 4
    (omega (arith, none_missing (pages_of c.args.pages.now) (take 4 c.args.path.now.found.items) c.requires.buffered))
    c.in_err-unlink_leaf.ensures.uses)

pub remove_entry-requires-clause-room : goal.remove_entry-requires-clause-room
remove_entry-requires-clause-room g c =
    omega (
      arith,
      none_missing (pages_of c.args.pages.now) (take 4 c.args.path.now.found.items) c.requires.buffered,
      c.in_ok-unlink_leaf.ensures.uses.few,
      c.requires.room,
    )

pub returns-in_err-remove_entry-clause-uses : goal.returns-in_err-remove_entry-clause-uses
returns-in_err-remove_entry-clause-uses g c =
    let p =
    err_from_is_err_and c.from_residual-in_err-remove_entry.result c.from_residual-in_err-remove_entry.ensures.1 in
    rw p.1 (uses_more 4
    (omega (arith, none_missing (pages_of c.args.pages.now) (take 4 c.args.path.now.found.items) c.requires.buffered))
    (uses_then c.in_ok-unlink_leaf.ensures.uses c.in_err-remove_entry.ensures.uses))

pub returns-in_err-remove_entry-clause-refused : goal.returns-in_err-remove_entry-clause-refused
returns-in_err-remove_entry-clause-refused g c =
    let p =
    err_from_is_err_and c.from_residual-in_err-remove_entry.result c.from_residual-in_err-remove_entry.ensures.1 in
    let gone = c.in_ok-unlink_leaf.ensures in
    rw (p.1, p.2) (of_later _ _ _ _ _ _ _ c.in_err-remove_entry.field-0.0 gone.uses.leaves.later
    (λ wrong known. has_no_way c.args.format c.args.path.now.found.items c.args.id _ _ _ c.args.heads.now _
    (ap (λ (way : List ℕ). get_or way 4 0) c.deref.ensures.0) (gone.unlinked known) (wrong (gone.uses.known known)))
    (λ blocks limit full. full) c.in_err-remove_entry.ensures.refused)

pub returns-clause-taken : goal.returns-clause-taken
returns-clause-taken g c = λ known.
    let gone = c.in_ok-unlink_leaf.ensures in
    takes_record c.args.format c.args.path.now.found.items c.args.id _ _ _ c.args.heads.now _
    (ap (λ (way : List ℕ). get_or way 4 0) c.deref.ensures.0) (gone.unlinked known) _ _
    (omega (arith, c.ranges.id.fits)) c.requires.found gone.blocks c.in_ok-remove_entry.ensures.blocks
    (c.in_ok-remove_entry.ensures.removed (gone.uses.known known))

pub returns-clause-uses : goal.returns-clause-uses
returns-clause-uses g c =
    uses_more 4 (omega (
      arith,
      none_missing (pages_of c.args.pages.now) (take 4 c.args.path.now.found.items) c.requires.buffered,
    )) (uses_then c.in_ok-unlink_leaf.ensures.uses c.in_ok-remove_entry.ensures.uses)

pub returns-clause-beside : goal.returns-clause-beside
returns-clause-beside g c =
    let S = g.S.Store in
    let way : List ℕ = c.args.path.now.found.items in
    let gone = c.in_ok-unlink_leaf.ensures in
    subst (λ (block : ℕ). LendsBeside (take 4 way) block c.args.heads.now.first S.tells 4 (S.seen c.args.store.now)
    (S.seen c.remove_entry.new.store) c.args.pages.now c.remove_entry.new.pages)
    (ap (λ (w : List ℕ). get_or w 4 0) c.deref.ensures.0)
    (beside_unlinked _ c.args.heads.now.first
    (none_missing (pages_of c.args.pages.now) (take 4 way) c.requires.buffered) gone.first gone.lends
    c.in_ok-remove_entry.ensures.beside)
