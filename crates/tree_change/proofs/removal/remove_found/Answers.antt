use Rattle.std.proofs.Common.{arith, ℕ, List, ◌∷◌, get_or, subst, take}
use Rattle.std.proofs.lemmas.Result.{err_from_is_err_and}
use Rattle.tree_change.proofs.ChangeFaultLemmas.{of_later}
use Rattle.tree_change.proofs.RemovalLemmas.{no_value, removes_record}
use Rattle.tree_change.proofs.BesideLemmas.{beside_headed}
use Rattle.tree_change.specs.Beside.{LendsBeside}
use Rattle.tree_change.proofs.removal.remove_found.Goals as goal

pub returns-in_err-take_out-clause-refused : goal.returns-in_err-take_out-clause-refused
returns-in_err-take_out-clause-refused g c =
    let p = err_from_is_err_and c.from_residual.result c.from_residual.ensures.1 in
    let start = c.heads_in-heads.ensures in
    rw (p.1, p.2) (of_later _ _ _ _ _ _ _ c.in_err-take_out.field-0.0 (omega arith)
    (λ none is known are value. no_value c.args.id c.args.path.now.found.items c.args.header.now c.heads_in-heads.result
    _ value are start.blocks start.free start.first is (none known))
    (λ blocks limit full. full) c.in_err-take_out.ensures.refused)

pub returns-clause-removed : goal.returns-clause-removed
returns-clause-removed g c = λ is known are value stands.
    let start = c.heads_in-heads.ensures in
    let took = c.in_ok-take_out.ensures in
    let wrote = c.in_ok-renew_heads.ensures in
    removes_record value stands (record {
      small = omega (arith, c.ranges.id.fits);
      are = are;
      blocks = start.blocks;
      free = start.free;
      first = start.first;
      is = is;
      five = c.requires.found;
      takes = took.taken known;
      same = took.blocks;
      keeps = wrote.keeps;
      writes = wrote.set (took.uses.known known);
    })

pub returns-clause-beside : goal.returns-clause-beside
returns-clause-beside g c =
    let S = g.S.Store in
    let way : List ℕ = c.args.path.now.found.items in
    subst (λ (first : ℕ). LendsBeside (0 ∷ take 4 way) (get_or way 4 0) first S.tells 5 (S.seen c.args.store.now)
    (S.seen c.renew_heads.new.store) c.args.pages.now c.renew_heads.new.pages)
    c.heads_in-heads.ensures.first
    (beside_headed (get_or way 4 0) c.heads_in-heads.result.first c.in_ok-take_out.ensures.beside
    c.in_ok-renew_heads.ensures.lends)
