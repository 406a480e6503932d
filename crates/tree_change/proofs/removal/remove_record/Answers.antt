use Rattle.std.proofs.Common.{arith, inl, ap, List, length}
use Rattle.std.proofs.lemmas.Result.{err_from_is_err_and}
use Rattle.tree_change.proofs.ChangeFaultLemmas.{of_walk}
use Rattle.tree_change.proofs.WayFoundLemmas.{none_by_way, not_out, some_by_way}
use Rattle.tree_change.proofs.BesideLemmas.{beside_looked, none_lent, removal_few}
use Rattle.quota_pages.specs.Page.{Page}
use Rattle.tree_change.proofs.removal.remove_record.Goals as goal

pub find_path-requires : goal.find_path-requires
find_path-requires g c = inl (omega (arith, ap (λ (ps : List Page). length ps) c.requires.empty))

pub returns-in_err-path-clause-refused : goal.returns-in_err-path-clause-refused
returns-in_err-path-clause-refused g c =
    let p = err_from_is_err_and c.from_residual.result c.from_residual.ensures.1 in
    rw (p.1, p.2) (of_walk _ _ _ _ _ c.in_err-path.field-0.0
    (λ damage out known are value stands.
    not_out _ c.args.header.now value c.args.id (omega (arith, c.ranges.id.fits)) are stands damage.block (out.2 known))
    c.in_err-path.ensures.refused)

pub returns-then-len-lt5-clause-found : goal.returns-then-len-lt5-clause-found
returns-then-len-lt5-clause-found g c = λ known are value stands.
    none_by_way _ c.args.header.now value c.args.id (omega (arith, c.ranges.id.fits)) are stands
    c.in_ok-path.path.found.items (c.in_ok-path.ensures.found known)
    (omega (arith, c.if-len-lt5.true, c.len.ensures.value))

pub returns-clause-found : goal.returns-clause-found
returns-clause-found g c = λ known are value stands.
    some_by_way _ c.args.header.now value c.args.id (omega (arith, c.ranges.id.fits)) are stands
    c.in_ok-path.path.found.items (c.in_ok-path.ensures.found known)
    (omega (arith, c.if-len-lt5.false, c.len.ensures.value))

-- what was looked at and then lent
removal_lends : goal.returns-clause-touched
removal_lends g c = record {
  way = c.in_ok-path.path.found.items;
  five = omega (arith, c.if-len-lt5.false, c.len.ensures.value, c.in_ok-path.ensures.from_root.few);
  is_way = c.in_ok-path.ensures.found;
  beside =
      beside_looked _ c.args.header.now.first (omega arith) c.in_ok-path.ensures.looked c.in_ok-heads.ensures.beside;
}

pub returns-clause-touched : goal.returns-clause-touched
returns-clause-touched g c = removal_lends g c

pub returns-clause-few : goal.returns-clause-few
returns-clause-few g c =
    removal_few c.args.id c.args.header.now.blocks c.args.header.now.first (none_lent _ c.requires.empty)
    (removal_lends g c)

pub returns-then-len-lt5-clause-few : goal.returns-then-len-lt5-clause-few
returns-then-len-lt5-clause-few g c =
    omega (arith, none_lent _ c.requires.empty, c.in_ok-path.ensures.looked.lent_count)
