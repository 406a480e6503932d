use Rattle.std.proofs.Common.{ℕ, Some, None, subst, sym}
use Rattle.std.specs.BTreeMap.Range.{IsRangeOf}
use Rattle.std.specs.Ordering.{nat_cmp}
use Rattle.std.specs.declared.ops.Bound.{Bound}
use Rattle.std.specs.declared.ops.Bound.TheVariants.{Unbounded}
use Rattle.inode_scan.specs.Usage.{UsageMap}
use Rattle.inode_scan.specs.UsageSums.{IsNextUser}
use Rattle.inode_scan.proofs.UsageLemmas.{next_found, next_none}
use Rattle.inode_scan.proofs.usage.Usage.next_after.Goals as goal

pub returns-in_err-id : goal.returns-in_err-id
returns-in_err-id c =
    let range = subst (λ (b : Bound ℕ). IsRangeOf nat_cmp b Unbounded c.self.inside.used c.range.result) c.above.ensures
    (c.range.ensures.in_range tt) in
    subst (IsNextUser c.args.after c.args.self.now) (sym c.from_residual.ensures)
    (subst (λ (u : UsageMap). IsNextUser c.args.after u None) c.self.view_is
    (next_none c.args.after c.self.inside.used c.range.result range c.in_err-id.ensures.steps.0))

pub returns : goal.returns
returns c =
    let range = subst (λ (b : Bound ℕ). IsRangeOf nat_cmp b Unbounded c.self.inside.used c.range.result) c.above.ensures
    (c.range.ensures.in_range tt) in
    subst (λ (u : UsageMap). IsNextUser c.args.after u (Some c.in_ok-id.id.now)) c.self.view_is
    (next_found c.args.after c.self.inside.used c.range.result (c.in_ok-id.id.now, c.in_ok-id._used.now) c.next.new.self
    range c.in_ok-id.ensures.steps)
