use Rattle.std.proofs.Common.{◌≡◌, ◌+◌, ◌*◌, ◌<◌, ◌^◌, nat_eq, Option, Some, None, ap, subst, sym, ◌∙◌}
use Rattle.std.specs.Prelude.{IfSome}
use Rattle.std.specs.FinMap.{get, insert}
use Rattle.std.specs.Map.{lookup}
use Rattle.inode_scan.specs.declared.used.Used.{Used}
use Rattle.inode_scan.specs.Usage.{UsageMap}
use Rattle.inode_scan.specs.UsageSums.{with_inode}
use Rattle.inode_scan.proofs.SumsLemmas.{get_sum, sum_put}
use Rattle.inode_scan.proofs.UsageLemmas.{some_is}
use Rattle.inode_scan.proofs.sums.Sums.add.Goals as goal

pub with_inode-requires : goal.with_inode-requires
with_inode-requires c =
    subst
    (λ (o : Option Used). IfSome o (λ used. (used.space + 512 * c.args.blocks < 2 ^ 128) × (used.inodes + 1 < 2 ^ 64)))
    (ap (λ (m : UsageMap). get m c.args.id) (sym c.self.view_is) ∙ get_sum c.self.inside.used.entries c.args.id
    ∙ sym c.in-Some.ensures.value) c.requires

pub returns-in-Some : goal.returns-in-Some
returns-in-Some c =
    let used : Used = c.with_inode.result in
    let some : lookup (nat_eq c.args.id) c.self.inside.used.entries ≡ Some c.in-Some.used.now =
    sym c.in-Some.ensures.value in
    let put = ((c.get_mut.follows.holds used).3 (some_is _ c.in-Some.used.now some)).0 in
    sum_put c.self.inside.used.entries _ c.args.id used put
    ∙ ap (λ (m : UsageMap). insert m c.args.id used) c.self.view_is
    ∙ ap (insert c.args.self.now c.args.id) (c.with_inode.ensures
    ∙ ap (λ o. with_inode o c.args.blocks)
    (sym (ap (λ (m : UsageMap). get m c.args.id) (sym c.self.view_is)
    ∙ get_sum c.self.inside.used.entries c.args.id ∙ some)))

pub returns : goal.returns
returns c =
    let used : Used = c.with_inode-2.result in
    let none : lookup (nat_eq c.args.id) c.self.inside.used.entries ≡ None = sym c.in_default.ensures.value in
    let put = rw c.get_mut.follows.holds-at-none at c.in_ok-insert.ensures.updates.0 in
    sum_put c.self.inside.used.entries c.insert.new.self.entries c.args.id used put
    ∙ ap (λ (m : UsageMap). insert m c.args.id used) c.self.view_is
    ∙ ap (insert c.args.self.now c.args.id) (c.with_inode-2.ensures
    ∙ ap (λ o. with_inode o c.args.blocks)
    (sym (ap (λ (m : UsageMap). get m c.args.id) (sym c.self.view_is)
    ∙ get_sum c.self.inside.used.entries c.args.id ∙ none)))
