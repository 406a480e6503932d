use Rattle.std.proofs.Common.{refl}
use Rattle.free_chains.specs.declared.chain_link.ChainLink.{ChainLink}
use Rattle.file_blocks.proofs.MarkedLemmas.{met_all, met_more, met_twice, stands_mapped}
use Rattle.tree_check.proofs.marking.mark_links.Goals as goal

pub returns-then-not-insert-clause-refused : goal.returns-then-not-insert-clause-refused
returns-then-not-insert-clause-refused c = rw c.damage_at.ensures (λ blocks numbers are inside. record {
  kind = refl;
  twice =
      met_twice (λ (link : ChainLink). link.block) numbers c.args.links.now c.loop-link.link-index _
      c.loop-link-test.true
      (c.if-not-insert.ensures.added blocks _ (c.loop-link.invariant blocks numbers are inside)
      (inside _ (stands_mapped (λ (link : ChainLink). link.block) c.args.links.now c.loop-link.link-index _
      c.loop-link-test.true)));
  no_id = refl;
})

pub loop-link-preserved : goal.loop-link-preserved
loop-link-preserved c = λ blocks numbers are inside.
    met_more (λ (link : ChainLink). link.block) blocks _ numbers c.args.links.now c.loop-link.link-index _
    c.loop-link-test.true
    (c.if-not-insert.ensures.added blocks _ (c.loop-link.invariant blocks numbers are inside)
    (inside _ (stands_mapped (λ (link : ChainLink). link.block) c.args.links.now c.loop-link.link-index _
    c.loop-link-test.true))).0

pub returns-clause-marked : goal.returns-clause-marked
returns-clause-marked c = λ blocks numbers are inside.
    met_all (λ (link : ChainLink). link.block) blocks _ numbers c.args.links.now c.loop-link.link-index
    c.loop-link-test.false (c.loop-link.invariant blocks numbers are inside)
