use Rattle.std.proofs.Common.{ℕ}
use Rattle.free_chains.specs.declared.chain_link.ChainLink.{ChainLink}
use Rattle.quota_types.specs.Times.{StandsIn}
use Rattle.tree_check.proofs.DataLemmas.{mapped_all, mapped_more}
use Rattle.file_blocks.proofs.MarkedLemmas.{stands_mapped}
use Rattle.tree_check.proofs.data.first_foreign.Goals as goal

pub returns-then-not-contains : goal.returns-then-not-contains
returns-then-not-contains c = λ blocks numbers are inside.
    let stands =
    stands_mapped (λ (link : ChainLink). link.block) c.args.links.now c.loop-link.link-index _ c.loop-link-test.true in
    (stands, c.if-not-contains.ensures.found blocks numbers are (inside _ stands))

pub loop-link-preserved : goal.loop-link-preserved
loop-link-preserved c = λ blocks numbers are inside.
    mapped_more (λ (n : ℕ). StandsIn numbers n) (λ (link : ChainLink). link.block) c.args.links.now
    c.loop-link.link-index _ c.loop-link-test.true
    (c.loop-link.invariant blocks numbers are inside)
    (c.if-not-contains.ensures.found blocks numbers are
    (inside _
    (stands_mapped (λ (link : ChainLink). link.block) c.args.links.now c.loop-link.link-index _ c.loop-link-test.true)))

pub returns : goal.returns
returns c = λ blocks numbers are inside number stands.
    c.loop-link.invariant blocks numbers are inside number
    (mapped_all (λ (link : ChainLink). link.block) c.args.links.now c.loop-link.link-index number
    c.loop-link-test.false stands)
