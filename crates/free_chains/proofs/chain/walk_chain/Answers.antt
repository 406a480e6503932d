use Rattle.std.proofs.Common.{arith, rules, []}
use Rattle.std.proofs.lemmas.List.{length-map}
use Rattle.free_chains.specs.declared.chain_link.ChainLink.{ChainLink}
use Rattle.free_chains.proofs.WalkLemmas.{walk_few, walk_fits}
use Rattle.free_chains.proofs.chain.walk_chain.Goals as goal

pub loop-at-smaller : goal.loop-at-smaller
loop-at-smaller g c =
    let now = c.go_to.new.self in
    let fits = walk_fits c.args.blocks now (c.in_ok-at.ensures.walk c.loop-at.invariant.is_walk) in
    omega (
      arith,
      fits,
      length-map now.links.items (λ (link : ChainLink). link.block),
      now.links.ok.0,
      c.in_ok-at.ensures.longer,
    )

pub returns-clause-few_reads : goal.returns-clause-few_reads
returns-clause-few_reads g c =
    let kept = c.loop-at.invariant in
    omega (arith, kept.reads, walk_few c.args.blocks c.loop-at.walk kept.is_walk, c.loop-at.walk.links.ok.0)

pub loop-at-preserved : goal.loop-at-preserved
loop-at-preserved g c = record {
  is_walk = search rules;
  links = search rules;
  leaves = search rules;
  reads = search rules;
  commits = g.S.Store.commits_on [] [] _ _ _ c.loop-at.invariant.commits c.go_to.ensures.commits;
}
