use Rattle.std.proofs.Common.{ap, ◌∙◌}
use Rattle.free_chains.specs.declared.heads.Heads.{Heads}
use Rattle.free_chains.proofs.FreeListLemmas.{takes_new}
use Rattle.free_chains.proofs.free_list.take_block.Goals as goal

pub returns-then-heads-eq0-clause-taken : goal.returns-then-heads-eq0-clause-taken
returns-then-heads-eq0-clause-taken g c = λ known.
    takes_new _ _ c.args.heads.now c.take_new.new.heads _ c.if-heads-eq0.true
    (ap (λ (heads : Heads). heads.free) c.in_ok-take_new.ensures.head ∙ c.if-heads-eq0.true)
    (c.in_ok-take_new.ensures.blank known)
