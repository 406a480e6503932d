use Rattle.std.proofs.Common.{◌+◌, ◌*◌, ℕ, Some, ap, ◌∙◌, arith}
use Rattle.quota_radix.proofs.PastLemmas.{step_none, step_some}
use Rattle.quota_radix.proofs.following.step.Goals as goal

pub returns-then-block-eq0-clause-found : goal.returns-then-block-eq0-clause-found
returns-then-block-eq0-clause-found g c = λ known.
    step_none _ c.args.blocks c.args.path c.args.digit c.in_ok-block.block (c.in_ok-block.ensures.is known)
    c.if-block-eq0.true

pub returns-clause-found : goal.returns-clause-found
returns-clause-found g c = λ known.
    ap (λ (d : ℕ). Some (record { number = 256 * c.args.path.number + d; block = c.in_ok-block.block })) c.from.ensures
    ∙ step_some _ c.args.blocks c.args.path c.args.digit c.in_ok-block.block (c.in_ok-block.ensures.is known)
    c.in_ok-block.ensures.inside c.if-block-eq0.false

pub returns-then-block-eq0-clause-inside : goal.returns-then-block-eq0-clause-inside
returns-then-block-eq0-clause-inside g c =
    λ known. omega (arith, c.in_ok-block.ensures.is known, c.in_ok-block.ensures.inside)

pub returns-clause-inside : goal.returns-clause-inside
returns-clause-inside g c = λ known. omega (arith, c.in_ok-block.ensures.is known, c.in_ok-block.ensures.inside)
