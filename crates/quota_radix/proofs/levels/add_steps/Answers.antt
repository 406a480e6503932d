use Rattle.std.proofs.Common.{◌≡◌, ◌<◌, refl, inl, inr, arith}
use Rattle.quota_radix.proofs.AddedStepLemmas.{added_more, all_within, block_empty_defect, block_whole, references_more}
use Rattle.quota_radix.proofs.AddedStepLemmas.{steps_added}
use Rattle.quota_radix.proofs.StepLemmas.{word_in}
use Rattle.quota_radix.proofs.levels.add_steps.Goals as goal

pub loop-digit-preserved : goal.loop-digit-preserved
loop-digit-preserved c =
    let is : c.level_ref-reference.result ≡ word_in c.args.block.now c.loop-digit.digit =
    c.level_ref-reference.ensures in
    let low : c.level_ref-reference.result < c.args.blocks = omega arith in
    record {
      added =
          added_more c.args.block.now c.args.blocks c.args.path c.args.next.now.items c.loop-digit.next.items
          c.push_step.new.next.items
          c.loop-digit.digit c.level_ref-reference.result is low c.loop-digit.invariant.added c.in_ok-push_step.ensures;
      references = references_more c.args.block.now c.args.blocks c.loop-digit.digit c.level_ref-reference.result is low
          c.loop-digit.invariant.references;
    }

pub returns-then-path-ne-ROOT-clause-refused : goal.returns-then-path-ne-ROOT-clause-refused
returns-then-path-ne-ROOT-clause-refused c = rw c.damage_at-then-path-ne-ROOT.ensures (
  refl,
  λ file is.
      let all : c.loop-digit.digit ≡ 256 = omega arith in
      block_empty_defect file c.args.block.now c.args.blocks c.args.path c.args.next.now.items c.loop-digit.next.items
      c.loop-digit.digit all is
      c.loop-digit.invariant.added c.loop-digit.invariant.references (omega arith) c.if-path-ne-ROOT.true,
)

pub returns-clause-added : goal.returns-clause-added
returns-clause-added c = λ file is.
    let all : c.loop-digit.digit ≡ 256 = omega arith in
    steps_added file c.args.block.now c.args.blocks c.args.path c.args.next.now.items c.loop-digit.next.items
    c.loop-digit.digit all is
    c.loop-digit.invariant.added c.loop-digit.invariant.references

pub returns-clause-whole : goal.returns-clause-whole
returns-clause-whole c = λ file is.
    let all : c.loop-digit.digit ≡ 256 = omega arith in
    block_whole file c.args.block.now c.args.blocks c.args.path c.args.next.now.items c.loop-digit.next.items
    c.loop-digit.digit all is
    c.loop-digit.invariant.added c.loop-digit.invariant.references
    (λ nothing. elim c.else-len-before.either [ inl root ↦ root.1 | inr more ↦ absurd (more (omega arith)) ])

pub returns-clause-within : goal.returns-clause-within
returns-clause-within c = λ bound low before.
    all_within _ c.args.blocks bound c.args.path c.args.next.now.items c.loop-digit.next.items
    c.loop-digit.digit (omega arith)
    c.loop-digit.invariant.added low before
