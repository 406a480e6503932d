use Rattle.std.proofs.Common.{sym, ◌∙◌, arith}
use Rattle.file_blocks.specs.Block.{word_at}
use Rattle.quota_radix.specs.Way.{IsClearTo}
use Rattle.quota_radix.proofs.PastLemmas.{later_none, later_some, word_read, zeros_more}
use Rattle.quota_radix.proofs.WayLemmas.{none_later}
use Rattle.quota_radix.proofs.following.first_in.Goals as goal

pub returns-then-reference-blocks-clause-refused : goal.returns-then-reference-blocks-clause-refused
returns-then-reference-blocks-clause-refused c = (
  c.damage_at.ensures,
  λ file is. (
    c.loop-digit.digit,
    omega arith,
    omega (
      arith,
      word_read c.args.block.now file c.args.path.block c.loop-digit.digit _ c.level_ref-reference.ensures is,
    ),
  ),
)

pub returns-then-reference-ne0-clause-found : goal.returns-then-reference-ne0-clause-found
returns-then-reference-ne0-clause-found c = λ file is.
    later_some file c.args.blocks c.args.path c.loop-digit.digit c.level_ref-reference.result (omega arith)
    (word_read c.args.block.now file c.args.path.block c.loop-digit.digit _ c.level_ref-reference.ensures is)
    (omega arith) c.if-reference-ne0.true
    ∙ c.loop-digit.invariant.later file is

pub loop-digit-preserved : goal.loop-digit-preserved
loop-digit-preserved c = record {
  later = λ file is.
      later_none file c.args.blocks c.args.path c.loop-digit.digit c.level_ref-reference.result (omega arith)
      (word_read c.args.block.now file c.args.path.block c.loop-digit.digit _ c.level_ref-reference.ensures is)
      c.if-reference-ne0.false
      ∙ c.loop-digit.invariant.later file is;
  some = λ passed. omega (arith, c.if-reference-blocks.false, c.if-reference-ne0.false);
  zeros = λ file is.
      zeros_more (word_at file c.args.path.block) c.args.first c.loop-digit.digit (c.loop-digit.invariant.zeros file is)
      (sym (word_read c.args.block.now file c.args.path.block c.loop-digit.digit _ c.level_ref-reference.ensures is)
      ∙ c.if-reference-ne0.false);
}

pub returns-clause-found : goal.returns-clause-found
returns-clause-found c = λ file is.
    sym (none_later file c.args.blocks c.args.path c.loop-digit.digit (omega arith))
    ∙ c.loop-digit.invariant.later file is

pub returns-clause-none : goal.returns-clause-none
returns-clause-none c = λ file is digit from to. c.loop-digit.invariant.zeros file is digit from (omega arith)

pub returns-then-reference-ne0-clause-clear : goal.returns-then-reference-ne0-clause-clear
unfolding IsClearTo
returns-then-reference-ne0-clause-clear c = λ file is digit from to before. (
  c.loop-digit.invariant.zeros file is digit from (omega (arith, before)),
  c.loop-digit.invariant.some (omega (arith, from, before)),
)

pub returns-clause-clear : goal.returns-clause-clear
unfolding IsClearTo
returns-clause-clear c = λ file is digit from to before. (
  c.loop-digit.invariant.zeros file is digit from (omega (arith, to)),
  c.loop-digit.invariant.some (omega (arith, from, to)),
)
