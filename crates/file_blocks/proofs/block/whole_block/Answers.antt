use Rattle.std.proofs.Common.{refl}
use Rattle.file_blocks.proofs.BlockLemmas.{chunk_is_block}
use Rattle.file_blocks.proofs.block.whole_block.Goals as goal

pub returns-clause-value : goal.returns-clause-value
returns-clause-value c =
    chunk_is_block c.args.file.now c.in_ok-rest.rest.now c.in_ok-block.block.now c.args.number _ refl
    c.in_ok-rest.ensures.lookup.0.2 c.in_ok-block.ensures.cases.enough
    c.in_ok-block.ensures.cases.same
