use Rattle.std.proofs.Common.{refl}
use Rattle.file_blocks.proofs.BlockLemmas.{copied_block}
use Rattle.file_blocks.proofs.block.block_of.Goals as goal

pub returns : goal.returns
returns c =
    copied_block c.args.file.now _ c.copy_from_slice.new.self _ c.args.number c.min.result c.min-count.result
    c.min.ensures refl c.min-count.ensures c.copy_from_slice.ensures.after refl
