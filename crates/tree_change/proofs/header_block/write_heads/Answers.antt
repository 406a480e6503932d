use Rattle.std.proofs.Common.{arith}
use Rattle.quota_types.proofs.NumberLemmas.{number_before}
use Rattle.tree_change.proofs.header_block.write_heads.Goals as goal

pub returns : goal.returns
returns c =
    let written = c.set_le32s_at.ensures.written in
    let others = c.set_le32s_at.ensures.others in
    record {
      heads = λ i. record {
        magic = number_before 4 0 _ _ _ _ others (omega arith) i;
        version = number_before 4 4 _ _ _ _ others (omega arith) i;
        block_grace = number_before 4 8 _ _ _ _ others (omega arith) i;
        inode_grace = number_before 4 12 _ _ _ _ others (omega arith) i;
        flags = number_before 4 16 _ _ _ _ others (omega arith) i;
        blocks = written 0 (omega arith) i;
        free = written 1 (omega arith) i;
        first = written 2 (omega arith) i;
      };
      others = others;
    }
