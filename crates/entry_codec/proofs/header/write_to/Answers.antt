use Rattle.std.proofs.Common.{ap, ◌∙◌, arith}
use Rattle.quota_types.proofs.NumberLemmas.{behind_kept}
use Rattle.entry_codec.specs.Header.{format_of}
use Rattle.entry_codec.proofs.header.write_to.Goals as goal

pub returns-clause-numbers : goal.returns-clause-numbers
returns-clause-numbers c =
    let written = c.set_le32s_at.ensures.written in
    record {
      magic = written 0 (omega arith) ∙ c.magic_of.ensures;
      version = ap format_of (written 1 (omega arith)) ∙ c.version_of.ensures;
      block_grace = written 2 (omega arith);
      inode_grace = written 3 (omega arith);
      flags = written 4 (omega arith);
      blocks = written 5 (omega arith);
      free = written 6 (omega arith);
      first = written 7 (omega arith);
    }

pub returns-clause-rest : goal.returns-clause-rest
returns-clause-rest c =
    behind_kept 0 32 c.args.block.now c.set_le32s_at.new.bytes c.set_le32s_at.ensures.others (omega arith)
