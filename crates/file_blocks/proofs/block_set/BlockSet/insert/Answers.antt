use Rattle.file_blocks.proofs.FlagsLemmas.{flags_insert}
use Rattle.file_blocks.proofs.block_set.BlockSet.insert.Goals as goal

pub returns : goal.returns
returns c = record {
  added = λ blocks numbers are low. flags_insert blocks c.args.block c.args.self.now.flags.items numbers
      c.in-Some.flag.now c.in-Some.ensures.value are low;
}
