use Rattle.tree_change.proofs.ClearsLemmas.{stated_now}
use Rattle.tree_change.proofs.clearing.state_count.Goals as goal

pub returns-clause-stated : goal.returns-clause-stated
returns-clause-stated c =
    stated_now c.args.format c.used_count-count.result c.args.block.now c.set_le16.new.block c.told-block
    c.set_le16.array_long c.set_le16.ensures.written c.used_count-count.ensures.count c.set_le16.ensures.others
