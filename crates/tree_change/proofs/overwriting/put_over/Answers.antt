use Rattle.std.proofs.Common.{arith}
use Rattle.tree_change.proofs.PutLemmas.{puts_over}
use Rattle.tree_change.proofs.overwriting.put_over.Goals as goal

pub returns-clause-put : goal.returns-clause-put
returns-clause-put c =
    puts_over c.args.format c.args.place (record { id = c.args.id; rec = c.args.rec.now }) c.args.block.now
    c.put_entry.new.block
    (omega arith) c.put_entry.array_long c.requires.place c.put_entry.ensures.entry c.put_entry.ensures.others
