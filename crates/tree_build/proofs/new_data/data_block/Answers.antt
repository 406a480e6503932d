use Rattle.std.proofs.Common.{get_or, arith}
use Rattle.tree_meaning.specs.Entries.{entry_bytes}
use Rattle.tree_build.proofs.DataBlockLemmas.{filled_all, filled_more, filled_none, no_entry}
use Rattle.byte_order.specs.declared.order.Order.TheVariants.{Little}
use Rattle.tree_meaning.proofs.RecordLemmas.{is_spelled}
use Rattle.tree_build.proofs.new_data.data_block.Goals as goal

pub loop-place-init : goal.loop-place-init
loop-place-init c =
    filled_none c.args.format c.set_le16.new.block c.args.entries.now c.set_le16.ensures.others
    c.set_le16.ensures.written (omega arith)

pub loop-place-preserved : goal.loop-place-preserved
loop-place-preserved c =
    filled_more c.args.format c.loop-place.block c.put_entry.new.block c.args.entries.now c.loop-place.place
    (omega arith) c.loop-place-test.true
    (is_spelled Little c.args.format (entry_bytes c.args.format c.put_entry.new.block c.loop-place.place)
    (get_or c.args.entries.now c.loop-place.place no_entry) c.requires.tree c.put_entry.ensures.entry)
    c.put_entry.ensures.padding c.put_entry.ensures.others c.loop-place.invariant

pub returns : goal.returns
returns c =
    filled_all c.args.format c.loop-place.block c.args.entries.now c.loop-place.place c.requires.few (omega arith)
    (omega arith) c.loop-place.invariant
