use Rattle.tree_change.proofs.ClearsLemmas.{clears}
use Rattle.tree_change.proofs.clearing.clear_in.Goals as goal

pub returns-then-used_count-eq0-clause-clears : goal.returns-then-used_count-eq0-clause-clears
returns-then-used_count-eq0-clause-clears c = λ id used.
    clears c.args.format c.args.place c.args.block.now c.clear_entry.new.block c.state_count.new.block c.told-block
    c.clear_entry.array_long c.state_count.array_long
    c.requires.place c.clear_entry.ensures.others c.state_count.ensures.others id used c.clear_entry.ensures.unused

pub returns-then-had_room-clause-clears : goal.returns-then-had_room-clause-clears
returns-then-had_room-clause-clears c = λ id used.
    clears c.args.format c.args.place c.args.block.now c.clear_entry.new.block c.state_count.new.block c.told-block
    c.clear_entry.array_long c.state_count.array_long
    c.requires.place c.clear_entry.ensures.others c.state_count.ensures.others id used c.clear_entry.ensures.unused

pub returns-else-had_room-clause-clears : goal.returns-else-had_room-clause-clears
returns-else-had_room-clause-clears c = λ id used.
    clears c.args.format c.args.place c.args.block.now c.clear_entry.new.block c.state_count.new.block c.told-block
    c.clear_entry.array_long c.state_count.array_long
    c.requires.place c.clear_entry.ensures.others c.state_count.ensures.others id used c.clear_entry.ensures.unused
