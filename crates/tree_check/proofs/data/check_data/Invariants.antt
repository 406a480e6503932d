use Rattle.std.proofs.Common.{ℕ, ◌+◌, ◌<◌, ◌≤◌, take, IsTrue, true, []}
use Rattle.outside.specs.Frame.{OnlyReads}
use Rattle.file_blocks.specs.BlockSet.{AreFlagsOf}
use Rattle.byte_order.specs.Words.{words_of}
use Rattle.file_blocks.specs.Block.{bytes_of}
use Rattle.tree_meaning.specs.Compared.{HasEntriesOf, leading_ids, rooms}
use Rattle.tree_check.specs.Groups.{AreLeftFrom, groups_of}
use Rattle.tree_check.specs.Reads.{led_blocks}
use Rattle.tree_check.proofs.data.check_data.Given as goal

abbrev pub invariant-loop-block : goal.invariant-loop-block
invariant-loop-block g l =
    let S = g.S.Store in
    record {
      left : AreLeftFrom l.leaves l.block l.rest;
      entries : IsTrue S.tells → (block : ℕ) → block < l.block
          → HasEntriesOf l.order l.format (bytes_of ((S.seen l.fn.store).files l.name)) block
          (leading_ids (groups_of l.blocks l.leaves) block);
      room : IsTrue S.tells
          → AreFlagsOf l.blocks l.room.flags.items
          (rooms l.format (words_of l.order (S.seen l.fn.store).files l.name) (groups_of l.blocks l.leaves) l.block);
      leaves : OnlyReads true l.name (S.seen l.fn.store) (S.seen l.store);
      reads : (S.seen l.store).reads
          ≤ (S.seen l.fn.store).reads + led_blocks (take l.block (groups_of l.blocks l.leaves));
      commits : S.commits [] l.fn.store l.store;
    }
