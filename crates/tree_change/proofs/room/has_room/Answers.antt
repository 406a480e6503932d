use Rattle.std.proofs.Common.{inl, arith}
use Rattle.tree_change.proofs.room.has_room.Goals as goal

pub count_free-requires-clause-room : goal.count_free-requires-clause-room
count_free-requires-clause-room g c = inl (omega (arith, c.requires.room))
