use Rattle.std.proofs.Common.{length, ◌∙◌, sym}
use Rattle.tree_check.proofs.DataLemmas.{room_added, some_length}
use Rattle.tree_check.proofs.data.check_group.Goals as goal

pub returns-then-branch-clause-room : goal.returns-then-branch-clause-room
returns-then-branch-clause-room g c = λ told blocks numbers are low new.
    room_added blocks c.args.number c.insert.new.self.flags.items numbers c.insert.result _ _
    (some_length (length c.args.ids.now) (sym c.if-is_empty.ensures))
    (sym (c.in_ok-check_block.ensures.room told) ∙ c.if-branch.true)
    new (c.insert.ensures.added blocks numbers are low)
