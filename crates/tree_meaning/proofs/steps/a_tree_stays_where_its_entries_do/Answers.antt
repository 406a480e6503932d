use Rattle.tree_meaning.proofs.FrameLemmas.{data_kept, filled_kept, leaves_kept, records_kept, room_kept, tree_kept}
use Rattle.tree_meaning.proofs.steps.a_tree_stays_where_its_entries_do.Goals as goal

pub returns-clause-tree : goal.returns-clause-tree
returns-clause-tree c =
    λ loose format old new len more heads records tree kept.
    tree_kept loose format old new heads.blocks more kept tree.roles.references tree.awaited

pub returns-clause-leaves : goal.returns-clause-leaves
returns-clause-leaves c =
    λ loose format old new len more heads records tree kept.
    leaves_kept loose format old new heads.blocks more kept tree.roles.references tree.awaited

pub returns-clause-data_blocks : goal.returns-clause-data_blocks
returns-clause-data_blocks c =
    λ loose format old new len more heads records tree kept.
    data_kept loose format old new heads.blocks more kept tree.roles.references tree.awaited

pub returns-clause-room : goal.returns-clause-room
returns-clause-room c =
    λ loose format old new len more heads records block tree kept.
    room_kept loose format old new heads.blocks more kept tree.roles.references tree.awaited block

pub returns-clause-filled : goal.returns-clause-filled
returns-clause-filled c =
    λ loose format old new len more heads records tree kept.
    filled_kept loose format old new heads.blocks more kept tree.roles.references tree.awaited tree.filled

pub returns-clause-each_record : goal.returns-clause-each_record
returns-clause-each_record c =
    λ loose format old new len more heads records id tree kept.
    records_kept loose format old new heads.blocks more kept tree.roles.references tree.awaited id
