use Rattle.std.proofs.Common.{[], None, get_or}
use Rattle.tree_change.proofs.AwaitedEntryLemmas.{has_awaited}
use Rattle.tree_change.proofs.laws.an_awaited_leaf_has_its_entry.Goals as goal

pub returns-clause-awaited : goal.returns-clause-awaited
returns-clause-awaited c =
    λ held misplaced format file heads records leaf tree. has_awaited held misplaced format file heads records leaf tree

pub returns-clause-unlinked : goal.returns-clause-unlinked
returns-clause-unlinked c = λ way format old new heads now records id unlinks is tree.
    has_awaited [] None format new now records (record { number = id; block = get_or way 4 0 })
    (unlinks [] format records is tree).0.tree
