use Rattle.quota_radix.proofs.MoreBlocksLemmas.{paths-among_more, way-among_more}
use Rattle.quota_radix.proofs.laws.a_tree_stays_where_its_references_do.Goals as goal

pub returns-clause-paths : goal.returns-clause-paths
returns-clause-paths c =
    λ old new blocks more digits fewer inside same few.
    paths-among_more old new blocks more digits fewer (record { inside = inside; same = same }) few

pub returns-clause-way : goal.returns-clause-way
returns-clause-way c =
    λ old new blocks more id fewer inside same small.
    way-among_more old new blocks more id fewer small (record { inside = inside; same = same })
