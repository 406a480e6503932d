use Rattle.tree_file.proofs.LeftBehindLemmas.{left_of_graced, left_of_put, left_of_removed}
use Rattle.tree_file.proofs.laws.a_failed_change_leaves_what_lies_behind.Goals as goal

pub returns-clause-put : goal.returns-clause-put
returns-clause-put c = λ id before made left puts torn. left_of_put before made left torn id puts

pub returns-clause-removed : goal.returns-clause-removed
returns-clause-removed c = λ id before made left removes torn. left_of_removed before made left torn id removes

pub returns-clause-graced : goal.returns-clause-graced
returns-clause-graced c = λ grace before made left graced torn. left_of_graced before made left torn grace graced
