use Rattle.std.proofs.Common.{◌∙◌, arith}
use Rattle.quota_types.proofs.BytesLemmas.{number_same}
use Rattle.tree_file.proofs.grace_change.set_periods.Goals as goal

-- the first period stands before the second
pub returns-clause-block_grace : goal.returns-clause-block_grace
returns-clause-block_grace c =
    number_same 4 8 c.set_le32-2.new.block c.set_le32.new.block
    (λ k from to. c.set_le32-2.ensures.others.before k (omega arith)) ∙ c.set_le32.ensures.written
