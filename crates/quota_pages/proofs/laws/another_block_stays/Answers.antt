use Rattle.std.proofs.Common.{List, ℕ, ap, ◌∙◌}
use Rattle.std.specs.Result.{is_ok}
use Rattle.quota_types.specs.Bytes.{number_at}
use Rattle.quota_pages.proofs.BufferLemmas.{looked_at-lent}
use Rattle.quota_pages.proofs.laws.another_block_stays.Goals as goal

pub returns-clause-stays : goal.returns-clause-stays
returns-clause-stays g c = λ differ told clean.
    c.le32.ensures
    ∙ ap (λ (block : List ℕ). number_at 4 block c.args.at)
    (looked_at-lent g.S.Store.tells _ _ c.args.number c.args.other c.set_le32.new.block c.in_ok-block-2.block.now
    c.args.pages.now _
    (c.page.follows.holds c.set_le32.new.block (ap is_ok c.in_ok-block.was)) c.page.ensures.leaves.files differ told
    clean c.in_ok-block-2.ensures.block)
