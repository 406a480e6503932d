use Rattle.std.proofs.Common.{List, ℕ, sym, ap, subst}
use Rattle.std.specs.Result.{is_ok}
use Rattle.file_blocks.specs.Block.{block_of}
use Rattle.quota_types.specs.KeptBytes.{KeepsOutside}
use Rattle.quota_pages.specs.Pages.{pages_of}
use Rattle.quota_pages.specs.Used.{shown_over}
use Rattle.quota_pages.proofs.UsedLemmas.{lends_more, lends_of_page, missing-few, shown_over-lent}
use Rattle.tree_file.specs.TreeChange.{IsGraced}
use Rattle.tree_file.proofs.GracedLemmas.{graced_laid}
use Rattle.tree_file.proofs.grace_change.lend_periods.Goals as goal

pub returns-clause-set : goal.returns-clause-set
returns-clause-set g c = λ known.
    let old : List ℕ = shown_over (g.S.Store.seen c.args.store.now) c.args.pages.now in
    let keeps : KeepsOutside 8 16 (block_of old 0) c.set_periods.new.block =
    subst (λ (block : List ℕ). KeepsOutside 8 16 block c.set_periods.new.block)
    (c.in_ok-block.ensures.block known.told known.clean) c.set_periods.ensures.others in
    subst (λ (file : List ℕ). IsGraced c.args.grace old file)
    (sym (shown_over-lent _ _ (c.page.follows.holds c.set_periods.new.block (ap is_ok c.in_ok-block.was))
    c.page.ensures.leaves))
    (graced_laid old c.set_periods.new.block c.args.grace keeps c.set_periods.ensures.block_grace
    c.set_periods.ensures.inode_grace)

pub returns-clause-lends : goal.returns-clause-lends
returns-clause-lends g c =
    lends_more 1 (missing-few (pages_of c.args.pages.now) 0)
    (lends_of_page _ _ (c.page.follows.holds c.set_periods.new.block (ap is_ok c.in_ok-block.was))
    c.in_ok-block.ensures.leaves c.page.ensures.reads)
