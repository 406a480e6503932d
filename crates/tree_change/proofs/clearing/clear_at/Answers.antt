use Rattle.std.proofs.Common.{ℕ, List, sym, ap, subst}
use Rattle.std.specs.Prelude.{IsSome}
use Rattle.std.specs.Result.{is_ok}
use Rattle.tree_meaning.specs.EntryRecords.{record_by}
use Rattle.quota_pages.proofs.UsedLemmas.{lends_of_page, shown_over-lends, shown_over-lent}
use Rattle.tree_change.proofs.ClearsLemmas.{cleared_so, loses}
use Rattle.tree_change.proofs.clearing.clear_at.Goals as goal

pub returns-clause-cleared : goal.returns-clause-cleared
returns-clause-cleared g c = λ known id used.
    loses c.args.format c.args.block c.in_ok-bytes.bytes.now c.clear_in.new.block _ _ c.clear_in.ensures.whole
    (c.in_ok-bytes.ensures.block known.told known.clean)
    (shown_over-lent _ _ (c.page.follows.holds c.clear_in.new.block (ap is_ok c.in_ok-bytes.was)) c.page.ensures.leaves)
    (shown_over-lends
    (lends_of_page _ _ (c.page.follows.holds c.clear_in.new.block (ap is_ok c.in_ok-bytes.was))
    c.in_ok-bytes.ensures.leaves c.page.ensures.reads))
    c.args.place id
    (c.clear_in.ensures.clears id
    (subst (λ (block : List ℕ). IsSome (record_by c.args.format block id c.args.place))
    (sym (c.in_ok-bytes.ensures.block known.told known.clean)) used))
    c.clear_in.ensures.stated c.clear_in.ensures.links

pub returns-clause-left : goal.returns-clause-left
returns-clause-left g c = λ known.
    cleared_so c.args.format c.args.block c.in_ok-bytes.bytes.now c.clear_in.new.block _ _ c.clear_in.ensures.whole
    (c.in_ok-bytes.ensures.block known.told known.clean)
    (shown_over-lent _ _ (c.page.follows.holds c.clear_in.new.block (ap is_ok c.in_ok-bytes.was)) c.page.ensures.leaves)
    (shown_over-lends
    (lends_of_page _ _ (c.page.follows.holds c.clear_in.new.block (ap is_ok c.in_ok-bytes.was))
    c.in_ok-bytes.ensures.leaves c.page.ensures.reads))
    c.clear_in.result c.clear_in.ensures.cleared

pub returns-clause-lends : goal.returns-clause-lends
returns-clause-lends g c =
    lends_of_page _ _ (c.page.follows.holds c.clear_in.new.block (ap is_ok c.in_ok-bytes.was))
    c.in_ok-bytes.ensures.leaves c.page.ensures.reads
