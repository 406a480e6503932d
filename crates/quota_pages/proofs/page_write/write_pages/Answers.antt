use Rattle.std.proofs.Common.{◌≡◌, ◌+◌, List, [], inl, inr, take, refl, sym, ap, ◌∙◌, arith}
use Rattle.std.proofs.lemmas.Bool.{cases_Bool, false≢true}
use Rattle.std.proofs.lemmas.List.{take_all}
use Rattle.outside.proofs.FrameLemmas.{changes_one-none, changes_one-then}
use Rattle.quota_pages.specs.Flushed.{counted_by, flushed_files, flushed_names}
use Rattle.quota_pages.specs.Held.{pages_in}
use Rattle.quota_pages.specs.Page.{Page, lent_count}
use Rattle.quota_pages.proofs.FlushLemmas.{counted-more, counted-most, counted_once, flushed-more, flushed-nil}
use Rattle.quota_pages.proofs.FlushLemmas.{lent-none, names-more, names-nil, on_err, partly}
use Rattle.quota_pages.proofs.HeldLemmas.{length-pages_in, no_page, page_at, page_of}
use Rattle.quota_pages.proofs.page_write.write_pages.Goals as goal

pub loop-place-init : goal.loop-place-init
loop-place-init g c = record {
  files = λ told. sym (flushed-nil _ _);
  writes = refl;
  unsynced = λ told. sym (names-nil _ _);
  idle = λ none. refl;
  leaves = changes_one-none _ _;
  commits = g.S.Store.commits_nothing [] _;
}

pub loop-place-preserved : goal.loop-place-preserved
loop-place-preserved g c =
    let pages = pages_in c.args.held.now.heads.items c.args.held.now.blocks.items in
    let place = c.loop-place.place in
    let kept = c.loop-place.invariant in
    let wrote = c.in_ok-write_page.ensures in
    let page : Page = page_of c.head-head.result c.block.result.now in
    let at = page_at c.args.held.now.heads.items c.args.held.now.blocks.items place c.head-head.result
    c.block.result.now c.requires (omega arith) c.head-head.ensures c.block.ensures.value in
    record {
      files = λ told.
          flushed-more _ _ _ c.args.name.now pages place page no_page at.0 at.1 (kept.files told) (wrote.ok told);
      writes = counted-more _ _ _ pages place page no_page at.0 at.1 kept.writes wrote.writes;
      unsynced = λ told. names-more _ _ _ c.args.name.now pages place page no_page at.0 at.1 (kept.unsynced told)
          (wrote.unsynced told);
      idle = λ none. (wrote.idle (lent-none pages place page no_page none at.0 at.1)).1 ∙ kept.idle none;
      leaves = changes_one-then _ _ _ _ kept.leaves wrote.leaves;
      commits = g.S.Store.commits_on [] [] _ _ _ kept.commits wrote.commits;
    }

pub returns-in_err-write_page-clause-fault : goal.returns-in_err-write_page-clause-fault
returns-in_err-write_page-clause-fault g c =
    let pages = pages_in c.args.held.now.heads.items c.args.held.now.blocks.items in
    let place = c.loop-place.place in
    let page : Page = page_of c.head-head.result c.block.result.now in
    let at = page_at c.args.held.now.heads.items c.args.held.now.blocks.items place c.head-head.result
    c.block.result.now c.requires (omega arith) c.head-head.ensures c.block.ensures.value in
    on_err c.from_residual.result _
    (λ told. partly _ _ _ c.args.name.now pages place page no_page at.0 at.1 (c.loop-place.invariant.files told)
    (c.in_err-write_page.ensures.fault told))

pub returns-in_err-write_page-clause-tried : goal.returns-in_err-write_page-clause-tried
returns-in_err-write_page-clause-tried g c =
    let pages = pages_in c.args.held.now.heads.items c.args.held.now.blocks.items in
    let place = c.loop-place.place in
    let page : Page = page_of c.head-head.result c.block.result.now in
    let at = page_at c.args.held.now.heads.items c.args.held.now.blocks.items place c.head-head.result
    c.block.result.now c.requires (omega arith) c.head-head.ensures c.block.ensures.value in
    on_err c.from_residual.result _
    (counted-most _ _ pages (place + 1)
    (counted-more _ _ _ pages place page no_page at.0 at.1 c.loop-place.invariant.writes
    c.in_err-write_page.ensures.writes))

-- the call that failed was counted
pub returns-in_err-write_page-clause-rose : goal.returns-in_err-write_page-clause-rose
returns-in_err-write_page-clause-rose g c =
    let pages = pages_in c.args.held.now.heads.items c.args.held.now.blocks.items in
    let wrote = c.in_err-write_page.ensures in
    on_err c.from_residual.result _ (elim (cases_Bool c.head-head.result.lent) [
      | inl lent ↦ counted_once _ _ _ (lent_count (take c.loop-place.place pages)) c.head-head.result.lent lent
          c.loop-place.invariant.writes wrote.writes
      | inr kept ↦ absurd (false≢true (wrote.idle kept).0)
    ])

-- where no page was lent no call is made that could fail
pub returns-in_err-write_page-clause-idle : goal.returns-in_err-write_page-clause-idle
returns-in_err-write_page-clause-idle g c none =
    let pages = pages_in c.args.held.now.heads.items c.args.held.now.blocks.items in
    let place = c.loop-place.place in
    let page : Page = page_of c.head-head.result c.block.result.now in
    let at = page_at c.args.held.now.heads.items c.args.held.now.blocks.items place c.head-head.result
    c.block.result.now c.requires (omega arith) c.head-head.ensures c.block.ensures.value in
    absurd (false≢true (c.in_err-write_page.ensures.idle (lent-none pages place page no_page none at.0 at.1)).0)

pub returns-clause-flushed : goal.returns-clause-flushed
returns-clause-flushed g c told =
    let pages = pages_in c.args.held.now.heads.items c.args.held.now.blocks.items in
    let whole : take c.loop-place.place pages ≡ pages = take_all c.loop-place.place pages
    (omega (arith, length-pages_in c.args.held.now.heads.items c.args.held.now.blocks.items c.requires)) in
    c.loop-place.invariant.files told
    ∙ ap (λ (ps : List Page). flushed_files (g.S.Store.seen c.args.store.now).files c.args.name.now ps) whole

pub returns-clause-writes : goal.returns-clause-writes
returns-clause-writes g c =
    let pages = pages_in c.args.held.now.heads.items c.args.held.now.blocks.items in
    let whole : take c.loop-place.place pages ≡ pages = take_all c.loop-place.place pages
    (omega (arith, length-pages_in c.args.held.now.heads.items c.args.held.now.blocks.items c.requires)) in
    c.loop-place.invariant.writes
    ∙ ap (λ (ps : List Page). counted_by (g.S.Store.seen c.args.store.now).writes (lent_count ps)) whole

pub returns-clause-unsynced : goal.returns-clause-unsynced
returns-clause-unsynced g c told =
    let pages = pages_in c.args.held.now.heads.items c.args.held.now.blocks.items in
    let whole : take c.loop-place.place pages ≡ pages = take_all c.loop-place.place pages
    (omega (arith, length-pages_in c.args.held.now.heads.items c.args.held.now.blocks.items c.requires)) in
    c.loop-place.invariant.unsynced told
    ∙ ap (λ (ps : List Page). flushed_names (g.S.Store.seen c.args.store.now).unsynced c.args.name.now ps) whole
