use Rattle.std.proofs.Common.{◌≡◌, length, List, inl, inr, sym, ap, ◌∙◌, arith, []}
use Rattle.std.proofs.lemmas.Bool.{cases_Bool}
use Rattle.std.proofs.lemmas.List.{take_all}
use Rattle.outside.specs.Seen.{StoreSeen}
use Rattle.quota_pages.specs.Flushed.{flushed_files}
use Rattle.quota_pages.specs.Page.{Page, is_some_lent, lent_count}
use Rattle.quota_pages.specs.Pages.{name_of, pages_of}
use Rattle.quota_pages.proofs.FlushLemmas.{counted_by-most, on_err, some_rose}
use Rattle.tree_file.proofs.TornLemmas.{few_flushed, few_torn}
use Rattle.tree_file.proofs.finishing.finish.Goals as goal

-- what was not synced was written whole, which is a part too
pub returns-clause-torn : goal.returns-clause-torn
returns-clause-torn g c =
    let pages = pages_of c.args.pages.now in
    on_err c.sync.result _ (λ told. record {
      count = length pages;
      files = c.sync.ensures.leaves.files
          ∙ c.in_ok-flushed.ensures.flushed told
          ∙ ap (λ (ps : List Page). flushed_files (g.S.Store.seen c.args.store.now).files (name_of c.args.pages.now) ps)
          (sym (take_all (length pages) pages (omega arith)));
    })

pub returns-clause-writes : goal.returns-clause-writes
returns-clause-writes g c =
    let pages = pages_of c.args.pages.now in
    omega (
      arith,
      c.sync.ensures.leaves.writes,
      c.in_ok-flushed.ensures.writes,
      counted_by-most (g.S.Store.seen c.args.store.now).writes (lent_count pages),
    )

pub returns-in_err-flushed-clause-few : goal.returns-in_err-flushed-clause-few
returns-in_err-flushed-clause-few g c =
    λ told. few_torn c.args.pages.now (g.S.Store.seen c.args.store.now).files
    (g.S.Store.seen c.flush-flushed.new.store).files (c.in_err-flushed.ensures.fault told)

pub returns-clause-few : goal.returns-clause-few
returns-clause-few g c = λ told.
    few_flushed c.args.pages.now (g.S.Store.seen c.args.store.now).files (g.S.Store.seen c.sync.new.self).files
    (c.sync.ensures.leaves.files ∙ c.in_ok-flushed.ensures.flushed told)

-- where no page was lent for writing nothing was written
pub returns-clause-written : goal.returns-clause-written
returns-clause-written g c =
    let S = g.S.Store in
    let pages = pages_of c.args.pages.now in
    let synced = c.sync.ensures.leaves in
    elim (cases_Bool (is_some_lent pages)) [
      | inl some ↦ inr (omega (
        arith,
        some_rose pages (S.seen c.args.store.now).writes some,
        c.in_ok-flushed.ensures.writes,
        synced.writes,
      ))
      | inr none ↦
          let same : S.seen c.flush-flushed.new.store ≡ S.seen c.args.store.now =
          ap S.seen (c.in_ok-flushed.ensures.idle none).1 in
          inl (
            synced.files ∙ ap (λ (seen : StoreSeen). seen.files) same,
            synced.writes ∙ ap (λ (seen : StoreSeen). seen.writes) same,
          )
    ]

pub returns-in_err-flushed-clause-commits : goal.returns-in_err-flushed-clause-commits
returns-in_err-flushed-clause-commits g c =
    inl c.flush-flushed.ensures.commits

pub returns-clause-commits : goal.returns-clause-commits
returns-clause-commits g c =
    inr (
      g.S.Store.commits_on [] _ _ _ _ c.flush-flushed.ensures.commits c.sync.ensures.commits,
      λ told. c.sync.ensures.leaves.files ∙ c.in_ok-flushed.ensures.flushed told,
    )
