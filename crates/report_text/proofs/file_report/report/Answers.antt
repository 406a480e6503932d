use Rattle.std.proofs.lemmas.Result.{err_from_is_err_and}
use Rattle.report_text.proofs.GatherLemmas.{gathers_then, writes_more, writes_then, prefix_written, prefix_flushed}
use Rattle.report_text.proofs.GatherLemmas.{all_written}
use Rattle.report_text.proofs.LinesLemmas.{report_is}
use Rattle.report_text.proofs.file_report.report.Goals as goal

pub returns-in_err-put_head-clause-fault : goal.returns-in_err-put_head-clause-fault
returns-in_err-put_head-clause-fault g c =
    let p = err_from_is_err_and c.from_residual.result c.from_residual.ensures.1 in
    rw p.1 (λ told value holds kind.
    prefix_written _ _ _ _ _ c.new-text.ensures
    (writes_more _ _ _ _ _ _ _ c.in_err-put_head.ensures.fault
    (report_is _ _ _ value _ _ _ kind (c.grace.ensures.value c.args.store.now value holds)))
    told)

pub returns-in_err-put_entries-clause-fault : goal.returns-in_err-put_entries-clause-fault
returns-in_err-put_entries-clause-fault g c =
    let p =
    err_from_is_err_and c.from_residual-in_err-put_entries.result c.from_residual-in_err-put_entries.ensures.1 in
    rw p.1 (λ told value holds kind.
    prefix_written _ _ _ _ _ c.new-text.ensures
    (writes_then _ _ _ _ _ _ _ _ _ c.in_ok-put_head.ensures.ok
    (c.in_err-put_entries.ensures.fault value holds)
    (report_is _ _ _ value _ _ _ kind (c.grace.ensures.value c.args.store.now value holds)))
    told)

pub returns-in_err-flush-clause-fault : goal.returns-in_err-flush-clause-fault
returns-in_err-flush-clause-fault g c =
    let p = err_from_is_err_and c.from_residual-in_err-flush.result c.from_residual-in_err-flush.ensures.1 in
    rw p.1 (λ told value holds kind.
    prefix_flushed _ _ _ _ _ _ _ c.new-text.ensures
    (gathers_then _ _ _ _ _ _ _ _ _ _ c.in_ok-put_head.ensures.ok
    (c.in_ok-put_entries.ensures.ok value holds)
    (report_is _ _ _ value _ _ _ kind (c.grace.ensures.value c.args.store.now value holds)))
    (c.in_err-flush.ensures.fault told)
    told)

pub returns-clause-ok : goal.returns-clause-ok
returns-clause-ok g c =
    λ told value holds kind.
    all_written _ _ _ _ _ _ _ c.new-text.ensures
    (gathers_then _ _ _ _ _ _ _ _ _ _ c.in_ok-put_head.ensures.ok
    (c.in_ok-put_entries.ensures.ok value holds)
    (report_is _ _ _ value _ _ _ kind (c.grace.ensures.value c.args.store.now value holds)))
    (c.in_ok-flush.ensures.ok told)
    told
