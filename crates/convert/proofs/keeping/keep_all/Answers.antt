use Rattle.std.proofs.lemmas.Result.{err_from_is_err_and}
use Rattle.std.proofs.Common.{ap, arith, ◌∙◌, sym}
use Rattle.quota_types.specs.declared.record.Entry.{Entry}
use Rattle.quota_types.specs.Rec.{zero_record}
use Rattle.convert.specs.Listing.{entry_no_room}
use Rattle.convert.proofs.ListingLemmas.{first_without, kept_all, kept_more, none_without}
use Rattle.convert.proofs.keeping.keep_all.Goals as goal

-- an entry, for where a list has none
abbrev any : Entry
any = record { id = 0; rec = zero_record }

pub returns-in_err-keep_one-clause-refused : goal.returns-in_err-keep_one-clause-refused
returns-in_err-keep_one-clause-refused c =
    let p = err_from_is_err_and c.from_residual.result c.from_residual.ensures.1 in
    rw (p.1, p.2)
    (first_without c.args.format c.args.entries.now c.loop-entry.entry-index _ any c.loop-entry.invariant.clean
    c.loop-entry-test.true
    (ap (entry_no_room c.args.format) (sym (c.loop-entry.invariant.rest c.loop-entry.entry-index any (omega arith)))
    ∙ c.in_err-keep_one.ensures.refused))

pub loop-entry-preserved : goal.loop-entry-preserved
loop-entry-preserved c =
    let one = c.in_ok-keep_one.ensures in
    kept_more c.args.format c.args.entries.now c.loop-entry.entries c.loop-entry.entry-index any c.keep_one.new.entry
    c.loop-entry.invariant c.loop-entry-test.true c.loop-entry.auto.entries
    one.kept one.fits one.again one.null c.requires

pub returns-clause-kept : goal.returns-clause-kept
returns-clause-kept c =
    kept_all c.args.format c.args.entries.now c.loop-entry.entries c.loop-entry.entry-index c.loop-entry.invariant
    (omega (arith, c.loop-entry-test.false, c.loop-entry.auto.entry-index-end)) c.loop-entry.auto.entries

pub returns-clause-fits : goal.returns-clause-fits
returns-clause-fits c =
    none_without c.args.format c.args.entries.now
    (λ k less d. c.loop-entry.invariant.clean k (omega (arith, less, c.loop-entry-test.false)) d)
