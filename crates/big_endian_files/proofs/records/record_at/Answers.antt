use Rattle.big_endian_files.proofs.EntryLemmas.{of_another, of_it}
use Rattle.big_endian_files.proofs.records.record_at.Goals as goal

pub returns-then-used_by-id-clause-value : goal.returns-then-used_by-id-clause-value
returns-then-used_by-id-clause-value c =
    of_it c.args.block.now c.entry_at-bytes.result.now c.args.id c.in_ok-used_by.used_by c.args.place
    c.in_ok-used_by.rec
    c.entry_at-bytes.ensures.value c.in_ok-used_by.ensures.used c.if-used_by-id.true

pub returns-else-used_by-id-clause-value : goal.returns-else-used_by-id-clause-value
returns-else-used_by-id-clause-value c =
    of_another c.args.block.now c.entry_at-bytes.result.now c.args.id c.in_ok-used_by.used_by c.args.place
    c.in_ok-used_by.rec c.entry_at-bytes.ensures.value c.in_ok-used_by.ensures.used c.if-used_by-id.false
