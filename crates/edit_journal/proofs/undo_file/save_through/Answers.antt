use Rattle.std.proofs.Common.{List, ℕ, ◌+◌, length, [], unwrap_or, ap, ◌∙◌}
use Rattle.edit_journal.specs.ByteRanges.{with_laid}
use Rattle.edit_journal.specs.Undo.{range_at}
use Rattle.edit_journal.proofs.WrittenLemmas.{saves_one-written, written-bytes}
use Rattle.edit_journal.proofs.undo_file.save_through.Goals as goal

pub returns-clause-saved : goal.returns-clause-saved
returns-clause-saved g c told =
    let D = g.D.Disk in
    let old : List ℕ = unwrap_or ((D.seen c.args.disk.now).files c.args.name.now) [] in
    let mid : List ℕ = unwrap_or ((D.seen c.write.new.self).files c.args.undo.now) [] in
    saves_one-written old (unwrap_or ((D.seen c.read.new.self).files c.args.undo.now) []) c.range_head.result mid _
    c.args.k c.args.at (length c.args.buf.now) c.in_ok-count.count
    c.requires.place c.requires.few c.range_head.ensures.place c.range_head.ensures.number c.range_head.ensures.rest
    c.range_head.ensures.whole
    (c.in_ok-count.ensures.count told)
    (written-bytes (D.seen c.read.new.self).files (D.seen c.write.new.self).files c.args.undo.now (range_at c.args.k)
    c.range_head.result (c.in_ok-write.ensures.ok told))
    (c.in_ok-write_some.ensures.written told
    ∙ ap (λ (bytes : List ℕ). with_laid mid (range_at c.args.k + 16) bytes) (c.in_ok-count.ensures.bytes told))
