use Rattle.std.proofs.Common.{List, ℕ, [], length, unwrap_or, ap, ◌∙◌}
use Rattle.outside.specs.World.{World}
use Rattle.edit_journal.specs.ByteRanges.{with_laid}
use Rattle.edit_journal.proofs.ReadLemmas.{padded-bytes}
use Rattle.edit_journal.proofs.recovery.lay_through.Goals as goal

pub returns-clause-laid : goal.returns-clause-laid
returns-clause-laid g c told =
    let D = g.D.Disk in
    let undo : List ℕ = unwrap_or ((D.seen c.args.disk.now).files c.args.undo.now) [] in
    let old : List ℕ = unwrap_or ((D.seen c.args.disk.now).files c.args.name.now) [] in
    c.in_ok-write_some.ensures.written told
    ∙ ap (λ (f : World). with_laid (unwrap_or (f c.args.name.now) []) c.args.at c.read_padded.new.buf)
    c.read_padded.ensures.looks.passes.follows.read
    ∙ ap (λ (bytes : List ℕ). with_laid old c.args.at bytes)
    (padded-bytes undo c.read_padded.new.buf c.args.from (length c.args.buf.now) c.read_padded.auto.buf
    (c.in_ok-read_padded.ensures.same told))
