use Rattle.std.proofs.Common.{◌≡◌, ℕ, ◌+◌, List, [], unwrap_or, ap, ◌∙◌, arith}
use Rattle.quota_types.specs.Bytes.{number_at}
use Rattle.edit_journal.specs.Undo.{range_at}
use Rattle.edit_journal.proofs.ReadLemmas.{number-read}
use Rattle.edit_journal.proofs.undo_reads.read_span.Goals as goal

pub returns-clause-place : goal.returns-clause-place
returns-clause-place g c told =
    let file : List ℕ = unwrap_or ((g.D.Disk.seen c.args.disk.now).files c.args.undo.now) [] in
    let there : range_at c.from.result + 0 ≡ range_at c.args.k = omega (arith, c.from.ensures) in
    c.le64_at.ensures
    ∙ number-read 8 (range_at c.from.result) 0 file _ 16 (c.in_ok-read_padded.ensures.same told) (omega arith)
    ∙ ap (λ (p : ℕ). number_at 8 file p) there

pub returns-clause-number : goal.returns-clause-number
returns-clause-number g c told =
    let file : List ℕ = unwrap_or ((g.D.Disk.seen c.args.disk.now).files c.args.undo.now) [] in
    let there : range_at c.from.result + 8 ≡ range_at c.args.k + 8 = omega (arith, c.from.ensures) in
    c.le16_at.ensures
    ∙ number-read 2 (range_at c.from.result) 8 file _ 16 (c.in_ok-read_padded.ensures.same told) (omega arith)
    ∙ ap (λ (p : ℕ). number_at 2 file p) there
