use Rattle.std.proofs.Common.{[], unwrap_or, rules, ◌∙◌, arith}
use Rattle.edit_journal.proofs.ReadLemmas.{number-read}
use Rattle.edit_journal.proofs.undo_reads.read_head.Goals as goal

pub returns-clause-begins : goal.returns-clause-begins
returns-clause-begins g c told =
    let file = unwrap_or ((g.D.Disk.seen c.args.disk.now).files c.args.undo.now) [] in
    record {
      gate_byte = search rules;
      long = c.le64_at.ensures ∙ number-read 8 0 8 file _ 20 (c.in_ok-read_padded.ensures.same told) (omega arith);
      many = c.le32_at.ensures ∙ number-read 4 0 16 file _ 20 (c.in_ok-read_padded.ensures.same told) (omega arith);
    }
