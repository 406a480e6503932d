use Rattle.std.proofs.Common.{length, sym, ap, ◌∙◌}
use Rattle.std.specs.FinMap.{entries}
use Rattle.quota_types.specs.Rec.{kib_of}
use Rattle.quota_value.specs.Listed.{records_of}
use Rattle.file_commands.specs.Generate.{sum_over, summary_text}
use Rattle.file_commands.proofs.SummaryLemmas.{length_listed, sum_listed}
use Rattle.file_commands.proofs.generate.summary_line.Goals as goal

pub returns : goal.returns
returns c =
    let list = c.args.entries.now in
    let records = records_of list in
    let inodes = sum_over (λ rec. rec.inodes) records in
    let users = length (entries records) in
    c.summary_text.ensures
    ∙ ap (λ n. summary_text n c.all_inodes.result (length list) c.all_kib.result c.args.bytes) c.from.ensures
    ∙ ap (λ n. summary_text c.args.lines n (length list) c.all_kib.result c.args.bytes)
    (c.all_inodes.ensures ∙ sym (sum_listed (λ rec. rec.inodes) list c.requires))
    ∙ ap (λ n. summary_text c.args.lines inodes n c.all_kib.result c.args.bytes) (sym (length_listed list c.requires))
    ∙ ap (λ n. summary_text c.args.lines inodes users n c.args.bytes)
    (c.all_kib.ensures ∙ sym (sum_listed (λ rec. kib_of rec.space) list c.requires))
