use Rattle.std.proofs.Common.{sym, subst}
use Rattle.std.specs.Prelude.{All}
use Rattle.quota_types.specs.Kept.{IsKept}
use Rattle.quota_types.specs.declared.file_kind.Format.{Format}
use Rattle.quota_types.specs.declared.record.Entry.{Entry}
use Rattle.convert.proofs.ValueLemmas.{records_kept}
use Rattle.file_commands.proofs.file_value.read_value.Goals as goal

pub returns-clause-kept : goal.returns-clause-kept
returns-clause-kept g c =
    records_kept c.format-format.result c.in_ok-entries.entries.items
    (subst (λ (f : Format). All (λ (entry : Entry). IsKept f entry.id entry.rec) c.in_ok-entries.entries.items)
    (sym c.format-format.ensures.kept) c.in_ok-entries.ensures.kept)
