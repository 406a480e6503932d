-- Why a report was not written whole.
use Rattle.std.proofs.Common.{ℕ, ◌≤◌, inl, inr, IsTrue, List, refl}
use Rattle.std.specs.Prelude.{IfSome}
use Rattle.quota_types.specs.declared.file_kind.Format.{Format}
use Rattle.outside.specs.Count.{Rose}
use Rattle.opened_file.specs.QuotaFile.{IsLookupFault}
use Rattle.quota_value.specs.QuotaValue.{QuotaValue}
use Rattle.outside.specs.Seen.{SinkSeen, StoreSeen}
use Rattle.quota_map.specs.Asked.{Asked}
use Rattle.quota_map.specs.AnyFile.{MayRefuse}
use Rattle.quota_map.specs.View.{IsOpenedAs}
use Rattle.report_text.specs.Fault.{OnSink, file_fault}
use Rattle.report_text.specs.declared.report_fault.ReportFault.{ReportFault}
use Rattle.report_text.specs.declared.report_fault.ReportFault.TheVariants.{Sink, File}
use Rattle.run_steps.specs.Done.{RunSeen, RunTells}
use Rattle.run_steps.specs.Showing.{showing_uses}
use Rattle.file_commands.specs.Report.{report_cause}
use Rattle.run_steps.proofs.OpeningLemmas.{with_out}
use Rattle.run_steps.proofs.ShowingLemmas.{IsUnshown, lookup_may, lookup_reason}

-- a report was not written whole
pub report_unshown : (asked : Asked) (name : List ℕ) (tells : RunTells) (old : RunSeen) (store : StoreSeen)
    (out : SinkSeen) (format : Format) (before : ℕ) (holds : QuotaValue → Type 0) (fault : ReportFault)
    → IsOpenedAs asked format → old.store.faults ≤ before
    → (IsTrue tells.store → ((value : QuotaValue) → holds value → ⊥) → ⊥)
    → OnSink fault (Rose old.out.faults out.faults)
    → IfSome (file_fault fault) (IsLookupFault before store.faults holds) → IfSome (file_fault fault) (MayRefuse format)
    → IsUnshown asked name tells old store out (report_cause fault)
report_unshown asked name tells old store out format before holds Sink asks le seen unsent cause may =
    record { reason = λ stated. inl unsent; may = inl refl }
report_unshown asked name tells old store out format before holds (File fault) asks le seen unsent cause may = record {
  reason =
      λ stated. lookup_reason showing_uses old (with_out old store out) tells stated before holds fault le seen cause;
  may = inr (lookup_may asked name format before store.faults holds fault asks cause may);
}
