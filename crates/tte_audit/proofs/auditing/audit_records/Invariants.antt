use Rattle.tte_audit.proofs.{ReportText.IsUnderWay, Words.{◌+◌, ◌≤◌, length}}
use Rattle.tte_audit.proofs.auditing.audit_records.Given as goal

abbrev pub invariant-records : goal.invariant-records
invariant-records l = record {
  under : IsUnderWay l.network l.report l.records l.rest l.sweep;
  few : l.records + length l.rest ≤ length l.report;
}

abbrev pub decreases-records : goal.decreases-records
decreases-records l = length l.rest
