-- A report of a run is one by what is due in an audit.
use Rattle.audit_law.proofs.law_lemmas.SameDue.{same_runs}
use Rattle.run_law.specs.runs.Runs.{IsRun}
use Rattle.tte_audit.{specs.Named.IsNamed}
use Rattle.tte_audit.proofs.{RightEvents.clocked}
use Rattle.tte_audit.proofs.Words.{AreEventsRight, IsDue, List, Network, Note, Units, amount, behind_time, happenings}
use Rattle.tte_audit.proofs.Words.{place_of, scenario_of}
use Rattle.run_law.specs.runs.DueRecords as runs

module _ {network : Network} (ns : List Note) (time : Units) (named : IsNamed network)
    (right : AreEventsRight network ns) where
  pub audit_run : IsRun place_of (runs.IsDue (scenario_of network ns)) (behind_time time) (happenings network ns)
      → IsRun place_of (IsDue (scenario_of network ns)) (behind_time time) (happenings network ns)
  audit_run run =
      let s = scenario_of network ns in
      let hs = happenings network ns in
      (same_runs s hs (amount time) (clocked ns named right)).0 run

  pub run_of_audit : IsRun place_of (IsDue (scenario_of network ns)) (behind_time time) (happenings network ns)
      → IsRun place_of (runs.IsDue (scenario_of network ns)) (behind_time time) (happenings network ns)
  run_of_audit run =
      let s = scenario_of network ns in
      let hs = happenings network ns in
      (same_runs s hs (amount time) (clocked ns named right)).1 run
