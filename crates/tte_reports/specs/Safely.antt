-- A report that `audit` does not refuse is that of a run that is safe.
use Rattle.std.specs.{List.concat, Prelude.{◌≡◌, List, Option, ℕ}}
use Rattle.drift_clock.specs.Segment.{fresh_segment, segment_reading, stepped_segment}
use Rattle.{net_plan.specs.declared.network.Network.Network, precision_law.specs.traffic.safety.Headline.IsWholeRun}
use Rattle.{report_text.specs.NoteLine.report_of, run_law.specs.declared.note.Note.Note}
use Rattle.{tte_audit.specs.Report.{IsOfEvents, events_of}, tte_units.specs.declared.units.Units.Units}
use Rattle.tte_forms.specs.Answering.{ForOctets}
use Rattle.tte_forms.specs.{declared.status.Status.{Status, TheVariants.Done}, networks.Accepting.MeansAccepted}

-- the octets are the report of the run of the accepted network under the events that its own records tell, up to their
-- end; it goes well up to there; each of these events is within the fault hypothesis, given those before it, and the
-- last of them, and no other, is the end
pub record ReportsSafeRun (octets report : List ℕ) : Type 0 where
  pub network : Network
  pub accepted : MeansAccepted octets network
  pub notes : List Note
  pub text : report ≡ concat (report_of network notes)
  pub run : IsWholeRun fresh_segment stepped_segment segment_reading network (events_of notes) notes
  pub time : Units
  pub events : IsOfEvents network report notes time

-- where this is the status, the octets of the report are so, for those of the network file
abbrev pub AuditsSafely : Option (List ℕ) → Option (List ℕ) → Status → Type 0
AuditsSafely first second status =
    status ≡ Done → ForOctets first (λ octets. ForOctets second (λ report. ReportsSafeRun octets report))
