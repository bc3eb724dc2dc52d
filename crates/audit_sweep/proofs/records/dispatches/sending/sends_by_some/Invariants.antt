use Rattle.{audit_devices.specs.Showing.Shows, net_plan.specs.{Belonging.HasDevice, declared.event.Event.Event}}
use Rattle.{audit_law.specs.events.{Readings.scenario_under, Remembering.Remembers}, audit_sweep.specs.records.dispatches.Sent.SendsBy, std.proofs.Common.List}
use Rattle.audit_sweep.proofs.records_lemmas.dispatches_lemmas.Dispatches.{NoneOf, no_row}
use Rattle.run_law.specs.records.Happenings.{Happening, earlier}
use Rattle.audit_sweep.proofs.records.dispatches.sending.sends_by_some.Given as goal

abbrev pub invariant-loop-row : goal.invariant-loop-row
invariant-loop-row l =
    (befallen : List Event) (hs : List Happening) → Remembers l.network befallen l.events → HasDevice l.network l.device
    → Shows (scenario_under l.network befallen) (earlier l.time hs) l.device l.shown
    → NoneOf (SendsBy (scenario_under l.network befallen) l.network hs l.device l.time) l.rows no_row l.row-index
