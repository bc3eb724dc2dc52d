use Rattle.{audit_devices.specs.clocks.Moments.StandsAt, run_law.specs.{records.Happenings.Happening, scenario.Scenarios.Scenario}, std.proofs.Common.{List, ℕ}}
use Rattle.audit_sweep.{proofs.records_lemmas.dispatches_lemmas.Dispatches.{NoneOf, no_row}}
use Rattle.audit_sweep.{specs.records.dispatches.Dispatched.{IsAcceptedLast, IsRowDispatched}}
use Rattle.audit_sweep.proofs.records.dispatches.dispatching.is_some_dispatched.Given as goal

abbrev pub invariant-loop-row : goal.invariant-loop-row
invariant-loop-row l =
    (s : Scenario) (hs : List Happening) (t : ℕ) → StandsAt s hs l.network l.device t l.moment l.shown
    → IsAcceptedLast l.network hs l.device l.dispatch.vl t l.accepted → NoneOf (IsRowDispatched s l.network hs l.device t l.dispatch) l.rows no_row l.row-index
