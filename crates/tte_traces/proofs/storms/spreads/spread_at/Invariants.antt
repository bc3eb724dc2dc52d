use Rattle.{drift_world.specs.Locals.IsLocalValue, tte_traces.specs.storms.{Answer.exact_scenario, Spreads.AreEnds}, world_drive.specs.Observing.IsCompleteExact}
use Rattle.{net_plan.specs.declared.event.Event.{Event as EventValue}, run_law.specs.{declared.note.Note.{Note as NoteValue}, records.Happenings.happenings}}
use Rattle.{std.{proofs.Common.List, specs.Prelude.IfSome}, tte_units.specs.Amount.amount}
use Rattle.tte_traces.proofs.storms.spreads.spread_at.Given as goal

abbrev pub invariant-devices : goal.invariant-devices
invariant-devices l = record {
  ends : (events : List EventValue) (notes : List NoteValue) → IsCompleteExact l.network l.world (amount l.t) events notes
      → AreEnds (exact_scenario l.network events) (happenings l.network notes) (amount l.t) l.device l.ends;
  wide : IfSome l.ends (λ e. IsLocalValue e.least × IsLocalValue e.greatest);
}
