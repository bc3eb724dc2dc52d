-- What three or more proof files of this crate name of other crates and of specs/, passed on from one place. Declares nothing.
pub use Rattle.std.proofs.Common.{◌++◌, ◌+◌, ◌∙◌, ◌∷◌, ◌≡◌, ◌≤ℤ◌, ◌≤◌, List, None, Option, Some, [], ap, append-nil, append_assoc, arith, inl, inr, length, pos}
pub use Rattle.std.proofs.Common.{refl, subst, suc, sym, unsigned_abs, zero, ℕ, ℤ}
pub use Rattle.std.proofs.lemmas.Bool.{cases_lt}
pub use Rattle.drift_world.specs.Running.{last_time}
pub use Rattle.net_plan.specs.Belonging.{device_name}
pub use Rattle.net_plan.specs.declared.{event.Event.Event, ids.DeviceId.DeviceId, network.Network.Network}
pub use Rattle.run_law.specs.declared.note.Note.{Note}
pub use Rattle.run_law.specs.records.{Happenings.happenings, Order.IsIn}
pub use Rattle.run_law.specs.scenario.Scenarios.{Scenario}
pub use Rattle.tte_observers.specs.stamps.granules.Granules.{least_granule, stamp_of}
pub use Rattle.tte_forms.proofs.Puts.{PutsLines-none}
pub use Rattle.tte_traces.proofs.{Admitted.admitted_in_order, Runs.AreFrom}
pub use Rattle.tte_forms.specs.{Answering.Answer, Putting.{PutsLines, Shown}}
pub use Rattle.tte_forms.specs.declared.status.Status.{Status, TheVariants.{GranuleRefused, ReadFault}}
pub use Rattle.tte_forms.specs.networks.Accepting.{MeansAccepted}
pub use Rattle.tte_traces.specs.{Answer.IsTraceAnswer, Lines.AreAdmitted, Report.shown_as}
pub use Rattle.tte_units.specs.Amount.{amount}
pub use Rattle.tte_units.specs.declared.units.Units.{Units}
pub use Rattle.world_drive.specs.Observing.{told_by}
pub use Rattle.world_drive.specs.exact.{Records.{AreRecordsBefore, AreRecordsSoFar, clock_reading}, Worlds.ExactWorld}
pub use Rattle.tte_observers.specs.stamps.Answer.{IsStampAnswer, granule_answer}
pub use Rattle.tte_observers.specs.stamps.{StampLines.{line_at, line_stamps, lines_by_first, stamp_line, stamp_lines, stamps_behind}, Stamping.IsAtLine}
