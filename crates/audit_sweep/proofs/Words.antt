-- What three or more proof files of this crate name of other crates and of specs/, passed on from one place. Declares nothing.
pub use Rattle.std.proofs.Common.{if◌then◌else◌, ◌++◌, ◌+◌, ◌∙◌, ◌∷◌, ◌≡◌, ◌≤◌, Bool, List, None, Option, Some, [], ap, arith, inl, inr, pos, refl, subst, sym}
pub use Rattle.std.proofs.Common.{true, ℕ}
pub use Rattle.std.specs.Prelude.{◌&&◌, ◌==◌}
pub use Rattle.audit_devices.specs.Showing.{NoneLater}
pub use Rattle.audit_law.specs.events.Readings.{clock_reading, scenario_under}
pub use Rattle.audit_law.proofs.law_lemmas.Sound.{founded_of_sound}
pub use Rattle.audit_law.specs.law.DueRecords.{IsCaused, IsDue}
pub use Rattle.audit_sweep.specs.records.Keeping.{kept_of}
pub use Rattle.audit_sweep.specs.declared.records.kept.KeptRecord.{KeptRecord}
pub use Rattle.net_plan.specs.declared.{ids.{DeviceId.DeviceId, LinkId.LinkId}, network.Network.Network}
pub use Rattle.report_text.specs.Ranges.{IsBodyOf}
pub use Rattle.run_law.specs.control.{Collections.points_of, Permanence.BecomesPermanent}
pub use Rattle.run_law.specs.declared.{judgement.Judgement.Judgement, note.NoteBody.NoteBody, steps.Arrival.Arrival}
pub use Rattle.run_law.specs.device.{Standpoints.Standpoint, States.state_before}
pub use Rattle.run_law.specs.records.{Happenings.{Happening, earlier, happening, numbered, time_of}, Order.IsIn, Ranks.{key, members_in, place_of, rank}}
pub use Rattle.run_law.specs.runs.Runs.{IsFounded}
pub use Rattle.run_law.specs.scenario.Scenarios.{Scenario}
pub use Rattle.run_law.specs.timed.Receptions.{ArrivesAs}
pub use Rattle.tte_units.proofs.general_lemmas.Options.{one}
pub use Rattle.tte_units.specs.Amount.{amount}
pub use Rattle.tte_units.specs.declared.units.Units.{Units}
pub use Rattle.audit_sweep.specs.{Hearings.IsHeardBefore, Sweeping.IsSwept}
