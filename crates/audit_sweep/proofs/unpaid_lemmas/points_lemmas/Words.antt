-- What three or more proof files of this crate name of other crates and of specs/, passed on from one place. Declares nothing.
pub use Rattle.std.proofs.Common.{◌+◌, ◌-◌, ◌<◌, ◌∙◌, ◌∷◌, ◌≡◌, ◌≤◌, List, None, Option, Some, [], ap, arith, false, inl, inr, length, pos, refl, subst, sym}
pub use Rattle.std.proofs.Common.{true, ℕ, ℤ}
pub use Rattle.std.proofs.lemmas.{Bool.{cases_lt, false≢true}, Int.ints}
pub use Rattle.audit_devices.specs.clocks.Finding.{value_in}
pub use Rattle.audit_devices.specs.Showing.{Shown, Shows}
pub use Rattle.audit_law.specs.events.Readings.{scenario_under}
pub use Rattle.audit_law.specs.law.DueRecords.{IsDue}
pub use Rattle.audit_sweep.specs.records.places.Placing.{HasRecordAt}
pub use Rattle.net_plan.specs.declared.{event.Event.Event, ids.DeviceId.DeviceId}
pub use Rattle.run_law.specs.declared.note.NoteBody.{NoteBody}
pub use Rattle.run_law.specs.device.States.{state_after}
pub use Rattle.run_law.specs.records.{Happenings.{Happening, earlier, time_of, up_to}, Ranks.{members_in, place_of}}
pub use Rattle.run_law.specs.runs.Runs.{IsFounded}
pub use Rattle.run_law.specs.scenario.Scenarios.{Scenario, is_turned_on_at}
pub use Rattle.run_law.specs.timed.Dispatching.{Sends}
pub use Rattle.sync_state.specs.declared.{answers.Verdict.Verdict, state.State.{State, TheVariants.Integrating}}
pub use Rattle.tte_units.specs.declared.units.Units.{Units}
pub use Rattle.audit_sweep.specs.unpaid.points.{FirstUnpaid.{ArePaid, IsFirstUnpaid}, Kept.IsKept, Sent.IsSent}
pub use Rattle.audit_devices.specs.Lasting.{ShowsWithin}
pub use Rattle.audit_sweep.specs.unpaid.points.Told.{IsTold, OwesAt}
