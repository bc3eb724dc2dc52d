-- What three or more proof files of this crate name of other crates and of specs/, passed on from one place. Declares nothing.
pub use Rattle.std.proofs.Common.{◌+◌, ◌<◌, ◌↔◌, ◌∙◌, ◌∷◌, ◌≡◌, ◌≤◌, ◌⊎◌, List, None, Option, Some, [], ap, arith, false, inl, inr, length, refl, slice_get}
pub use Rattle.std.proofs.Common.{subst, sym, true, ℕ}
pub use Rattle.std.proofs.lemmas.Bool.{both_ways, cases_lt}
pub use Rattle.audit_law.specs.law.{Debts.IsPaid, DueRecords.IsDue, FirstDebts.{TellsFirst, TellsUnpaid}, Owed.{Debt, IsOwed, Pays}}
pub use Rattle.audit_sweep.specs.declared.records.kept.KeptRecord.{KeptRecord}
pub use Rattle.net_plan.specs.declared.{event.Event.Event, ids.{DeviceId.DeviceId, LinkId.LinkId}}
pub use Rattle.run_law.proofs.law.FirstDeliveries.{numbered_in, numbered_within}
pub use Rattle.run_law.specs.declared.note.NoteBody.{NoteBody}
pub use Rattle.run_law.specs.records.{Causes.cause_of, Happenings.{Happening, numbered, time_of}, Order.IsIn, Ranks.place_of}
pub use Rattle.run_law.specs.runs.Runs.{IsFounded}
pub use Rattle.run_law.specs.scenario.Scenarios.{Scenario, is_broken}
pub use Rattle.tte_units.proofs.general_lemmas.Options.{one as same_some}
pub use Rattle.audit_sweep.specs.unpaid.{Clocks.HasClockAt, Debtors.{AreKnown, device_named, scenario_of}, Payments.{IsMarked, IsPaidSo, paid_by}}
pub use Rattle.audit_sweep.specs.unpaid.Sorts.{IsLeavingDebtOf, IsRecordDebt, IsRecordDebtOf}
pub use Rattle.audit_sweep.specs.declared.unpaid.paid.Paid.{Paid}
