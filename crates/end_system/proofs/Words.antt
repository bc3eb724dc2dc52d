-- What three or more proof files of this crate name of other crates and of specs/, passed on from one place. Declares nothing.
pub use Rattle.std.proofs.Common.{if◌then◌else◌, ◌%◌, ◌&&◌, ◌*◌, ◌++◌, ◌+ℤ◌, ◌+◌, ◌-ℤ◌, ◌<ℤ◌, ◌<◌, ◌==◌, ◌^◌, ◌∙◌, ◌∷◌, ◌≡◌, ◌≤ℤ◌, ◌≤◌, Bool, IfSome, IsSomeAnd}
pub use Rattle.std.proofs.Common.{List, None, Option, Some, [], ap, arith, false, inl, inr, is_lt, length, neg_ℤ, not, pos, refl, subst, suc, sym, true, zero}
pub use Rattle.std.proofs.Common.{ℕ, ℤ, ⊎_elim}
pub use Rattle.std.proofs.Math.Nat.{mul-le-mul_left, mul-le-mul_right}
pub use Rattle.std.proofs.lemmas.{Bool.{and_parts, cases_Bool, eqb-true, false≢true}, Int.ints, List.Elements.Contains-append_left}
pub use Rattle.std.proofs.lemmas.Option.{slice_get_read, slice_get_within}
pub use Rattle.std.specs.{List.{AllPairs, Contains}, Option.option_map_or, Prelude.{option_and_then, slice_get}}
pub use Rattle.std.specs.List.Sorted.{IsPartitionedBy}
pub use Rattle.sync_state.specs.correction.Deviation.{IsSmall}
pub use Rattle.sync_state.specs.membership.Summary.{Summarizes, Summary}
pub use Rattle.net_plan.proofs.InRange.{amount_most}
pub use Rattle.net_plan.specs.{Places.link_at, Ranges.IsInRange}
pub use Rattle.net_plan.specs.declared.{ids.{DeviceId.DeviceId, LinkId.LinkId, RowId.RowId}, network.Network.Network, tables.{Link.Link, Row.Row}}
pub use Rattle.tte_units.specs.declared.frames.{channel.Channel.{Channel, TheVariants.{A, B}}, pcf.Pcf.Pcf}
pub use Rattle.run_law.specs.declared.{judgement.Reason.Reason, steps.Moment.Moment}
pub use Rattle.run_law.specs.device.{Standpoints.{Standpoint, first_reason}, States.is_off}
pub use Rattle.run_law.specs.machines.{Answers.called, Calls.MayCall, Nodes.{ClockTask, Node, arriving, correcting, dispatching, sending, standpoint_at}}
pub use Rattle.run_law.specs.machines.Tasks.{value_of}
pub use Rattle.run_law.specs.scenario.Devices.{is_end}
pub use Rattle.schedule_tables.proofs.SlotLemmas.{below_itself}
pub use Rattle.schedule_tables.specs.{Dispatches.IsBelow, Margins.expected_offset}
pub use Rattle.schedule_tables.specs.Slots.{AreInOrder, IsSlotOf, key_of, numbers_of}
pub use Rattle.schedule_tables.specs.declared.{entry.Entry.Entry, slot.{Slot.Slot, Whose.TheVariants.SentBy}}
pub use Rattle.sync_state.specs.{Standing.{Standing, next_point}, Verdicts.HasVerdict}
pub use Rattle.sync_state.specs.declared.{plan.SyncPlan.SyncPlan, state.State.TheVariants.Synchronised}
pub use Rattle.tte_units.proofs.general_lemmas.{Integers.from_zero, Lists.in_all}
pub use Rattle.tte_units.specs.Amount.{amount}
pub use Rattle.tte_units.specs.declared.units.Units.{Units}
pub use Rattle.device_rules.specs.{Intakes.HasTaken, declared.intake.Intake.Intake}
pub use Rattle.end_system.specs.{Agendas.{IsAgenda, IsCorrection, IsDispatch, IsSending}, Owns.{IsOwnOf, end_plan}}
pub use Rattle.end_system.specs.{RowSlots.{AreRowsOf, IsAtSlot, turn_of}, Standing.{AreHeardSo, HasNumber, StandsAsEnd}}
pub use Rattle.end_system.specs.declared.{agenda.{Agenda.Agenda, Appointment.Appointment}, end_system.EndSystem.EndSystem}
pub use Rattle.end_system.specs.declared.{own.Own.Own, rows.{Dispatch.Dispatch, OwnRows.OwnRows}}
