-- What three or more proof files of this crate name of other crates and of specs/, passed on from one place. Declares nothing.
pub use Rattle.std.proofs.Common.{◌&&◌, ◌*◌, ◌++◌, ◌+ℤ◌, ◌+◌, ◌-ℤ◌, ◌-◌, ◌<ℤ◌, ◌<◌, ◌||◌, ◌∙◌, ◌∷◌, ◌≡◌, ◌≢◌, ◌≤ℤ◌, ◌≤◌, ◌⊎◌, Bool, List, None, Option, Some}
pub use Rattle.std.proofs.Common.{[], ap, append_assoc, arith, false, filter, fold, inl, inr, int_lt, length, nat_le, nat_lt, negsuc, not, pos, refl, slice_get}
pub use Rattle.std.proofs.Common.{subst, suc, sym, true, zero, ℕ, ℤ}
pub use Rattle.std.proofs.lemmas.{Bool.{and_parts, both_ways, cases_lt, eq-eqb, eqb-true, false_from_ne_true, le-ltb, lt-ltb}, Int.{by_lt_z, ints}}
pub use Rattle.std.proofs.lemmas.List.Sums.{fold-append}
pub use Rattle.std.specs.{List.last_or, Option.option_map_or, Prelude.{if◌then◌else◌, ◌==◌, option_and_then, option_map}}
pub use Rattle.net_plan.proofs.SameIds.{one_device}
pub use Rattle.net_plan.specs.Places.{IsSwitchOf, device_at, is_end_system, link_at}
pub use Rattle.net_plan.specs.declared.{event.Event.Event, ids.{DeviceId.DeviceId, LinkId.LinkId, VlId.VlId}, network.Network.Network, tables.Device.Device}
pub use Rattle.net_plan.specs.declared.tables.{Link.Link, VirtualLink.VirtualLink, Way.{Way, TheVariants.{Down, Up}}}
pub use Rattle.pcf_codec.specs.Fields.{field}
pub use Rattle.tte_units.specs.declared.frames.pcf.Pcf.{Pcf}
pub use Rattle.precision_law.proofs.block.Hulls.{has_before}
pub use Rattle.precision_law.proofs.{clocks.Epochs.{adjustment_stays, clocks_reach_sharply}}
pub use Rattle.precision_law.proofs.{law.{OnTime.begins_late, Precision.{before_narrow, block_ends, follows_before}}}
pub use Rattle.precision_law.proofs.records.{Points.{before_of, earlier_before, last_in, setting_is, within_run}}
pub use Rattle.precision_law.proofs.records.{Times.{between, earlier_parts, in_between}}
pub use Rattle.run_law.proofs.law.FirstDeliveries.{IsFoundedAt, founded_at, in_filter, none_kept, numbered_in, split}
pub use Rattle.schedule_tables.proofs.SlotLemmas.{in_range}
pub use Rattle.precision_law.proofs.records.Views.{in_order, room, steady}
pub use Rattle.precision_law.specs.{BlockLaws.ComesTo, Blocks.{IsInBlock, IsOldAt, Stands, adjustment_left, state_left}}
pub use Rattle.precision_law.specs.{Epochs.{epoch_time, has_time, last_setting}, Hulls.{Hull, hull_of, last_correction}, Sizes.Sizes}
pub use Rattle.precision_law.specs.Views.{IsGood, IsView, View}
pub use Rattle.run_law.proofs.control.Verdicts.{none_first}
pub use Rattle.run_law.proofs.device.States.{reaches_by}
pub use Rattle.run_law.proofs.runs.{Lacking.behind_first, Places.{in_left, in_parts, parted}}
pub use Rattle.run_law.specs.control.Wires.{Signal, control, launched, timed}
pub use Rattle.run_law.specs.declared.{judgement.{Judgement.{Judgement, TheVariants.Integrates}, Reason.Reason, Why.Why}, note.NoteBody.NoteBody}
pub use Rattle.run_law.specs.declared.steps.Arrival.{Arrival}
pub use Rattle.run_law.specs.device.LocalClocks.{Reaches, changed_at, changes_adjustment}
pub use Rattle.run_law.specs.device.{Standpoints.{Standpoint, clock_of, cycle_at, offset_in_cycle, standpoint}, StateChanges.ChangesState}
pub use Rattle.run_law.specs.device.States.{adjustment_after, is_joined_by, is_synchronised, state_after, state_before, state_with}
pub use Rattle.run_law.specs.records.{Causes.cause_of, Frames.tt_frame_by, Happenings.{Happening, earlier, numbered, time_of}, Order.{IsBefore, IsIn}}
pub use Rattle.run_law.specs.records.Ranks.{key, members_in, place_of, rank}
pub use Rattle.run_law.specs.runs.{DueRecords.{IsCaused, IsDue}, Runs.IsFounded}
pub use Rattle.run_law.specs.scenario.{Devices.{is_end, is_relay, start_of}, Scenarios.{Scenario, is_broken, is_turned_on_at}, Ways.{way_from, way_to}}
pub use Rattle.run_law.specs.timed.Arrivals.{entry_arrival, entry_entering, is_taken_in, octets_fault, octets_or_fault, row_fault, taken_or_fault}
pub use Rattle.run_law.specs.timed.{Arrivals.timed_arrival, Dispatching.{is_accepted, last_accepted}, Receptions.last_taken}
pub use Rattle.schedule_tables.specs.{Entries.{IsEntry, IsOnChannel, source_by, source_of, target_by, target_of}, Rules.KeepsRules}
pub use Rattle.schedule_tables.specs.Windows.{OccursIn, port_time, window_of}
pub use Rattle.schedule_tables.specs.declared.{entry.Entry.Entry, rule.Rule.TheVariants.Joints}
pub use Rattle.sync_state.specs.Standing.{state_at_start}
pub use Rattle.sync_state.specs.declared.{answers.Verdict.TheVariants.Corrected, state.State.{State, TheVariants.{Integrating, Joining, Synchronised}}}
pub use Rattle.tte_units.proofs.general_lemmas.{Integers.not_less, Lists.in_all, Options.{closed, one as same_some, opened}}
pub use Rattle.tte_units.specs.{Amount.amount, OctetTime.octet_time}
pub use Rattle.tte_units.specs.declared.units.Units.{Units}
pub use Rattle.precision_law.specs.traffic.{Bringing.{BringsBlocks, BringsChannels}, Coming.HasGoodSources, Dispatched.IsRowDispatch, Passed.arrives_at}
pub use Rattle.precision_law.specs.traffic.Fits.{FieldsFit}
pub use Rattle.precision_law.specs.traffic.{Ports.GivingsKeepAway, Rows.IsInSchedule, Senders.{SendersAreBroken, TimedAreNotTurnedOn}}
pub use Rattle.precision_law.specs.traffic.{Spans.{IsInSpan, IsTimedAt, shown_at}, Taken.{IsTaking, SaysTaken}}
