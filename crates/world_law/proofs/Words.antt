-- What three or more proof files of this crate name of other crates and of specs/, passed on from one place. Declares nothing.
pub use Rattle.std.proofs.Common.{if◌then◌else◌, ◌&&◌, ◌*◌, ◌++◌, ◌+ℤ◌, ◌+◌, ◌-ℤ◌, ◌-◌, ◌<ℤ◌, ◌<◌, ◌==◌, ◌^◌, ◌||◌, ◌∙◌, ◌∷◌, ◌≡◌, ◌≤ℤ◌, ◌≤◌, ◌⊎◌, Bool, IfSome}
pub use Rattle.std.proofs.Common.{List, None, Ok, Option, Some, [], ap, append_assoc, arith, false, filter, filter_map, fold, inl, inr, int_le, int_lt, length}
pub use Rattle.std.proofs.Common.{map, negsuc, not, option_and_then, option_map, pos, refl, slice_get, subst, suc, sym, true, zero, ℕ, ℤ}
pub use Rattle.std.proofs.lemmas.Bool.{and_parts, and_right, both_ways, cases_Bool, cases_lt, cases_order, eq-eqb, eqb-true, false_from_ne_true, le-ltb, lt-ltb}
pub use Rattle.std.proofs.lemmas.{Int.ints, List.{append-nil, length-append, length-map, Elements.filter-append}, Option.slice_get_within}
pub use Rattle.std.specs.{List.{AllByRecursion, after_last, cons_option, last_or, list_any}, Option.option_map_or, Prelude.{nat_le, nat_lt}}
pub use Rattle.compression.specs.Clusters.{AreClusters, Cluster, Point}
pub use Rattle.compression.specs.declared.compressed.Compressed.{Compressed}
pub use Rattle.drift_clock.specs.Reach.{IsReach}
pub use Rattle.sync_state.specs.membership.Summary.{Summary}
pub use Rattle.net_plan.specs.{Places.{device_at, link_at}, Ranges.IsInRange}
pub use Rattle.net_plan.specs.declared.{event.{Event.Event, What.{What, TheVariants.Send}}, ids.{DeviceId.DeviceId, LinkId.LinkId, RowId.RowId, VlId.VlId}}
pub use Rattle.net_plan.specs.declared.{network.Network.Network, tables.{Device.Device, Link.Link, Row.Row, Way.{Way, TheVariants.{Down, Up}}}}
pub use Rattle.tte_units.specs.declared.frames.pcf.Pcf.{Pcf}
pub use Rattle.run_law.proofs.law.FirstDeliveries.{by_number, founded_at, in_filter, in_front, last_in, numbered_within}
pub use Rattle.run_law.proofs.records.Order.{same_kept}
pub use Rattle.run_law.proofs.runs.Places.{before_behind, before_later, before_next_time, before_or_not, chain, either_way, in_left, in_parts, in_right}
pub use Rattle.run_law.proofs.runs.Places.{never_self, parted}
pub use Rattle.run_law.proofs.control.Points.{no_cluster}
pub use Rattle.run_law.specs.control.{Arrivals.control_arrival, Collections.{ends_stretch, observation_window, point_by, points_of}}
pub use Rattle.run_law.specs.control.Corrections.{ComesToCorrection, correction_value, cycle_after, has_cleared, heard_since, hearing_by, integration_cycle}
pub use Rattle.run_law.specs.control.{Corrections.{is_integration_cycle, next_cycle, recorded_cycle}, Emissions.Emits, Hearing.heard_as}
pub use Rattle.run_law.specs.control.{Leaving.{Departs, Departure, Gives}, Losses.{IsDropped, IsLost, IsSendLost}}
pub use Rattle.run_law.specs.control.{Permanence.{BecomesPermanent, before_permanence}, Wires.{Arrives, Launch, Signal, control, launched, signal_of, timed}}
pub use Rattle.run_law.specs.declared.{judgement.{Judgement.Judgement, Reason.Reason, Why.Why}, note.{Note.Note, NoteBody.NoteBody}, steps.Act.Act}
pub use Rattle.run_law.specs.declared.steps.{Arrival.Arrival, Moment.Moment, Ripe.Ripe}
pub use Rattle.run_law.specs.device.{LocalClocks.{Reaches, changed_at, changes_adjustment, local_at_change, local_before}, Standpoints.{Standpoint, standpoint}}
pub use Rattle.run_law.specs.device.StateChanges.{ChangesState}
pub use Rattle.run_law.specs.device.States.{adjustment_after, adjustment_at_hearing, adjustment_before, adjustment_with, cycle_in, has_joined_at, is_joined_by}
pub use Rattle.run_law.specs.device.States.{state_after, state_at_hearing, state_before, state_with}
pub use Rattle.run_law.specs.machines.{Answers.{IsActOf, after_correction, after_emission, called, own_hearing}, Calls.MayCall}
pub use Rattle.run_law.specs.machines.Nodes.{ClockTask, Node, TakenFrame, acting, correcting, dispatching, sending}
pub use Rattle.run_law.specs.machines.Tasks.{IsPending, Task, doing, emitting, reading_for, value_of}
pub use Rattle.run_law.specs.records.Causes.{IsOfThisTime, cause_of}
pub use Rattle.run_law.specs.records.Happenings.{Happening, earlier, frame_by, happening, happenings, numbered, time_of, up_to, with_clock}
pub use Rattle.run_law.specs.records.{Order.{AllBefore, IsBefore, IsIn, NoneBefore, behind, is_before}, Ranks.{key, members_in, place_of, rank}}
pub use Rattle.run_law.specs.runs.{DueRecords.{IsArrivedRecord, IsCaused, IsDue, IsEventRecord, IsScenarioRun}, Runs.IsFounded}
pub use Rattle.run_law.specs.scenario.{Devices.{is_end, plan_of}, Scenarios.{Scenario, is_broken, is_turned_on_at}, Ways.{is_cut, way_from}}
pub use Rattle.run_law.specs.timed.{Arrivals.timed_arrival, Dispatching.{Dispatches, HasAtHand, Sends, is_accepted}}
pub use Rattle.run_law.specs.timed.Receptions.{ArrivesAs, arrival_of, is_taken_before, last_taken, taken_cycle}
pub use Rattle.schedule_tables.specs.{Entries.{IsEntry, source_of, target_by}, Rules.KeepsRules}
pub use Rattle.schedule_tables.specs.declared.entry.Entry.{Entry}
pub use Rattle.sync_state.specs.Standing.{Standing, next_point, point_in}
pub use Rattle.sync_state.specs.declared.{answers.Verdict.{Verdict, TheVariants.{AsyncClique, Cleared, Corrected, SyncClique}}, state.State.State}
pub use Rattle.sync_state.specs.declared.state.State.TheVariants.{Integrating, Joining, Off, Synchronised}
pub use Rattle.tte_units.proofs.general_lemmas.Integers.{never_both}
pub use Rattle.tte_units.specs.Amount.{amount, units_of}
pub use Rattle.tte_units.specs.declared.units.Units.{Units}
pub use Rattle.world_law.specs.device.{Deeds.{HadComeTo, HasDoneFrom, HasDoneTask, HasWorkedTo}, Growing.IsFromZero, Left.{HasDone, HasSent, IsLeft, is_timed}}
pub use Rattle.world_law.specs.device.{Own.{IsStill, bears_on, borne, moves}, Plain.{plain, plains}, Ready.IsSteady, Recorded.dispatch_body}
pub use Rattle.world_law.specs.device.Takings.{frames_taken, taken_by}
pub use Rattle.world_law.specs.source.{Agreeing.{Agree, scenario}, First.NoSourceBefore, Sources.{IsActing, IsAtCorrection, IsOwnSource, IsSource, task_place}}
pub use Rattle.world_law.specs.world.World.{AreAtPorts, AreComing, AreOfNetwork, AreOnWires, AreWaiting, AtPort, HasTurnedOn, HaveBefallen}
pub use Rattle.world_law.specs.world.World.{IsAtRest, IsForward, IsHeld, IsKept, IsTurnedOnBy, IsWorkedOff, OnWire, Stands, Waiting, World, act_place, clock_place}
pub use Rattle.world_law.specs.world.World.{HasTaskAt, IsActedOut, IsJoiningNow, rows_place}
pub use Rattle.world_law.specs.world.World.{is_at_source, is_turning, numbers_end, port_place, ripe_place, wire_place}
