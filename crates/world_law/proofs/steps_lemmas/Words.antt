-- What three or more proof files of this crate name of other crates and of specs/, passed on from one place. Declares nothing.
pub use Rattle.std.proofs.Common.{if◌then◌else◌, ◌&&◌, ◌++◌, ◌+ℤ◌, ◌+◌, ◌-ℤ◌, ◌-◌, ◌<ℤ◌, ◌<◌, ◌==◌, ◌^◌, ◌||◌, ◌↔◌, ◌∙◌, ◌∷◌, ◌≡◌, ◌≤ℤ◌, ◌≤◌, ◌⊎◌, Bool, IfSome}
pub use Rattle.std.proofs.Common.{List, None, Option, Result, Some, [], ap, append_assoc, arith, false, filter, filter_map, fold, inl, inr, int_le, int_lt}
pub use Rattle.std.proofs.Common.{length, map, not, option_and_then, option_map, option_to_list, pos, refl, slice_get, subst, suc, sym, true, unsigned_abs}
pub use Rattle.std.proofs.Common.{zero, ℕ, ℤ}
pub use Rattle.std.proofs.lemmas.Bool.{and_parts, and_right, both_ways, cases_Bool, cases_lt, eq-eqb, eqb-true, le-ltb, lt-ltb, ne_eqb, or_left}
pub use Rattle.std.proofs.lemmas.{Int.ints, List.{append-nil, length-append}}
pub use Rattle.std.proofs.lemmas.List.{Elements.{Contains-append_left, Contains-push, Contains-push_cases, filter-append, filter_map-append}, Sums.fold-append}
pub use Rattle.std.specs.{List.{AllByRecursion, after_last, cons_option, last_or, list_any}, Option.option_map_or, Prelude.{nat_le, nat_lt}}
pub use Rattle.compression.specs.Clusters.{AreClusters, Point, point_at}
pub use Rattle.compression.specs.declared.compressed.Compressed.{Compressed}
pub use Rattle.sync_state.specs.membership.{Hearing.Hearing, Summary.Summary}
pub use Rattle.net_plan.proofs.SameIds.{same_device, self}
pub use Rattle.net_plan.specs.{Places.link_at, Ranges.IsInRange}
pub use Rattle.net_plan.specs.declared.{event.{Event.Event, What.What}, ids.{DeviceId.DeviceId, LinkId.LinkId, RowId.RowId, VlId.VlId}, network.Network.Network}
pub use Rattle.net_plan.specs.declared.tables.{Link.Link, Way.{Way, TheVariants.{Down, Up}}}
pub use Rattle.pcf_codec.specs.Fields.{field}
pub use Rattle.pcf_codec.specs.declared.refusal.PcfRefusal.{PcfRefusal}
pub use Rattle.tte_units.specs.declared.frames.{channel.Channel.Channel, members.Members.Members, pcf.Pcf.Pcf}
pub use Rattle.run_law.proofs.law.FirstDeliveries.{by_number, founded_at, last_in, none_kept, numbered_front}
pub use Rattle.run_law.proofs.law.FirstDeliveries.{numbered_in, numbered_within}
pub use Rattle.world_law.proofs.{rows.AtHand.{IsNoTaking, value_is}}
pub use Rattle.world_law.proofs.acts.{Acting.{IsAlike, point_number, undone_alike, waiting_alike}}
pub use Rattle.run_law.proofs.records.Order.{after_more, any_in, same_kept}
pub use Rattle.world_law.proofs.{acts.Dues.{dispatch_late, points_same}}
pub use Rattle.world_law.proofs.{putting.Near.{hears, held_aside, known_aside, turned_aside}}
pub use Rattle.world_law.proofs.devices.Standing.{all_up_to, are_past, by_last, moves_no_other, next_is_up_to}
pub use Rattle.world_law.proofs.devices.Standing.{quiet_rest}
pub use Rattle.world_law.proofs.runs.{Agreement.changed_before, Foremost.not_on_after}
pub use Rattle.world_law.proofs.runs.Worlds.{AreSettled, at_least, dispatches_same, earlier_still, length_is, no_higher}
pub use Rattle.world_law.proofs.runs.Worlds.{numbered_parts, reaches_back, up_back}
pub use Rattle.world_law.proofs.devices.{Unmoved.{change_still, keeps_adjustment, not_turned_on, same_before}}
pub use Rattle.world_law.proofs.putting.{Putting.{IsOne, IsUnfollowed, is_last, last_unfollowed, one_by}}
pub use Rattle.world_law.proofs.putting.Moving.{IsAllOfIt, IsMoving, StandsHere, acts_on, comes_first, device_still}
pub use Rattle.world_law.proofs.putting.Moving.{devices_then, ports_move, ports_still, stands_on, turned_by}
pub use Rattle.world_law.proofs.putting.Moving.{waiting_still, wires_move, wires_still}
pub use Rattle.world_law.proofs.putting.Placing.{AsState, IsShownPut, due_of, one_shown, put_length, record_of}
pub use Rattle.world_law.proofs.putting.Placing.{two_shown}
pub use Rattle.world_law.proofs.runs.{Over.StandsBehind}
pub use Rattle.run_law.proofs.runs.Places.{before_behind, chain, either_way, in_left, in_parts, in_right, never_self, parted}
pub use Rattle.run_law.proofs.control.Points.{no_cluster}
pub use Rattle.run_law.specs.control.Arrivals.{control_arrival, frame_fault, frame_or_fault}
pub use Rattle.run_law.specs.control.Collections.{ends_stretch, master_of, observation_window, point_by, points_of}
pub use Rattle.run_law.specs.control.Corrections.{ComesToCorrection, correction_value, cycle_after, has_cleared, heard_since, hearing_by, integration_cycle}
pub use Rattle.run_law.specs.control.{Corrections.{is_integration_cycle, recorded_cycle, standing_before}, Emissions.Emits, Hearing.heard_as, Leaving.Gives}
pub use Rattle.run_law.specs.control.{Losses.IsSendLost, Permanence.{IsPermanent, ripe_as}}
pub use Rattle.run_law.specs.control.Wires.{Arrives, Launch, Signal, control, launched, signal_of, timed}
pub use Rattle.run_law.specs.declared.{judgement.{Judgement.Judgement, Reason.Reason, Why.{Why, TheVariants.On}}, note.{Note.Note, NoteBody.NoteBody}}
pub use Rattle.run_law.specs.declared.steps.{Act.Act, Arrival.Arrival, Moment.Moment, Ripe.Ripe}
pub use Rattle.run_law.specs.device.{LocalClocks.{Reaches, changed_at, changes_adjustment, local_before}, Standpoints.{Standpoint, standpoint}}
pub use Rattle.run_law.specs.device.StateChanges.{ChangesState}
pub use Rattle.run_law.specs.device.States.{adjustment_after, adjustment_at_hearing, adjustment_before, adjustment_with, cycle_in, has_joined_at, is_joined_by}
pub use Rattle.run_law.specs.device.States.{is_off, is_synchronised, state_after, state_at_hearing, state_before, state_with}
pub use Rattle.run_law.specs.machines.Answers.{ComesTo, IsActOf, IsPermanenceOutcomeAt, after_permanence, arrival_at, called, with_clique, with_done}
pub use Rattle.run_law.specs.machines.{Answers.with_joined, Calls.{IsOfMaster, MayCall}}
pub use Rattle.run_law.specs.machines.Nodes.{ClockTask, Node, Phase, TakenFrame, acting, arriving, correcting, dispatching, last_taken_by, ripening, sending}
pub use Rattle.run_law.specs.machines.Tasks.{IsDeedOf, IsFirstTask, IsPending, IsUndone, IsWaiting, Task, doing, emitting, reading_for, value_of}
pub use Rattle.run_law.specs.records.{Causes.{IsOfThisTime, cause_of}, Happenings.{Happening, earlier, happening, happenings, numbered, time_of, up_to}}
pub use Rattle.run_law.specs.records.{Order.{AllBefore, IsBefore, IsIn, NoneBefore, behind}, Ranks.{key, members_in, place_of, rank}}
pub use Rattle.run_law.specs.runs.{DueRecords.{IsArrivedRecord, IsCaused, IsDue}, Runs.{IsFounded, IsRun}}
pub use Rattle.run_law.specs.scenario.Devices.{IsParentOf, channel_of_link, is_cm, is_end, is_parent_of, is_relay, plan_of}
pub use Rattle.run_law.specs.scenario.{Scenarios.{Scenario, is_broken, is_turned_on_at, turns_on}, Ways.{is_cut, way_from}}
pub use Rattle.run_law.specs.timed.{Arrivals.{octets_fault, octets_or_fault, timed_arrival}, Dispatching.{Dispatches, HasAtHand, is_accepted}}
pub use Rattle.run_law.specs.timed.Receptions.{arrival_of, comes_before, is_taken_before, last_taken, taken_cycle}
pub use Rattle.schedule_tables.specs.{Entries.target_by, Rules.KeepsRules}
pub use Rattle.schedule_tables.specs.declared.entry.Entry.{Entry}
pub use Rattle.sync_state.specs.Calls.{adjustment_by, state_by}
pub use Rattle.sync_state.specs.declared.{answers.Verdict.{Verdict, TheVariants.{AsyncClique, Cleared, Corrected, SyncClique}}, plan.SyncPlan.SyncPlan}
pub use Rattle.sync_state.specs.declared.state.State.{State, TheVariants.{Integrating, Joining, Off, Synchronised}}
pub use Rattle.drift_clock.specs.transparent.Points.{point_of}
pub use Rattle.tte_units.proofs.general_lemmas.{Bools.or_none, Integers.{never_both, whole, whole as natural}, Lists.none_in}
pub use Rattle.tte_units.specs.Amount.{amount, units_of}
pub use Rattle.tte_units.specs.declared.units.Units.{Units}
pub use Rattle.world_law.proofs.giving.GivenParts.{no_later_breaks, some_same}
pub use Rattle.world_law.proofs.lists.{Lists.{behind_no, behind_yes, filter_no, filter_yes}, Orders.cases_int}
pub use Rattle.world_law.proofs.putting.Idle.{numbered_prefix}
pub use Rattle.world_law.proofs.putting.PutIn.{own_time}
pub use Rattle.world_law.proofs.rows.Dispatching.{IsLawful}
pub use Rattle.world_law.proofs.runs.TaskPlaces.{acts_before, acts_first, no_task_at, of_device, placed_so, row_order, second}
pub use Rattle.world_law.specs.device.{Deeds.{HadComeTo, HasDoneFrom, HasDoneTask, HasSentFrom, HasWorkedTo}, Left.{HasTaskBy, IsLeft, is_timed}, Own.{bears_on, moves}}
pub use Rattle.world_law.specs.device.Ready.{IsReadyAt, IsSteady}
pub use Rattle.world_law.specs.device.{Recorded.{HasCleared, dispatch_body}, Takings.{frames_taken, taken_in}}
pub use Rattle.world_law.specs.device.Told.{cleared_in, local_in, next_in, since_at}
pub use Rattle.world_law.specs.source.{Agreeing.scenario, Applying.IsEventBody, Sources.{IsActing, IsOwnSource, IsSource, task_place}}
pub use Rattle.world_law.specs.world.{Calls.{HasActed, IsDueNow, IsSet, moment_of}, Moves.{ArePutIn, ComesFirst, IsPutIn, IsWithout, settled_as}}
pub use Rattle.world_law.specs.world.Outcomes.{arrival_body}
pub use Rattle.world_law.specs.world.World.{AreAtPorts, AreComing, AreOfNetwork, AreOnWires, AreUntold, AreWaiting, AtPort, Befell, HasTurnedOn, HaveBefallen}
pub use Rattle.world_law.specs.world.World.{IsAtRest, IsHeld, IsKept, IsOnWire, IsOut, IsTurnedOnBy, IsWaitingFor, OnWire, Stands, Waiting, World, act_place}
pub use Rattle.world_law.specs.world.World.{clock_place, has_outcome, is_at_source, is_turning, numbers_end, port_place, rank_of_call}
pub use Rattle.world_law.specs.world.World.{IsActedOut, IsJoiningNow, ripe_place, rows_place, wire_place}
pub use Rattle.world_law.specs.steps.Befalling.{bodies_of}
