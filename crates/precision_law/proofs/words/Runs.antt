-- What the proofs name of scenarios, runs and records, passed on from one place. Declares nothing.
pub use Rattle.run_law.proofs.law.FirstDeliveries.{IsFoundedAt, IsSplit, by_number, delay_least, due_is_there}
pub use Rattle.run_law.proofs.law.FirstDeliveries.{founded_at, front_founded, hold_most, in_at, in_filter, in_front_of}
pub use Rattle.run_law.proofs.law.FirstDeliveries.{last_is, none_kept, number_is, numbered_front, numbered_in}
pub use Rattle.run_law.proofs.law.FirstDeliveries.{numbered_within, same_earlier, split}
pub use Rattle.run_law.proofs.scenario.Decisions.{IsDecided, decided_and, decided_less, decided_less_int, decided_or}
pub use Rattle.run_law.proofs.scenario.Decisions.{decided_same, decided_some, is_faulty}
pub use Rattle.run_law.proofs.runs.Lacking.{behind_first}
pub use Rattle.run_law.proofs.runs.Places.{before_later_time, before_next_time, chain, earlier_time, in_left, in_parts, in_right, never_self, parted}
pub use Rattle.run_law.proofs.runs.SameSteps.{same_judgement}
pub use Rattle.run_law.specs.control.Arrivals.{are_others, clock_on_arrival, control_arrival, frame_fault, frame_or_fault, is_cold_start, is_gate_shut}
pub use Rattle.run_law.specs.control.Arrivals.{is_of_other_domain, is_of_other_member, point_on_arrival}
pub use Rattle.run_law.specs.control.Collections.{dispatch_value, ends_stretch, is_number, master_of, observation_window, point_by, point_fault, points_of}
pub use Rattle.run_law.specs.control.Collections.{ripe_by_role}
pub use Rattle.run_law.specs.control.Corrections.{ComesToCorrection, correction_value, cycle_after, has_cleared, heard_by, heard_since, hearing_by}
pub use Rattle.run_law.specs.control.{Corrections.{integration_cycle, is_integration_cycle, next_cycle, recorded_cycle, standing_before}, Emissions.Emits}
pub use Rattle.run_law.specs.control.Hearing.{heard_as, heard_by_schedule, heard_enough, last_cycle}
pub use Rattle.run_law.specs.control.Leaving.{Departs, Gives, clock_at_leaving, leaves, on_cut_way, too_old}
pub use Rattle.run_law.specs.control.Permanence.{BecomesPermanent, IsCollectedOrDropped, IsCollectionOutcome, IsJudgedBy, IsPermanenceOutcome, IsPermanent}
pub use Rattle.run_law.specs.control.Permanence.{before_permanence, ripe_as, waits_for}
pub use Rattle.run_law.specs.control.Wires.{Arrives, Launch, Signal, control, launched, signal_of, time_on_port, timed}
pub use Rattle.run_law.specs.declared.judgement.{Judgement.{Judgement, TheVariants.{Integrates, Outside, Within}}, Reason.Reason}
pub use Rattle.run_law.specs.declared.{judgement.{Reason.TheVariants.{ColdStart, Cycle, Domain, Gate, Member, Old}, Why.Why}, note.Note.Note}
pub use Rattle.run_law.specs.declared.note.NoteBody.{NoteBody}
pub use Rattle.run_law.specs.declared.outside.Outside.TheVariants.{NotBroken, NotMaster, NotOff, Order, SecondBreak, TooFewMasters, Wire}
pub use Rattle.run_law.specs.declared.steps.Arrival.{Arrival}
pub use Rattle.run_law.specs.device.LocalClocks.{Reaches, changed_at, changes_adjustment, had_come, local, local_at_change, local_before}
pub use Rattle.run_law.specs.device.{Standpoints.{Standpoint, first_reason, offset_in_cycle, standpoint}, StateChanges.ChangesState}
pub use Rattle.run_law.specs.device.States.{adjustment_after, adjustment_at_hearing, adjustment_before, adjustment_with, cycle_in, has_joined_at, is_joined_by}
pub use Rattle.run_law.specs.device.States.{is_off, is_synchronised, state_after, state_at_hearing, state_before, state_with}
pub use Rattle.run_law.specs.law.Safety.{AreClose, IsInStep, IsInStepBefore}
pub use Rattle.run_law.specs.records.{Causes.{IsChain, cause_of}, Frames.{dispatched_frame, integration_frame}}
pub use Rattle.run_law.specs.records.Happenings.{Happening, earlier, frame_by, frame_from, frame_in, happening, happenings, numbered, time_of, up_to}
pub use Rattle.run_law.specs.records.{Happenings.with_clock, Order.{AllBefore, IsBefore, IsIn, NoneBefore, is_before}}
pub use Rattle.run_law.specs.records.Ranks.{key, members_in, place_of, rank, sign}
pub use Rattle.run_law.specs.runs.{DueRecords.{IsArrivedRecord, IsCaused, IsDue, IsEventRecord}, Runs.{IsFounded, IsRun}}
pub use Rattle.run_law.specs.scenario.Devices.{IsParentOf, channel_of, channel_of_link, expected_by, has_role, is_cm, is_cm_role, is_end, is_parent_of}
pub use Rattle.run_law.specs.scenario.Devices.{is_relay, is_relay_role, member_of, plan_of, start_of}
pub use Rattle.run_law.specs.scenario.Faults.{BeginsOn, Breaks, Cuts, IsBroken, IsFaulty, IsLinkOf, TurnsOn}
pub use Rattle.run_law.specs.scenario.Hypothesis.{AreWithinHypothesis, breaks_at, is_sound_master, sound_masters}
pub use Rattle.run_law.specs.scenario.Scenarios.{Scenario, events_up_to, is_broken, is_turned_on_at, turns_on}
pub use Rattle.run_law.specs.scenario.Ways.{cut_set, delay_at, hold_at, is_cut, is_way, is_way_of, receiver_of, way_from, way_to, wire_of, wire_set}
pub use Rattle.run_law.specs.timed.Receptions.{ArrivesAs, arrival_of, last_taken}
pub use Rattle.tte_units.proofs.general_lemmas.Lists.{any_behind as any_later, any_first, any_none as any_of_none, any_of as any_parts}
pub use Rattle.tte_units.proofs.general_lemmas.Options.{one as same_some}
