-- What is proved of records, clocks, faults and frames, and is cited further on, passed on from one place. Declares nothing.
pub use Rattle.std.proofs.Common.{suc-mul as one_more}
pub use Rattle.std.proofs.lemmas.Option.{none-some as never_some}
pub use Rattle.net_plan.proofs.SameIds.{one_device as same_device}
pub use Rattle.run_law.proofs.device.States.{joined_changes, reaches_by}
pub use Rattle.run_law.proofs.records.Order.{all_of, any_in, contains, from_earlier as in_earlier}
pub use Rattle.run_law.proofs.records.Order.{given_of as in_filter_map, has_passed as passes, in_any}
pub use Rattle.run_law.proofs.records.Order.{is_given as made_in, same_kept, time_before as no_later}
pub use Rattle.sync_state.proofs.VerdictLemmas.{number_in as point_is}
pub use Rattle.precision_law.proofs.clocks.Epochs.{Keeps, adjustment_is_last, adjustment_set, adjustment_stays}
pub use Rattle.precision_law.proofs.clocks.Epochs.{clocks_have_reached, clocks_reach_sharply, fold_last, joiner_waits}
pub use Rattle.precision_law.proofs.clocks.Epochs.{keeps, kept_by_all, kept_if, next_cycle_is_of_last, none_between}
pub use Rattle.precision_law.proofs.clocks.Epochs.{sets_none, settings_stay, state_stays, time_stays}
pub use Rattle.precision_law.proofs.faults.Masters.{good_is_correct, has_member, one_bad, one_channel_is_sound}
pub use Rattle.precision_law.proofs.faults.Masters.{one_member, switches_are_good}
pub use Rattle.precision_law.proofs.faults.Sound.{enough_masters, sets_within, sound_switches_begin_on}
pub use Rattle.precision_law.proofs.faults.Sound.{sound_ways_are_whole}
pub use Rattle.precision_law.proofs.hearing.Heard.{HearsThis, IsHearingOf, best_is_heard, cleared_by, hearer_not_cm}
pub use Rattle.precision_law.proofs.hearing.Heard.{hearing_of, hearings_are_of_frames, hears_by, same_cleared}
pub use Rattle.precision_law.proofs.hearing.Heard.{same_next}
pub use Rattle.precision_law.proofs.records.{Judged.earlier_judge}
pub use Rattle.precision_law.proofs.records.{Times.{AreSorted, IsCutAt, between, cut_at, is_between, last_some}}
pub use Rattle.precision_law.proofs.records.{Views.{in_order, room, sizes_are, steady}}
pub use Rattle.precision_law.proofs.records.Points.{IsRipeArrival, IsRipeRecord, IsSentAt, IsSetting, before_of}
pub use Rattle.precision_law.proofs.records.Points.{before_place, due_there, earlier_before, founded_by, is_collected}
pub use Rattle.precision_law.proofs.records.Points.{is_heard_of, is_sent, last_in, place_of_ripe, place_of_sent}
pub use Rattle.precision_law.proofs.records.Points.{point_has_time, point_timed, reaches_front, reaches_whole}
pub use Rattle.precision_law.proofs.records.Points.{same_adjustment, sent_at, setting_is, sorted_parts, within_run}
pub use Rattle.precision_law.proofs.trips.{Sound.{IsClean, IsReady, no_fault, sound_switch_on, will_be_permanent}}
pub use Rattle.precision_law.proofs.trips.Legs.{child_channel, child_kind, child_not_parent, child_ways, emission_shows}
pub use Rattle.precision_law.proofs.trips.Legs.{frames_down_are_of_cms, frames_up_are_of_masters, gives_down}
pub use Rattle.precision_law.proofs.trips.Legs.{master_member, never_timed, parent_ways, receiver_down, receiver_up}
pub use Rattle.precision_law.proofs.trips.Legs.{receiver_way, same_cycle, trip_more}
pub use Rattle.precision_law.proofs.trips.Links.{HasGone, IsGivenOn, TakesWith, arrived_frame, arrives_at, clocked}
pub use Rattle.precision_law.proofs.trips.Links.{frame_is, goes_over, leaves_at, leaving_is, leg_hop, numbered_all}
pub use Rattle.precision_law.proofs.trips.Links.{taken_as, taken_sound, takes_at_most, trip_says}
pub use Rattle.run_law.proofs.law.FirstDeliveries.{next_due, next_note}
pub use Rattle.schedule_tables.proofs.Margins.{master_ends}
pub use Rattle.tte_units.proofs.general_lemmas.{Integers.{int_le-is, whole as natural}, Options.some_of}
pub use Rattle.precision_law.proofs.Plain.{any_is, any_of_in, cm_is_no_end, device_of, higher_before, le_by, lt_by, reached, some_if, synchronised_has_time}
pub use Rattle.precision_law.proofs.block.Hulls.{has_before, in_hull, over, tested}
pub use Rattle.precision_law.proofs.clocks.Anchored.{anchored_clocks_reach, anchored_clocks_show, anchors_widen, clocks_of_one_cycle, clocks_of_two_cycles}
pub use Rattle.precision_law.proofs.clocks.Anchored.{natural_of, one_frame_anchors, one_frame_sets, set_clocks_have_reached, set_clocks_show}
pub use Rattle.precision_law.proofs.clocks.Anchored.{shared_clocks_halve, starts_are_set, starts_stay_together, two_frames_anchor, two_frames_set}
pub use Rattle.precision_law.proofs.clocks.Readings.{permanence_is_sharp, reach_is_sharp, reach_is_there, ripe_in_order, short_by_reading}
pub use Rattle.precision_law.proofs.compression.Counted.{Apart, IsClusterOf, all_but_one, all_by, ascending_from, cluster_from, few_members, firsts_apart}
pub use Rattle.precision_law.proofs.compression.Counted.{firsts_in, firsts_ordered, has_firsts, has_is_member, has_one, in_all, member_has, middle_near}
pub use Rattle.precision_law.proofs.compression.Counted.{opened_by, ordered_filter}
pub use Rattle.precision_law.proofs.records.Behind.{PartsAtLast, after_last_at, after_last_none, after_more, behind_last, none, not_each, parts_at_last, some}
pub use Rattle.precision_law.proofs.sizes.Instants.{corrections_come_first, cycles_are_few, frames_come_first, hulls_go_on, instants_are_in_order}
pub use Rattle.precision_law.proofs.sizes.Instants.{set_clocks_stay_at_correction}
pub use Rattle.run_law.proofs.records.Members.{in_kept}
