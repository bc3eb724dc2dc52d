-- What is proved of blocks, and is cited further on, passed on from one place. Declares nothing.
pub use Rattle.compression.proofs.ClusterFacts.{ends_soon}
pub use Rattle.run_law.proofs.device.States.{is_in as synchronised_is}
pub use Rattle.run_law.proofs.{control.Verdicts.looking_by, records.Order.{contained, place_order}}
pub use Rattle.sync_state.proofs.VerdictLemmas.{up_state as not_integrating}
pub use Rattle.tte_units.proofs.general_lemmas.Integers.{int_lt-from, int_lt-is}
pub use Rattle.precision_law.proofs.block.{Halving.{shared_near, start_near}}
pub use Rattle.precision_law.proofs.block.Instants.{FramesGoSo, HasCorrected, HasPoint, IsGoodHearing, IsLate, IsSentOn}
pub use Rattle.precision_law.proofs.block.Instants.{WentSo, corrections_go_on, early_show, expected_is, expected_late}
pub use Rattle.precision_law.proofs.block.Instants.{good_hearing, had_time, has_corrected, has_lost, in_part, joins}
pub use Rattle.precision_law.proofs.block.Instants.{judged_at, judged_up_to, known_dispatch, late_from, members_by}
pub use Rattle.precision_law.proofs.block.Instants.{near_hull, next_first, old_point, stands_at_start, tidy, up_to_then}
pub use Rattle.precision_law.proofs.clocks.{Epochs.sets_none}
pub use Rattle.precision_law.proofs.clocks.OldDevices.{AreUpTo, cleared_from, had_cleared, hears_as_at}
pub use Rattle.precision_law.proofs.clocks.OldDevices.{joiner_integrates, joining_from, joining_of_setting, joins_none}
pub use Rattle.precision_law.proofs.clocks.OldDevices.{old_number, set_by_joining}
pub use Rattle.precision_law.proofs.compression.Clusters.{GivesPoint, IsReadAt, arrival_young, cluster_was}
pub use Rattle.precision_law.proofs.compression.Clusters.{emissions_are_sharp, gives_point, is_held, later_point}
pub use Rattle.precision_law.proofs.compression.Clusters.{master_of_bit, point_record, points_ordered, read_at}
pub use Rattle.precision_law.proofs.compression.Frames.{IsBadPoint, IsGoodPoint, IsKnown, IsWitness, bad_number}
pub use Rattle.precision_law.proofs.compression.Frames.{bases_are_in_hulls, bases_are_near_hulls, emission_is_one}
pub use Rattle.precision_law.proofs.compression.Frames.{emissions_are_of_dispatches, front_point, front_witness}
pub use Rattle.precision_law.proofs.compression.Frames.{good_near, made_of, member_of_point, members_are_masters}
pub use Rattle.precision_law.proofs.compression.Frames.{not_both, point_is, point_of_member, three_have_good}
pub use Rattle.precision_law.proofs.law.Precision.{IsSetInBlock, before_narrow, block_ends, blocks_cover, clique_point}
pub use Rattle.precision_law.proofs.law.Precision.{clocks_agree_in_blocks, clocks_stay_together, earlier_in_block}
pub use Rattle.precision_law.proofs.law.Precision.{follows_before, joiners_come_in, later_end, new_shows, old_shows}
pub use Rattle.precision_law.proofs.law.Precision.{set_by, set_shows, time_is_kept, timed_of, up_to_is}
pub use Rattle.precision_law.proofs.records.RunViews.{all_in_hulls, block_of, from_to_of_cut, from_to_of_run}
pub use Rattle.precision_law.proofs.records.RunViews.{hull_is_from_to, hull_lies, of_cut, view_of, view_with}
pub use Rattle.precision_law.proofs.trips.{SoundChannel.{one_cm, sound_frames_go_down, sound_frames_go_up}}
pub use Rattle.precision_law.proofs.trips.{Travels.{EndsSo, ends_so}}
pub use Rattle.precision_law.proofs.block.Halving.{HasDispatched, IsReachedBy, has_dispatched, high_by, hulls_are_narrow, in_next, low_by, master_is_end}
pub use Rattle.precision_law.proofs.faults.Turned.{none_turns_on, not_turned_on_then, turned_at}
pub use Rattle.precision_law.proofs.hearing.Timely.{cm_of, heard_frames_are_timely}
pub use Rattle.precision_law.proofs.sizes.Few.{few_cycles}
