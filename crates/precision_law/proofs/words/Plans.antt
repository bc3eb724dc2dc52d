-- What the proofs name of the network, its tables, its frames and the devices, passed on from one place. Declares nothing.
pub use Rattle.sync_state.specs.correction.Correction.{correction_of}
pub use Rattle.compression.proofs.{Middles.{middle_among_others, middle_from_first_to_last}}
pub use Rattle.compression.proofs.{Times.{in_rest, one_cluster, one_list_of_clusters, one_time_law}}
pub use Rattle.compression.proofs.Growth.{Ordered, Ordered-beyond, all-filter, beyond-push_out, cluster_of-beyond}
pub use Rattle.compression.proofs.Growth.{counts, end_of-least, end_of-same, firsts-has, firsts-start, from_beyond}
pub use Rattle.compression.proofs.Growth.{held-push_beyond, held-start, in_cases, in_filter_from, in_head, in_none}
pub use Rattle.compression.proofs.Growth.{in_tail, members_of-clear, members_of-set, with_first-new, with_first-old}
pub use Rattle.net_plan.proofs.Trees.{beta_exists, paths_are_unique, rules_give_trees}
pub use Rattle.schedule_tables.proofs.Margins.{margins, shape_rules}
pub use Rattle.compression.specs.Ascent.{IsAscending, last_from}
pub use Rattle.compression.specs.Clusters.{AreClusters, Cluster, Point, beyond, cluster_of, end_of, firsts, has_master, members_of, of_cycle_within, point_at}
pub use Rattle.compression.specs.{Clusters.with_first, Emission.emission, Middle.{AllButOne, LiesWithin, last_but_one, middle_of, middle_point, relative}}
pub use Rattle.compression.specs.{OneCluster.{AreInOrder, Holds, IsDropped, IsKept, LiesIn}, Role.{has_point_of, role, role_in}}
pub use Rattle.compression.specs.declared.{compressed.Compressed.Compressed, taken.Taken.{Taken, TheVariants.Opened}}
pub use Rattle.drift_clock.specs.{ClockLaws.Measures, Reach.IsReach}
pub use Rattle.sync_state.specs.membership.BestFrame.{IsBehind, IsBest, IsBestOf, IsBetterOf, IsLevel, Qualifies}
pub use Rattle.sync_state.specs.membership.Hearing.{Hearing, IsOutside, IsWithinOn, within_on}
pub use Rattle.sync_state.specs.membership.{Members.{IsMember, count_of, none, single, union}, Summary.{AreOutside, Summarizes, Summary, best_on, silence}}
pub use Rattle.sync_state.specs.declared.membership.frame.HeardFrame.{HeardFrame}
pub use Rattle.net_plan.specs.{Bounds.{IsBeta, beta_at, jitter_of, jitter_on}, Paths.{IsPath, IsTree, IsUplink}}
pub use Rattle.net_plan.specs.Places.{IsCmOf, IsDeviceOf, IsSwitchOf, device_at, is_end_system, is_master, link_at}
pub use Rattle.net_plan.specs.{Ranges.{IsDeviceInRange, IsLinkInRange, IsWithin}, Rules.{HasOffSwitch, IsChildOf}}
pub use Rattle.net_plan.specs.declared.{event.{Event.Event, What.{What, TheVariants.Send}}, ids.{DeviceId.DeviceId, LinkId.LinkId}, network.Network.Network}
pub use Rattle.net_plan.specs.declared.tables.{Device.Device, Link.Link, Role.{Role, TheVariants.{Cm, Master, Relay}}, Way.{Way, TheVariants.{Down, Up}}}
pub use Rattle.pcf_codec.specs.Fields.{field}
pub use Rattle.tte_units.specs.declared.frames.{channel.Channel.{Channel, TheVariants.{A, B}}, members.Members.Members, pcf.Pcf.Pcf}
pub use Rattle.schedule_tables.specs.{Delays.{delay_by, delay_of, delay_on, pcf_port_time}, Entries.target_by}
pub use Rattle.schedule_tables.specs.Margins.{HasMargins, clock_error, compression_time, drift_of}
pub use Rattle.schedule_tables.specs.declared.rule.Rule.TheVariants.{CompressionMasters, Connections, Joints, Masters}
pub use Rattle.sync_state.specs.{Plan.expected_at, Standing.{IsAtIntegration, Standing, adjustment_at_start, point_in, state_at_start}}
pub use Rattle.sync_state.specs.Verdicts.{HasVerdict, IsOutnumbered, SomeQualifies, deviation_by, deviation_on}
pub use Rattle.sync_state.specs.declared.{answers.Verdict.{Verdict, TheVariants.{AsyncClique, Cleared, Corrected, SyncClique}}, plan.SyncPlan.SyncPlan}
pub use Rattle.sync_state.specs.declared.state.State.{State, TheVariants.{Integrating, Joining, Off, Synchronised}}
pub use Rattle.drift_clock.proofs.transparent_lemmas.WaitLaw.{waits_for_point}
pub use Rattle.drift_clock.specs.transparent.{Hops.{Hop, IsHop, growth, travel}, Points.{Waits, point_of}}
pub use Rattle.tte_units.proofs.general_lemmas.{Integers.{int_le-from as int_le-true}, Lists.{in_all as all_at}, Options.{closed, opened}}
pub use Rattle.tte_units.proofs.Means.{mean_of-floor}
pub use Rattle.tte_units.specs.{Amount.{amount, units_of}, Mean.{IsMean, mean_of}}
pub use Rattle.tte_units.specs.declared.units.Units.{Units}
