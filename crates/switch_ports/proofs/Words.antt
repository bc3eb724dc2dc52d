-- What three or more proof files of this crate name of other crates and of specs/, passed on from one place. Declares nothing.
pub use Rattle.std.proofs.Common.{if◌then◌else◌, ◌&&◌, ◌*ℤ◌, ◌*◌, ◌++◌, ◌+ℤ◌, ◌+◌, ◌-ℤ◌, ◌<ℤ◌, ◌<◌, ◌==◌, ◌^◌, ◌∙◌, ◌∷◌, ◌≡◌, ◌≤ℤ◌, ◌≤◌, ◌⊎◌, Bool, IsSomeAnd}
pub use Rattle.std.proofs.Common.{List, None, Option, Some, [], ap, arith, false, get_or, inl, inr, length, map, neg_ℤ, pos, refl, slice_set, subst, suc, sym}
pub use Rattle.std.proofs.Common.{take, true, unwrap_or, zero, ℕ, ℤ}
pub use Rattle.std.proofs.Math.Nat.{mul-le-mul_right}
pub use Rattle.std.proofs.lemmas.{Bool.{cases_Bool, eqb-true}, Int.ints, List.length-map}
pub use Rattle.std.proofs.lemmas.{List.Elements.{All-contains, All-contains_itself, Contains-append_left, Contains-append_right}, Option.slice_get-get_or}
pub use Rattle.std.specs.{List.Contains, Option.option_map_or, Prelude.{IfSome, int_lt, nat_le, option_and_then, option_map, slice_get}}
pub use Rattle.sync_state.specs.correction.Deviation.{IsSmall}
pub use Rattle.compression.proofs.Growth.{in_head, in_none}
pub use Rattle.compression.specs.{Clusters.{AreClusters, Cluster}, Collecting.{Collecting, emissions, fresh}, Emission.{compressed, emission}, Least.IsLeast}
pub use Rattle.compression.specs.Stands.{StandsForPoints}
pub use Rattle.compression.specs.declared.compressed.Compressed.{Compressed}
pub use Rattle.sync_state.specs.membership.Summary.{Summary, best_on, silence}
pub use Rattle.sync_state.specs.declared.membership.frame.HeardFrame.{HeardFrame}
pub use Rattle.net_plan.proofs.InRange.{amount_most, its_amount}
pub use Rattle.net_plan.specs.{Places.{is_end_system, is_master, link_at}, Ranges.{IsInRange, IsWithin}, Rules.masters}
pub use Rattle.net_plan.specs.declared.{ids.{DeviceId.DeviceId, LinkId.LinkId, RowId.RowId, VlId.VlId}, network.Network.Network, tables.Device.Device}
pub use Rattle.net_plan.specs.declared.tables.{Link.Link, Row.Row}
pub use Rattle.tte_units.specs.declared.frames.{channel.Channel.{Channel, TheVariants.{A, B}}, members.Members.Members, pcf.Pcf.Pcf}
pub use Rattle.run_law.specs.control.{Collections.{master_of, observation_window}, Corrections.correction_value, Hearing.{heard_as, last_cycle}}
pub use Rattle.run_law.specs.control.Permanence.{ripe_as}
pub use Rattle.run_law.specs.declared.{judgement.Reason.Reason, steps.Moment.Moment}
pub use Rattle.run_law.specs.device.Standpoints.{clock_of}
pub use Rattle.run_law.specs.machines.{Answers.{after_arrival, after_permanence, called}, Calls.MayCall}
pub use Rattle.run_law.specs.machines.Nodes.{ClockTask, Node, Phase, TakenFrame, acting, correcting, dispatching, sending}
pub use Rattle.run_law.specs.machines.Tasks.{IsPending, Task, doing, emitting, reading_for, value_of}
pub use Rattle.run_law.specs.scenario.Devices.{expected_by, is_cm, is_end, plan_of}
pub use Rattle.schedule_tables.specs.Entries.{IsEntry}
pub use Rattle.schedule_tables.specs.declared.entry.Entry.{Entry}
pub use Rattle.sync_state.specs.{Calls.after, Plan.expected_at, Standing.{Standing, next_point, point_in}}
pub use Rattle.sync_state.specs.declared.{plan.SyncPlan.SyncPlan, state.State.{State, TheVariants.{Integrating, Joining, Off, Synchronised}}}
pub use Rattle.tte_units.proofs.general_lemmas.{Integers.{further, never_less, through}, Lists.in_all}
pub use Rattle.tte_units.specs.Amount.{amount}
pub use Rattle.tte_units.specs.declared.units.Units.{Units}
pub use Rattle.device_rules.specs.{Intakes.HasTaken, declared.intake.Intake.Intake}
pub use Rattle.switch_ports.specs.Corrections.{correction_at, reading_of}
pub use Rattle.switch_ports.specs.Departing.{Awaits, AwaitsIn, AwaitsSo, Changes, HasDepartures, IsBegun, IsDeparture, IsTakingAt, KnowsNext}
pub use Rattle.switch_ports.specs.Leaving.{AreChained, AreEach, AreLeaving, IsLeaving, Precedes, dispatch_at, held_by, held_in, with_taking}
pub use Rattle.switch_ports.specs.{Sites.{IsSiteOf, port_of}, Standing.{HasCollected, IsAccepted, StandsAs}, Standpoints.standpoint_of}
pub use Rattle.switch_ports.specs.Steady.{IsFair, is_timed}
pub use Rattle.switch_ports.specs.declared.departures.{Departure.Departure, Departures.Departures, Dispatch.Dispatch, Held.Held, SwitchRow.SwitchRow}
pub use Rattle.switch_ports.specs.declared.{site.Port.Port, switch.Switch.Switch}
