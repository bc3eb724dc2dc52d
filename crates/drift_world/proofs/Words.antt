-- What three or more proof files of this crate name of other crates and of specs/, passed on from one place. Declares nothing.
pub use Rattle.std.proofs.Common.{if◌then◌else◌, ◌&&◌, ◌*◌, ◌++◌, ◌+ℤ◌, ◌+◌, ◌-◌, ◌<ℤ◌, ◌<◌, ◌==◌, ◌^◌, ◌∙◌, ◌∷◌, ◌≡◌, ◌≤ℤ◌, ◌≤◌, ◌⊎◌, Bool, Err, List, None}
pub use Rattle.std.proofs.Common.{Ok, Option, Result, Some, [], ap, append-nil, append_assoc, arith, false, filter, inl, inr, length, length-set, map, not, pos}
pub use Rattle.std.proofs.Common.{refl, slice_set, subst, suc, sym, true, unsigned_abs, zero, ℕ, ℤ}
pub use Rattle.std.proofs.lemmas.{Bool.{and_parts, both_ways, cases_eq, cases_lt, eq-eqb, eqb-true, false_from_ne_true, le-leb, le-ltb, lt-ltb}, Int.ints}
pub use Rattle.std.proofs.lemmas.List.{length-map, Sorted.{IsPermutation-map, IsPermutation-sym, length_permutation}}
pub use Rattle.std.proofs.lemmas.Option.{get_or_from_slice_get, same_Some, slice_get-get_or, slice_get-map, slice_get_read, slice_get_within}
pub use Rattle.std.specs.{List.list_any, Option.option_map_or, Prelude.{◌↔◌, IfNone, IfOk, IfSome, IsSomeAnd, OnErr, OnOk, nat_le, nat_lt, unwrap_or}}
pub use Rattle.std.specs.List.Sorted.{IsPermutation}
pub use Rattle.drift_clock.proofs.Readings.{IsLawful, begins_at_zero, keeps_clock_laws}
pub use Rattle.drift_clock.specs.RateSteps.{RateStep}
pub use Rattle.net_plan.specs.{Belonging.IsOfNetwork, Places.link_at, Ranges.{IsInRange, IsLinkInRange}}
pub use Rattle.net_plan.specs.declared.{event.What.What, ids.{DeviceId.DeviceId, LinkId.LinkId, VlId.VlId}, network.Network.Network, tables.Link.Link}
pub use Rattle.net_plan.specs.declared.tables.Way.{Way, TheVariants.{Down, Up}}
pub use Rattle.pcf_codec.specs.Fields.{field}
pub use Rattle.tte_units.specs.declared.frames.pcf.Pcf.{Pcf}
pub use Rattle.run_law.proofs.law.FirstDeliveries.{in_filter, numbered_in}
pub use Rattle.run_law.proofs.records.Order.{any_in, given_of, is_given}
pub use Rattle.world_state.proofs.{Queues.is_set, queue_lemmas.Slots.in_permuted}
pub use Rattle.run_law.proofs.runs.Places.{chain, in_parts, in_right, never_self, parted}
pub use Rattle.run_law.specs.control.Wires.{Arrives, Launch, Signal, control, launched, signal_of, time_on_port, timed}
pub use Rattle.run_law.specs.declared.note.{Note.Note, NoteBody.NoteBody}
pub use Rattle.run_law.specs.declared.note.NoteBody.TheVariants.{Accepted, Arrived, Compressed, Delivered, Dropped, Left, Lost, Permanent, State as Changed}
pub use Rattle.run_law.specs.declared.{note.NoteBody.TheVariants.TtSent, steps.Moment.Moment}
pub use Rattle.run_law.specs.machines.{Calls.StandsFor, Nodes.Node, Tasks.reading_for}
pub use Rattle.run_law.specs.records.Happenings.{Happening, frame_by, frame_from, happening, happenings, numbered, octets_by, octets_from, time_of, with_clock}
pub use Rattle.run_law.specs.records.{Order.{IsBefore, IsIn, NoneBefore, behind}, Ranks.{place_of, rank}}
pub use Rattle.run_law.specs.runs.{DueRecords.{IsCaused, IsDue, IsRunOf, IsScenarioRun}, Runs.IsFounded}
pub use Rattle.run_law.specs.scenario.{Devices.is_parent_of, Hypothesis.{AreWithinHypothesis, IsWithinHypothesis, breaks_at}, Rates.rate_steps}
pub use Rattle.run_law.specs.scenario.{Scenarios.{Scenario, is_broken, is_turned_on_at, turns_on}, Ways.{delay_at, is_cut, receiver_of, way_from}}
pub use Rattle.schedule_tables.specs.{Entries.target_by, Rules.KeepsRules}
pub use Rattle.sync_state.specs.declared.state.State.{State as DeviceState, TheVariants.{Integrating, Joining, Off}}
pub use Rattle.tte_units.proofs.general_lemmas.{Lists.in_all, Options.one}
pub use Rattle.tte_units.specs.Amount.{amount, units_of}
pub use Rattle.tte_units.specs.declared.units.Units.{Units}
pub use Rattle.world_law.proofs.giving.GivenParts.{in_get}
pub use Rattle.world_law.specs.source.{Agreeing.scenario, First.NoSourceBefore}
pub use Rattle.world_law.specs.world.{Calls.{HasActed, IsDueNow, moment_of}, Moves.{ArePutIn, ComesFirst, StandsAt, settled_as}, Outcomes.departure_body}
pub use Rattle.world_law.specs.world.World.{AreComing, AreWays, AtPort, IsHeld, OnWire, Stands, Waiting, WayNow, World, act_place}
pub use Rattle.world_law.specs.world.World.{note_of, numbers_end, ripe_place, way_now, wire_place}
pub use Rattle.world_state.specs.queue.Places.{IsFirst, numbers_of}
pub use Rattle.world_state.specs.declared.queue.DueAt.{DueAt}
pub use Rattle.run_law.proofs.records.Members.{in_map as is_mapped}
pub use Rattle.world_state.specs.{Applying.clock_after, Giving.{ArrivedAt, HasItsOctets, IsPutOn, changed_device, delay_by, wire_entry}, Keeping.{Meaning, keeps}}
pub use Rattle.world_state.specs.{Places.{IsPutAt, IsSomePut, own_place}, Sound.{AreBelow, AreUnderWay, IsShort, rank_of}}
pub use Rattle.world_state.specs.Storing.{IsStoredBy}
pub use Rattle.world_state.specs.Views.{at_port, befell_as, octets_in, octets_of, on_wire, settled_at, signal_as, stored_as, waiting_as, way_as, wire_at}
pub use Rattle.world_state.specs.declared.contents.{Befallen.Befallen, Content.{Content, TheVariants.{Port, Wire}}, Holding.Holding, Settled.Settled}
pub use Rattle.world_state.specs.declared.{contents.{Timed.Timed, Waits.Waits, WayState.WayState}, giving.Giving.Giving, kept.Kept.Kept}
pub use Rattle.tte_units.specs.declared.memory.OutOfMemory.{OutOfMemory}
pub use Rattle.world_law.specs.steps.Steps.{FitsWorld}
pub use Rattle.world_state.specs.timers.Times.{never}
pub use Rattle.world_state.specs.declared.timers.SlotTimer.{SlotTimer}
pub use Rattle.drift_world.specs.{Giving.IsGivenOut, Locals.{IsComplete, IsLocalClockBefore, Shows, local_shown}}
pub use Rattle.drift_world.specs.{Running.{ComesUpTo, StandsUnder, behind_events, given_by, reading_of}, Showing.IsOf, Sound.{AreApart, IsSized, IsSound}}
pub use Rattle.drift_world.specs.{Sourcing.{AreFirsts, AreNotBefore, AreTimed, HasNothingBefore}, Stepping.{ChangesOnly, IsAt, IsRunning, IsTimed, StandsOn}}
pub use Rattle.drift_world.specs.{Stepping.{InOrder, IsOwn, StandsWith, TurnsIn}, Turns.SourceFirst, Views.world_of, Wells.IsWell}
pub use Rattle.drift_world.specs.declared.next.Turn.{Turn}
