-- What three or more proof files of this crate name of other crates and of specs/, passed on from one place. Declares nothing.
pub use Rattle.std.proofs.Common.{if◌then◌else◌, ◌*◌, ◌++◌, ◌+ℤ◌, ◌+◌, ◌-◌, ◌/◌, ◌<ℤ◌, ◌<◌, ◌^◌, ◌∙◌, ◌∷◌, ◌≡◌, ◌≤ℤ◌, ◌≤◌, ◌⊎◌, Bool, IsSomeAnd, List, None}
pub use Rattle.std.proofs.Common.{Option, Some, [], ap, append_assoc, arith, false, inl, inr, length, not, pos, refl, slice_get, subst, suc, sym, true}
pub use Rattle.std.proofs.Common.{unsigned_abs, zero, ℕ, ℤ}
pub use Rattle.std.proofs.lemmas.{Bool.{cases_lt, eqb-true, le-ltb}, Int.ints, List.append-nil}
pub use Rattle.std.specs.{List.{Contains, cons_option, filter_map, last_or}, Option.option_map_or}
pub use Rattle.std.specs.Prelude.{◌&&◌, ◌==◌, Ok, nat_lt, option_and_then, option_map}
pub use Rattle.sync_state.specs.membership.Summary.{Summary}
pub use Rattle.net_plan.specs.{Bounds.beta_at, Places.{device_at, is_master, link_at}}
pub use Rattle.net_plan.specs.declared.{event.{Event.Event, What.{What, TheVariants.Send}}, ids.{DeviceId.DeviceId, LinkId.LinkId, VlId.VlId}}
pub use Rattle.net_plan.specs.declared.{network.Network.Network, tables.{Device.Device, Link.Link, Role.{Role, TheVariants.{Client, Cm, Master, Relay}}}}
pub use Rattle.net_plan.specs.declared.tables.Way.{Way, TheVariants.{Down, Up}}
pub use Rattle.tte_units.specs.declared.frames.{channel.Channel.TheVariants.{A, B}, members.Members.Members, pcf.Pcf.Pcf}
pub use Rattle.sync_state.specs.Standing.{adjustment_at_start}
pub use Rattle.sync_state.specs.declared.state.State.{State, TheVariants.{Integrating, Joining, Synchronised}}
pub use Rattle.tte_units.proofs.general_lemmas.{Lists.in_all, Options.{one as same_some}}
pub use Rattle.tte_units.specs.Amount.{amount, units_of}
pub use Rattle.tte_units.specs.declared.units.Units.{Units}
pub use Rattle.run_law.specs.control.{Arrivals.{control_arrival, frame_fault, frame_or_fault}, Collections.observation_window, Leaving.{Departs, Gives}}
pub use Rattle.run_law.specs.control.{Losses.IsDropped, Permanence.{BecomesPermanent, ripe_as}, Wires.{Launch, control, launched}}
pub use Rattle.run_law.specs.declared.{judgement.{Judgement.{Judgement, TheVariants.Integrates}, Reason.Reason, Why.Why}, note.{Note.Note, NoteBody.NoteBody}}
pub use Rattle.run_law.specs.declared.{note.NoteBody.TheVariants.Event as Befalls, steps.{Arrival.Arrival, Ripe.Ripe}}
pub use Rattle.run_law.specs.device.{Standpoints.{Standpoint, standpoint}, StateChanges.ChangesState}
pub use Rattle.run_law.specs.device.States.{adjustment_after, is_joined_by, is_off, state_after}
pub use Rattle.run_law.specs.records.{Happenings.{Happening, earlier, happening, happenings, numbered, time_of}, Order.{AllBefore, IsBefore, IsIn, NoneBefore}}
pub use Rattle.run_law.specs.records.Ranks.{key, members_in, place_of, rank}
pub use Rattle.run_law.specs.runs.{DueRecords.{IsArrivedRecord, IsCaused, IsDue}, Runs.{IsDetermined, IsFounded, IsRun}}
pub use Rattle.run_law.specs.scenario.{Devices.{is_parent_of, is_relay, start_of}, Hypothesis.IsWithinHypothesis, Scenarios.{Scenario, is_broken}}
pub use Rattle.run_law.specs.timed.Receptions.{ArrivesAs, arrival_of}
