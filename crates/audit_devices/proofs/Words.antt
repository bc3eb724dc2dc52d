-- What three or more proof files of this crate name of other crates and of specs/, passed on from one place. Declares nothing.
pub use Rattle.std.proofs.Common.{if◌then◌else◌, ◌++◌, ◌+◌, ◌-◌, ◌<◌, ◌∙◌, ◌∷◌, ◌≡◌, ◌≤◌, ◌⊎◌, Bool, Global, List, None, Option, Some, Vec, [], ap, arith}
pub use Rattle.std.proofs.Common.{false, filter, inl, inr, length, length-append, of_calls, pos, refl, rules, slice_get, subst, suc, sym, take, true, zero, ℕ}
pub use Rattle.std.proofs.Common.{ℤ}
pub use Rattle.std.proofs.lemmas.{Bool.{cases_lt, ne_eqb}, Fn.always_returns_same}
pub use Rattle.std.specs.{List.{cons_option, filter_map, last_or}, Option.option_map_or, Prelude.{◌&&◌, ◌+ℤ◌, ◌==◌, ◌||◌, nat_lt, option_map, slice_set}}
pub use Rattle.std.specs.List.Sorted.{IsPartitionPoint, IsPartitionedBy}
pub use Rattle.compression.proofs.Middles.{slice_get-last}
pub use Rattle.sync_state.specs.membership.{Hearing.Hearing, Summary.{Summarizes, Summary, silence}}
pub use Rattle.net_plan.specs.Ranges.{IsInRange}
pub use Rattle.net_plan.specs.declared.{ids.{DeviceId.DeviceId, VlId.VlId}, network.Network.Network}
pub use Rattle.run_law.specs.control.Corrections.{hearing_by}
pub use Rattle.run_law.specs.declared.note.NoteBody.{NoteBody}
pub use Rattle.run_law.specs.device.{LocalClocks.changes_adjustment, States.is_joined_by}
pub use Rattle.run_law.specs.records.{Happenings.{Happening, time_of}, Order.{IsIn, is_before}, Ranks.{members_in, place_at, place_of}}
pub use Rattle.run_law.specs.scenario.Scenarios.{Scenario}
pub use Rattle.tte_units.proofs.general_lemmas.Lists.{got_at, got_within}
pub use Rattle.tte_units.specs.declared.units.Units.{Units}
pub use Rattle.audit_devices.specs.{Effects.{carried_by, effect_by, effect_of, subject_of}, Keeping.{IsFresh, Keeps, records_before, time_at}}
pub use Rattle.audit_devices.specs.Showing.{NoneLater, Shown, Shows, heard_at, heard_by_then, points_by}
pub use Rattle.audit_devices.specs.{Taking.{AscendAll, is_taking_before, takings_of}, Takings.taken_of}
pub use Rattle.audit_devices.specs.declared.effect.{Carried.Carried, Effect.{Effect, TheVariants.{Corrects, Hears, Joins, Nothing, Turns}}}
pub use Rattle.audit_devices.specs.declared.{history.{Entry.Entry, History.History}, taking.Taking.Taking, takings.DeviceTakings.DeviceTakings}
