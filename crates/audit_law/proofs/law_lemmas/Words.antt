-- What three or more proof files of this crate name of other crates and of specs/, passed on from one place. Declares nothing.
pub use Rattle.std.proofs.Common.{if◌then◌else◌, ◌*◌, ◌++◌, ◌+◌, ◌-◌, ◌<◌, ◌∙◌, ◌∷◌, ◌≡◌, ◌≤ℤ◌, ◌≤◌, ◌⊎◌, Bool, List, None, Option, Some, [], ap, arith, false}
pub use Rattle.std.proofs.Common.{filter, inl, inr, length, pos, refl, slice_get, subst, suc, sym, true, zero, ℕ, ℤ}
pub use Rattle.std.proofs.lemmas.{Bool.{and_parts, and_right, both_ways, cases_lt, eqb-true, false_from_ne_true, le-ltb}, Int.ints, List.append-nil}
pub use Rattle.std.proofs.lemmas.List.Elements.{filter-append}
pub use Rattle.std.specs.{Int.int_div_euclid, List.{after_last, fold, last_or}, Option.option_map_or}
pub use Rattle.std.specs.Prelude.{◌&&◌, ◌+ℤ◌, ◌-ℤ◌, ◌==◌, ◌||◌, int_le, int_lt, nat_le, nat_lt, not, option_and_then}
pub use Rattle.drift_clock.specs.Reach.{IsReach}
pub use Rattle.sync_state.specs.membership.Summary.{Summarizes}
pub use Rattle.net_plan.specs.declared.{ids.{DeviceId.DeviceId, LinkId.LinkId, VlId.VlId}, network.Network.Network}
pub use Rattle.tte_units.specs.declared.frames.pcf.Pcf.{Pcf}
pub use Rattle.run_law.proofs.law.FirstDeliveries.{IsSplit, front_founded, none_kept, numbered_front, numbered_in}
pub use Rattle.run_law.proofs.law.FirstDeliveries.{same_earlier, split}
pub use Rattle.run_law.proofs.records.Order.{ahead, is_there}
pub use Rattle.run_law.proofs.runs.{Lacking.behind_first, Places.{chain, in_parts, in_right, never_self, parted}}
pub use Rattle.run_law.specs.control.{Corrections.{correction_value, integration_cycle, recorded_cycle}, Leaving.Gives, Permanence.ripe_as}
pub use Rattle.run_law.specs.declared.{judgement.{Reason.{Reason, TheVariants.Old}, Why.Why}, note.NoteBody.NoteBody}
pub use Rattle.run_law.specs.device.{LocalClocks.changes_adjustment, Standpoints.natural}
pub use Rattle.run_law.specs.device.States.{adjustment_after, adjustment_before, is_joined_by, state_after}
pub use Rattle.run_law.specs.records.{Happenings.{Happening, earlier, numbered, time_of, up_to}, Order.{AllBefore, IsBefore, IsIn, NoneBefore, is_before}}
pub use Rattle.run_law.specs.records.Ranks.{key, members_in, place_at, place_of, rank}
pub use Rattle.run_law.specs.runs.Runs.{IsFounded, IsRun}
pub use Rattle.run_law.specs.scenario.{Devices.plan_of, Scenarios.{Scenario, is_broken, is_turned_on_at}}
pub use Rattle.run_law.specs.timed.{Dispatching.HasAccepted, Receptions.ArrivesAs}
pub use Rattle.sync_state.specs.{Standing.{Standing, next_point}, Verdicts.HasVerdict}
pub use Rattle.sync_state.specs.declared.{answers.Verdict.{Verdict, TheVariants.{AsyncClique, Corrected, SyncClique}}, state.State.State}
pub use Rattle.sync_state.specs.declared.state.State.TheVariants.{Integrating, Joining, Off, Synchronised}
pub use Rattle.tte_units.proofs.general_lemmas.Options.{one as same_some}
pub use Rattle.tte_units.specs.Amount.{amount, units_of}
pub use Rattle.tte_units.specs.declared.units.Units.{Units}
pub use Rattle.audit_law.specs.law.{CorrectionNumbers.{ComesToPoint, heard_since_point, standing_at}, Debts.{IsDueIn, IsPaid}, Dispatched.Dispatch}
pub use Rattle.audit_law.specs.law.{DueRecords.{ChangesState, IsCaused, IsDue}, Findings.{AreSound, LacksNothing}, Owed.{Debt, IsOwed, Pays}}
pub use Rattle.audit_law.specs.law.SameRuns.{IsClocked}
