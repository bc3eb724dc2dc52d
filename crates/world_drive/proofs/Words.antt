-- What three or more proof files of this crate name of other crates and of specs/, passed on from one place. Declares nothing.
pub use Rattle.std.proofs.Common.{◌++◌, ◌+ℤ◌, ◌+◌, ◌<ℤ◌, ◌<◌, ◌^◌, ◌∙◌, ◌∷◌, ◌≡◌, ◌≤ℤ◌, ◌≤◌, Err, List, None, Ok, Option, Some, [], ap, append_assoc, arith}
pub use Rattle.std.proofs.Common.{false, inl, inr, length, pos, refl, subst, sym, true, unsigned_abs, ℕ}
pub use Rattle.std.proofs.lemmas.{Bool.cases_lt, Int.ints, List.append-nil}
pub use Rattle.drift_clock.specs.Segment.{fresh_segment, segment_reading, stepped_segment}
pub use Rattle.drift_world.specs.Running.{Reaches, last_time, left_of}
pub use Rattle.net_plan.specs.declared.{event.Event.Event, network.Network.Network}
pub use Rattle.run_law.specs.declared.note.Note.{Note, Note as NoteValue}
pub use Rattle.run_law.specs.records.Happenings.{Happening, happenings}
pub use Rattle.tte_units.specs.Amount.{amount, units_of}
pub use Rattle.tte_units.specs.declared.units.Units.{Units}
pub use Rattle.world_drive.proofs.exact_lemmas.{Events.last_is, Given.if_some, Worlds.go_on}
pub use Rattle.world_drive.specs.exact.{Records.{AreRecordsBefore, AreRecordsSoFar}, Worlds.{ExactWorld, StandsExact}}
pub use Rattle.world_drive.specs.Observing.{Sees, Start, Stops, Told, told_by}
pub use Rattle.world_drive.specs.{Seeing.{AreEarlier, CutsAtEvent, CutsBefore, IsAsked, IsPast, IsUnderwayAt, SeesEvent, SeesUntil}, Sources.MayGive}
pub use Rattle.world_drive.specs.declared.observing.Cut.{Cut}
