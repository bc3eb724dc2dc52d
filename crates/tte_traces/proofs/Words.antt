-- What three or more proof files of this crate name of other crates and of specs/, passed on from one place. Declares nothing.
pub use Rattle.std.proofs.Common.{if◌then◌else◌, ◌++◌, ◌+◌, ◌<◌, ◌==◌, ◌^◌, ◌∙◌, ◌∷◌, ◌≡◌, ◌≢◌, ◌≤◌, ◌⊎◌, Bool, Err, List, None, Ok, Option, Result, Some, []}
pub use Rattle.std.proofs.Common.{ap, append_assoc, arith, false, inl, inr, length, length-append, refl, subst, suc, sym, true, zero, ℕ}
pub use Rattle.std.proofs.lemmas.List.{append-nil}
pub use Rattle.std.specs.Prelude.{IfSome}
pub use Rattle.drift_world.specs.Running.{behind_events, last_time}
pub use Rattle.net_plan.specs.{Belonging.IsOfNetwork, Ranges.IsInRange}
pub use Rattle.net_plan.specs.declared.{event.{Event.Event, What.{What, TheVariants.End}}, network.Network.Network}
pub use Rattle.report_text.specs.{NoteLine.report_of, Ranges.IsNoteOf}
pub use Rattle.run_law.specs.declared.note.Note.{Note}
pub use Rattle.run_law.specs.runs.DueRecords.{EndsAt}
pub use Rattle.trace_text.specs.{EventReading.event_read, Steps.Read}
pub use Rattle.tte_forms.proofs.Octets.{for_more}
pub use Rattle.tte_forms.specs.{Answering.{Answer, ForOctets, Gives, GivesOne}, Putting.{PutFails, PutsLines, Shown, shown_by}}
pub use Rattle.tte_forms.specs.declared.status.Status.{Status, TheVariants.{Done, TraceRefused}}
pub use Rattle.tte_forms.specs.networks.Accepting.{MeansAccepted}
pub use Rattle.tte_io.specs.{Faults.Rose, Line.first_line, ReaderState.{LineReaderState, pending}}
pub use Rattle.tte_io.specs.declared.lines.LineTaken.{LineTaken}
pub use Rattle.tte_units.specs.Amount.{amount}
pub use Rattle.tte_units.specs.declared.units.Units.{Units}
pub use Rattle.world_drive.specs.exact.Records.{AreAllRecords, AreRecordsBefore, AreRecordsSoFar, HaveEnded, clock_reading}
pub use Rattle.tte_traces.specs.{Along.IsFrontOf, Answer.{AnswersAll, AnswersFault, IsRunAnswer, IsTraceAnswer, LinesOf, report_lines}, Ending.RunEnds}
pub use Rattle.tte_traces.specs.{FaultLine.{fault_lines, fault_status}, Following.{ReadsOn, TakesFew}, Lines.{AreAdmitted, IsAdmitted, IsFault, behind_lines}}
pub use Rattle.tte_traces.specs.{Refusing.fault_answer, Taking.GaveEvents}
pub use Rattle.tte_traces.specs.declared.fault.TraceFault.{TraceFault, TheVariants.{After, Event as Outlaw, Line, Long, Missing, TooMany}}
pub use Rattle.tte_traces.specs.declared.{fault.TraceStop.TraceStop, lines.Trace.Trace}
