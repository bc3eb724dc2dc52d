-- What three or more proof files of this crate name of other crates and of specs/, passed on from one place. Declares nothing.
pub use Rattle.std.proofs.Common.{if◌then◌else◌, ◌++◌, ◌+◌, ◌<◌, ◌==◌, ◌^◌, ◌∙◌, ◌∷◌, ◌≡◌, ◌≤◌, ◌⊎◌, Bool, Err, List, None, Ok, Option, Result, Some, [], ap}
pub use Rattle.std.proofs.Common.{arith, false, inl, inr, length, map, option_map, refl, subst, suc, sym, take, true, ℕ}
pub use Rattle.std.proofs.lemmas.{Bool.{and_parts, both_ways, eqb-true}, List.{append-nil, Elements.filter_map-append}}
pub use Rattle.std.specs.List.{cons_option}
pub use Rattle.device_rules.specs.frames.traced.RecordOctets.{record_octets}
pub use Rattle.net_plan.specs.Belonging.{HasLink}
pub use Rattle.net_plan.specs.declared.{event.Event.Event, ids.LinkId.LinkId, network.Network.Network, tables.Way.Way}
pub use Rattle.tte_observers.specs.captures.pcap.Writing.{head_octets}
pub use Rattle.tte_units.specs.declared.frames.pcf.Pcf.{Pcf}
pub use Rattle.run_law.proofs.runs.NetworkRuns.{one_more}
pub use Rattle.run_law.specs.declared.note.{Note.Note, NoteBody.NoteBody}
pub use Rattle.run_law.specs.records.{Happenings.{Happening, happenings, time_of}, Order.{AllBefore, IsIn}, Ranks.{place_of, rank}}
pub use Rattle.run_law.specs.scenario.{Scenarios.Scenario, Ways.is_way_of}
pub use Rattle.tte_forms.proofs.{Octets.{for_all, for_more}, Puts.{PutFails-behind, PutsLines-append, PutsLines-none}}
pub use Rattle.tte_traces.proofs.Runs.{AreFrom}
pub use Rattle.tte_forms.specs.{Answering.{Answer, Gives, GivesOne}, Putting.{PutFails, PutsLines, Shown, shown_by}}
pub use Rattle.tte_forms.specs.declared.status.Status.{Status, TheVariants.ReadFault}
pub use Rattle.tte_io.specs.declared.ends.Sink.{Ghosts}
pub use Rattle.tte_traces.specs.{Answer.AnswersAll, Ending.RunEnds, FaultLine.fault_status, Lines.AreAdmitted, Report.shown_as}
pub use Rattle.tte_units.specs.Amount.{amount}
pub use Rattle.tte_units.specs.declared.units.Units.{Units}
pub use Rattle.world_drive.specs.Observing.{Start, Told, told_by}
pub use Rattle.world_drive.specs.declared.observing.Cut.{Cut}
pub use Rattle.world_drive.specs.exact.{Records.AreRecordsSoFar, Worlds.ExactWorld}
pub use Rattle.tte_observers.specs.captures.wires.Answer.{EndsEither, IsCapture, IsHeaded, IsNamed, way_lines}
pub use Rattle.tte_observers.specs.captures.wires.Packets.{capture_of, is_sent_on, is_settled, packet_at, packet_of, packets_of, scenario_under, settled}
pub use Rattle.tte_observers.specs.captures.wires.Packets.{unsettled}
pub use Rattle.tte_observers.specs.captures.wires.Seeing.{IsSpelt, PassesTo, PutsAll, SeesRecords, SeesWay, StopsRecords, StopsWay, last_happening, sends_of}
pub use Rattle.tte_observers.specs.captures.wires.Seeing.{sent_packets}
pub use Rattle.tte_observers.specs.captures.wires.Streaming.{settled_lines}
pub use Rattle.tte_observers.specs.declared.captures.wires.capture.Capture.{Capture}
