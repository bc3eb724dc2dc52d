-- What three or more proof files of this crate name of other crates and of specs/, passed on from one place. Declares nothing.
pub use Rattle.std.proofs.Common.{◌++◌, ◌+◌, ◌<◌, ◌^◌, ◌∙◌, ◌∷◌, ◌≡◌, ◌≤◌, ◌⊎◌, Bool, Err, List, None, Ok, Some, [], ap, append_assoc, arith, false, get_or}
pub use Rattle.std.proofs.Common.{inl, inr, length, length-append, refl, rules, subst, sym, take, true, ℕ}
pub use Rattle.std.proofs.lemmas.{Bool.Decides.nat_tests, Fmt.{IsAscii-decimal, parse-decimal}, List.append-nil, Str.IsUtf8-from_ascii}
pub use Rattle.std.specs.{List.concat, Prelude.{Any, Option, codes, decimal, is_some, position}, Str.IsAscii}
pub use Rattle.std.specs.Str.Parse.{AllDigits, digits_value}
pub use Rattle.audit_law.specs.law.DueRecords.{IsDue}
pub use Rattle.net_plan.specs.declared.{event.{Event.Event, What.{What, TheVariants.End}}, network.Network.Network}
pub use Rattle.report_text.specs.{NoteLine.{note_line, note_text, report_of}, NoteWords.{judgement_text, reason_words, state_text, why_text}}
pub use Rattle.report_text.specs.Ranges.{IsBodyOf, IsReasonInRange}
pub use Rattle.run_law.specs.declared.{judgement.{Judgement.Judgement, Reason.Reason, Why.Why}, note.{Note.Note, NoteBody.NoteBody}}
pub use Rattle.run_law.specs.records.{Happenings.happenings, Ranks.place_of}
pub use Rattle.sync_state.specs.declared.state.State.{State}
pub use Rattle.trace_text.specs.Steps.{Words}
pub use Rattle.tte_units.proofs.general_lemmas.Lists.{any_behind, any_first}
pub use Rattle.tte_units.specs.Amount.{amount}
pub use Rattle.tte_units.specs.declared.units.Units.{Units}
pub use Rattle.tte_audit.specs.{Answers.IsRefusedBy, Following.Follows}
pub use Rattle.tte_audit.specs.Report.{AreEventsRight, BeginsWith, BeginsWithLine, BeginsWithRecord, EndWith, IsEventFault, IsTextOf, MayCome, behind_time}
pub use Rattle.tte_audit.specs.{Report.{event_by, events_of, is_line_end, scenario_of, with_event}, Spellings.{behind_word, head_word, kind_text}}
pub use Rattle.tte_audit.specs.Telling.{AreTold}
