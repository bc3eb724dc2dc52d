-- What three or more proof files of this crate name of other crates and of specs/, passed on from one place. Declares nothing.
pub use Rattle.std.proofs.Common.{◌++◌, ◌+◌, ◌<◌, ◌^◌, ◌∙◌, ◌∷◌, ◌≡◌, ◌≤◌, ◌⊎◌, Bool, List, Option, Some, [], ap, arith, false, inl, inr, length, refl, subst}
pub use Rattle.std.proofs.Common.{sym, true, ℕ}
pub use Rattle.std.proofs.lemmas.List.{append-nil}
pub use Rattle.std.specs.Prelude.{if◌then◌else◌}
pub use Rattle.net_plan.specs.declared.{event.Event.Event, ids.{DeviceId.DeviceId, VlId.VlId}, network.Network.Network, tables.VirtualLink.VirtualLink}
pub use Rattle.run_law.specs.declared.note.Note.{Note}
pub use Rattle.run_law.specs.records.Happenings.{Happening, happenings}
pub use Rattle.tte_observers.specs.votes.tmr.Vote.{Votes, voted}
pub use Rattle.tte_forms.proofs.{Octets.{for_all, for_more}, Puts.PutsLines-none}
pub use Rattle.tte_forms.specs.{Answering.{Answer, Gives, GivesAnswer, GivesOne}, Putting.{PutsLines, Shown, shown_by}}
pub use Rattle.tte_forms.specs.declared.status.Status.{Status, TheVariants.{Done, NameRefused, OutOfMemory, ReadFault, VoteRefused, WriteFault}}
pub use Rattle.tte_forms.specs.networks.Accepting.{MeansAccepted}
pub use Rattle.tte_traces.specs.{Answer.IsTraceAnswer, FaultLine.{fault_lines, fault_status}}
pub use Rattle.tte_observers.specs.votes.ballots.Keeping.{HoldsVotes, key_of}
pub use Rattle.tte_observers.specs.votes.law.Ballots.{ballot_of}
pub use Rattle.tte_observers.specs.declared.votes.law.voters.Voters.{Voters}
pub use Rattle.tte_observers.specs.votes.{Answer.{AreNamed, IsVoteAnswer, MayThey, Names}, Streaming.no_lines, VoteLines.{lines_at, vote_lines}}
pub use Rattle.tte_observers.specs.votes.Ending.{VotesEnd}
