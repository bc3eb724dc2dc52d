-- What input is valid for each form; it is answered to its end.
use Rattle.std.specs.Prelude.{◌≡◌, ◌≤◌, IfSome, List, None, Option, Some, [], length, true, ℕ}
use Rattle.{net_plan.specs.declared.event.Event.Event, tte_units.specs.declared.{frames.pcf.Pcf.Pcf, units.Units.Units}}
use Rattle.{net_plan.specs.declared.ids.LinkId.LinkId, world_drive.specs.exact.Records.HaveEnded}
use Rattle.{net_plan.specs.declared.network.Network.Network, tte_forms.specs.declared.status.Status.Status}
use Rattle.{pcf_codec.specs.Sequence.SpellsAll, tte_audit.specs.Answers.IsAudited, tte_forms.specs.Answering.IsDone}
use Rattle.tte_forms.specs.declared.form.Form.TheVariants.{Audit, Capture, Check, Run, Show, Stamp, Storm, Vote, Wire}
use Rattle.{tte_forms.specs.{declared.form.Form.Form, frames.Answer.file_limit}, tte_reports.specs.Answer.audit_limit}
use Rattle.{tte_forms.specs.networks.Accepting.MeansAccepted, tte_traces.specs.Lines.{AreAdmitted, behind_lines}}
use Rattle.tte_observers.specs.{captures.Law.{IsFile, StandFrom}, stamps.granules.Granules.least_granule}
use Rattle.tte_observers.specs.{captures.pcap.Layout.{IsHead, head_length}, declared.votes.law.voters.Voters.Voters}
use Rattle.tte_observers.specs.{captures.wires.Answer.IsNamed, votes.Answer.{AreNamed, MayThey, Names, the_names}}
use Rattle.tte_observers.specs.declared.captures.pcap.capture.{CaptureHead.CaptureHead, Packet.Packet}
use Rattle.tte_units.specs.Amount.{amount}

-- a file that spells a sequence is shown to its end
abbrev pub ShowsWhole : List ℕ → Status → Type 0
ShowsWhole octets status = (ps : List Pcf) → length octets ≤ file_limit → SpellsAll octets ps → IsDone status

-- an accepted network is told
abbrev pub ChecksWhole : List ℕ → Status → Type 0
ChecksWhole octets status = (network : Network) → MeansAccepted octets network → IsDone status

-- the octets mean an accepted network, and the whole trace is admitted, up to its end
pub record MeansRun (octets trace : List ℕ) (network : Network) (events : List Event) : Type 0 where
  pub accepted : MeansAccepted octets network
  pub admitted : AreAdmitted network trace events
  pub ended : HaveEnded events
  pub none_left : behind_lines (length events) trace ≡ []

-- an accepted network whose whole trace is admitted is run
abbrev pub RunsWhole : List ℕ → List ℕ → Status → Type 0
RunsWhole octets trace status =
    (network : Network) (events : List Event) → MeansRun octets trace network events → IsDone status

-- an accepted network under a storm is run to the storm's end
abbrev pub StormsWhole : List ℕ → Status → Type 0
StormsWhole octets status = (network : Network) → MeansAccepted octets network → IsDone status

-- an accepted network whose whole trace is admitted is stamped, in granules that are not below its least
abbrev pub StampsWhole : Units → List ℕ → List ℕ → Status → Type 0
StampsWhole granule octets trace status =
    (network : Network) (events : List Event) → MeansRun octets trace network events
    → least_granule network ≤ amount granule → IsDone status

-- a report that is that of a run of an accepted network is audited
abbrev pub AuditsWhole : List ℕ → List ℕ → Status → Type 0
AuditsWhole octets report status =
    (network : Network) (count : ℕ) → MeansAccepted octets network → length report ≤ audit_limit
    → IsAudited network report count → IsDone status

-- a header and then these packets stand in the file, and nothing behind them
pub record HoldsPackets (octets : List ℕ) (head : CaptureHead) (ps : List Packet) : Type 0 where
  pub file : IsFile octets
  pub opened : IsHead octets head
  pub packets : StandFrom head octets head_length ps (length octets)

-- a capture whose packets are whole is shown to its end
abbrev pub CapturesWhole : List ℕ → Status → Type 0
CapturesWhole octets status = (head : CaptureHead) (ps : List Packet) → HoldsPackets octets head ps → IsDone status

-- an accepted network that has the link, and whose whole trace is admitted, is run, and the way is written
abbrev pub WiresWhole : List ℕ → List ℕ → List ℕ → Status → Type 0
WiresWhole name octets trace status =
    (network : Network) (events : List Event) (link : LinkId) → MeansRun octets trace network events
    → IsNamed network name link → IsDone status

-- an accepted network that has virtual links of the three names, which may vote, and whose whole trace is admitted, is
-- run, and they vote
abbrev pub VotesWhole : Names → List ℕ → List ℕ → Status → Type 0
VotesWhole names octets trace status =
    (network : Network) (events : List Event) (voters : Voters) → MeansRun octets trace network events
    → AreNamed network names voters → MayThey network voters true → IsDone status

-- valid octets of the files are answered to their end
abbrev pub AnswersWhole : Form → List ℕ → Option (List ℕ) → Status → Type 0
AnswersWhole Show octets second status = ShowsWhole octets status
AnswersWhole Check octets second status = ChecksWhole octets status
AnswersWhole Run octets second status = IfSome second (λ trace. RunsWhole octets trace status)
AnswersWhole (Storm seed cycles) octets second status = StormsWhole octets status
AnswersWhole (Stamp granule) octets second status = IfSome second (λ trace. StampsWhole granule octets trace status)
AnswersWhole Audit octets second status = IfSome second (λ report. AuditsWhole octets report status)
AnswersWhole Capture octets second status = CapturesWhole octets status
AnswersWhole (Wire link way) octets second status = IfSome second (λ trace. WiresWhole link octets trace status)
AnswersWhole (Vote one two three) octets second status =
    IfSome second (λ trace. VotesWhole (the_names one two three) octets trace status)

-- valid input is answered to its end, where no count of faults rose
abbrev pub Completes : Option Form → Option (List ℕ) → Option (List ℕ) → Type 0 → Type 0 → Status → Type 0
Completes None first second SourceRose SinkRose status = Unit {0}
Completes (Some form) None second SourceRose SinkRose status = Unit {0}
Completes (Some form) (Some octets) second SourceRose SinkRose status =
    (SourceRose → ⊥) → (SinkRose → ⊥) → AnswersWhole form octets second status
