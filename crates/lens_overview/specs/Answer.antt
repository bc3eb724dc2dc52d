-- What `draw` answers for the whole run of a report.
use Rattle.std.specs.Prelude.{◌≡◌, List, map, ℕ}
use Rattle.lens_svg.specs.Titles.{title_of}
use Rattle.audit_law.specs.events.Readings.{scenario_under}
use Rattle.lens_flows.specs.{counts.FlowLists.AreFlows, declared.judge.flow.Flow.Flow}
use Rattle.lens_overview.specs.{Cells.Missed, Lines.piece_line, Missed.AreMissed, Pieces.pieces_of, Telling.news_by}
use Rattle.lens_overview.specs.declared.pieces.Piece.{Piece}
use Rattle.{net_plan.specs.declared.network.Network.Network, tte_forms.specs.declared.status.Status.TheVariants.Done}
use Rattle.run_law.specs.{declared.note.Note.Note, records.Happenings.happenings}
use Rattle.tte_audit.specs.Report.{events_of}
use Rattle.{tte_forms.specs.Answering.Answer, tte_units.specs.{Amount.amount, declared.units.Units.Units}}

-- the lines of the pieces of the picture of this title, as an answer
abbrev pub pieces_answer : Network → List ℕ → List Piece → Answer
pieces_answer network title all = record { status = Done; lines = map (piece_line network title) all }

-- the pieces of the picture of the run of these records, of which these frames are missing
abbrev pub picture_for : Network → List Note → List Missed → List Flow → List Piece
picture_for network ns missed flows = pieces_of network (news_by network ns ns) missed flows

-- the answer for these words and the records of a report: the picture of their run
pub record IsOverviewAnswer (words : List (List ℕ)) (network : Network) (ns : List Note) (end : Units) (a : Answer)
    : Type 0 where
  pub flows : List Flow
  pub are : AreFlows network flows
  pub missed : List Missed
  pub each : AreMissed (scenario_under network (events_of ns)) (happenings network ns) (amount end) missed
  pub is : a ≡ pieces_answer network (title_of words) (picture_for network ns missed flows)
