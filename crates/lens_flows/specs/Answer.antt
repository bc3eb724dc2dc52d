-- What `flows` answers for the records of a report.
use Rattle.std.specs.Prelude.{◌++◌, ◌≡◌, ◌∷◌, ℕ, List, All, [], map, sum_by}
use Rattle.{audit_law.specs.events.Readings.scenario_under, run_law.specs.records.Happenings.{Happening, happenings}}
use Rattle.lens_flows.specs.{Lines.{flow_line, sum_line}, counts.Deliveries.deliveries_of}
use Rattle.lens_flows.specs.declared.counts.told.FlowTold.{FlowTold}
use Rattle.lens_flows.specs.{counts.{FlowLists.AreFlows, Ordered.IsCountOf, Told.IsTold}, declared.judge.flow.Flow.Flow}
use Rattle.{lens_flows.specs.judge.Fates.IsOwedFrom, run_law.specs.scenario.Scenarios.Scenario}
use Rattle.{net_plan.specs.declared.ids.LinkId.LinkId, tte_units.specs.{Amount.amount, declared.units.Units.Units}}
use Rattle.{net_plan.specs.declared.network.Network.Network, tte_forms.specs.declared.status.Status.TheVariants.Done}
use Rattle.{run_law.specs.{declared.note.Note.Note, records.Order.IsIn}, tte_audit.specs.Report.events_of}
use Rattle.tte_forms.specs.Answering.{Answer}
use Rattle.run_law.specs.declared.note.NoteBody.TheVariants as notes

-- at the time the receiver's clock begins a cycle in which delivery is owed, and no record says that the frame is
-- delivered
pub record IsMissingAt (s : Scenario) (hs : List Happening) (until : ℕ) (flow : Flow) (t : ℕ) : Type 0 where
  pub cycle : ℕ
  pub owed : IsOwedFrom s hs until flow cycle t
  pub none : (h : Happening) (link : LinkId) (cause : ℕ) → IsIn h hs
      → h.note.body ≡ notes.Delivered flow.device link cause flow.vl cycle → ⊥

-- this is told of all flows of the network, in their order, for these records, which tell this end
pub record AreAllTold (network : Network) (ns : List Note) (end : Units) (told : List FlowTold) : Type 0 where
  pub are : AreFlows network (map (λ one. one.flow) told)
  pub each : All (IsTold (scenario_under network (events_of ns)) (happenings network ns) (amount end)
      (deliveries_of ns)) told

-- the lines of what was told, where so many frames of each flow are missing: a line a flow, and the sums
abbrev pub told_lines : Network → List FlowTold → (FlowTold → ℕ) → List (List ℕ)
told_lines network told missing =
    map (λ one. flow_line network one (missing one)) told ++ sum_line told (sum_by missing told) ∷ []

-- the same as an answer, where nothing is missing
abbrev pub told_answer : Network → List FlowTold → Answer
told_answer network told = record { status = Done; lines = told_lines network told (λ one. 0) }

-- so many frames of the flow are missing
abbrev pub IsMissing : Network → List Note → Units → FlowTold → ℕ → Type 0
IsMissing network ns end one n =
    IsCountOf (IsMissingAt (scenario_under network (events_of ns)) (happenings network ns) (amount end) one.flow) n

-- an answer for the records of a report of the network with this end: the lines of its flows, and their sums
pub record IsFlowsAnswer (network : Network) (ns : List Note) (end : Units) (a : Answer) : Type 0 where
  pub told : List FlowTold
  pub all : AreAllTold network ns end told
  pub missing : FlowTold → ℕ
  pub counted : (one : FlowTold) → IsIn one told → IsMissing network ns end one (missing one)
  pub is : a ≡ record { status = Done; lines = told_lines network told missing }
