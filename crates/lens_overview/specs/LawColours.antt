-- By which channels the frames of a flow come, and the colours of the cells that say so.
use Rattle.std.specs.Prelude.{◌+◌, ◌++◌, ◌∷◌, ◌↔◌, ◌≡◌, ◌⊎◌, List, Some, slice_get, ℕ}
use Rattle.lens_flows.specs.declared.judge.flow.Flow.{Flow}
use Rattle.lens_overview.specs.{Answer.IsOverviewAnswer, Cells.shade_at, Grids.column_of, LawParts.IsDeliveredIn}
use Rattle.lens_overview.specs.{Laws.{cells_for, grid_for}, declared.shade.Shade.TheVariants.{AloneA, AloneB, Both}}
use Rattle.net_plan.specs.declared.{ids.{DeviceId.DeviceId, LinkId.LinkId, VlId.VlId}, network.Network.Network}
use Rattle.run_law.specs.{declared.note.Note.Note, scenario.Devices.channel_of_link}
use Rattle.{schedule_tables.specs.Rules.KeepsRules, tte_forms.specs.Answering.Answer, tte_reports.specs.Reports.IsReportOf}
use Rattle.tte_units.specs.declared.{frames.channel.Channel.{Channel, TheVariants.{A, B}}, units.Units.Units}
use Rattle.run_law.specs.declared.judgement.Reason.TheVariants as reasons
use Rattle.run_law.specs.declared.note.NoteBody.TheVariants as notes

-- the record of this number, which is its place among these counted from 1, sends the virtual link's frame of the cycle
pub record IsSentBy (ns : List Note) (number : ℕ) (vl : VlId) (cycle : ℕ) : Type 0 where
  pub place : ℕ
  pub counted : number ≡ place + 1
  pub note : Note
  pub there : slice_get ns place ≡ Some note
  pub device : DeviceId
  pub link : LinkId
  pub cause : ℕ
  pub is : note.body ≡ notes.TtSent device link cause vl cycle

-- a record drops a second copy of the flow's frame of the cycle, by a link of the channel: the record that it comes from
-- sends that frame, and one before it delivers it
pub record IsRepeatedIn (network : Network) (ns : List Note) (flow : Flow) (cycle : ℕ) (channel : Channel) : Type 0
  where
    pub before : List Note
    pub note : Note
    pub rest : List Note
    pub there : ns ≡ before ++ note ∷ rest
    pub link : LinkId
    pub cause : ℕ
    pub is : note.body ≡ notes.Dropped flow.device link cause reasons.Repeat
    pub by : channel_of_link network link ≡ Some channel
    pub sent : IsSentBy before cause flow.vl cycle
    pub delivered : IsDeliveredIn network before flow cycle

-- a copy of the flow's frame of the cycle comes by the channel: a record delivers it, or drops it as a second copy
abbrev pub ComesBy : Network → List Note → Flow → ℕ → Channel → Type 0
ComesBy network ns flow cycle channel =
    ((d : IsDeliveredIn network ns flow cycle) × (d.channel ≡ channel)) ⊎ IsRepeatedIn network ns flow cycle channel

-- copies come by the first channel, and none by the second
abbrev pub ComesByOne : Network → List Note → Flow → ℕ → Channel → Channel → Type 0
ComesByOne network ns flow cycle first second =
    ComesBy network ns flow cycle first × (ComesBy network ns flow cycle second → ⊥)

-- it is so in a cycle of the column, and in each
abbrev pub InSome : Network → List Note → ℕ → (ℕ → Type 0) → Type 0
InSome network ns column Holds = (cycle : ℕ) × (column_of (grid_for network ns) cycle ≡ column) × Holds cycle

abbrev pub InEach : Network → List Note → ℕ → (ℕ → Type 0) → Type 0
InEach network ns column Holds = (cycle : ℕ) → column_of (grid_for network ns) cycle ≡ column → Holds cycle

-- in the picture of the report of an accepted network a flow's cell is green exactly where a frame of the column is
-- delivered, and each that is comes by both channels
abbrev pub GreenIsByBoth : Type 0
GreenIsByBoth =
    (words : List (List ℕ)) (network : Network) (octets : List ℕ) (ns : List Note) (end : Units) (a : Answer)
    → KeepsRules network → IsReportOf network octets ns end → (answer : IsOverviewAnswer words network ns end a)
    → (flow : Flow) (column : ℕ)
    → (shade_at (cells_for network ns answer.missed flow) column ≡ Both)
    ↔ (InSome network ns column (λ cycle. IsDeliveredIn network ns flow cycle)
    × InEach network ns column (λ cycle. IsDeliveredIn network ns flow cycle
    → ComesBy network ns flow cycle A × ComesBy network ns flow cycle B))

-- blue exactly where one comes by channel a alone
abbrev pub BlueIsByA : Type 0
BlueIsByA =
    (words : List (List ℕ)) (network : Network) (octets : List ℕ) (ns : List Note) (end : Units) (a : Answer)
    → KeepsRules network → IsReportOf network octets ns end → (answer : IsOverviewAnswer words network ns end a)
    → (flow : Flow) (column : ℕ)
    → (shade_at (cells_for network ns answer.missed flow) column ≡ AloneA)
    ↔ InSome network ns column (λ cycle. ComesByOne network ns flow cycle A B)

-- and violet exactly where one comes by channel b alone, and none by a alone
abbrev pub VioletIsByB : Type 0
VioletIsByB =
    (words : List (List ℕ)) (network : Network) (octets : List ℕ) (ns : List Note) (end : Units) (a : Answer)
    → KeepsRules network → IsReportOf network octets ns end → (answer : IsOverviewAnswer words network ns end a)
    → (flow : Flow) (column : ℕ)
    → (shade_at (cells_for network ns answer.missed flow) column ≡ AloneB)
    ↔ (InSome network ns column (λ cycle. ComesByOne network ns flow cycle B A)
    × InEach network ns column (λ cycle. ComesByOne network ns flow cycle A B → ⊥))
