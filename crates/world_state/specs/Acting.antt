-- The records of an act of a device.
use Rattle.std.specs.Prelude.{◌++◌, ◌<◌, ◌∷◌, ◌≡◌, Bool, List, None, Option, Some, [], false, option_map, true, ℕ}
use Rattle.{compression.specs.declared.compressed.Compressed.Compressed, run_law.specs.records.Frames.integration_frame}
use Rattle.{net_plan.specs.declared.ids.{DeviceId.DeviceId, VlId.VlId}, world_state.specs.declared.hands.AtHand.AtHand}
use Rattle.{net_plan.specs.declared.network.Network.Network, schedule_tables.specs.declared.entry.Entry.Entry}
use Rattle.tte_units.specs.declared.frames.pcf.Pcf.{Pcf}
use Rattle.world_law.specs.world.Outcomes.{judged_as}
use Rattle.{run_law.specs.declared.{judgement.Why.Why, steps.Ripe.Ripe}, tte_units.specs.declared.units.Units.Units}
use Rattle.run_law.specs.{declared.note.NoteBody.NoteBody, scenario.{Scenarios.Scenario, Ways.{is_cut, way_from}}}
use Rattle.{run_law.specs.{declared.steps.Act.Act, records.Order.IsIn}, schedule_tables.specs.Entries.IsEntry}
use Rattle.{sync_state.specs.declared.answers.Verdict.Verdict, world_state.specs.declared.contents.Settled.Settled}
use Rattle.sync_state.specs.declared.state.State.{State as Standing, TheVariants.{Integrating, Joining, Synchronised}}
use Rattle.world_state.specs.declared.{contents.{Holding.Holding, Timed.TheVariants.Made}, outcomes.Outcomes.Outcomes}
use Rattle.run_law.specs.declared.judgement.Why.TheVariants as whys
use Rattle.run_law.specs.declared.note.NoteBody.TheVariants as kinds
use Rattle.run_law.specs.declared.steps.Act.TheVariants as acts
use Rattle.run_law.specs.declared.steps.Ripe.TheVariants as ripe
use Rattle.sync_state.specs.declared.answers.Verdict.TheVariants as verdicts

-- ---- the records

-- a record that is of no frame
abbrev pub bare : NoteBody → Settled
bare body = record { body = body; frame = None; octets = None }

-- a record of a control frame
abbrev pub framed : NoteBody → Pcf → Settled
framed body frame = record { body = body; frame = Some frame; octets = None }

-- the record of a master's frame
abbrev pub sent_by : DeviceId → Pcf → Outcomes
sent_by device frame = record { first = Some (framed (kinds.Sent device frame.cycle) frame); second = None }

-- a frame of its own, the record of this number, that tells a device the time makes it joining
abbrev pub joined_by : ℕ → DeviceId → Ripe → Option Settled
joined_by number device ripe.Integrates = Some (bare (kinds.State device Joining number whys.Frame))
joined_by number device other = None

-- the records of the frame of a collection, where the first will have this number
abbrev pub emitted_by : Network → ℕ → DeviceId → Compressed → Ripe → Outcomes
emitted_by network number device sent heard = record {
  first = Some (framed (kinds.Compressed device sent.opened sent.at sent.cycle sent.members (judged_as heard))
      (integration_frame network device sent.cycle sent.members));
  second = joined_by number device heard;
}

-- a joiner's first correction, the record of this number, makes it synchronised
abbrev pub first_by : ℕ → DeviceId → Standing → Option Settled
first_by number device Joining = Some (bare (kinds.State device Synchronised number whys.Correction))
first_by number device other = None

-- the record of a clique
abbrev pub clique_by : DeviceId → Why → Outcomes
clique_by device why = record { first = Some (bare (kinds.State device Integrating 0 why)); second = None }

-- the records of a correction point, where the first will have this number
abbrev pub corrected_by : ℕ → DeviceId → Standing → ℕ → Units → Verdict → Outcomes
corrected_by number device was cycle adjustment (verdicts.Corrected by) =
    record { first = Some (bare (kinds.Corrected device cycle by adjustment)); second = first_by number device was }
corrected_by number device was cycle adjustment verdicts.SyncClique = clique_by device whys.SyncClique
corrected_by number device was cycle adjustment verdicts.AsyncClique = clique_by device whys.AsyncClique
corrected_by number device was cycle adjustment verdicts.Cleared = record { first = None; second = None }

-- the records of what these are
abbrev pub body_of : Option Settled → List NoteBody
body_of None = []
body_of (Some z) = z.body ∷ []

abbrev pub bodies_of : Outcomes → List NoteBody
bodies_of outcomes = body_of outcomes.first ++ body_of outcomes.second

-- ---- a frame of the schedule

-- the frame of the virtual link that a switch holds
abbrev pub IsHeldIn : List Holding → DeviceId → VlId → Option AtHand → Type 0
IsHeldIn stored device vl None = (h : Holding) → IsIn h stored → h.device ≡ device → h.vl ≡ vl → ⊥
IsHeldIn stored device vl (Some hand) = (h : Holding) × IsIn h stored × (h.device ≡ device) × (h.vl ≡ vl)
    × (hand ≡ record { cause = h.number; octets = h.octets })

-- the frame that a device has at hand: that which it makes as the sender, or that which it holds as a switch
pub record IsHand (stored : List Holding) (device : DeviceId) (entry : Entry) (cycle : ℕ) (hand : Option AtHand) : Type
    0 where
  pub sender : entry.vl.sender ≡ device → hand ≡ Some (record { cause = 0; octets = Made entry.row.vl cycle })
  pub held : (entry.vl.sender ≡ device → ⊥) → IsHeldIn stored device entry.row.vl hand

-- the record of its dispatch, where its way is cut or not
abbrev pub dispatched_by : Bool → DeviceId → Entry → ℕ → AtHand → Settled
dispatched_by true device entry cycle hand = bare (kinds.Lost device entry.row.link hand.cause)
dispatched_by false device entry cycle hand = record {
  body = kinds.TtSent device entry.row.link hand.cause entry.row.vl cycle;
  frame = None;
  octets = Some hand.octets;
}

-- the record, if the device has the frame at hand
pub record IsDispatched (s : Scenario) (stored : List Holding) (now : ℕ) (device : DeviceId) (entry : Entry) (cycle : ℕ)
    (result : Option Settled) : Type 0 where
  pub hand : Option AtHand
  pub of_hand : IsHand stored device entry cycle hand
  pub is : result ≡ option_map (dispatched_by (is_cut s entry.row.link (way_from s.network device entry.row.link) now)
      device entry cycle) hand

-- ---- an act

-- the records of the act of a device that was in this state, and has this adjustment then, where the first will have this
-- number
abbrev pub AreOutcomes : Scenario → List Holding → ℕ → ℕ → DeviceId → Standing → Units → Act → Outcomes → Type 0
AreOutcomes s stored now number device was adjustment (acts.Send frame) result = result ≡ sent_by device frame
AreOutcomes s stored now number device was adjustment (acts.Emit sent heard) result =
    result ≡ emitted_by s.network number device sent heard
AreOutcomes s stored now number device was adjustment (acts.Correct cycle verdict) result =
    result ≡ corrected_by number device was cycle adjustment verdict
AreOutcomes s stored now number device was adjustment (acts.Dispatch row cycle) result =
    (entry : Entry) → IsEntry s.network row.0 entry
    → IsDispatched s stored now device entry cycle result.first × (result.second ≡ None)

-- what is dispatched is a row of the network
abbrev pub HasItsRow : ℕ → Act → Type 0
HasItsRow rows (acts.Dispatch row cycle) = row.0 < rows
HasItsRow rows other = Unit {0}
