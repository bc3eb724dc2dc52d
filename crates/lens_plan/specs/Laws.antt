-- What the lines of `plan` have to do with the runs of the planned network.
use Rattle.std.specs.{List.{Contains, concat}, Prelude.{◌++◌, ◌≡◌, ◌≤ℤ◌, IfSome, List, codes, pos, ℕ}}
use Rattle.lens_plan.specs.{Answer.{IsPlanAnswer, MeansMessages}, joining.{Impossible.{NoneServes, NoneServesAll}, Joined.MeansPlanned, Planned.planned_network}, messages.Message.Message}
use Rattle.lens_plan.specs.{declared.places.best.Attempt.Attempt, joining.Served.IsServedBy, places.Planning.IsPlan}
use Rattle.lens_plan.specs.text.Ids.{AreIds, taken_ids}
use Rattle.{net_plan.specs.Ranges.IsInRange, schedule_tables.specs.Rules.KeepsRules}
use Rattle.tte_forms.specs.{Answering.{Answer, line_answer}, declared.status.Status.TheVariants.{Done, PlanRefused}}
use Rattle.tte_forms.specs.networks.Accepting.{MeansAccepted}
use Rattle.net_plan.specs.declared.{ids.{DeviceId.DeviceId, VlId.VlId}, network.Network.Network, tables.VirtualLink.VirtualLink}
use Rattle.{precision_law.specs.traffic.Ports.IsRunTo, run_law.specs.declared.note.Note.Note}
use Rattle.run_law.specs.{device.{LocalClocks.local_before, Standpoints.offset_in_cycle}, law.Safety.{IsDelivered, IsOwed}}
use Rattle.run_law.specs.{records.Happenings.{Happening, happenings, time_of}, scenario.Scenarios.Scenario}

-- the frame is delivered exactly once to the device, a receiver of the message, at a place of its cycle by the one that
-- the message asks for
pub record ComesInTime (s : Scenario) (hs : List Happening) (vl : VlId) (m : Message) (of_vl : VirtualLink) (cycle : ℕ)
    (device : DeviceId) : Type 0 where
  pub receiver : Contains m.receivers device
  pub delivered : IsDelivered s hs vl of_vl cycle device
  pub in_time : IfSome m.by
      (λ by. offset_in_cycle s.network (local_before s hs device (time_of delivered.delivery)) ≤ℤ pos by)

-- each frame that is owed of a virtual link that serves a message comes in time
abbrev pub ServedComeInTime : Type 0
ServedComeInTime =
    (s : Scenario) (mark : List ℕ) (ns : List Note) (until : ℕ) → IsRunTo s mark ns until
    → (vl : VlId) (m : Message) → IsServedBy s.network vl m
    → (of_vl : VirtualLink) (cycle : ℕ) (device : DeviceId)
    → IsOwed s (happenings s.network ns) until vl of_vl cycle device
    → ComesInTime s (happenings s.network ns) vl m of_vl cycle device

-- what `plan` promises where it is done: the octets of the network file with these lines behind them mean an accepted
-- network; it is that of the file with virtual links and rows added, which serve the messages
pub record IsGoodPlan (octets text : List ℕ) (lines : List (List ℕ)) : Type 0 where
  pub network : Network
  pub accepted : MeansAccepted octets network
  pub messages : List Message
  pub read : MeansMessages network text messages
  pub planned : MeansPlanned (octets ++ concat lines) network messages

-- each answer that is done is so
abbrev pub DoneIsPlanned : Type 0
DoneIsPlanned =
    (octets text : List ℕ) (a : Answer) → IsPlanAnswer text octets a → a.status ≡ Done → IsGoodPlan octets text a.lines

-- a message of the file, over the accepted network, is named first, and no accepted network with virtual links and rows
-- added to this one serves it
pub record IsImpossible (octets text rest : List ℕ) : Type 0 where
  pub network : Network
  pub accepted : MeansAccepted octets network
  pub messages : List Message
  pub read : MeansMessages network text messages
  pub message : Message
  pub there : Contains messages message
  pub named : (more : List ℕ) × (rest ≡ message.name ++ codes " " ++ more)
  pub none : NoneServes network message

-- no accepted network with virtual links and rows added to that of the file serves all of its messages
pub record AreImpossible (octets text : List ℕ) : Type 0 where
  pub network : Network
  pub accepted : MeansAccepted octets network
  pub messages : List Message
  pub read : MeansMessages network text messages
  pub none : NoneServesAll network messages

-- a message that is told to be impossible is so
abbrev pub ImpossibleIsTrue : Type 0
ImpossibleIsTrue =
    (octets text rest : List ℕ) → IsPlanAnswer text octets (line_answer PlanRefused (codes "impossible " ++ rest))
    → IsImpossible octets text rest

-- messages that are told to want more than a rule lets be are impossible together
abbrev pub ExcessIsTrue : Type 0
ExcessIsTrue =
    (octets text rest : List ℕ) → IsPlanAnswer text octets (line_answer PlanRefused (codes "rule " ++ rest))
    → AreImpossible octets text

-- the network of a plan, which its lines describe, keeps all rules
abbrev pub PlanIsAccepted : Type 0
PlanIsAccepted =
    (octets text : List ℕ) (network : Network) (ms : List Message) (ids : List ℕ) (attempts : List Attempt)
    → MeansAccepted octets network → IsInRange network → MeansMessages network text ms
    → AreIds (taken_ids network ms) ms ids → IsPlan network ms attempts
    → KeepsRules (planned_network network ms ids attempts)
