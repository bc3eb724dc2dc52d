-- What records say of what comes from other records.
use Rattle.std.specs.Prelude.{◌^◌, ◌≡◌, ◌≤◌, List, MatchOption, Option, Some, ℕ}
use Rattle.audit_sweep.specs.{declared.passage.Passage.Passage, records.wires.{Entrances.judged_as, Signals.on_wire_of}}
use Rattle.audit_sweep.specs.declared.records.wires.{entering.Judged.Judged, putting.OnWire.OnWire}
use Rattle.net_plan.specs.{Belonging.HasDevice, declared.network.Network.Network}
use Rattle.run_law.specs.{control.Wires.{Arrives, Signal}, scenario.Scenarios.Scenario, timed.Receptions.ArrivesAs}
use Rattle.run_law.specs.{declared.steps.Arrival.Arrival, records.Happenings.{Happening, numbered}}
use Rattle.run_law.specs.declared.steps.Arrival.TheVariants as arrivals

-- the device is one of the network's, and the time is none too late for a clock
pub record IsPassable (network : Network) (passage : Passage) : Type 0 where
  pub there : HasDevice network passage.device
  pub timely : passage.time ≤ 2 ^ 60

-- what the other record put on the link, as it is kept, arrives so
pub record IsCarried (s : Scenario) (hs : List Happening) (passage : Passage) (what : OnWire) : Type 0 where
  pub putting : Happening
  pub there : numbered hs passage.cause ≡ Some putting
  pub signal : Signal
  pub arrives : Arrives s putting passage.device passage.link passage.time signal
  pub is : what ≡ on_wire_of signal

-- nothing becomes of anything that arrives so
abbrev pub NothingArrives : Scenario → List Happening → Passage → Type 0
NothingArrives s hs passage =
    (is : Arrival) → ArrivesAs s hs passage.device passage.time passage.link passage.cause is → ⊥

-- what arrives so is this, or nothing does
abbrev pub IsComing : Scenario → List Happening → Passage → Option OnWire → Type 0
IsComing s hs passage result = MatchOption result (NothingArrives s hs passage) (IsCarried s hs passage)

-- this becomes of what arrives so, or nothing does
abbrev pub IsArrivedAs : Scenario → List Happening → Passage → Option Judged → Type 0
IsArrivedAs s hs passage result =
    MatchOption result (NothingArrives s hs passage)
    (λ judged. ArrivesAs s hs passage.device passage.time passage.link passage.cause (judged_as judged))

-- by this arrival a control frame is taken with the transparent clock: it waits, is passed on, or both
abbrev pub TakesWith : ℕ → Arrival → Type 0
TakesWith clock (arrivals.Waits frame point) = clock ≡ frame.clock
TakesWith clock (arrivals.Passes frame way) = clock ≡ frame.clock
TakesWith clock (arrivals.PassesAndWaits frame way point) = clock ≡ frame.clock
TakesWith clock rest = ⊥
