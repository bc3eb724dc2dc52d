-- When control frames leave, and what is lost of `send` events.
use Rattle.std.specs.{Option.option_map_or, Prelude.ℕ}
use Rattle.std.specs.Prelude.{◌&&◌, ◌==◌, ◌||◌, ◌≡◌, Bool, List, MatchOption, None, Option, Some, false, if◌then◌else◌}
use Rattle.audit_law.specs.law.{Departures.{OwesDeparture, leaves_at}, LostSends.OwesLoss}
use Rattle.audit_sweep.specs.declared.records.{kept.Kept.Kept, wires.leaving.Leaving.Leaving}
use Rattle.device_rules.specs.{Answers.departure_as, declared.leaving.Departed.Departed}
use Rattle.net_plan.specs.{Places.link_at, declared.{ids.{DeviceId.DeviceId, LinkId.LinkId}, network.Network.Network}}
use Rattle.run_law.specs.{control.Leaving.{Departs, Departure}, records.Happenings.Happening}
use Rattle.run_law.specs.scenario.{Devices.{is_parent_of, is_relay}, Scenarios.Scenario}
use Rattle.audit_sweep.specs.declared.records.kept.Kept.TheVariants as kepts

-- is the device the child of the link?
abbrev pub is_child_of : Network → DeviceId → LinkId → Bool
is_child_of network device link = option_map_or (λ l. l.child.0 == device.0) (link_at network link) false

-- does the relay pass a frame that came by the one link on by the other?
abbrev pub passes : Network → DeviceId → LinkId → LinkId → Bool
passes network device by link =
    is_relay network device
    && ((is_parent_of network device by && is_child_of network device link)
    || (is_child_of network device by && is_parent_of network device link))

-- the device that gives the frame of the record to the link, if one does
abbrev pub giver : Network → LinkId → Kept → Option DeviceId
giver network link (kepts.Sent device) = if is_child_of network device link then Some device else None
giver network link (kepts.Compressed device tells) = if is_parent_of network device link then Some device else None
giver network link (kepts.Arrived device by clock) = if passes network device by link then Some device else None
giver network link rest = None

-- the frame of the record of this number leaves so by the link, and this is when
pub record IsLeaving (s : Scenario) (hs : List Happening) (until cause : ℕ) (link : LinkId) (leaving : Leaving)
    : Type 0 where
  pub owed : OwesDeparture s hs until cause link
  pub device : leaving.device ≡ owed.device
  pub time : leaving.time ≡ leaves_at s owed.device link owed.giving

-- the frame of the record of this number leaves so by the link by the time, or does not
abbrev pub IsLeavingBy : Scenario → List Happening → ℕ → ℕ → LinkId → Option Leaving → Type 0
IsLeavingBy s hs until cause link result =
    MatchOption result (OwesDeparture s hs until cause link → ⊥) (IsLeaving s hs until cause link)

-- this becomes of the frame of the record of this number at its leaving by the device at the time, or none leaves
abbrev pub IsDeparted : Scenario → List Happening → DeviceId → ℕ → LinkId → ℕ → Option Departed → Type 0
IsDeparted s hs device t link cause result =
    MatchOption result
    ((is : Departure) → Departs s hs device t link cause is → ⊥)
    (λ departed. Departs s hs device t link cause (departure_as departed))

-- the octets of the `send` event of this number are lost by the time, at the device and the time that are told, or not
abbrev pub IsLossBy : Scenario → List Happening → ℕ → ℕ → Option Leaving → Type 0
IsLossBy s hs until cause result =
    MatchOption result
    (OwesLoss s hs until cause → ⊥)
    (λ lost. (o : OwesLoss s hs until cause) × (lost.device ≡ o.device) × (lost.link ≡ o.link) × (lost.time ≡ o.time))

-- the octets of a `send` event are lost by this device on this link at this time
pub record IsLostAt (lost : Leaving) (device : DeviceId) (link : LinkId) (t : ℕ) : Type 0 where
  pub at_device : lost.device ≡ device
  pub by_link : lost.link ≡ link
  pub at_time : lost.time ≡ t
