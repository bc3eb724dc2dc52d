-- What an event makes of the parts of a state.
use Rattle.std.specs.Option.{option_map_or}
use Rattle.std.specs.Prelude.{◌<◌, ◌^◌, ◌≢◌, IfSome, None, Option, Some, unwrap_or, ℕ, ℤ}
use Rattle.net_plan.specs.declared.{event.What.What, ids.LinkId.LinkId, tables.Way.Way}
use Rattle.{net_plan.specs.declared.ids.DeviceId.DeviceId, run_law.specs.scenario.Ways.{cut_set, hold_set, wire_set}}
use Rattle.{run_law.specs.scenario.Rates.step_by, world_state.specs.declared.contents.WayState.WayState}
use Rattle.tte_units.specs.{Amount.amount, declared.units.Units.Units}
use Rattle.net_plan.specs.declared.event.What.TheVariants as events

-- a device's clock after what befalls the network at a time
abbrev pub clock_after : {C : Type 0} → (C → ℕ → ℤ → C) → DeviceId → Units → What → C → C
clock_after after_step device time what clock =
    option_map_or (λ step. after_step clock step.at step.rate) (step_by device (amount time) what) clock

-- a way of a link after it
abbrev pub way_after : LinkId → Way → What → WayState → WayState
way_after link way what was = record {
  delay = unwrap_or (wire_set link way what) was.delay;
  hold = unwrap_or (hold_set link way what) was.hold;
  cut = unwrap_or (cut_set link way what) was.cut;
}

-- the device whose clock or machine it changes, if it changes one
abbrev pub device_in : What → Option DeviceId
device_in (events.Rate device rate) = Some device
device_in (events.On device) = Some device
device_in (events.Break device) = Some device
device_in other = None

-- it does not change this device
abbrev pub IsElsewhere : What → DeviceId → Type 0
IsElsewhere what device = IfSome (device_in what) (λ d. d.0 ≢ device.0)

-- a delay or a hold that it sets is short
abbrev pub SetsShort : What → Type 0
SetsShort (events.Wire link way delay) = amount delay < 2 ^ 62
SetsShort (events.Hold link way hold) = amount hold < 2 ^ 62
SetsShort other = Unit {0}

-- there are so many links that the event's is one
abbrev pub HasItsLink : ℕ → What → Type 0
HasItsLink n (events.Wire link way delay) = link.0 < n
HasItsLink n (events.Hold link way hold) = link.0 < n
HasItsLink n (events.Cut link way) = link.0 < n
HasItsLink n (events.Heal link way) = link.0 < n
HasItsLink n other = Unit {0}
