-- The rates of a device's clock.
use Rattle.std.specs.{List.filter_map, Prelude.{if◌then◌else◌, ◌==◌, List, None, Option, Some, ℕ}}
use Rattle.{drift_clock.specs.RateSteps.RateStep, net_plan.specs.declared.{event.Event.Event, ids.DeviceId.DeviceId}}
use Rattle.net_plan.specs.declared.event.What.{TheVariants.{Break, Cut, End, Heal, Hold, On, Rate, Send, Wire}, What}
use Rattle.tte_units.specs.Amount.{amount}

-- the step of the device's rate that this makes at the time, if it makes one
abbrev pub step_by : DeviceId → ℕ → What → Option RateStep
step_by device time (Rate other rate) = if device.0 == other.0 then Some (record { at = time; rate = rate.0 }) else None
step_by device time (Wire link way delay) = None
step_by device time (Hold link way delay) = None
step_by device time (Cut link way) = None
step_by device time (Heal link way) = None
step_by device time (On other) = None
step_by device time (Break other) = None
step_by device time (Send link octets) = None
step_by device time End = None

-- the steps of the device's rate, in the order of the events
abbrev pub rate_steps : List Event → DeviceId → List RateStep
rate_steps events device = filter_map (λ e. step_by device (amount e.time) e.what) events
