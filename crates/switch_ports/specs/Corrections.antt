-- When a switch corrects its clock.
use Rattle.std.specs.Prelude.{if◌then◌else◌, ◌*◌, ◌+◌, ◌-ℤ◌, None, Option, Some, int_lt, option_and_then, pos, ℕ, ℤ}
use Rattle.{net_plan.specs.declared.network.Network.Network, run_law.specs.control.Corrections.correction_value}
use Rattle.{run_law.specs.machines.Nodes.Node, sync_state.specs.Standing.next_point}
use Rattle.{switch_ports.specs.declared.site.Site.Site, tte_units.specs.{Amount.amount, declared.units.Units.Units}}

-- the reading at which a clock of this adjustment shows the value, where it was below when the adjustment changed
abbrev pub reading_of : ℤ → ℤ → ℤ → Option Units
reading_of value adjustment changed = if int_lt changed value then Some (record { 0 = value -ℤ adjustment }) else None

-- the reading at which it comes to the correction point of the cycle
abbrev pub correction_at : Site → ℕ → ℤ → ℤ → Option Units
correction_at site cycle adjustment changed =
    reading_of (pos (cycle * amount site.plan.cycle_length + amount site.correction)) adjustment changed

-- the reading at which the device comes to its next correction point, if it does
abbrev pub correction_due : Network → Node → Option Units
correction_due network node =
    option_and_then (λ cycle. reading_of (correction_value network cycle) node.standing.adjustment.0 node.changed)
    (next_point node.standing)
