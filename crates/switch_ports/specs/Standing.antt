-- How a switch stands to what it was given and has done.
use Rattle.std.specs.{List.Contains, Prelude.{◌+ℤ◌, ◌<◌, ◌≡◌, ◌≤ℤ◌, All, List, [], false, pos, true, ℕ, ℤ}}
use Rattle.{compression.specs.Clusters.Point, net_plan.specs.declared.{ids.DeviceId.DeviceId, network.Network.Network}}
use Rattle.{compression.specs.{Collecting.Collecting, Stands.StandsForPoints}, schedule_tables.specs.Rules.KeepsRules}
use Rattle.{compression.specs.declared.compressed.Compressed.Compressed, sync_state.specs.membership.Summary.Summarizes}
use Rattle.{device_rules.specs.Intakes.HasTaken, net_plan.specs.Ranges.IsInRange, tte_units.specs.Reading.least_reading}
use Rattle.run_law.specs.{machines.Nodes.{Node, correcting}, scenario.Devices.{is_cm, plan_of}}
use Rattle.{switch_ports.specs.Corrections.correction_due, sync_state.specs.correction.Deviation.IsSmall}
use Rattle.switch_ports.specs.{Departing.{AwaitsIn, HasDepartures}, Sites.IsSiteOf, declared.switch.Switch.Switch}
use Rattle.switch_ports.specs.{Members.member_numbers, Steady.{IsSteady, is_timed}}

-- a network that is accepted
pub record IsAccepted (network : Network) : Type 0 where
  pub range : IsInRange network
  pub rules : KeepsRules network

-- what a collector has taken and sent of these points and frames
pub record HasCollected (collector : Collecting) (network : Network) (device : DeviceId) (points : List Point)
    (emitted : List Compressed) : Type 0 where
  pub collected : StandsForPoints collector points emitted
  pub window : collector.ow ≡ network.precision.0
  pub calc : collector.calc ≡ network.calc.0
  pub idle : is_cm network device ≡ false → points ≡ []
  pub earliest : (limit : ℤ) → least_reading ≤ℤ limit → All (λ p. p.reading ≤ℤ limit) points
      → All (λ sent. sent.at.0 ≤ℤ limit) emitted → collector.earliest ≤ℤ limit
  pub masters : All (λ p. Contains (member_numbers network) p.master) points
  pub from_zero : All (λ p. pos 0 ≤ℤ p.reading) points

-- the switch stands as this device of this network
pub record StandsAs (switch : Switch) (network : Network) (device : DeviceId) (node : Node) : Type 0 where
  pub accepted : IsAccepted network
  pub site : IsSiteOf network device switch.site
  pub sound : node.broken ≡ false
  pub standing : node.standing ≡ switch.sync
  pub plan : node.standing.plan ≡ plan_of network device
  pub heard : Summarizes switch.heard node.heard
  pub changed : node.changed ≡ switch.changed.0
  pub corrects : switch.corrects_at ≡ correction_due network node
  pub done : (cycle : ℕ) → Contains node.done (correcting cycle) → cycle < node.standing.number
  pub begun : pos 0 ≤ℤ node.last.reading.0
  pub small : IsSmall node.standing.adjustment.0
  pub steady : is_timed node.standing.state ≡ true → IsSteady network node switch.heard
  pub intake : HasTaken network device switch.intake node.taken
  pub collects : HasCollected switch.collector network device node.points node.emitted
  pub departs : HasDepartures network device switch.departures node.taken
  pub awaits : AwaitsIn node.standing.state network switch.departures node.standing.adjustment.0 node.changed node.done
      (node.last.reading.0 +ℤ node.standing.adjustment.0)
